-- Each line of the sentences of a box is a step of the whole state.
use Rattle.std.proofs.Common.{◌≡◌, ◌≢◌, ℕ, ◌<◌, ◌≤◌, ◌==◌, Bool, true, false, cond, slice_get, Option, Some, None, option_and_then, refl, sym, ap, ◌∙◌, subst}
use Rattle.std.proofs.Common.{arith}
use Rattle.std.specs.Prelude.{nat_lt, is_some, option_map}
use Rattle.std.specs.Option.{option_map_or}
use Rattle.std.proofs.Math.Path.{fun_ext}
use Rattle.std.proofs.lemmas.Bool.{ltb-true, lt-ltb, and_parts, and_from}
use Rattle.std.proofs.lemmas.Bool.Decides.{nat_tests}
use Rattle.rl_base.specs.declared.ids.SegId.{SegId}
use Rattle.rl_base.specs.declared.ids.TrainId.{TrainId}
use Rattle.rl_base.specs.declared.job.Verb.TheVariants as verbs
use Rattle.rl_base.specs.declared.kind.Kind.{Kind}
use Rattle.rl_base.specs.declared.kind.Kind.TheVariants.{Buffer, Joint, Point, Crossing}
use Rattle.rl_base.specs.declared.kind.Side.{Side}
use Rattle.rl_base.specs.declared.layout.NodeKind.TheVariants as nodes
use Rattle.rl_base.specs.Kind.{arms_of, arms_join, joining_side}
use Rattle.rl_words.specs.declared.lock.LockWord.{LockWord}
use Rattle.rl_words.specs.declared.lock.LockWord.TheVariants.{Free, Asked, Moved, Locked}
use Rattle.rl_words.specs.declared.lock.Path.{Path}
use Rattle.rl_words.specs.declared.mail.Letter.{Letter}
use Rattle.rl_words.specs.declared.mail.MailWord.TheVariants as mails
use Rattle.rl_words.specs.declared.resv.ResvWord.{ResvWord}
use Rattle.rl_words.specs.Mail.{IsRefusable, about_passage}
use Rattle.rl_words.specs.Resv.{arm_in, with_arm}
use Rattle.rl_words.specs.Word.{Word}
use Rattle.rl_words.specs.Word.Word.{Resv, Lock}
use Rattle.rl_tables.specs.declared.table.BoxTable.{BoxTable}
use Rattle.rl_tables.specs.declared.table.Tables.{Tables}
use Rattle.rl_tables.specs.Tables.{segment_in, segment_number}
use Rattle.rl_tables.specs.Kept.{IsLine}
use Rattle.rl_box.specs.declared.mind.Answer.TheVariants as answers
use Rattle.rl_box.specs.declared.mind.BoxMind.{BoxMind}
use Rattle.rl_box.specs.declared.mind.Work.{Work}
use Rattle.rl_box.specs.declared.mind.Work.TheVariants.{Ready, Serve, Say}
use Rattle.rl_box.specs.Mind.{box_at}
use Rattle.rl_box.specs.Steps.{BoxStep, has_arms, path_of, other_side}
use Rattle.rl_box.specs.Steps.BoxStep.{take as takes, reserve as reserves, refuse as refuses, release as releases, lock as lock_it, ask as asks_points}
use Rattle.rl_box.specs.Steps.BoxStep.{moved as sees_moved, unlock as unlocks, say_yes as says_yes, say_refused as says_refused, say_barred as says_barred}
use Rattle.rl_box.specs.Steps.BoxStep.{busy as is_busy}
use Rattle.rl_protocol.specs.State.{State, put, put_at}
use Rattle.rl_protocol.specs.Minds.{train, box, row_of, names_arms}
use Rattle.rl_protocol.specs.Steps.{take, grant, refuse, release, lock_now, lock_ask, lock_moved, unlock, say_yes, say_no, busy}
use Rattle.rl_protocol.specs.Agreement.{Agrees}
use Rattle.rl_protocol.specs.TableLine.{line_of}
use Rattle.rl_protocol.specs.Sentences.{holder_in, StateSays, with_box, MakesStep}
use Rattle.rl_protocol.proofs.Known.{taken}
use Rattle.rl_protocol.proofs.Letters.{row_arms, letter_arm}
use Rattle.rl_protocol.proofs.Paths.{waiting_within}
use Rattle.rl_protocol.proofs.TableLines.{consistent_line}

-- trains of different ids have different numbers
other_train : (u t : TrainId) → u ≢ t → u.0 ≢ t.0
other_train u t apart = λ e. apart (ap (λ n. train n) e)

-- a mind with another work
abbrev reworked : BoxMind → Work → BoxMind
reworked m new = record m { work = new }

mind_with : (m : BoxMind) (work new : Work) (waiting : Option Path) → m ≡ box_at work waiting → reworked m new ≡ box_at new waiting
mind_with m work new waiting h = ap (λ x. reworked x new) h

-- a word that is written as it was
pub same_lock : (lock : ℕ → LockWord) (b : ℕ) (v : LockWord) → lock b ≡ v → lock ≡ put lock b v
same_lock lock b v h = fun_ext (λ c. at c)
  where
    at : (c : ℕ) → lock c ≡ put lock b v c
    at c = grind (arith, nat_tests)

pub same_resv : (resv : ℕ → ℕ → Option TrainId) (b : ℕ) (v : ResvWord) → ((x : ℕ) → resv b x ≡ holder_in v x)
    → resv ≡ (λ c x. cond (c == b) (holder_in v x) (resv c x))
same_resv resv b v h = fun_ext (λ c. fun_ext (λ x. at c x))
  where
    at : (c x : ℕ) → resv c x ≡ cond (c == b) (holder_in v x) (resv c x)
    at c x = let here = h x in grind (arith, nat_tests)

-- one of four arms is written, and the others stay
one_arm : (w : ResvWord) (x y : ℕ) (o : Option TrainId) → x < 4 → holder_in (with_arm w x o) y ≡ cond (y == x) o (holder_in w y)
one_arm w x y o h = grind (arith, nat_tests)

pub new_resv : (resv : ℕ → ℕ → Option TrainId) (b x : ℕ) (v : ResvWord) (o : Option TrainId) → x < 4 → ((y : ℕ) → resv b y ≡ holder_in v y)
    → put_at resv b x o ≡ (λ c y. cond (c == b) (holder_in (with_arm v x o) y) (resv c y))
new_resv resv b x v o four h = fun_ext (λ c. fun_ext (λ y. at c y))
  where
    at : (c y : ℕ) → put_at resv b x o c y ≡ cond (c == b) (holder_in (with_arm v x o) y) (resv c y)
    at c y = let here = h y in let one = one_arm v x y o four in grind (arith, nat_tests)

-- the holder of one of four arms
pub four_arms : (w : ResvWord) (x : ℕ) → x < 4 → holder_in w x ≡ arm_in w x
four_arms w x h = ap (λ c. cond c (arm_in w x) None) (lt-ltb x 4 h)

pub few_arms : (kind : Kind) → arms_of kind ≤ 4
few_arms Buffer = omega arith
few_arms Joint = omega arith
few_arms Point = omega arith
few_arms Crossing = omega arith

module _ (tables : Tables) (s : State) (b : ℕ) (table : BoxTable) (line : IsLine tables) (there : slice_get tables.boxes b ≡ Some table)
    (number : table.number ≡ box b) where
  pub kind_is : (line_of tables).kind b ≡ table.kind
  kind_is = ap (λ o. option_map_or (λ (x : BoxTable). x.kind) o Buffer) there

  -- the arms of the box, by the line and by its table
  pub arm_is : (x : ℕ) → (line_of tables).has_arm b x ≡ nat_lt x (arms_of table.kind)
  arm_is x = ap (λ o. is_some (option_and_then (λ (y : BoxTable). segment_number y x) o)) there ∙ shown (segment_in table x) ∙ (line.boxes b table there).arms x
    where
      shown : (o : Option SegId) → is_some (option_map (λ (z : SegId). z.0) o) ≡ is_some o
      shown None = refl
      shown (Some z) = refl

  joins_is : (l : Letter) (side : Side) (answer : Bool) → arms_join table.kind l.x.0 l.y.0 side ≡ answer
      → arms_join ((line_of tables).kind b) l.x.0 l.y.0 side ≡ answer
  joins_is l side answer h = ap (λ k. arms_join k l.x.0 l.y.0 side) kind_is ∙ h

  names_is : (l : Letter) → l.to ≡ table.number → has_arms table l ≡ true → names_arms (line_of tables) l ≡ true
  names_is l to h =
      let parts = and_parts _ _ h in
      let at : l.to.0 ≡ b = ap (λ n. n.0) (to ∙ number) in
      and_from _ _ (ap (λ n. (line_of tables).has_arm n l.x.0) at ∙ arm_is l.x.0 ∙ parts.0)
      (ap (λ n. (line_of tables).has_arm n l.y.0) at ∙ arm_is l.y.0 ∙ parts.1)

  -- a letter in hand names one of four arms
  pub four : (tries : ℕ) → Agrees (line_of tables) tries s → (t : TrainId) (l : Letter) (waiting : Option Path) → s.boxes b ≡ box_at (Serve t l) waiting
      → l.x.0 < 4
  four tries agrees t l waiting is =
      let has = taken (line_of tables) s b t.0 l agrees.mailboxes (λ u. (agrees.attempts u).ahead) (agrees.mailboxes.serves b t l (ap (λ (m : BoxMind). m.work) is)) in
      let arm = letter_arm (line_of tables) (row_of (line_of tables) t.0 (s.trains t.0)) (s.trains t.0).job l
      (row_arms (line_of tables) t.0 (s.trains t.0).step (consistent_line tables line) (waiting_within (line_of tables) tries s t.0 agrees has.waits))
      has.letter in
      let below : l.x.0 < arms_of table.kind = ltb-true _ _ (sym (arm_is l.x.0) ∙ subst (λ n. (line_of tables).has_arm n l.x.0 ≡ true) has.to arm) in
      let few = few_arms table.kind in
      omega arith

  at_resv : (v : ResvWord) (mind : BoxMind) → MakesStep (line_of tables) s (nodes.Box (box b)) (Resv (box b) v) (with_box s b mind)
      → MakesStep (line_of tables) s (nodes.Box (box b)) (Resv table.number v) (with_box s b mind)
  at_resv v mind h = subst (λ n. MakesStep (line_of tables) s (nodes.Box (box b)) (Resv n v) (with_box s b mind)) (sym number) h

  at_lock : (v : LockWord) (mind : BoxMind) → MakesStep (line_of tables) s (nodes.Box (box b)) (Lock (box b) v) (with_box s b mind)
      → MakesStep (line_of tables) s (nodes.Box (box b)) (Lock table.number v) (with_box s b mind)
  at_lock v mind h = subst (λ n. MakesStep (line_of tables) s (nodes.Box (box b)) (Lock n v) (with_box s b mind)) (sym number) h

  -- the state with the mind and one word written
  written : (resv : ℕ → ℕ → Option TrainId) (lock : ℕ → LockWord) (m n : BoxMind) → m ≡ n
      → ◌≡◌ {A = State} (record s { boxes = put s.boxes b m; resv = resv; lock = lock }) (record s { boxes = put s.boxes b n; resv = resv; lock = lock })
  written resv lock m n h = ap (λ x. record s { boxes = put s.boxes b x; resv = resv; lock = lock }) h

  pub box_makes : (tries : ℕ) (before : BoxMind) (w v : Word) (mind : BoxMind) → Agrees (line_of tables) tries s → s.boxes b ≡ before
      → BoxStep table before w v mind → StateSays s w → MakesStep (line_of tables) s (nodes.Box (box b)) v (with_box s b mind)
  box_makes tries before w v mind agrees is (takes t l waiting to arms) has =
      record {
        step = take b t.0 l;
        fits = (ap (λ (m : BoxMind). m.work) is, has, ap (λ n. n.0) (to ∙ number), names_is l to arms);
        by_node = refl;
        on_word = refl;
        leaves = ap (λ m. record s { boxes = put s.boxes b m; mail = put s.mail t.0 (mails.Taken l) }) (mind_with (s.boxes b) Ready (Serve t l) waiting is);
      }
  box_makes tries before w v mind agrees is (reserves t l waiting word verb free) has =
      let at = subst (λ n. (x : ℕ) → s.resv n.0 x ≡ holder_in word x) number has in
      let below = four tries agrees t l waiting is in
      at_resv (with_arm word l.x.0 (Some t)) mind
      (record {
        step = grant b t.0 l;
        fits = (ap (λ (m : BoxMind). m.work) is, verb, at l.x.0 ∙ four_arms word l.x.0 below ∙ free);
        by_node = refl;
        on_word = refl;
        leaves = written (put_at s.resv b l.x.0 (Some t)) s.lock _ _ (mind_with (s.boxes b) (Serve t l) (Say t l answers.Yes) waiting is)
            ∙ ap (λ r. record (with_box s b mind) { resv = r }) (new_resv s.resv b l.x.0 word (Some t) below at);
      })
  box_makes tries before w v mind agrees is (refuses t u l waiting word verb held apart) has =
      let at = subst (λ n. (x : ℕ) → s.resv n.0 x ≡ holder_in word x) number has in
      let below = four tries agrees t l waiting is in
      at_resv word mind
      (record {
        step = refuse b t.0 l u;
        fits = (ap (λ (m : BoxMind). m.work) is, verb, at l.x.0 ∙ four_arms word l.x.0 below ∙ held, other_train u t apart);
        by_node = refl;
        on_word = refl;
        leaves = written s.resv s.lock _ _ (mind_with (s.boxes b) (Serve t l) (Say t l (answers.No u)) waiting is)
            ∙ ap (λ r. record (with_box s b mind) { resv = r }) (same_resv s.resv b word at);
      })
  box_makes tries before w v mind agrees is (releases t l waiting word verb held) has =
      let at = subst (λ n. (x : ℕ) → s.resv n.0 x ≡ holder_in word x) number has in
      let below = four tries agrees t l waiting is in
      at_resv (with_arm word l.x.0 None) mind
      (record {
        step = release b t.0 l;
        fits = (ap (λ (m : BoxMind). m.work) is, verb, at l.x.0 ∙ four_arms word l.x.0 below ∙ held);
        by_node = refl;
        on_word = refl;
        leaves = written (put_at s.resv b l.x.0 None) s.lock _ _ (mind_with (s.boxes b) (Serve t l) (Say t l answers.Yes) waiting is)
            ∙ ap (λ r. record (with_box s b mind) { resv = r }) (new_resv s.resv b l.x.0 word None below at);
      })
  box_makes tries before w v mind agrees is (lock_it t l side verb joins) has =
      at_lock (Locked (path_of t l)) mind
      (record {
        step = lock_now b t.0 l side;
        fits = (is, verb, subst (λ n. s.lock n.0 ≡ Free side) number has, joins_is l side true joins);
        by_node = refl;
        on_word = refl;
        leaves = written s.resv (put s.lock b (Locked (path_of t l))) _ _ (mind_with (s.boxes b) (Serve t l) (Say t l answers.Yes) None is);
      })
  box_makes tries before w v mind agrees is (asks_points t l side verb joins other) has =
      at_lock (Asked (path_of t l)) mind
      (record {
        step = lock_ask b t.0 l side;
        fits = (is, verb, subst (λ n. s.lock n.0 ≡ Free side) number has, joins_is l side false joins, joins_is l (other_side side) true other);
        by_node = refl;
        on_word = refl;
        leaves = refl;
      })
  box_makes tries before w v mind agrees is (sees_moved p) has =
      moved_makes
    where
      moved_makes : MakesStep (line_of tables) s (nodes.Box (box b)) (Lock table.number (Locked p))
          (with_box s b (box_at (Say p.train (about_passage table.number verbs.Lock p.x p.y) answers.Yes) None))
      moved_makes =
          subst (λ n. MakesStep (line_of tables) s (nodes.Box (box b)) (Lock n (Locked p))
          (with_box s b (box_at (Say p.train (about_passage n verbs.Lock p.x p.y) answers.Yes) None))) (sym number)
          (record {
            step = lock_moved b p;
            fits = (is, subst (λ n. s.lock n.0 ≡ Moved p) number has);
            by_node = refl;
            on_word = refl;
            leaves = refl;
          })
  box_makes tries before w v mind agrees is (unlocks t l side verb joins) has =
      at_lock (Free side) mind
      (record {
        step = unlock b t.0 l side;
        fits = (is, verb, subst (λ n. s.lock n.0 ≡ Locked (path_of t l)) number has, ap (λ k. joining_side k l.x.0 l.y.0) kind_is ∙ joins);
        by_node = refl;
        on_word = refl;
        leaves = written s.resv (put s.lock b (Free side)) _ _ (mind_with (s.boxes b) (Serve t l) (Say t l answers.Yes) None is);
      })
  box_makes tries before w v mind agrees is (says_yes t l waiting) has =
      record {
        step = say_yes b t.0 l;
        fits = (ap (λ (m : BoxMind). m.work) is, has);
        by_node = refl;
        on_word = refl;
        leaves = ap (λ m. record s { boxes = put s.boxes b m; mail = put s.mail t.0 (mails.Yes l) })
            (mind_with (s.boxes b) (Say t l answers.Yes) Ready waiting is);
      }
  box_makes tries before w v mind agrees is (says_refused t u l waiting verb) has =
      record {
        step = say_no b t.0 l u;
        fits = (ap (λ (m : BoxMind). m.work) is, subst IsRefusable (sym verb) tt, has);
        by_node = refl;
        on_word = refl;
        leaves = ap (λ m. record s { boxes = put s.boxes b m; mail = put s.mail t.0 (mails.No l u) })
            (mind_with (s.boxes b) (Say t l (answers.No u)) Ready waiting is);
      }
  box_makes tries before w v mind agrees is (says_barred t u l waiting verb) has =
      record {
        step = say_no b t.0 l u;
        fits = (ap (λ (m : BoxMind). m.work) is, subst IsRefusable (sym verb) tt, has);
        by_node = refl;
        on_word = refl;
        leaves = ap (λ m. record s { boxes = put s.boxes b m; mail = put s.mail t.0 (mails.No l u) })
            (mind_with (s.boxes b) (Say t l (answers.No u)) Ready waiting is);
      }
  box_makes tries before w v mind agrees is (is_busy t l p verb apart) has =
      let at : s.lock b ≡ Locked p = subst (λ n. s.lock n.0 ≡ Locked p) number has in
      at_lock (Locked p) mind
      (record {
        step = busy b t.0 l p;
        fits = (is, verb, at, other_train p.train t apart);
        by_node = refl;
        on_word = refl;
        leaves = written s.resv s.lock _ _ (mind_with (s.boxes b) (Serve t l) (Say t l (answers.No p.train)) None is)
            ∙ ap (λ k. record (with_box s b mind) { lock = k }) (same_lock s.lock b (Locked p) at);
      })
