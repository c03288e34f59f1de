-- The state read at the start is the start of the protocol.
use Rattle.std.proofs.Common.{◌≡◌, ◌⊎◌, ℕ, zero, suc, ◌^◌, ◌%◌, ◌/◌, ◌<◌, ◌≤◌, nat_lt, true, false, slice_get, slice_index_or, Option, Some, None, option_map}
use Rattle.std.proofs.Common.{option_and_then, refl, sym, ap, ◌∙◌, inl, inr, arith}
use Rattle.std.specs.Prelude.{unwrap_or}
use Rattle.std.specs.Option.{option_map_or}
use Rattle.std.proofs.Math.Path.{fun_ext}
use Rattle.std.proofs.lemmas.Bool.{cases_lt}
use Rattle.std.proofs.lemmas.Bool.Decides.{nat_tests}
use Rattle.std.proofs.lemmas.Option.{slice_get_past, get_or_from_slice_get}
use Rattle.rl_base.specs.Numbers.{IsU32}
use Rattle.rl_base.specs.declared.ids.SegId.{SegId}
use Rattle.rl_base.specs.declared.ids.TrainId.{TrainId}
use Rattle.rl_base.specs.declared.kind.Side.TheVariants.{Left}
use Rattle.rl_base.specs.declared.layout.Layout.{Layout}
use Rattle.rl_base.specs.declared.layout.NodeKind.TheVariants as nodes
use Rattle.rl_base.specs.declared.layout.WordKind.{WordKind}
use Rattle.rl_base.specs.declared.layout.WordKind.TheVariants as kinds
use Rattle.rl_base.specs.Layout.{word_count, word_number, node_number, HasWord}
use Rattle.rl_words.specs.declared.lock.LockWord.{LockWord}
use Rattle.rl_words.specs.declared.lock.LockWord.TheVariants.{Free}
use Rattle.rl_words.specs.declared.mail.MailWord.{MailWord}
use Rattle.rl_words.specs.declared.mail.MailWord.TheVariants.{Empty}
use Rattle.rl_words.specs.declared.resv.ResvWord.{ResvWord}
use Rattle.rl_words.specs.declared.run.RunWord.{RunWord}
use Rattle.rl_words.specs.declared.run.RunWord.TheVariants.{Clear}
use Rattle.rl_words.specs.declared.sense.SenseWord.{SenseWord}
use Rattle.rl_words.specs.declared.sense.SenseWord.TheVariants.{Quiet}
use Rattle.rl_words.specs.Lock.{FitsLock, packed_lock}
use Rattle.rl_words.specs.Mail.{FitsMail, packed_mail}
use Rattle.rl_words.specs.Resv.{FitsArm, FitsResv, packed_resv}
use Rattle.rl_words.specs.Run.{FitsRun, packed_run}
use Rattle.rl_words.specs.Sense.{FitsSense, packed_sense}
use Rattle.rl_words.specs.Readings.{read_resv, read_lock, read_mail, read_run, read_sense}
use Rattle.rl_words.specs.Stamps.{payload_in}
use Rattle.rl_tables.specs.declared.table.BoxTable.{BoxTable}
use Rattle.rl_tables.specs.declared.table.Tables.{Tables}
use Rattle.rl_tables.specs.Kept.{IsLine}
use Rattle.rl_tables.specs.Starts.{layout_of, starter_of, arm_holder, start_resv, start_lock, start_payload}
use Rattle.rl_tables.specs.Tables.{segment_number}
use Rattle.rl_steps.specs.Numbers.{node_at, train, box}
use Rattle.rl_steps.specs.State as cores
use Rattle.rl_steps.specs.State.{start_mind, start_mind_of, start_word, start_words}
use Rattle.rl_steps.proofs.Beginning.{start_fits, holder_fits}
use Rattle.rl_steps.proofs.Numbering.{node_at-number, word_at-number}
use Rattle.rl_steps.proofs.Starts.{start_words-get}
use Rattle.rl_protocol.specs.State as protocol
use Rattle.rl_protocol.specs.TableLine.{line_of}
use Rattle.rl_safety.specs.Reading as reading
use Rattle.rl_safety.specs.Reading.{read, payload_of, has_word, train_of, track_of, box_of, track_mind, box_mind, lock_in, mail_in, run_in, sense_in, resv_in}
use Rattle.rl_safety.proofs.Effects.{same_state}

-- the laws of the words that are needed here
pub record ReadsValues : Type 0 where
  pub resv : (v : ResvWord) → FitsResv v → read_resv (packed_resv v) ≡ Some v
  pub lock : (v : LockWord) → FitsLock v → read_lock (packed_lock v) ≡ Some v
  pub mail : (v : MailWord) → FitsMail v → read_mail (packed_mail v) ≡ Some v
  pub run : (v : RunWord) → FitsRun v → read_run (packed_run v) ≡ Some v
  pub sense : (v : SenseWord) → FitsSense v → read_sense (packed_sense v) ≡ Some v

within_or_not : (n k : ℕ) → ((nat_lt n k ≡ true) × (n < k)) ⊎ ((nat_lt n k ≡ false) × (k ≤ n))
within_or_not n k = elim (cases_lt n k) [ inl h ↦ inl (grind (arith, nat_tests), h) | inr h ↦ inr (grind (arith, nat_tests), h) ]

-- minds
trains_start : (tables : Tables) (tries : ℕ) → train_of tables tries (cores.start tables tries) ≡ (protocol.start (line_of tables) tries).trains
trains_start tables tries =
    fun_ext (λ t. elim (within_or_not t (layout_of tables).trains) [
      | inl there ↦ rw there.0 refl
      | inr past ↦ rw past.0 refl
    ])

tracks_start : (tables : Tables) (tries : ℕ) → track_of tables (cores.start tables tries) ≡ (protocol.start (line_of tables) tries).tracks
tracks_start tables tries =
    fun_ext (λ t. elim (within_or_not t (layout_of tables).trains) [
      | inl there ↦
          let at : node_at (layout_of tables) (node_number (layout_of tables) (nodes.Track (train t))) ≡ Some (nodes.Track (train t)) =
          node_at-number (layout_of tables) (nodes.Track (train t)) there.1 in
          let mind : start_mind tables tries (node_number (layout_of tables) (nodes.Track (train t))) ≡ start_mind_of tries (Some (nodes.Track (train t))) =
          ap (start_mind_of tries) at in
          rw there.0 (ap track_mind mind)
      | inr past ↦ rw past.0 refl
    ])

boxes_start : (tables : Tables) (tries : ℕ) → box_of tables (cores.start tables tries) ≡ (protocol.start (line_of tables) tries).boxes
boxes_start tables tries =
    fun_ext (λ b. elim (within_or_not b (layout_of tables).boxes) [
      | inl there ↦
          let at : node_at (layout_of tables) (node_number (layout_of tables) (nodes.Box (box b))) ≡ Some (nodes.Box (box b)) =
          node_at-number (layout_of tables) (nodes.Box (box b)) there.1 in
          let mind : start_mind tables tries (node_number (layout_of tables) (nodes.Box (box b))) ≡ start_mind_of tries (Some (nodes.Box (box b))) =
          ap (start_mind_of tries) at in
          rw there.0 (ap box_mind mind)
      | inr past ↦ rw past.0 refl
    ])

-- payloads
pub number_within : (lay : Layout) (kind : WordKind) → HasWord lay kind → word_number lay kind < word_count lay
number_within lay kinds.Still h = omega arith
number_within lay (kinds.Resv b) h = omega arith
number_within lay (kinds.Lock b) h = omega arith
number_within lay (kinds.Mail t) h = omega arith
number_within lay (kinds.Run t) h = omega arith
number_within lay (kinds.Sense t) h = omega arith

payload_small : (v : ℕ) → IsU32 v → payload_in v ≡ v
payload_small v small =
    let one : v / 1 ≡ v = omega arith in
    let rest : v % 2 ^ 32 ≡ v = omega arith in
    rw one rest

pub payload_start : (tables : Tables) (tries : ℕ) (kind : WordKind) → IsLine tables → has_word (layout_of tables) kind ≡ true
    → HasWord (layout_of tables) kind → payload_of tables (cores.start tables tries) kind ≡ start_payload tables kind
payload_start tables tries kind line test there =
    let n : ℕ = word_number (layout_of tables) kind in
    let got : slice_get (start_words tables (word_count (layout_of tables))) (word_number (layout_of tables) kind)
    ≡ Some (start_word tables (word_number (layout_of tables) kind)) =
    start_words-get tables (word_count (layout_of tables)) (word_number (layout_of tables) kind) (number_within (layout_of tables) kind there) in
    let read : slice_index_or (start_words tables (word_count (layout_of tables))) (word_number (layout_of tables) kind) 0
    ≡ start_word tables (word_number (layout_of tables) kind) =
    get_or_from_slice_get (start_words tables (word_count (layout_of tables))) (word_number (layout_of tables) kind)
    (start_word tables (word_number (layout_of tables) kind)) 0 got in
    let is : start_word tables (word_number (layout_of tables) kind) ≡ start_payload tables kind =
    ap (λ (o : Option WordKind). option_map_or (start_payload tables) o 0) (word_at-number (layout_of tables) kind there) in
    let small : payload_in (start_word tables (word_number (layout_of tables) kind)) ≡ start_word tables (word_number (layout_of tables) kind) =
    payload_small (start_word tables (word_number (layout_of tables) kind)) (start_fits tables (word_number (layout_of tables) kind) line) in
    rw (test, read) (small ∙ is)

payload_absent : (tables : Tables) (tries : ℕ) (kind : WordKind) → has_word (layout_of tables) kind ≡ false
    → payload_of tables (cores.start tables tries) kind ≡ 0
payload_absent tables tries kind test = rw test refl

-- mail, run and sense
mails_start : ReadsValues → (tables : Tables) (tries : ℕ) → IsLine tables
    → mail_in tables (cores.start tables tries) ≡ (protocol.start (line_of tables) tries).mail
mails_start laws tables tries line =
    fun_ext (λ t. ap (λ n. unwrap_or (read_mail n) Empty) (zero_of t) ∙ ap (λ o. unwrap_or o Empty) (laws.mail Empty tt))
  where
    zero_of : (t : ℕ) → payload_of tables (cores.start tables tries) (kinds.Mail (train t)) ≡ packed_mail Empty
    zero_of t = elim (within_or_not t (layout_of tables).trains) [
      | inl there ↦ payload_start tables tries (kinds.Mail (train t)) line there.0 there.1
      | inr past ↦ payload_absent tables tries (kinds.Mail (train t)) past.0
    ]

runs_start : ReadsValues → (tables : Tables) (tries : ℕ) → IsLine tables
    → run_in tables (cores.start tables tries) ≡ (protocol.start (line_of tables) tries).run
runs_start laws tables tries line =
    fun_ext (λ t. ap (λ n. unwrap_or (read_run n) (Clear 0)) (zero_of t) ∙ ap (λ o. unwrap_or o (Clear 0)) (laws.run (Clear 0) (omega arith)))
  where
    zero_of : (t : ℕ) → payload_of tables (cores.start tables tries) (kinds.Run (train t)) ≡ packed_run (Clear 0)
    zero_of t = elim (within_or_not t (layout_of tables).trains) [
      | inl there ↦ payload_start tables tries (kinds.Run (train t)) line there.0 there.1
      | inr past ↦ payload_absent tables tries (kinds.Run (train t)) past.0
    ]

senses_start : ReadsValues → (tables : Tables) (tries : ℕ) → IsLine tables
    → sense_in tables (cores.start tables tries) ≡ (protocol.start (line_of tables) tries).sense
senses_start laws tables tries line =
    fun_ext (λ t. ap (λ n. unwrap_or (read_sense n) (Quiet 0)) (zero_of t) ∙ ap (λ o. unwrap_or o (Quiet 0)) (laws.sense (Quiet 0) (omega arith)))
  where
    zero_of : (t : ℕ) → payload_of tables (cores.start tables tries) (kinds.Sense (train t)) ≡ packed_sense (Quiet 0)
    zero_of t = elim (within_or_not t (layout_of tables).trains) [
      | inl there ↦ payload_start tables tries (kinds.Sense (train t)) line there.0 there.1
      | inr past ↦ payload_absent tables tries (kinds.Sense (train t)) past.0
    ]

-- locks
lock_start : ReadsValues → (tables : Tables) (o : Option BoxTable)
    → unwrap_or (read_lock (option_map_or (λ x. packed_lock (start_lock x)) o 0)) (Free Left) ≡ Free (option_map_or (λ (x : BoxTable). x.side) o Left)
lock_start laws tables None = ap (λ o. unwrap_or o (Free Left)) (laws.lock (Free Left) tt)
lock_start laws tables (Some x) = ap (λ o. unwrap_or o (Free Left)) (laws.lock (Free x.side) tt)

locks_start : ReadsValues → (tables : Tables) (tries : ℕ) → IsLine tables
    → lock_in tables (cores.start tables tries) ≡ (protocol.start (line_of tables) tries).lock
locks_start laws tables tries line =
    fun_ext (λ b. elim (within_or_not b (layout_of tables).boxes) [
      | inl there ↦
          ap (λ n. unwrap_or (read_lock n) (Free Left)) (payload_start tables tries (kinds.Lock (box b)) line there.0 there.1)
          ∙ lock_start laws tables (slice_get tables.boxes b)
      | inr past ↦
          let absent : slice_get tables.boxes b ≡ None = slice_get_past tables.boxes b past.1 in
          ap (λ n. unwrap_or (read_lock n) (Free Left)) (payload_absent tables tries (kinds.Lock (box b)) past.0)
          ∙ (lock_start laws tables None ∙ ap (λ (o : Option BoxTable). Free (option_map_or (λ (x : BoxTable). x.side) o Left)) (sym absent))
    ])

-- reservations
arm_fits : (tables : Tables) (s : Option SegId) → IsLine tables → FitsArm (arm_holder tables s)
arm_fits tables None line = tt
arm_fits tables (Some s) line = of (starter_of tables s.0) refl
  where
    of : (o : Option TrainId) → starter_of tables s.0 ≡ o → FitsArm o
    of None e = tt
    of (Some t) e = holder_fits tables s.0 t line e

pub resv_fits : (tables : Tables) (x : BoxTable) → IsLine tables → FitsResv (start_resv tables x)
resv_fits tables x line =
    record { arm0 = arm_fits tables x.seg0 line; arm1 = arm_fits tables x.seg1 line; arm2 = arm_fits tables x.seg2 line; arm3 = arm_fits tables x.seg3 line }

arm_is : (tables : Tables) (s : Option SegId) → arm_holder tables s ≡ option_and_then (starter_of tables) (option_map (λ (g : SegId). g.0) s)
arm_is tables None = refl
arm_is tables (Some s) = refl

arms_are : (tables : Tables) (x : BoxTable) (i : ℕ)
    → reading.holder_read (Some (start_resv tables x)) i ≡ option_and_then (starter_of tables) (segment_number x i)
arms_are tables x zero = arm_is tables x.seg0
arms_are tables x (suc zero) = arm_is tables x.seg1
arms_are tables x (suc (suc zero)) = arm_is tables x.seg2
arms_are tables x (suc (suc (suc zero))) = arm_is tables x.seg3
arms_are tables x (suc (suc (suc (suc i)))) = let beyond : nat_lt (suc (suc (suc (suc i)))) 4 ≡ false = grind (arith, nat_tests) in rw beyond refl

no_arms : (i : ℕ) → (let none : ResvWord = record { arm0 = None; arm1 = None; arm2 = None; arm3 = None } in reading.holder_read (Some none) i) ≡ None
no_arms zero = refl
no_arms (suc zero) = refl
no_arms (suc (suc zero)) = refl
no_arms (suc (suc (suc zero))) = refl
no_arms (suc (suc (suc (suc i)))) = let beyond : nat_lt (suc (suc (suc (suc i)))) 4 ≡ false = grind (arith, nat_tests) in rw beyond refl

resv_start : ReadsValues → (tables : Tables) (o : Option BoxTable) (i : ℕ) → IsLine tables
    → reading.holder_read (read_resv (option_map_or (λ x. packed_resv (start_resv tables x)) o 0)) i
    ≡ option_and_then (starter_of tables) (option_and_then (λ (x : BoxTable). segment_number x i) o)
resv_start laws tables None i line =
    let none : ResvWord = record { arm0 = None; arm1 = None; arm2 = None; arm3 = None } in
    ap (λ o. reading.holder_read o i) (laws.resv (record { arm0 = None; arm1 = None; arm2 = None; arm3 = None })
    (record { arm0 = tt; arm1 = tt; arm2 = tt; arm3 = tt })) ∙ no_arms i
resv_start laws tables (Some x) i line = ap (λ o. reading.holder_read o i) (laws.resv (start_resv tables x) (resv_fits tables x line)) ∙ arms_are tables x i

resvs_start : ReadsValues → (tables : Tables) (tries : ℕ) → IsLine tables
    → resv_in tables (cores.start tables tries) ≡ (protocol.start (line_of tables) tries).resv
resvs_start laws tables tries line =
    fun_ext (λ b. fun_ext (λ i. elim (within_or_not b (layout_of tables).boxes) [
      | inl there ↦
          ap (λ n. reading.holder_read (read_resv n) i) (payload_start tables tries (kinds.Resv (box b)) line there.0 there.1)
          ∙ resv_start laws tables (slice_get tables.boxes b) i line
      | inr past ↦
          let absent : slice_get tables.boxes b ≡ None = slice_get_past tables.boxes b past.1 in
          ap (λ n. reading.holder_read (read_resv n) i) (payload_absent tables tries (kinds.Resv (box b)) past.0)
          ∙ (resv_start laws tables None i line ∙ ap (λ (o : Option BoxTable). option_and_then (starter_of tables)
          (option_and_then (λ (x : BoxTable). segment_number x i) o)) (sym absent))
    ]))

pub start_read : ReadsValues → (tables : Tables) (tries : ℕ) → IsLine tables
    → read tables tries (cores.start tables tries) ≡ protocol.start (line_of tables) tries
start_read laws tables tries line =
    same_state (read tables tries (cores.start tables tries)) (protocol.start (line_of tables) tries)
    (trains_start tables tries) (tracks_start tables tries) (boxes_start tables tries)
    (resvs_start laws tables tries line) (locks_start laws tables tries line) (mails_start laws tables tries line)
    (runs_start laws tables tries line) (senses_start laws tables tries line)
