-- A turn, from what its parts come to; and what every turn keeps.
use Rattle.std.proofs.Common.{◌≡◌, ℕ, ◌+◌, ◌-◌, ◌<◌, ◌≤◌, length, [], ◌∷◌, ◌++◌, Some, None, true, false, refl, sym, ap, ◌∙◌, subst, arith, length-append}
use Rattle.atomic_table.specs.Seated.{TableId}
use Rattle.rl_record.specs.declared.event.Event.{Event}
use Rattle.rl_record.specs.declared.event.Turn.{Turn}
use Rattle.rl_record.specs.declared.event.Turn.TheVariants.{Moved, Idle, Rest, Full}
use Rattle.rl_record.specs.Records.{Record, pushed}
use Rattle.rl_tables.specs.declared.table.Tables.{Tables}
use Rattle.rl_steps.specs.declared.mind.Mind.{Mind}
use Rattle.rl_steps.specs.Step.{target_of}
use Rattle.rl_steps.specs.Turn.{scan_after}
use Rattle.rl_rule.specs.declared.views.Walk.{Walk}
use Rattle.rl_rule.specs.declared.seats.NodeSeat.{NodeSeat}
use Rattle.rl_rule.specs.declared.rails.Rails.{Rails}
use Rattle.rl_rule.specs.Seats.{walk_of}
use Rattle.rl_runner.specs.Turns.{raised}
use Rattle.rl_nodes.specs.Nodes.{Node, number, turns_of, IsWhole, node_of, IsHome, IsReady, is_train_at_rest}
use Rattle.rl_nodes.specs.Turns.{Looks, Idles, Moves, IsTurn, LoadFinds}
use Rattle.rl_nodes.specs.Looks.{LeavesWord, ChangesWord}
use Rattle.rl_nodes.proofs.Resting.{no_target_rests, awake}

-- a node in its parts, before the turn
pub record Parts (rails : Rails) (line : Tables) (seat : NodeSeat) (mind : Mind) (scan : ℕ) (log : Record) : Type 0 where
  pub whole : IsWhole rails line seat mind scan log
  pub room : length log.events < log.limit

node_same : (r : TableId) (l : Tables) (t : ℕ) (w v : Walk) (s z : ℕ) (g h : Record) (u x : ℕ) → w ≡ v → s ≡ z → g ≡ h → u ≡ x
    → (let a : Node = record { rails = r; line = l; tries = t; walk = w; scan = s; log = g; turns = u } in a)
    ≡ (let b : Node = record { rails = r; line = l; tries = t; walk = v; scan = z; log = h; turns = x } in b)
node_same r l t w v s z g h u x a b c d = rw (a, b, c, d) refl

looks : (rails : Rails) (line : Tables) (seat : NodeSeat) (mind : Mind) (scan : ℕ) (log : Record) (turns w value : ℕ) → Parts rails line seat mind scan log
    → target_of line (walk_of seat).node.0 mind scan ≡ Some w → LoadFinds line (walk_of seat) w value
    → Looks (node_of rails line seat scan log turns) w value
looks rails line seat mind scan log turns w value parts target finds =
    let n = (walk_of seat).node.0 in
    record {
      at_work = record {
        room = parts.room;
        awake = subst (λ (m : Mind). is_train_at_rest line n m ≡ false) (sym parts.whole.mind_is)
            (awake line n scan w mind parts.whole.there parts.whole.formed target);
      };
      target = subst (λ (m : Mind). target_of line n m scan ≡ Some w) (sym parts.whole.mind_is) target;
      finds = finds;
    }

gone : (line : Tables) (walk : Walk) (mind : Mind) (scan next : ℕ) → walk.mind ≡ mind → next ≡ scan_after line mind scan → next ≡ scan_after line walk.mind scan
gone line walk mind scan next is to = to ∙ sym (ap (λ (m : Mind). scan_after line m scan) is)

pub rests : (rails : Rails) (line : Tables) (seat : NodeSeat) (mind : Mind) (scan : ℕ) (log : Record) (turns more : ℕ) → Parts rails line seat mind scan log
    → target_of line (walk_of seat).node.0 mind scan ≡ None → more ≡ raised turns 1
    → IsTurn (node_of rails line seat scan log turns) (node_of rails line seat scan log more) Rest
rests rails line seat mind scan log turns more parts target raised_is =
    let n = (walk_of seat).node.0 in (
      parts.room,
      subst (λ (m : Mind). is_train_at_rest line n m ≡ true) (sym parts.whole.mind_is)
          (no_target_rests line n scan mind parts.whole.there parts.whole.formed target),
      ap (λ (k : ℕ). node_of rails line seat scan log k) raised_is,
    )

pub idles : (rails : Rails) (line : Tables) (seat after : NodeSeat) (mind : Mind) (scan next : ℕ) (log : Record) (turns more w value : ℕ)
    → Parts rails line seat mind scan log
    → target_of line (walk_of seat).node.0 mind scan ≡ Some w → LeavesWord line w (walk_of seat) (walk_of after) value
    → next ≡ scan_after line mind scan → more ≡ raised turns 1
    → Idles (node_of rails line seat scan log turns) (node_of rails line after next log more) value
idles rails line seat after mind scan next log turns more w value parts target look next_is raised_is =
    record {
      word = w;
      looks = looks rails line seat mind scan log turns w value parts target look.finds;
      none = look.none;
      after = node_same _ _ _ _ _ _ _ _ _ _ _ look.walk (gone line (walk_of seat) mind scan next parts.whole.mind_is next_is) refl raised_is;
    }

pub moves : (rails : Rails) (line : Tables) (seat after : NodeSeat) (mind made : Mind) (scan next : ℕ) (log more_log : Record) (turns more w : ℕ) (e : Event)
    → Parts rails line seat mind scan log
    → target_of line (walk_of seat).node.0 mind scan ≡ Some w → ChangesWord line w (walk_of seat) (walk_of after) e made
    → next ≡ scan_after line mind scan → more_log ≡ pushed log e → more ≡ raised turns 1
    → Moves (node_of rails line seat scan log turns) (node_of rails line after next more_log more) e
moves rails line seat after mind made scan next log more_log turns more w e parts target look next_is log_is raised_is =
    record {
      word = w;
      value = look.value;
      payload = look.payload;
      mind = made;
      looks = looks rails line seat mind scan log turns w look.value parts target look.finds;
      step = look.step;
      event = look.event;
      after = node_same _ _ _ _ _ _ _ _ _ _ _ look.walk (gone line (walk_of seat) mind scan next parts.whole.mind_is next_is) log_is raised_is;
    }

-- whatever a turn comes to
pub turn_number : (old new : Node) (answer : Turn) → IsTurn old new answer → number new ≡ number old
turn_number old new (Moved e) is = rw is.after refl
turn_number old new (Idle value) is = rw is.after refl
turn_number old new Rest is = rw is.2 refl
turn_number old new Full is = rw is.1 refl

pub turn_home : (old new : Node) (answer : Turn) → IsTurn old new answer → IsHome old new
turn_home old new (Moved e) is = rw is.after record { rails = refl; line = refl; tries = refl; limit = refl }
turn_home old new (Idle value) is = rw is.after record { rails = refl; line = refl; tries = refl; limit = refl }
turn_home old new Rest is = rw is.2 record { rails = refl; line = refl; tries = refl; limit = refl }
turn_home old new Full is = rw is.1 record { rails = refl; line = refl; tries = refl; limit = refl }

pub turn_counts : (old new : Node) (answer : Turn) → IsTurn old new answer → turns_of new ≡ raised (turns_of old) 1
turn_counts old new (Moved e) is = rw is.after refl
turn_counts old new (Idle value) is = rw is.after refl
turn_counts old new Rest is = rw is.2 refl
turn_counts old new Full is = rw is.1 refl

less_ready : (old new : Node) (n : ℕ) → new.log ≡ old.log → IsReady n old → IsReady (n - 1) new
less_ready old new n same ready = rw same (omega (arith, ready))

pub turn_ready : (old new : Node) (answer : Turn) → IsTurn old new answer → (n : ℕ) → 1 ≤ n → IsReady n old → IsReady (n - 1) new
turn_ready old new (Moved e) is n some ready =
    let longer : length (old.log.events ++ e ∷ []) ≡ length old.log.events + 1 = length-append old.log.events (e ∷ []) in
    rw is.after (omega (arith, ready, some, longer, is.looks.at_work.room))
turn_ready old new (Idle value) is n some ready = less_ready old new n (ap (λ (x : Node). x.log) is.after) ready
turn_ready old new Rest is n some ready = less_ready old new n (ap (λ (x : Node). x.log) is.2) ready
turn_ready old new Full is n some ready = less_ready old new n (ap (λ (x : Node). x.log) is.1) ready
