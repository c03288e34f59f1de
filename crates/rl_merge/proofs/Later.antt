-- Stamps follow cause: a later event of the same node, or on the same word, has a greater stamp.
use Rattle.std.proofs.Common.{◌≡◌, ℕ, suc, ◌<◌, ◌≤◌, max, List, ◌∷◌, length, slice_get, slice_set, Some, sym, ap, ◌∙◌, subst, arith}
use Rattle.rl_base.specs.Numbers.{IsU32}
use Rattle.rl_base.specs.Tries.{AreFewTries}
use Rattle.rl_base.specs.declared.layout.NodeKind.{NodeKind}
use Rattle.rl_record.specs.declared.event.Event.{Event}
use Rattle.rl_words.specs.Owner.{Owns}
use Rattle.rl_words.specs.Stamps.{stamp_in, payload_in, stamped}
use Rattle.rl_tables.specs.declared.table.Tables.{Tables}
use Rattle.rl_tables.specs.Kept.{IsLine}
use Rattle.rl_tables.specs.Starts.{layout_of}
use Rattle.rl_steps.specs.declared.mind.Mind.{Mind}
use Rattle.rl_steps.specs.Numbers.{node_at}
use Rattle.rl_steps.specs.Step.{node_step}
use Rattle.rl_steps.specs.State.{CoreState, after, with_value}
use Rattle.rl_steps.specs.Run.{IsRun, state}
use Rattle.rl_steps.specs.Sound.{IsMindOf, IsSound}
use Rattle.rl_steps.proofs.Made.{IsMade, fits_made}
use Rattle.rl_steps.proofs.Options.{get_set_same, same_some}
use Rattle.rl_merge.proofs.Exchange.{Apart, put_same}

-- what the proofs here use of runs, steps and words
pub record Laws : Type 0 where
  pub sound : (tables : Tables) (tries : ℕ) (events : List Event) → IsLine tables → AreFewTries tries → IsU32 (length events)
      → IsRun tables tries events → IsSound tables (length events) (state tables tries events)
  pub steps : (tables : Tables) (n w payload new : ℕ) (mind after : Mind) → IsLine tables
      → ((node : NodeKind) → node_at (layout_of tables) n ≡ Some node → IsMindOf tables node mind)
      → node_step tables n mind w payload ≡ Some (new, after) → Owns (layout_of tables) w payload n × IsU32 new
  pub stamp : (stamp payload : ℕ) → IsU32 stamp → IsU32 payload → stamp_in (stamped stamp payload) ≡ stamp

-- the event stands first in a run, and another can be made behind it
pub record Follows (tables : Tables) (tries : ℕ) (f : Event) (earlier : List Event) (e : Event) : Type 0 where
  pub line : IsLine tables
  pub few : AreFewTries tries
  pub room : IsU32 (length (f ∷ earlier))
  pub run : IsRun tables tries (f ∷ earlier)
  pub made : IsMade tables (state tables tries (f ∷ earlier)) e

same_node : (tables : Tables) (c : CoreState) (f e : Event) → IsMade tables (after tables c f) e → e.node.0 ≡ f.node.0 → f.stamp < e.stamp
same_node tables c f e made same =
    let Clock : ℕ → Type 0 = λ n. with_value c.clocks f.node.0 f.stamp n ≡ f.stamp in
    let clock : with_value c.clocks f.node.0 f.stamp e.node.0 ≡ f.stamp = subst Clock (sym same) (put_same c.clocks f.node.0 f.stamp) in
    let stamp : e.stamp ≡ suc (max (with_value c.clocks f.node.0 f.stamp e.node.0) (stamp_in e.was)) = made.stamp in
    omega arith

same_word : (tables : Tables) (c : CoreState) (f e : Event) → IsMade tables c f → stamp_in f.now ≡ f.stamp
    → IsMade tables (after tables c f) e → e.word.0 ≡ f.word.0 → f.stamp < e.stamp
same_word tables c f e first now made same =
    let At : ℕ → Type 0 = λ w. slice_get (slice_set c.words f.word.0 f.now) w ≡ Some f.now in
    let at : slice_get (slice_set c.words f.word.0 f.now) e.word.0 ≡ Some f.now =
    subst At (sym same) (get_set_same c.words f.word.0 f.was f.now first.was) in
    let was : e.was ≡ f.now = same_some (slice_get (slice_set c.words f.word.0 f.now) e.word.0) e.was f.now made.was at in
    let before : stamp_in e.was ≡ f.stamp = ap stamp_in was ∙ now in
    let stamp : e.stamp ≡ suc (max ((after tables c f).clocks e.node.0) (stamp_in e.was)) = made.stamp in
    omega arith

-- an event's word has its stamp
pub own_stamp : Laws → (tables : Tables) (tries : ℕ) (f : Event) (earlier : List Event) → IsLine tables → AreFewTries tries
    → IsU32 (length (f ∷ earlier)) → IsRun tables tries (f ∷ earlier) → stamp_in f.now ≡ f.stamp
own_stamp laws tables tries f earlier line few room run =
    let c = state tables tries earlier in
    let first = fits_made tables c f run.1 in
    let before = laws.sound tables tries earlier line few (omega arith) run.0 in
    let behind = laws.sound tables tries (f ∷ earlier) line few room run in
    let clock : with_value c.clocks f.node.0 f.stamp f.node.0 ≤ length (f ∷ earlier) = behind.clocks f.node.0 in
    let is : with_value c.clocks f.node.0 f.stamp f.node.0 ≡ f.stamp = put_same c.clocks f.node.0 f.stamp in
    let kept = laws.steps tables f.node.0 f.word.0 (payload_in f.was) first.made.0 (c.minds f.node.0) first.made.1
    line (before.minds f.node.0) first.step in
    ap stamp_in first.now ∙ laws.stamp f.stamp first.made.0 (omega arith) kept.1

-- so an event whose stamp isn't greater is of another node, on another word
pub apart : Laws → (tables : Tables) (tries : ℕ) (f : Event) (earlier : List Event) (e : Event)
    → Follows tables tries f earlier e → e.stamp ≤ f.stamp → Apart e f
apart laws tables tries f earlier e follows no_later =
    let c = state tables tries earlier in
    let first = fits_made tables c f follows.run.1 in
    let now = own_stamp laws tables tries f earlier follows.line follows.few follows.room follows.run in
    record {
      nodes = λ same. let later : f.stamp < e.stamp = same_node tables c f e follows.made same in omega arith;
      words = λ same. let later : f.stamp < e.stamp = same_word tables c f e first now follows.made same in omega arith;
    }
