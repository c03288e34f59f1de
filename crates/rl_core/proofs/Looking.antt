-- What the look at a target comes to.
use Rattle.std.proofs.Common.{◌≡◌, ap, ℕ, Option, Some, slice_get, subst}
use Rattle.rl_base.specs.declared.ids.BoxId.{BoxId}
use Rattle.rl_base.specs.declared.layout.NodeKind.TheVariants as nodes
use Rattle.rl_base.specs.declared.layout.WordKind.{WordKind}
use Rattle.rl_base.specs.Layout.{word_number, HasWord}
use Rattle.rl_words.specs.Stamps.{payload_in}
use Rattle.rl_tables.specs.declared.table.Tables.{Tables}
use Rattle.rl_tables.specs.declared.table.BoxTable.{BoxTable}
use Rattle.rl_tables.specs.Kept.{IsLine}
use Rattle.rl_tables.specs.Starts.{layout_of}
use Rattle.rl_box.specs.declared.mind.BoxMind.{BoxMind}
use Rattle.rl_box.specs.Mind.{IsBoxMind}
use Rattle.rl_box.specs.Steps.{box_step, box_target}
use Rattle.rl_steps.specs.declared.mind.Mind.{Mind}
use Rattle.rl_steps.specs.declared.mind.Mind.TheVariants.{Box}
use Rattle.rl_steps.specs.Numbers.{node_at}
use Rattle.rl_steps.specs.Sound.{IsSound, IsMindOf}
use Rattle.rl_steps.specs.Step.{node_step, as_mind, target_of}
use Rattle.rl_steps.specs.State.{CoreState}
use Rattle.rl_steps.proofs.FromCalls.{box_looks, box_acts}
use Rattle.rl_core.specs.Looks.{Sees}

-- a node that looks at a word, and what its step there comes to
pub record Looked (tables : Tables) (c : CoreState) (n scan w was : ℕ) (step : Option (ℕ × Mind)) : Type 0 where
  pub sees : Sees tables c n scan w was
  pub step_is : node_step tables n (c.minds n) w (payload_in was) ≡ step

pub looked : (tables : Tables) (c : CoreState) (n scan w was p : ℕ) (mind : Mind) (step : Option (ℕ × Mind)) → c.minds n ≡ mind
    → target_of tables n mind scan ≡ Some w → slice_get c.words w ≡ Some was → p ≡ payload_in was → node_step tables n mind w p ≡ step
    → Looked tables c n scan w was step
looked tables c n scan w was p mind step is target word payload acts =
    record { sees = record { target = rw is target; word = word }; step_is = rw (is, ← payload) acts }

-- a box, with a well-formed mind
pub box_looked : (tables : Tables) (c : CoreState) (n scan w was p : ℕ) (b : BoxId) (x : BoxTable) (m : BoxMind) (result : Option (ℕ × BoxMind))
    → IsLine tables → node_at (layout_of tables) n ≡ Some (nodes.Box b) → slice_get tables.boxes b.0 ≡ Some x → IsBoxMind (layout_of tables) x m
    → c.minds n ≡ Box m → w ≡ word_number (layout_of tables) (box_target (layout_of tables) x m scan) → slice_get c.words w ≡ Some was → p ≡ payload_in was
    → ((kind : WordKind) → HasWord (layout_of tables) kind → word_number (layout_of tables) kind ≡ w → result ≡ box_step x m kind p)
    → Looked tables c n scan w was (as_mind Box result)
box_looked tables c n scan w was p b x m result line at there sound is target word payload acts =
    looked tables c n scan w was p (Box m) (as_mind Box result) is (box_looks tables n scan w b x m at there target) word payload
    (box_acts tables n w p scan b x m result line at there sound target acts)

pub box_sound : (tables : Tables) (c : CoreState) (k n : ℕ) (b : BoxId) (x : BoxTable) (m : BoxMind) → IsSound tables k c
    → node_at (layout_of tables) n ≡ Some (nodes.Box b) → c.minds n ≡ Box m → slice_get tables.boxes b.0 ≡ Some x → IsBoxMind (layout_of tables) x m
box_sound tables c k n b x m sound at is there =
    let here : IsMindOf tables (nodes.Box b) (c.minds n) = sound.minds n (nodes.Box b) at in
    let P : Mind → Type 0 = λ mind. IsMindOf tables (nodes.Box b) mind in
    let mine : IsMindOf tables (nodes.Box b) (Box m) = subst P is here in
    mine x there

-- the box at a place of a line has its number
pub box_numbered : (tables : Tables) (b : BoxId) (x : BoxTable) → IsLine tables → slice_get tables.boxes b.0 ≡ Some x → x.number ≡ b
box_numbered tables b x line there =
    let id : ℕ → BoxId = λ n. record { 0 = n } in
    ap id (line.boxes b.0 x there).number
