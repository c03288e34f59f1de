-- The step of a node on any word: none but at the words at which it looks, and there what its mind's own call answers.
use Rattle.std.proofs.Common.{◌≡◌, ℕ, ◌<◌, Option, Some, None, option_and_then, slice_get, refl, sym, ap, ◌∙◌, arith}
use Rattle.std.proofs.lemmas.Bool.Decides.{nat_tests}
use Rattle.rl_base.specs.declared.ids.BoxId.{BoxId}
use Rattle.rl_base.specs.declared.layout.Layout.{Layout}
use Rattle.rl_base.specs.declared.layout.NodeKind.{NodeKind}
use Rattle.rl_base.specs.declared.layout.NodeKind.TheVariants as nodes
use Rattle.rl_base.specs.declared.layout.WordKind.{WordKind}
use Rattle.rl_base.specs.Layout.{word_count, word_number, HasWord}
use Rattle.rl_tables.specs.declared.table.Tables.{Tables}
use Rattle.rl_tables.specs.declared.table.BoxTable.{BoxTable}
use Rattle.rl_tables.specs.Starts.{layout_of}
use Rattle.rl_box.specs.declared.mind.BoxMind.{BoxMind}
use Rattle.rl_box.specs.Steps.{box_step}
use Rattle.rl_steps.specs.declared.mind.Mind.{Mind}
use Rattle.rl_steps.specs.declared.mind.Mind.TheVariants.{Box}
use Rattle.rl_steps.specs.Numbers.{node_at, word_at}
use Rattle.rl_steps.specs.Step.{node_step, step_of, as_mind}
use Rattle.rl_steps.proofs.Numbering.{word_at-some}
use Rattle.rl_steps.proofs.Options.{from_then}
use Rattle.rl_steps.proofs.ByKind.{box_step_at}

none_unless : {A : Type 0} (o : Option A) → ((a : A) → o ≡ Some a → ⊥) → o ≡ None
none_unless None h = refl
none_unless (Some a) h = absurd (h a refl)

-- a word on which a node has a step is there, as its node is
step_word : (tables : Tables) (n w payload : ℕ) (mind : Mind) (r : ℕ × Mind) → node_step tables n mind w payload ≡ Some r
    → (kind : WordKind) × (word_at (layout_of tables) w ≡ Some kind)
unfolding node_step
step_word tables n w payload mind r is =
    let node = from_then (λ (node : NodeKind). option_and_then (λ (word : WordKind). step_of tables node mind word payload) (word_at (layout_of tables) w))
    (node_at (layout_of tables) n) r is in
    let word = from_then (λ (word : WordKind). step_of tables node.0 mind word payload) (word_at (layout_of tables) w) r node.2 in
    (word.0, word.1)

pub step_node : (tables : Tables) (n w payload : ℕ) (mind : Mind) (r : ℕ × Mind) → node_step tables n mind w payload ≡ Some r
    → (node : NodeKind) × (node_at (layout_of tables) n ≡ Some node)
unfolding node_step
step_node tables n w payload mind r is =
    let node = from_then (λ (node : NodeKind). option_and_then (λ (word : WordKind). step_of tables node mind word payload) (word_at (layout_of tables) w))
    (node_at (layout_of tables) n) r is in
    (node.0, node.1)

-- a box steps on any word of the line as its mind's own call says
word_there : (lay : Layout) (w : ℕ) → w < word_count lay → (kind : WordKind) × (word_at lay w ≡ Some kind)
word_there lay w within = by (word_at lay w) refl
  where
    nowhere : word_at lay w ≡ None → ⊥
    nowhere is = grind (arith, nat_tests)

    by : (o : Option WordKind) → word_at lay w ≡ o → (kind : WordKind) × (word_at lay w ≡ Some kind)
    by None is = absurd (nowhere is)
    by (Some kind) is = (kind, is)

pub box_on : (tables : Tables) (n w payload : ℕ) (b : BoxId) (x : BoxTable) (m : BoxMind) (result : Option (ℕ × BoxMind))
    → node_at (layout_of tables) n ≡ Some (nodes.Box b) → slice_get tables.boxes b.0 ≡ Some x → w < word_count (layout_of tables)
    → ((kind : WordKind) → HasWord (layout_of tables) kind → word_number (layout_of tables) kind ≡ w → result ≡ box_step x m kind payload)
    → node_step tables n (Box m) w payload ≡ as_mind Box result
box_on tables n w payload b x m result at there within is =
    let word = word_there (layout_of tables) w within in
    let found = word_at-some (layout_of tables) w word.0 word.1 in
    box_step_at tables n w payload b x m word.0 at there word.1 ∙ ap (as_mind Box) (sym (is word.0 found.0 found.1))
