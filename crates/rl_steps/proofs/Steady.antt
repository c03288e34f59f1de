-- A node that isn't a ready box looks at one word, wherever it scans, and has a step there alone.
use Rattle.std.proofs.Common.{◌≡◌, ℕ, false, Option, Some, None, option_map, option_and_then, slice_get, refl, ap, ◌∙◌}
use Rattle.rl_base.specs.declared.layout.Layout.{Layout}
use Rattle.rl_base.specs.declared.layout.NodeKind.{NodeKind}
use Rattle.rl_base.specs.declared.layout.NodeKind.TheVariants as nodes
use Rattle.rl_base.specs.Layout.{word_number}
use Rattle.rl_tables.specs.declared.table.Tables.{Tables}
use Rattle.rl_tables.specs.declared.table.BoxTable.{BoxTable}
use Rattle.rl_tables.specs.Starts.{layout_of}
use Rattle.rl_box.specs.declared.mind.BoxMind.{BoxMind}
use Rattle.rl_box.specs.declared.mind.Work.{Work}
use Rattle.rl_box.specs.declared.mind.Work.TheVariants.{Ready, Serve, Say}
use Rattle.rl_box.specs.Steps.{box_target, work_target}
use Rattle.rl_steps.specs.declared.mind.Mind.{Mind}
use Rattle.rl_steps.specs.declared.mind.Mind.TheVariants.{Train, Track, Box, Machine}
use Rattle.rl_steps.specs.Numbers.{node_at}
use Rattle.rl_steps.specs.Step.{node_step, target_kind, target_of, has_nothing, is_ready, LooksAt}

steady_work : (lay : Layout) (x : BoxTable) (work : Work) (one other : ℕ) → has_nothing work ≡ false → work_target lay x work one ≡ work_target lay x work other
steady_work lay x Ready one other is = absurd (cc)
steady_work lay x (Serve t l) one other is = refl
steady_work lay x (Say t l answer) one other is = refl

steady_box : (lay : Layout) (o : Option BoxTable) (m : BoxMind) (one other : ℕ) → has_nothing m.work ≡ false
    → option_map (λ (x : BoxTable). box_target lay x m one) o ≡ option_map (λ (x : BoxTable). box_target lay x m other) o
steady_box lay None m one other is = refl
steady_box lay (Some x) m one other is = ap Some (steady_work lay x m.work one other is)

steady_kind : (tables : Tables) (node : NodeKind) (mind : Mind) (one other : ℕ) → is_ready mind ≡ false
    → target_kind tables node mind one ≡ target_kind tables node mind other
steady_kind tables (nodes.Train t) (Train m) one other is = refl
steady_kind tables (nodes.Train t) (Track m) one other is = refl
steady_kind tables (nodes.Train t) (Box m) one other is = refl
steady_kind tables (nodes.Train t) (Machine m) one other is = refl
steady_kind tables (nodes.Track t) (Train m) one other is = refl
steady_kind tables (nodes.Track t) (Track m) one other is = refl
steady_kind tables (nodes.Track t) (Box m) one other is = refl
steady_kind tables (nodes.Track t) (Machine m) one other is = refl
steady_kind tables (nodes.Box b) (Train m) one other is = refl
steady_kind tables (nodes.Box b) (Track m) one other is = refl
steady_kind tables (nodes.Box b) (Box m) one other is = steady_box (layout_of tables) (slice_get tables.boxes b.0) m one other is
steady_kind tables (nodes.Box b) (Machine m) one other is = refl
steady_kind tables (nodes.Machine b) (Train m) one other is = refl
steady_kind tables (nodes.Machine b) (Track m) one other is = refl
steady_kind tables (nodes.Machine b) (Box m) one other is = refl
steady_kind tables (nodes.Machine b) (Machine m) one other is = refl

pub steady : (tables : Tables) (n : ℕ) (mind : Mind) (one other : ℕ) → is_ready mind ≡ false → target_of tables n mind one ≡ target_of tables n mind other
steady tables n mind one other is = by (node_at (layout_of tables) n)
  where
    by : (o : Option NodeKind)
        → option_and_then (λ node. option_map (word_number (layout_of tables)) (target_kind tables node mind one)) o
        ≡ option_and_then (λ node. option_map (word_number (layout_of tables)) (target_kind tables node mind other)) o
    by None = refl
    by (Some node) = ap (option_map (word_number (layout_of tables))) (steady_kind tables node mind one other is)

none_unless : {A : Type 0} (o : Option A) → ((a : A) → o ≡ Some a → ⊥) → o ≡ None
none_unless None h = refl
none_unless (Some a) h = absurd (h a refl)

-- no step at another word than the target
pub elsewhere : (tables : Tables) (n w payload scan : ℕ) (mind : Mind)
    → ((new : ℕ) (after : Mind) → node_step tables n mind w payload ≡ Some (new, after) → LooksAt tables n mind w) → is_ready mind ≡ false
    → (target_of tables n mind scan ≡ Some w → ⊥) → node_step tables n mind w payload ≡ None
elsewhere tables n w payload scan mind law unready other =
    none_unless (node_step tables n mind w payload)
    (λ r is. let looks = law r.0 r.1 is in other (steady tables n mind scan looks.scan unready ∙ looks.target))
