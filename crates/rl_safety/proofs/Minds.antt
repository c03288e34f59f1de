-- The minds of a state after an event: the new one at its node, and the old one at every other.
use Rattle.std.proofs.Common.{◌≡◌, ◌⊎◌, ℕ, ◌<◌, ◌≤◌, nat_lt, true, false, Some, refl, sym, ap, ◌∙◌, inl, inr, arith}
use Rattle.std.proofs.Math.Path.{fun_ext}
use Rattle.std.proofs.lemmas.Bool.{cases_eq, cases_lt, ne_eqb}
use Rattle.std.proofs.lemmas.Bool.Decides.{nat_tests}
use Rattle.rl_base.specs.declared.ids.BoxId.{BoxId}
use Rattle.rl_base.specs.declared.ids.TrainId.{TrainId}
use Rattle.rl_base.specs.declared.layout.NodeKind.{NodeKind}
use Rattle.rl_base.specs.declared.layout.NodeKind.TheVariants as nodes
use Rattle.rl_base.specs.Layout.{node_number, HasNode}
use Rattle.rl_record.specs.declared.event.Event.{Event}
use Rattle.rl_tables.specs.declared.table.Tables.{Tables}
use Rattle.rl_tables.specs.Starts.{layout_of}
use Rattle.rl_train.specs.declared.mind.TrainMind.{TrainMind}
use Rattle.rl_box.specs.declared.mind.BoxMind.{BoxMind}
use Rattle.rl_track.specs.declared.track.TrackMind.{TrackMind}
use Rattle.rl_steps.specs.declared.mind.Mind.{Mind}
use Rattle.rl_steps.specs.declared.mind.Mind.TheVariants.{Train, Track, Box}
use Rattle.rl_steps.specs.Numbers.{node_at, train, box}
use Rattle.rl_steps.specs.State as states
use Rattle.rl_steps.specs.State.{CoreState, after, mind_after}
use Rattle.rl_steps.proofs.Numbering.{node_at-number, node_at-some}
use Rattle.rl_protocol.specs.State.{put}
use Rattle.rl_safety.specs.Reading.{train_of, track_of, box_of}

put_same : {A : Type 0} (f : ℕ → A) (n : ℕ) (v : A) → states.with_value f n v n ≡ v
put_same f n v = grind (arith, nat_tests)

put_other : {A : Type 0} (f : ℕ → A) (n : ℕ) (v : A) (m : ℕ) → (m ≡ n → ⊥) → states.with_value f n v m ≡ f m
put_other f n v m other = rw (ne_eqb m n other) refl

set_same : {A : Type 0} (f : ℕ → A) (n : ℕ) (v : A) → put f n v n ≡ v
set_same f n v = grind (arith, nat_tests)

set_other : {A : Type 0} (f : ℕ → A) (n : ℕ) (v : A) (m : ℕ) → (m ≡ n → ⊥) → put f n v m ≡ f m
set_other f n v m other = rw (ne_eqb m n other) refl

-- the node of the event, and its new mind
pub record IsBy (tables : Tables) (c : CoreState) (e : Event) (node : NodeKind) (mind : Mind) : Type 0 where
  pub at : node_at (layout_of tables) e.node.0 ≡ Some node
  pub mind_is : mind_after tables c e ≡ mind

mind_new : (tables : Tables) (c : CoreState) (e : Event) (node : NodeKind) (mind : Mind) → IsBy tables c e node mind
    → (after tables c e).minds (node_number (layout_of tables) node) ≡ mind
mind_new tables c e node mind by =
    let is = node_at-some (layout_of tables) e.node.0 node by.at in
    rw (is.1, put_same c.minds e.node.0 (mind_after tables c e)) by.mind_is

mind_kept : (tables : Tables) (c : CoreState) (e : Event) (node other : NodeKind) (mind : Mind) → IsBy tables c e node mind
    → HasNode (layout_of tables) other → (other ≡ node → ⊥)
    → (after tables c e).minds (node_number (layout_of tables) other) ≡ c.minds (node_number (layout_of tables) other)
mind_kept tables c e node other mind by there differ =
    let apart : node_number (layout_of tables) other ≡ e.node.0 → ⊥ = λ same.
    let mine : node_at (layout_of tables) (node_number (layout_of tables) other) ≡ Some other = node_at-number (layout_of tables) other there in
    let his : node_at (layout_of tables) (node_number (layout_of tables) other) ≡ Some node = rw same by.at in
    differ (cc (mine, his)) in
    put_other c.minds e.node.0 (mind_after tables c e) (node_number (layout_of tables) other) apart

-- in range or not
within_or_not : (n k : ℕ) → ((nat_lt n k ≡ true) × (n < k)) ⊎ ((nat_lt n k ≡ false) × (k ≤ n))
within_or_not n k = elim (cases_lt n k) [ inl h ↦ inl (grind (arith, nat_tests), h) | inr h ↦ inr (grind (arith, nat_tests), h) ]

pub trains_kept : (tables : Tables) (tries : ℕ) (c : CoreState) (e : Event) (node : NodeKind) (mind : Mind) → IsBy tables c e node mind
    → ((t : TrainId) → nodes.Train t ≡ node → ⊥) → train_of tables tries (after tables c e) ≡ train_of tables tries c
trains_kept tables tries c e node mind by differ =
    fun_ext (λ u. elim (within_or_not u (layout_of tables).trains) [
      | inl there ↦ rw (there.0, mind_kept tables c e node (nodes.Train (train u)) mind by there.1 (differ (train u))) refl
      | inr past ↦ rw past.0 refl
    ])

pub trains_new : (tables : Tables) (tries : ℕ) (c : CoreState) (e : Event) (t : TrainId) (m : TrainMind) → IsBy tables c e (nodes.Train t) (Train m)
    → train_of tables tries (after tables c e) ≡ put (train_of tables tries c) t.0 m
trains_new tables tries c e t m by =
    fun_ext (λ u. elim (cases_eq u t.0) [
      | inl same ↦
          let there : t.0 < (layout_of tables).trains = (node_at-some (layout_of tables) e.node.0 (nodes.Train t) by.at).0 in
          let test : nat_lt t.0 (layout_of tables).trains ≡ true = grind (arith, nat_tests) in
          let here : train_of tables tries (after tables c e) t.0 ≡ m = rw (test, mind_new tables c e (nodes.Train t) (Train m) by) refl in
          rw same (here ∙ sym (set_same (train_of tables tries c) t.0 m))
      | inr other ↦
          elim (within_or_not u (layout_of tables).trains) [
            | inl there ↦
                let apart : nodes.Train (train u) ≡ nodes.Train t → ⊥ = λ same. other (train_number-same u t same) in
                rw (
                  set_other (train_of tables tries c) t.0 m u other,
                  there.0,
                  mind_kept tables c e (nodes.Train t) (nodes.Train (train u))
                      (Train m) by there.1 apart,
                ) refl
            | inr past ↦ rw (set_other (train_of tables tries c) t.0 m u other, past.0) refl
          ]
    ])
  where
    train_number-same : (u : ℕ) (t : TrainId) → nodes.Train (train u) ≡ nodes.Train t → u ≡ t.0
    train_number-same u t same = let ids : train u ≡ t = cc in ap (λ (x : TrainId). x.0) ids

pub tracks_kept : (tables : Tables) (c : CoreState) (e : Event) (node : NodeKind) (mind : Mind) → IsBy tables c e node mind
    → ((t : TrainId) → nodes.Track t ≡ node → ⊥) → track_of tables (after tables c e) ≡ track_of tables c
tracks_kept tables c e node mind by differ =
    fun_ext (λ u. elim (within_or_not u (layout_of tables).trains) [
      | inl there ↦ rw (there.0, mind_kept tables c e node (nodes.Track (train u)) mind by there.1 (differ (train u))) refl
      | inr past ↦ rw past.0 refl
    ])

pub tracks_new : (tables : Tables) (c : CoreState) (e : Event) (t : TrainId) (m : TrackMind) → IsBy tables c e (nodes.Track t) (Track m)
    → track_of tables (after tables c e) ≡ put (track_of tables c) t.0 m
tracks_new tables c e t m by =
    fun_ext (λ u. elim (cases_eq u t.0) [
      | inl same ↦
          let there : t.0 < (layout_of tables).trains = (node_at-some (layout_of tables) e.node.0 (nodes.Track t) by.at).0 in
          let test : nat_lt t.0 (layout_of tables).trains ≡ true = grind (arith, nat_tests) in
          let here : track_of tables (after tables c e) t.0 ≡ m = rw (test, mind_new tables c e (nodes.Track t) (Track m) by) refl in
          rw same (here ∙ sym (set_same (track_of tables c) t.0 m))
      | inr other ↦
          elim (within_or_not u (layout_of tables).trains) [
            | inl there ↦
                let apart : nodes.Track (train u) ≡ nodes.Track t → ⊥ = λ same. other (track_number-same u t same) in
                rw (
                  set_other (track_of tables c) t.0 m u other,
                  there.0,
                  mind_kept tables c e (nodes.Track t) (nodes.Track (train u))
                      (Track m) by there.1 apart,
                ) refl
            | inr past ↦ rw (set_other (track_of tables c) t.0 m u other, past.0) refl
          ]
    ])
  where
    track_number-same : (u : ℕ) (t : TrainId) → nodes.Track (train u) ≡ nodes.Track t → u ≡ t.0
    track_number-same u t same = let ids : train u ≡ t = cc in ap (λ (x : TrainId). x.0) ids

pub boxes_kept : (tables : Tables) (c : CoreState) (e : Event) (node : NodeKind) (mind : Mind) → IsBy tables c e node mind
    → ((b : BoxId) → nodes.Box b ≡ node → ⊥) → box_of tables (after tables c e) ≡ box_of tables c
boxes_kept tables c e node mind by differ =
    fun_ext (λ u. elim (within_or_not u (layout_of tables).boxes) [
      | inl there ↦ rw (there.0, mind_kept tables c e node (nodes.Box (box u)) mind by there.1 (differ (box u))) refl
      | inr past ↦ rw past.0 refl
    ])

pub boxes_new : (tables : Tables) (c : CoreState) (e : Event) (b : BoxId) (m : BoxMind) → IsBy tables c e (nodes.Box b) (Box m)
    → box_of tables (after tables c e) ≡ put (box_of tables c) b.0 m
boxes_new tables c e b m by =
    fun_ext (λ u. elim (cases_eq u b.0) [
      | inl same ↦
          let there : b.0 < (layout_of tables).boxes = (node_at-some (layout_of tables) e.node.0 (nodes.Box b) by.at).0 in
          let test : nat_lt b.0 (layout_of tables).boxes ≡ true = grind (arith, nat_tests) in
          let here : box_of tables (after tables c e) b.0 ≡ m = rw (test, mind_new tables c e (nodes.Box b) (Box m) by) refl in
          rw same (here ∙ sym (set_same (box_of tables c) b.0 m))
      | inr other ↦
          elim (within_or_not u (layout_of tables).boxes) [
            | inl there ↦
                let apart : nodes.Box (box u) ≡ nodes.Box b → ⊥ = λ same. other (box_number-same u b same) in
                rw (set_other (box_of tables c) b.0 m u other, there.0, mind_kept tables c e (nodes.Box b) (nodes.Box (box u)) (Box m) by there.1 apart) refl
            | inr past ↦ rw (set_other (box_of tables c) b.0 m u other, past.0) refl
          ]
    ])
  where
    box_number-same : (u : ℕ) (b : BoxId) → nodes.Box (box u) ≡ nodes.Box b → u ≡ b.0
    box_number-same u b same = let ids : box u ≡ b = cc in ap (λ (x : BoxId). x.0) ids
