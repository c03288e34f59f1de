-- A word that one node alone may change has what this node wrote last.
use Rattle.std.proofs.Common.{◌≡◌, ℕ, List, [], ◌∷◌, slice_get, Option, Some, sym, ap, ◌∙◌, subst, inl}
use Rattle.std.proofs.Common.{inr, arith}
use Rattle.std.specs.Option.{option_map_or}
use Rattle.std.proofs.lemmas.Bool.{cases_eq}
use Rattle.rl_base.specs.declared.ids.BoxId.{BoxId}
use Rattle.rl_base.specs.declared.layout.Layout.{Layout}
use Rattle.rl_base.specs.declared.layout.NodeKind.{NodeKind}
use Rattle.rl_base.specs.declared.layout.NodeKind.TheVariants as nodes
use Rattle.rl_base.specs.declared.layout.WordKind.{WordKind}
use Rattle.rl_base.specs.declared.layout.WordKind.TheVariants as words
use Rattle.rl_base.specs.Layout.{HasWord, word_number, node_number}
use Rattle.rl_words.specs.Owner.{Owns, MayChange}
use Rattle.rl_words.specs.Stamps.{payload_in}
use Rattle.rl_record.specs.declared.event.Event.{Event}
use Rattle.rl_record.specs.Merge.{history}
use Rattle.rl_tables.specs.declared.table.Tables.{Tables}
use Rattle.rl_tables.specs.Starts.{layout_of}
use Rattle.rl_steps.specs.Run.{state}
use Rattle.rl_steps.specs.State.{start_word}
use Rattle.rl_rule.specs.Loads.{last_on, IsAlone, last_value}
use Rattle.rl_rule.proofs.Histories.{history_own, history_other, last_here, last_there}
use Rattle.rl_rule.proofs.Known.{Laws}
use Rattle.rl_rule.proofs.Tellings.{event_owned}
use Rattle.rl_rule.proofs.Runs.{Runs, earlier, word_after, word_before, start_value}

written_last : (tables : Tables) (f : Event) (log : List Event) (n w : ℕ) → f.node.0 ≡ n → f.word.0 ≡ w → last_value tables (history n (f ∷ log)) w ≡ f.now
written_last tables f log n w own here =
    ap (λ (o : Option Event). option_map_or (λ e. e.now) o (start_word tables w))
    (ap (last_on w) (history_own n f log own) ∙ last_here w f (history n log) here)

written_before : (tables : Tables) (f : Event) (log : List Event) (n w : ℕ) → (f.word.0 ≡ w → ⊥) →
    last_value tables (history n (f ∷ log)) w ≡ last_value tables (history n log) w
written_before tables f log n w away =
    elim (cases_eq f.node.0 n) [
      | inl own ↦
          ap (λ (o : Option Event). option_map_or (λ e. e.now) o (start_word tables w))
          (ap (last_on w) (history_own n f log own) ∙ last_there w f (history n log) away)
      | inr other ↦ ap (λ (h : List Event). last_value tables h w) (history_other n f log other)
    ]

pub alone_value : Laws → (tables : Tables) (tries : ℕ) (log : List Event) (n w v : ℕ) → Runs tables tries log → IsAlone tables w n →
    slice_get (state tables tries log).words w ≡ Some v → v ≡ last_value tables (history n log) w
alone_value laws tables tries [] n w v runs alone word = start_value tables tries w v word
alone_value laws tables tries (f ∷ log) n w v runs alone word =
    elim (cases_eq w f.word.0) [
      | inl here ↦
          let owned : Owns (layout_of tables) f.word.0 (payload_in f.was) f.node.0 =
          event_owned laws tables tries f log runs.line runs.few (omega (arith, runs.room)) runs.run in
          let own : f.node.0 ≡ n =
          alone (payload_in f.was) f.node.0 (subst (λ (k : ℕ). Owns (layout_of tables) k (payload_in f.was) f.node.0) (sym here) owned) in
          word_after tables tries f log w v runs here word ∙ sym (written_last tables f log n w own (sym here))
      | inr away ↦
          alone_value laws tables tries log n w v (earlier tables tries f log runs) alone (word_before tables tries f log w v away word)
          ∙ sym (written_before tables f log n w (λ same. away (sym same)))
    ]

-- a box alone may change its reservations
box_alone : (b : BoxId) (payload : ℕ) (kind : WordKind) (node : NodeKind) → kind ≡ words.Resv b → MayChange kind payload node → node ≡ nodes.Box b
box_alone b payload kind node same changes = (subst (λ (k : WordKind). MayChange k payload node) same changes).3

pub boxes_alone : ((lay : Layout) (j k : WordKind) → HasWord lay j → HasWord lay k → word_number lay j ≡ word_number lay k → j ≡ k) →
    (tables : Tables) (b : BoxId) → HasWord (layout_of tables) (words.Resv b) →
    IsAlone tables (word_number (layout_of tables) (words.Resv b)) (node_number (layout_of tables) (nodes.Box b))
boxes_alone one tables b there payload m owns =
    let kind : owns.word ≡ words.Resv b = one (layout_of tables) owns.word (words.Resv b) owns.has_word there owns.word_is in
    sym owns.node_is ∙ ap (node_number (layout_of tables)) (box_alone b payload owns.word owns.node kind owns.changes)
