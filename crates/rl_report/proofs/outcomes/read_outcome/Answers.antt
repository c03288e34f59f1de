use Rattle.std.proofs.Common.{Option, Some, None, IfSome, IfNone, ℕ, List, ◌≡◌, ◌≢◌, ◌∙◌, sym}
use Rattle.rl_base.specs.declared.ids.TrainId.{TrainId}
use Rattle.rl_text.specs.Words.{words_of}
use Rattle.rl_model.specs.declared.network.NetworkPlan.{NetworkPlan}
use Rattle.rl_model.specs.declared.report.Outcome.{Outcome}
use Rattle.rl_model.specs.Network.{IsTrainOf}
use Rattle.rl_model.specs.Network.{IsNetwork}
use Rattle.rl_report.specs.Words.{IsCount, outcome_words}
use Rattle.rl_report.specs.Grammar.{IsOutcomeLine}
use Rattle.rl_report.proofs.ReadLines.{outcome_line_from_words, words_from_outcome_line}
use Rattle.rl_report.proofs.outcomes.read_outcome.Goals as goal

some : (net : NetworkPlan) (text : List ℕ) (words : List (List ℕ)) (result : Option (TrainId × Outcome)) → words ≡ words_of text
    → IfSome result (λ x. IsTrainOf net x.0 × IsCount x.1.made × IsCount x.1.refused × (words ≡ outcome_words net x.0.0 x.1))
    → IfSome result (λ x. IsOutcomeLine net text x.0.0 x.1)
some net text words None e h = tt
some net text words (Some x) e h = outcome_line_from_words net text x.0.0 x.1 h.0 h.1 h.2 (sym e ∙ h.3)

none : (net : NetworkPlan) (text : List ℕ) (words : List (List ℕ)) (result : Option (TrainId × Outcome)) → IsNetwork net → words ≡ words_of text
    → IfNone result ((t : TrainId) (o : Outcome) → IsTrainOf net t → IsCount o.made → IsCount o.refused → words ≢ outcome_words net t.0 o)
    → IfNone result ((t : TrainId) (o : Outcome) → IsOutcomeLine net text t.0 o → ⊥)
none net text words None network e h = λ t o is. h t o is.train is.made is.refused (e ∙ words_from_outcome_line net text t.0 o network is)
none net text words (Some x) network e h = tt

pub returns-clause-some : goal.returns-clause-some
returns-clause-some c = some c.args.net.now c.args.line.now c.new.result c.read_outcome_words.result c.new.ensures c.read_outcome_words.ensures.some

pub returns-clause-none : goal.returns-clause-none
returns-clause-none c = none c.args.net.now c.args.line.now c.new.result c.read_outcome_words.result c.accepted.ensures c.new.ensures
    c.read_outcome_words.ensures.none
