use Rattle.std.proofs.Common.{◌≡◌, ◌≢◌, ℕ, List, [], ◌∷◌, Option, Some, None, IfNone}
use Rattle.rl_base.specs.declared.ids.SegId.{SegId}
use Rattle.rl_model.specs.declared.network.NetworkPlan.{NetworkPlan}
use Rattle.rl_model.specs.Network.{IsSegmentOf}
use Rattle.rl_model.specs.Network.{segment_name}
use Rattle.rl_report.proofs.forms.segments.Goals as goal

-- where the second word is no segment, the words aren't two segments
no_second : (net : NetworkPlan) (words rest : List (List ℕ)) (first : List ℕ) (o : Option (SegId × SegId)) → words ≡ first ∷ rest
    → ((s : SegId) (more : List (List ℕ)) → IsSegmentOf net s → rest ≢ segment_name net s.0 ∷ more)
    → IfNone o ((s : SegId) (s2 : SegId) → IsSegmentOf net s → IsSegmentOf net s2 → words ≢ segment_name net s.0 ∷ segment_name net s2.0 ∷ [])
no_second net words rest first None e none = λ s s2 from to is. none s2 [] to (cc)
no_second net words rest first (Some x) e none = tt

pub returns-in_err-s2-clause-none : goal.returns-in_err-s2-clause-none
returns-in_err-s2-clause-none c = no_second c.args.net.now _ _ _ _ c.in_ok-s.ensures.some.1 c.in_err-s2.ensures.none
