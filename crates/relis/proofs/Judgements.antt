-- What a network text is, as a search: an accepted text has one network, a refused one has one first refusal, and no text
-- is both.
use Rattle.std.proofs.Common.{◌≡◌, ℕ, List, Option, Some, None, Result, Ok, Err, sym, subst, ap, ◌∙◌}
use Rattle.rl_base.specs.declared.place.Place.{Place}
use Rattle.rl_base.specs.declared.draft.Draft.{Draft}
use Rattle.rl_syntax.specs.declared.refusal.SyntaxRefusal.{SyntaxRefusal}
use Rattle.rl_syntax.specs.Answer.{answer_to}
use Rattle.rl_syntax.specs.Meaning.{Means}
use Rattle.rl_syntax.specs.SyntaxRefusals.{refusal_number, refusal_place}
use Rattle.rl_syntax.proofs.Meant.{answer_to-from_means}
use Rattle.rl_model.specs.declared.network.NetworkPlan.{NetworkPlan}
use Rattle.rl_drafts.specs.Search.{Refusal, first_refusal}
use Rattle.rl_model.specs.Network.{IsNetwork}
use Rattle.rl_drafts.specs.Drafts.{network_of}
use Rattle.rl_drafts.proofs.Networks as networks
use Rattle.rl_drafts.proofs.Refusals.{first_refusal-found, first_refusal-accepted}
use Rattle.relis.specs.Networks.{IsAcceptedAs, IsRefusedAs, unread, broken}
use Rattle.relis.specs.declared.status.Status.{Status}
use Rattle.relis.specs.declared.status.Status.TheVariants as status

-- the answer to a draft, unless a rule is broken
abbrev pub unless_broken : Option Refusal → Status
unless_broken None = status.Done
unless_broken (Some r) = status.Refused r.number r.place

abbrev pub judged_answer : Result Draft SyntaxRefusal → Status
judged_answer (Ok d) = unless_broken (first_refusal d)
judged_answer (Err refusal) = status.Refused (refusal_number refusal) (refusal_place refusal)

-- the answer to an order on a network text, where nothing fails
abbrev pub judged : List ℕ → Status
judged text = judged_answer (answer_to text)

-- the judgement of a text whose draft is known
judged_draft : (text : List ℕ) (d : Draft) (o : Option Refusal) → Means text (Ok d) → first_refusal d ≡ o → judged text ≡ unless_broken o
judged_draft text d o says first = ap judged_answer (answer_to-from_means text (Ok d) says) ∙ ap unless_broken first

pub judged-accepted : (text : List ℕ) (net : NetworkPlan) → IsAcceptedAs text net → judged text ≡ status.Done
judged-accepted text net h = judged_draft text h.draft None h.says (first_refusal-accepted h.draft h.accepted)

pub judged-refused : (text : List ℕ) (n : ℕ) (p : Place) → IsRefusedAs text n p → judged text ≡ status.Refused n p
judged-refused text n p (unread r means) = ap judged_answer (answer_to-from_means text (Err r) means)
judged-refused text n p (broken d m q says first) =
    judged_draft text d (Some (record { number = m; place = q })) says (first_refusal-found d (record { number = m; place = q }) first)

-- an accepted text is that of a network
pub IsNetwork-accepted : (text : List ℕ) (net : NetworkPlan) → IsAcceptedAs text net → IsNetwork net
IsNetwork-accepted text net h =
    subst IsNetwork (sym h.network) (networks.IsNetwork-accepted h.draft h.says.3 (first_refusal-accepted h.draft h.accepted))

same_ok : (r : Result Draft SyntaxRefusal) (d e : Draft) → r ≡ Ok d → r ≡ Ok e → d ≡ e
same_ok r d e one other = cc

-- of one network
pub same_network : (text : List ℕ) (net other : NetworkPlan) → IsAcceptedAs text net → IsAcceptedAs text other → net ≡ other
same_network text net other h k =
    h.network
    ∙ ap network_of (same_ok (answer_to text) h.draft k.draft (answer_to-from_means text (Ok h.draft) h.says) (answer_to-from_means text (Ok k.draft) k.says))
    ∙ sym k.network
