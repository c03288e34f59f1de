-- What a network text is, in plain sentences: the text of an accepted network, or of which refusal.
use Rattle.std.specs.Prelude.{◌≡◌, ℕ, List, Ok, Err}
use Rattle.rl_base.specs.declared.place.Place.{Place}
use Rattle.rl_base.specs.declared.draft.Draft.{Draft}
use Rattle.rl_syntax.specs.declared.refusal.SyntaxRefusal.{SyntaxRefusal}
use Rattle.rl_syntax.specs.Meaning.{Means}
use Rattle.rl_syntax.specs.SyntaxRefusals.{refusal_number, refusal_place}
use Rattle.rl_model.specs.declared.network.NetworkPlan.{NetworkPlan}
use Rattle.rl_drafts.specs.Drafts.{network_of}
use Rattle.rl_drafts.specs.Refusals.{IsAccepted, IsFirstRefusal}
use Rattle.relis.specs.declared.status.Status.{Status}
use Rattle.relis.specs.declared.status.Status.TheVariants as status

-- the text says a draft that breaks no rule, and the network is the draft's
pub record IsAcceptedAs (text : List ℕ) (net : NetworkPlan) : Type 0 where
  pub draft : Draft
  pub says : Means text (Ok draft)
  pub accepted : IsAccepted draft
  pub network : net ≡ network_of draft

-- the number and the place are those of the text's first refusal: the text says no draft, or a draft that breaks a rule
pub data IsRefusedAs (text : List ℕ) : ℕ → Place → Type 0 where
  unread : (r : SyntaxRefusal) → Means text (Err r) → IsRefusedAs text (refusal_number r) (refusal_place r)
  broken : (d : Draft) (n : ℕ) (p : Place) → Means text (Ok d) → IsFirstRefusal d n p → IsRefusedAs text n p

-- the status is that of the first refusal of the text; want of memory says nothing of it
abbrev pub IsRefusalOf : List ℕ → Status → Type 0
IsRefusalOf text (status.Refused number place) = IsRefusedAs text number place
IsRefusalOf text status.NoMemory = Unit {0}
IsRefusalOf text answer = ⊥
