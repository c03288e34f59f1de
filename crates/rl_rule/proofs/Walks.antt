-- What a node's seat keeps beside its view, after a load and after a step.
use Rattle.std.proofs.Common.{◌≡◌, ℕ, ◌<◌, ◌≤◌, Option, Some, None, refl, sym, ◌∙◌, subst}
use Rattle.rl_base.specs.declared.ids.NodeNo.{NodeNo}
use Rattle.rl_words.specs.Stamps.{stamp_in, stamped}
use Rattle.rl_tables.specs.declared.table.Tables.{Tables}
use Rattle.rl_steps.specs.declared.mind.Mind.{Mind}
use Rattle.rl_steps.specs.State.{next_stamp}
use Rattle.rl_rule.specs.declared.views.Load.{Load}
use Rattle.rl_rule.specs.declared.views.Walk.{Walk}
use Rattle.rl_rule.specs.Views.{event_by}
use Rattle.rl_rule.specs.Loads.{most_events}
use Rattle.rl_rule.specs.Plays.{IsStep}

pub same_load : (a b : Load) → Some a ≡ Some b → a ≡ b
same_load a b e = cc

pub no_load : (l : Load) → None ≡ Some l → ⊥
no_load l e = cc

pub stamp_fits : (load l : Load) → Some load ≡ Some l → stamp_in load.value ≤ most_events → stamp_in l.value ≤ most_events
stamp_fits load l same fits = subst (λ (x : Load). stamp_in x.value ≤ most_events) (same_load load l same) fits

pub word_there : (load l : Load) (words : ℕ) → Some load ≡ Some l → load.word.0 < words → l.word.0 < words
word_there load l words same there = subst (λ (x : Load). x.word.0 < words) (same_load load l same) there

-- the step is on the load that the seat has
pub step_here : (line : Tables) (walk : Walk) (known here : Load) (load : Option Load) (payload : ℕ) (mind : Mind) → walk.load ≡ load → load ≡ Some here →
    IsStep line walk known payload mind → IsStep line walk here payload mind
step_here line walk known here load payload mind same is step =
    subst (λ (l : Load). IsStep line walk l payload mind) (same_load known here (sym step.loaded ∙ (same ∙ is))) step

pub event_same : (walk : Walk) (load : Load) (node : NodeNo) (payload clock stamp now : ℕ) → walk.node ≡ node → walk.clock ≡ clock
    → stamp ≡ next_stamp clock load.value → now ≡ stamped stamp payload
    → event_by walk load payload ≡ record { node = node; stamp = stamp; word = load.word; was = load.value; now = now }
event_same walk load node payload clock stamp now node_is clock_is stamp_is now_is = rw (now_is, stamp_is, ← clock_is, ← node_is) refl
