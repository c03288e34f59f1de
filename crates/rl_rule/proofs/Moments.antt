-- Where the rule holds, the words and the views are those of the replay of the merge of the histories.
use Rattle.std.proofs.Common.{◌≡◌, ℕ, List, [], ◌∷◌, slice_get, Some, refl, sym, ap, ◌∙◌, subst}
use mathlib.Core.Option.{some}
use lib.ListN.{get_elem?}
use Rattle.atomic_table.specs.Table.{State}
use Rattle.rl_record.specs.declared.event.Event.{Event}
use Rattle.rl_record.specs.Merge.{IsMerge}
use Rattle.rl_tables.specs.declared.table.Tables.{Tables}
use Rattle.rl_steps.specs.Run.{state}
use Rattle.rl_merge.specs.Chains.{mind_left, clock_left}
use Rattle.rl_rule.specs.declared.views.Kept.{Kept}
use Rattle.rl_rule.specs.declared.views.View.{View}
use Rattle.rl_rule.specs.declared.views.Role.TheVariants.{Node}
use Rattle.rl_rule.specs.Ruled.{AreKept, IsRuled}
use Rattle.rl_rule.specs.Rule.{EachKept, Rule}
use Rattle.rl_rule.specs.Moments.{IsOwn, IsMoment, IsSeen}
use Rattle.rl_rule.proofs.Known.{MergeLaws, MomentLaws}
use Rattle.rl_rule.proofs.RuleHolds.{rule_holds}

module _ (laws : MergeLaws) (tables : Tables) (tries : ℕ) (words : List ℕ) (views : List View) (rule : Rule tables tries words views)
    (merged : List Event) (merge : IsMerge rule.histories merged) where
  mind_then : (n : ℕ) → (state tables tries merged).minds n ≡ mind_left tables tries n (rule.histories n)
  mind_then =
      laws.minds tables tries rule.histories merged words (λ n. mind_left tables tries n (rule.histories n)) rule.chains.chained merge rule.chains.left

  kept_then : (taken : List Kept) → EachKept tables tries rule.histories taken → AreKept tables tries merged taken
  kept_then [] are = tt
  kept_then (kept ∷ more) are = (
    record {
      history = are.0.0 ∙ sym (merge.parts kept.node.0);
      mind = are.0.1 ∙ ap (λ (h : List Event). mind_left tables tries kept.node.0 h) are.0.0 ∙ sym (mind_then kept.node.0);
    },
    kept_then more are.1,
  )

  own_then : (seat : ℕ) (view : View) → get_elem? views seat ≡ some view → view.role ≡ Node → IsOwn tables tries merged view.walk
  own_then seat view there role =
      let history = rule.in_order.nodes seat view there role in
      record {
        history = history ∙ sym (merge.parts view.walk.node.0);
        mind = rule.chains.minds seat view there role ∙ ap (λ (h : List Event). mind_left tables tries view.walk.node.0 h) history
            ∙ sym (mind_then view.walk.node.0);
        clock = rule.in_order.clocks seat view there role ∙ ap clock_left history
            ∙ sym (laws.clocks tables tries rule.histories merged rule.chains.chained merge view.walk.node.0);
      }

  moment_of : IsMoment tables tries rule.histories words views merged
  moment_of =
      record {
        merge = merge;
        run = laws.run tables tries rule.histories merged rule.chains.chained merge;
        words_are = sym (laws.words tables tries rule.histories merged words (λ n. mind_left tables tries n (rule.histories n))
            rule.chains.chained merge rule.chains.left rule.chains.size);
        nodes = own_then;
        taken = λ seat view there role. kept_then view.taken (rule.taken seat view there role);
      }

pub moment_at : MergeLaws → (tables : Tables) (tries : ℕ) (words : List ℕ) (views : List View) (rule : Rule tables tries words views)
    → (merged : List Event) × IsMoment tables tries rule.histories words views merged
moment_at laws tables tries words views rule =
    let (merged, merge) = laws.merge tables tries rule.handed rule.histories rule.chains.chained rule.places.unborn in
    (merged, moment_of laws tables tries words views rule merged merge)

-- so at each moment of the table
pub seen_at : MomentLaws → (tables : Tables) (tries : ℕ) (s : State (Unit {0}) View) → IsRuled tables tries s → (id : ℕ) (view : View)
    → get_elem? s.views id ≡ some view → view.role ≡ Node → (w value : ℕ) → slice_get s.words w ≡ Some value → IsSeen tables tries view.walk w value
seen_at laws tables tries s ruled id view there role w value word =
    let rule : Rule tables tries s.words s.views = rule_holds tables tries s ruled laws.chains laws.runs in
    let (merged, moment) = moment_at laws.merges tables tries s.words s.views rule in
    record {
      words = s.words;
      views = s.views;
      rule = rule;
      merged = merged;
      moment = moment;
      seat = id;
      view = view;
      there = there;
      role = role;
      walk_is = refl;
      word = word;
    }

-- as the view has the line and the tries
pub seen_by : (tables : Tables) (tries : ℕ) (view : View) (w value : ℕ) → view.line ≡ tables → view.tries ≡ tries
    → IsSeen tables tries view.walk w value → IsSeen view.line view.tries view.walk w value
seen_by tables tries view w value line tries_are seen =
    subst (λ (t : Tables). IsSeen t view.tries view.walk w value) (sym line)
    (subst (λ (k : ℕ). IsSeen tables k view.walk w value) (sym tries_are) seen)
