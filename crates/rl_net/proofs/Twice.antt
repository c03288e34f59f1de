-- A name that stands twice, as the first broken place of rule 6.
use Rattle.std.proofs.Common.{◌≡◌, ℕ, ◌<◌, List, length, Some, None, ◌∙◌, subst}
use Rattle.rl_base.specs.declared.place.Place.{Place}
use Rattle.rl_base.specs.declared.draft.Draft.{Draft}
use Rattle.rl_drafts.specs.Refusals.{breaks, is_twice}
use Rattle.rl_drafts.specs.Search.{first_below, broken_at}
use Rattle.rl_net.specs.declared.name_table.NameFault.TheVariants as fault
use Rattle.rl_net.specs.NameTables.{AreUnlike, IsNameFault}
use Rattle.rl_net.proofs.Search.{nowhere, tried_found}

module _ (d : Draft) (names : List (List ℕ)) (at : ℕ → Place) (n : ℕ) (rule : (i : ℕ) → breaks d 6 (at i) ≡ is_twice names i) where
  -- where no two names are the same the rule is unbroken
  pub unbroken_by : AreUnlike names → first_below (λ i. broken_at d 6 (at i)) n ≡ None
  unbroken_by unlike = nowhere (λ i. breaks d 6 (at i)) at n (λ j l. rule j ∙ unlike j)

  -- and else it is broken at the first that an earlier one is
  pub broken_by : (i : ℕ) → length names ≡ n → IsNameFault names (fault.Twice i) → first_below (λ i. broken_at d 6 (at i)) n ≡ Some (at i)
  broken_by i count h =
      tried_found (λ k. breaks d 6 (at k)) at i n (nowhere (λ k. breaks d 6 (at k)) at i (λ j l. rule j ∙ h.2 j l)) (rule i ∙ h.1)
      (subst (λ m. i < m) count h.0)
