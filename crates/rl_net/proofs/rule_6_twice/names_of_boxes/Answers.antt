use Rattle.std.proofs.Common.{ℕ, List, None, length, map, refl, ap, subst}
use Rattle.std.proofs.lemmas.List.{length-map}
use Rattle.rl_base.specs.declared.draft.DraftBox.{DraftBox}
use Rattle.rl_base.specs.declared.place.Place.TheVariants.{BoxName}
use Rattle.rl_drafts.specs.Drafts.{box_names}
use Rattle.rl_drafts.specs.Search.{refuse}
use Rattle.rl_net.specs.declared.name_table.NameFault.TheVariants as fault
use Rattle.rl_net.specs.NameTables.{AreUnlike, IsNameFault}
use Rattle.rl_net.proofs.Twice.{unbroken_by, broken_by}
use Rattle.rl_net.proofs.rule_6_twice.names_of_boxes.Goals as goal

pub returns-in-Ok-clause-unbroken : goal.returns-in-Ok-clause-unbroken
returns-in-Ok-clause-unbroken c =
    let d = c.args.draft.now in
    let same = ap (λ (xs : List DraftBox). map (λ x. x.name) xs) c.as_slice.ensures in
    unbroken_by d (box_names d) BoxName (length d.boxes) (λ i. refl) (subst AreUnlike same c.in-Ok.ensures.unlike)

pub returns-in-Err-Twice-clause-refused : goal.returns-in-Err-Twice-clause-refused
returns-in-Err-Twice-clause-refused c =
    let d = c.args.draft.now in
    let i = c.in-Err-Twice.i in
    let same = ap (λ (xs : List DraftBox). map (λ x. x.name) xs) c.as_slice.ensures in
    let own = subst (IsNameFault _) c.in-Err-Twice.field-0-is c.in-Err-Twice.ensures.fault in
    let h = subst (λ (ns : List (List ℕ)). IsNameFault ns (fault.Twice i)) same own in
    ap (λ o. refuse 6 o None) (broken_by d (box_names d) BoxName (length d.boxes) (λ k. refl) i (length-map d.boxes (λ (x : DraftBox). x.name)) h)
