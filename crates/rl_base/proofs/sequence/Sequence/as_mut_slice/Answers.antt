use Rattle.std.proofs.Common.{ℕ, List, length, take, drop, ◌++◌, refl, ap, ◌∙◌}
use Rattle.rl_base.proofs.sequence.Sequence.as_mut_slice.Goals as goal

pub returns : goal.returns
returns g c =
    let items = c.self.inside.items in (
      (
        refl {a = c.as_mut_slice.result.ghost_name},
        λ w.
            ap (λ (k : ℕ). take k (w ++ drop (length w) items.items)) items.ok.0
            ∙ ap (λ (xs : List g.row.T.Denot). take (length xs) (w ++ drop (length w) xs)) c.self.view_is,
      ),
      record { writes_back = tt; value = c.as_mut_slice.ensures.value ∙ c.self.view_is },
    )
