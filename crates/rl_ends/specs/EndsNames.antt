-- Segments with ends, boxes and trains whose names are names.
use Rattle.std.specs.Prelude.{IsTrue}
use Rattle.std.specs.List.{list_all}
use Rattle.rl_base.specs.Name.{is_name}
use Rattle.rl_ends.specs.declared.ends_draft.EndsDraft.{EndsDraft}

-- each text that should be a name is one
pub record HasEndNames (d : EndsDraft) : Type 0 where
  pub segments : IsTrue (list_all (λ g. is_name g.name) d.segments)
  pub boxes : IsTrue (list_all (λ b. is_name b.name) d.boxes)
  pub trains : IsTrue (list_all (λ t. is_name t.name) d.trains)
  pub routes : IsTrue (list_all (λ t. list_all is_name t.route) d.trains)
