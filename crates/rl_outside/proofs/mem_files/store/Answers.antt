use Rattle.std.proofs.Common.{◌≡◌, ◌∙◌, ap, Some, None}
use Rattle.std.specs.List.{position}
use Rattle.std.specs.Str.{bytes_eq}
use Rattle.rl_outside.proofs.Stored.{bytes_under-set, bytes_under-set_other, bytes_under-push, bytes_under-push_other}
use Rattle.rl_outside.proofs.mem_files.store.Goals as goal

pub returns-in-Some-clause-there : goal.returns-in-Some-clause-there
returns-in-Some-clause-there c =
    let here : position (λ f. bytes_eq f.name c.args.name.now) c.args.files.now.items ≡ Some c.in-Some.i = cc in
    bytes_under-set _ _ _ _ _ here c.index_mut.ensures.value
    ∙ ap Some (c.from_vec-bytes.ensures ∙ c.in_ok-from_slice.ensures.items)

pub returns-in-Some-clause-others : goal.returns-in-Some-clause-others
returns-in-Some-clause-others c =
    let here : position (λ f. bytes_eq f.name c.args.name.now) c.args.files.now.items ≡ Some c.in-Some.i = cc in
    bytes_under-set_other _ _ _ _ _ here c.index_mut.ensures.value

pub returns-in_ok-push-in-None-clause-there : goal.returns-in_ok-push-in-None-clause-there
returns-in_ok-push-in-None-clause-there c =
    let nowhere : position (λ f. bytes_eq f.name c.args.name.now) c.args.files.now.items ≡ None = cc in
    rw c.in_ok-push-in-None.ensures.items
    (bytes_under-push _ _ _ c.in_ok-name-in-None.ensures nowhere
    ∙ ap Some (c.from_vec-bytes.ensures ∙ c.in_ok-from_slice.ensures.items))

pub returns-in_ok-push-in-None-clause-others : goal.returns-in_ok-push-in-None-clause-others
returns-in_ok-push-in-None-clause-others c =
    rw c.in_ok-push-in-None.ensures.items (bytes_under-push_other _ _ _ c.in_ok-name-in-None.ensures)
