use Rattle.std.proofs.Common.{◌≡◌, ℕ, zero, suc, ◌+◌, ◌<◌, List, [], ◌∷◌, ◌++◌, length, All, slice_get, slice_index_or, Some, None, sym, ap, ◌∙◌, subst, arith}
use Rattle.rl_record.specs.declared.event.Event.{Event}
use Rattle.rl_record.specs.Records.{Record, Rises, AreByNode}
use Rattle.rl_tests_runs.proofs.rails.merged.Goals as goal

-- a record of one event
alone : (e : Event) (n : ℕ) → e.node.0 ≡ n → Rises (e ∷ []) × All (λ (f : Event). f.node.0 ≡ n) (e ∷ [])
alone e n is = (λ i j d below within. absurd (omega arith), λ k d within. here k d within)
  where
    here : (k : ℕ) (d : Event) → k < 1 → (slice_index_or (e ∷ []) k d).node.0 ≡ n
    here zero d within = is
    here (suc k) d within = absurd (omega arith)

by_node : (a b : Record) (e f : Event) → a.events ≡ e ∷ [] → b.events ≡ f ∷ [] → e.node.0 ≡ 0 → f.node.0 ≡ 1 → AreByNode (a ∷ b ∷ [])
by_node a b e f first second zeroth next zero r at =
    let same : a ≡ r = cc in
    subst (λ (x : Record). Rises x.events × All (λ (g : Event). g.node.0 ≡ 0) x.events) same (rw first (alone e 0 zeroth))
by_node a b e f first second zeroth next (suc zero) r at =
    let same : b ≡ r = cc in
    subst (λ (x : Record). Rises x.events × All (λ (g : Event). g.node.0 ≡ 1) x.events) same (rw second (alone f 1 next))
by_node a b e f first second zeroth next (suc (suc n)) r at = absurd (cc)

pub merge-requires : goal.merge-requires
merge-requires c =
    let a : Record = c.in_ok-record_of.field-0 in
    let b : Record = c.in_ok-record_of-2.field-0 in
    let both : c.push-2.new.self ≡ a ∷ b ∷ [] =
    c.in_ok-push-2.ensures.ok ∙ ap (λ (l : List Record). l ++ b ∷ []) (c.in_ok-push.ensures.ok ∙ ap (λ (l : List Record). l ++ a ∷ []) c.new-records.ensures) in
    c.records_by_node.ensures c.push-2.new.self
    (subst AreByNode (sym both)
    (by_node a b c.args.first c.args.second c.in_ok-record_of.ensures c.in_ok-record_of-2.ensures c.requires.first c.requires.second))
