use Rattle.std.proofs.Common.{rules, ◌≡◌, ◌∙◌, refl, ap, sym, map, codes, List, [], ◌∷◌, ℕ, Bor, option_map}
use Rattle.rl_cli.specs.Words.{number}
use Rattle.rl_cli.proofs.FormReads.{make_numbers, make_reads, small_as, value_read, fails_for_memory, fault_at, passed_on}
use Rattle.rl_cli.proofs.orders.read_make.Goals as goal

pub returns-in_err-matches : goal.returns-in_err-matches
returns-in_err-matches c =
    let words : map (λ (s : Bor (List ℕ)). s.now) c.as_slice-3.result.now ≡ c.args.words.now = search rules in
    let ids : map (λ (s : Bor (List ℕ)). s.now) c.as_slice.result.now ≡ codes "N" ∷ [] = search rules in
    let flags : c.as_slice-2.result.now ≡ [] = search rules in
    let reads = make_reads c.args.words.now c.requires in
    passed_on _ _ _ c.from_residual-in_err-matches.ensures.1 (fails_for_memory _ _ _ _ _ _ _ _ _ ids flags words reads c.in_err-matches.ensures.err)

pub returns-in_err-n : goal.returns-in_err-n
returns-in_err-n c =
    let words : map (λ (s : Bor (List ℕ)). s.now) c.as_slice-3.result.now ≡ c.args.words.now = search rules in
    let ids : map (λ (s : Bor (List ℕ)). s.now) c.as_slice.result.now ≡ codes "N" ∷ [] = search rules in
    let flags : c.as_slice-2.result.now ≡ [] = search rules in
    let reads = make_reads c.args.words.now c.requires in
    let read = value_read _ _ _ _ _ _ _ c.in_ok-matches.matches ids flags words reads refl c.in_ok-matches.ensures.ok in
    let small = small_as _ _ (read (codes "N")) (make_numbers c.args.words.now c.requires) in
    passed_on _ _ _ c.from_residual-in_err-n.ensures.1
    (fault_at _ _ _ _ (ap (option_map number) (read (codes "N"))) (c.in_err-n.ensures small))

pub returns : goal.returns
returns c =
    let words : map (λ (s : Bor (List ℕ)). s.now) c.as_slice-3.result.now ≡ c.args.words.now = search rules in
    let ids : map (λ (s : Bor (List ℕ)). s.now) c.as_slice.result.now ≡ codes "N" ∷ [] = search rules in
    let flags : c.as_slice-2.result.now ≡ [] = search rules in
    let reads = make_reads c.args.words.now c.requires in
    let read = value_read _ _ _ _ _ _ _ c.in_ok-matches.matches ids flags words reads refl c.in_ok-matches.ensures.ok in
    let small = small_as _ _ (read (codes "N")) (make_numbers c.args.words.now c.requires) in
    let n = sym (ap (option_map number) (read (codes "N"))) ∙ c.in_ok-n.ensures small in
    cc
