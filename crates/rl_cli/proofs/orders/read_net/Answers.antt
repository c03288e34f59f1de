use Rattle.std.proofs.Common.{rules, ◌≡◌, refl, map, codes, List, [], ◌∷◌, ℕ, Bor}
use Rattle.rl_cli.proofs.FormReads.{check_reads, value_read, fails_for_memory, passed_on}
use Rattle.rl_cli.proofs.orders.read_net.Goals as goal

pub returns-in_err-matches : goal.returns-in_err-matches
returns-in_err-matches c =
    let words : map (λ (s : Bor (List ℕ)). s.now) c.as_slice-3.result.now ≡ c.args.words.now = search rules in
    let ids : map (λ (s : Bor (List ℕ)). s.now) c.as_slice.result.now ≡ codes "NET" ∷ [] = search rules in
    let flags : c.as_slice-2.result.now ≡ [] = search rules in
    let q = c.from_residual-in_err-matches.ensures.1 in
    passed_on _ _ _ q (fails_for_memory _ _ _ _ _ _ _ _ _ ids flags words (check_reads c.args.words.now c.requires) c.in_err-matches.ensures.err)

pub returns : goal.returns
returns c =
    let words : map (λ (s : Bor (List ℕ)). s.now) c.as_slice-3.result.now ≡ c.args.words.now = search rules in
    let ids : map (λ (s : Bor (List ℕ)). s.now) c.as_slice.result.now ≡ codes "NET" ∷ [] = search rules in
    let flags : c.as_slice-2.result.now ≡ [] = search rules in
    let read = value_read _ _ _ _ _ _ _ c.in_ok-matches.matches ids flags words (check_reads c.args.words.now c.requires) refl c.in_ok-matches.ensures.ok in
    let x = c.text_at.ensures in
    rw (read (codes "NET")) at x
