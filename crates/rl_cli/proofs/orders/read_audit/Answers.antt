use Rattle.std.proofs.Common.{rules, ◌≡◌, ◌∙◌, refl, sym, map, codes, List, [], ◌∷◌, ℕ, Bor}
use Rattle.rl_cli.proofs.FormReads.{audit_reads, value_read, fails_for_memory, fault_at, passed_on}
use Rattle.rl_cli.proofs.orders.read_audit.Goals as goal

pub returns-in_err-matches : goal.returns-in_err-matches
returns-in_err-matches c =
    let words : map (λ (s : Bor (List ℕ)). s.now) c.as_slice-3.result.now ≡ c.args.words.now = search rules in
    let ids : map (λ (s : Bor (List ℕ)). s.now) c.as_slice.result.now ≡ codes "NET" ∷ codes "REPORT" ∷ [] = search rules in
    let flags : c.as_slice-2.result.now ≡ [] = search rules in
    let reads = audit_reads c.args.words.now c.requires in
    passed_on _ _ _ c.from_residual-in_err-matches.ensures.1 (fails_for_memory _ _ _ _ _ _ _ _ _ ids flags words reads c.in_err-matches.ensures.err)

pub returns-in_err-net : goal.returns-in_err-net
returns-in_err-net c =
    let words : map (λ (s : Bor (List ℕ)). s.now) c.as_slice-3.result.now ≡ c.args.words.now = search rules in
    let ids : map (λ (s : Bor (List ℕ)). s.now) c.as_slice.result.now ≡ codes "NET" ∷ codes "REPORT" ∷ [] = search rules in
    let flags : c.as_slice-2.result.now ≡ [] = search rules in
    let reads = audit_reads c.args.words.now c.requires in
    let read = value_read _ _ _ _ _ _ _ c.in_ok-matches.matches ids flags words reads refl c.in_ok-matches.ensures.ok in
    passed_on _ _ _ c.from_residual-in_err-net.ensures.1 (fault_at _ _ _ _ (read (codes "NET")) c.in_err-net.ensures)

pub returns-in_err-report : goal.returns-in_err-report
returns-in_err-report c =
    let words : map (λ (s : Bor (List ℕ)). s.now) c.as_slice-3.result.now ≡ c.args.words.now = search rules in
    let ids : map (λ (s : Bor (List ℕ)). s.now) c.as_slice.result.now ≡ codes "NET" ∷ codes "REPORT" ∷ [] = search rules in
    let flags : c.as_slice-2.result.now ≡ [] = search rules in
    let reads = audit_reads c.args.words.now c.requires in
    let read = value_read _ _ _ _ _ _ _ c.in_ok-matches.matches ids flags words reads refl c.in_ok-matches.ensures.ok in
    passed_on _ _ _ c.from_residual-in_err-report.ensures.1 (fault_at _ _ _ _ (read (codes "REPORT")) c.in_err-report.ensures)

pub returns : goal.returns
returns c =
    let words : map (λ (s : Bor (List ℕ)). s.now) c.as_slice-3.result.now ≡ c.args.words.now = search rules in
    let ids : map (λ (s : Bor (List ℕ)). s.now) c.as_slice.result.now ≡ codes "NET" ∷ codes "REPORT" ∷ [] = search rules in
    let flags : c.as_slice-2.result.now ≡ [] = search rules in
    let reads = audit_reads c.args.words.now c.requires in
    let read = value_read _ _ _ _ _ _ _ c.in_ok-matches.matches ids flags words reads refl c.in_ok-matches.ensures.ok in
    let net = sym (read (codes "NET")) ∙ c.in_ok-net.ensures in
    let report = sym (read (codes "REPORT")) ∙ c.in_ok-report.ensures in
    cc
