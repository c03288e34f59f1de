use Rattle.std.proofs.Common.{rules, ◌≡◌, ◌∙◌, refl, ap, sym, map, codes, List, [], ◌∷◌, ℕ, Bor, Option, option_map, unwrap_or}
use Rattle.rl_base.specs.declared.limits.TheConstants.{DEFAULT_TRIES}
use Rattle.rl_cli.specs.Words.{number}
use Rattle.rl_cli.proofs.FormReads.{rounds_numbers, rounds_reads, small_as, value_read, fails_for_memory, fault_at, passed_on}
use Rattle.rl_cli.specs.declared.flag.Flag.TheVariants.{Schedule, Tries}
use Rattle.rl_cli.proofs.orders.read_rounds.Goals as goal

pub returns-in_err-matches : goal.returns-in_err-matches
returns-in_err-matches c =
    let words : map (λ (s : Bor (List ℕ)). s.now) c.as_slice-3.result.now ≡ c.args.words.now = search rules in
    let ids : map (λ (s : Bor (List ℕ)). s.now) c.as_slice.result.now ≡ codes "NET" ∷ codes "N" ∷ [] = search rules in
    let flags : c.as_slice-2.result.now ≡ Schedule ∷ Tries ∷ [] = search rules in
    let reads = rounds_reads c.args.words.now c.requires in
    passed_on _ _ _ c.from_residual-in_err-matches.ensures.1 (fails_for_memory _ _ _ _ _ _ _ _ _ ids flags words reads c.in_err-matches.ensures.err)

pub returns-in_err-net : goal.returns-in_err-net
returns-in_err-net c =
    let words : map (λ (s : Bor (List ℕ)). s.now) c.as_slice-3.result.now ≡ c.args.words.now = search rules in
    let ids : map (λ (s : Bor (List ℕ)). s.now) c.as_slice.result.now ≡ codes "NET" ∷ codes "N" ∷ [] = search rules in
    let flags : c.as_slice-2.result.now ≡ Schedule ∷ Tries ∷ [] = search rules in
    let reads = rounds_reads c.args.words.now c.requires in
    let read = value_read _ _ _ _ _ _ _ c.in_ok-matches.matches ids flags words reads refl c.in_ok-matches.ensures.ok in
    passed_on _ _ _ c.from_residual-in_err-net.ensures.1 (fault_at _ _ _ _ (read (codes "NET")) c.in_err-net.ensures)

pub returns-in_err-rounds : goal.returns-in_err-rounds
returns-in_err-rounds c =
    let words : map (λ (s : Bor (List ℕ)). s.now) c.as_slice-3.result.now ≡ c.args.words.now = search rules in
    let ids : map (λ (s : Bor (List ℕ)). s.now) c.as_slice.result.now ≡ codes "NET" ∷ codes "N" ∷ [] = search rules in
    let flags : c.as_slice-2.result.now ≡ Schedule ∷ Tries ∷ [] = search rules in
    let reads = rounds_reads c.args.words.now c.requires in
    let read = value_read _ _ _ _ _ _ _ c.in_ok-matches.matches ids flags words reads refl c.in_ok-matches.ensures.ok in
    let numbers = rounds_numbers c.args.words.now c.requires in
    let small = small_as _ _ (read (codes "N")) numbers.0 in
    passed_on _ _ _ c.from_residual-in_err-rounds.ensures.1
    (fault_at _ _ _ _ (ap (option_map number) (read (codes "N"))) (c.in_err-rounds.ensures small))

pub returns : goal.returns
returns c =
    let words : map (λ (s : Bor (List ℕ)). s.now) c.as_slice-3.result.now ≡ c.args.words.now = search rules in
    let ids : map (λ (s : Bor (List ℕ)). s.now) c.as_slice.result.now ≡ codes "NET" ∷ codes "N" ∷ [] = search rules in
    let flags : c.as_slice-2.result.now ≡ Schedule ∷ Tries ∷ [] = search rules in
    let reads = rounds_reads c.args.words.now c.requires in
    let read = value_read _ _ _ _ _ _ _ c.in_ok-matches.matches ids flags words reads refl c.in_ok-matches.ensures.ok in
    let numbers = rounds_numbers c.args.words.now c.requires in
    let small = small_as _ _ (read (codes "N")) numbers.0 in
    let net = sym (read (codes "NET")) ∙ c.in_ok-net.ensures in
    let rounds = sym (ap (option_map number) (read (codes "N"))) ∙ c.in_ok-rounds.ensures small in
    let tries = c.unwrap_or-tries.ensures ∙ ap (λ (o : Option ℕ). unwrap_or o DEFAULT_TRIES)
    (c.number_at.ensures (small_as _ _ (read (codes "--tries")) numbers.1) ∙ ap (option_map number) (read (codes "--tries"))) in
    cc
