use Rattle.std.proofs.Common.{ℕ, List, [], Result, Ok, Err, IfOk, IfErr, arith}
use Rattle.rl_text.specs.Lines.{Reading}
use Rattle.rl_model.specs.declared.moves.Move.{Move}
use Rattle.rl_model.specs.declared.network.NetworkPlan.{NetworkPlan}
use Rattle.rl_report.specs.declared.refusal.ReportRefusal.{ReportRefusal}
use Rattle.rl_report.specs.declared.refusal.ReportRefusal.TheVariants as refusal
use Rattle.rl_report.specs.Grammar.{IsLong}
use Rattle.rl_report.specs.Reading.{HasRead, HasNoMove}
use Rattle.rl_report.specs.Answers.{IsFault, IsCause}
use Rattle.rl_audit.specs.declared.judge.Judge.{Judge}
use Rattle.rl_audit.specs.declared.verdict.Verdict.{Verdict}
use Rattle.rl_audit.specs.Judging.{HasJudged}
use Rattle.rl_audit.specs.Verdicts.{IsVerdictOn, AuditsAs}
use Rattle.rl_audit.proofs.auditing.audit_text.Goals as goal

-- a fault of a text that isn't too long is the cause of a refusal
cause : (net : NetworkPlan) (text : List ℕ) (e : ReportRefusal) → (IsLong net text → ⊥) → IsFault net text e → IsCause net text e
cause net text (refusal.Line n) short fault = (short, fault)
cause net text refusal.Long short fault = absurd fault
cause net text refusal.NoMemory short fault = tt

answer : (net : NetworkPlan) (text : List ℕ) (result : Result Verdict ReportRefusal) (tries : ℕ) (moves : List Move) (reading : Reading) (j : Judge)
    → (IsLong net text → ⊥)
    → HasRead net text (record { tries = tries; moves = moves; outcomes = [] }) reading → HasNoMove net reading.left → HasJudged net moves j
    → IfOk result (λ v. (t : List ℕ) (ms : List Move) → HasRead net t (record { tries = tries; moves = ms; outcomes = [] }) reading → HasJudged net ms j
    → IsVerdictOn net t v)
    → IfErr result (λ e. (t : List ℕ) (ms : List Move) → HasRead net t (record { tries = tries; moves = ms; outcomes = [] }) reading
    → HasNoMove net reading.left → IsFault net t e)
    → AuditsAs net text result
answer net text (Ok v) tries moves reading j short has none judged ok err = (short, ok text moves has judged)
answer net text (Err e) tries moves reading j short has none judged ok err = cause net text e short (err text moves has none)

pub returns-in-Ok : goal.returns-in-Ok
returns-in-Ok c =
    let laws = c.reading_laws.ensures in
    let start = laws.start c.args.net.now c.args.text.now c.new-lines.result c.head-head.new.self c.new-lines.ensures.given c.new-lines.ensures.left
    c.head-head.ensures.left c.head-head.ensures.count in
    let run = c.in_ok-judge_moves.ensures.ok in
    let moves = run.read c.args.text.now start in
    let short = laws.short c.args.net.now c.args.text.now run.moves c.judge_moves.new.lines moves run.few (omega arith) c.in_ok-judge_moves.ensures.none in
    answer c.args.net.now c.args.text.now c.judge_rest.result c.in-Ok.tries run.moves c.judge_moves.new.lines c.judge_moves.new.judge short
    (c.in-Ok.ensures.ok c.args.net.now c.args.text.now run.moves c.judge_moves.new.lines c.new-lines.ensures.left moves)
    c.in_ok-judge_moves.ensures.none run.judged c.judge_rest.ensures.ok c.judge_rest.ensures.err

pub returns : goal.returns
returns c =
    let laws = c.reading_laws.ensures in
    let start = laws.start c.args.net.now c.args.text.now c.new-lines.result c.head-head.new.self c.new-lines.ensures.given c.new-lines.ensures.left
    c.head-head.ensures.left c.head-head.ensures.count in
    let run = c.in_ok-judge_moves.ensures.ok in
    let moves = run.read c.args.text.now start in
    let short = laws.short c.args.net.now c.args.text.now run.moves c.judge_moves.new.lines moves run.few (omega arith) c.in_ok-judge_moves.ensures.none in
    (short, c.in-Err.ensures.err c.args.net.now c.args.text.now c.accepted.ensures c.new-lines.ensures.left)
