use Rattle.std.proofs.Common.{ℕ, List, Result, Ok, Err, IfOk, IfErr, arith}
use Rattle.rl_text.specs.Lines.{Reading}
use Rattle.rl_model.specs.declared.network.NetworkPlan.{NetworkPlan}
use Rattle.rl_model.specs.declared.report.Report.{Report}
use Rattle.rl_report.specs.declared.refusal.ReportRefusal.{ReportRefusal}
use Rattle.rl_report.specs.declared.refusal.ReportRefusal.TheVariants as refusal
use Rattle.rl_report.specs.Grammar.{IsTextOf, IsLong}
use Rattle.rl_report.specs.Reading.{HasRead, HasNoMove}
use Rattle.rl_report.specs.Answers.{ReadsAs, IsFault, IsCause}
use Rattle.rl_report.proofs.Steps.{short_from_moves, no_moves_yet}
use Rattle.rl_report.proofs.read.read_text.Goals as goal

-- a fault of a text that isn't too long is the cause of a refusal
cause : (net : NetworkPlan) (text : List ℕ) (e : ReportRefusal) → (IsLong net text → ⊥) → IsFault net text e → IsCause net text e
cause net text (refusal.Line n) short fault = (short, fault)
cause net text refusal.Long short fault = absurd fault
cause net text refusal.NoMemory short fault = tt

answer : (net : NetworkPlan) (text : List ℕ) (result : Result Report ReportRefusal) (read : Report) (reading : Reading) → (IsLong net text → ⊥)
    → HasRead net text read reading → HasNoMove net reading.left
    → IfOk result (λ report. (t : List ℕ) → HasRead net t read reading → IsTextOf net report t)
    → IfErr result (λ e. (t : List ℕ) → HasRead net t read reading → HasNoMove net reading.left → IsFault net t e)
    → ReadsAs net text result
answer net text (Ok report) read reading short has none ok err = (short, ok text has)
answer net text (Err e) read reading short has none ok err = cause net text e short (err text has none)

pub returns-in-Ok : goal.returns-in-Ok
returns-in-Ok c =
    let start = no_moves_yet c.args.net.now c.args.text.now c.new-lines.result c.head-head.new.self c.new-lines.ensures.given c.new-lines.ensures.left
    c.head-head.ensures.left c.head-head.ensures.count in
    let moves = c.in_ok-moves.ensures.ok c.args.text.now start in
    let short = short_from_moves c.args.net.now c.args.text.now c.in_ok-moves.moves c.read_moves.new.lines moves c.in_ok-moves.ensures.few
    (omega arith) c.in_ok-moves.ensures.none in
    answer c.args.net.now c.args.text.now c.read_rest.result _ c.read_moves.new.lines short
    (c.in-Ok.ensures.ok c.args.net.now c.args.text.now c.in_ok-moves.moves c.read_moves.new.lines c.new-lines.ensures.left moves)
    c.in_ok-moves.ensures.none c.read_rest.ensures.ok c.read_rest.ensures.err

pub returns-in-Err : goal.returns-in-Err
returns-in-Err c =
    let start = no_moves_yet c.args.net.now c.args.text.now c.new-lines.result c.head-head.new.self c.new-lines.ensures.given c.new-lines.ensures.left
    c.head-head.ensures.left c.head-head.ensures.count in
    let moves = c.in_ok-moves.ensures.ok c.args.text.now start in
    let short = short_from_moves c.args.net.now c.args.text.now c.in_ok-moves.moves c.read_moves.new.lines moves c.in_ok-moves.ensures.few
    (omega arith) c.in_ok-moves.ensures.none in
    (short, c.in-Err.ensures.err c.args.net.now c.args.text.now c.accepted.ensures c.new-lines.ensures.left)
