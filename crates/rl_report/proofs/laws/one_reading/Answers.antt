use Rattle.rl_report.proofs.OneReading.{one_move_line, one_outcome_line, move_apart, one_report, no_fault, one_fault}
use Rattle.rl_report.proofs.Short.{report_not_long}
use Rattle.rl_report.proofs.laws.one_reading.Goals as goal

pub returns : goal.returns
returns c =
    record {
      move_lines = one_move_line;
      train_lines = one_outcome_line;
      apart = move_apart;
      reports = one_report;
      no_fault = no_fault;
      not_long = report_not_long;
      one_fault = one_fault;
    }
