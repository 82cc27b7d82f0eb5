use Rattle.xlate_core.proofs.LogTells.{run_ahead, step_ahead, step_told, told_from}
use Rattle.xlate_core.proofs.laws.log_is_believed.Goals as goal

pub returns : goal.returns
returns c = record {
  step_told = step_told;
  run_told = told_from;
  step_ahead = step_ahead;
  run_ahead = run_ahead;
}
