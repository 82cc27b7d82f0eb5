use Rattle.xlate_core.proofs.Disjoint.{valid_from}
use Rattle.xlate_core.proofs.KeptTold.{told_kept}
use Rattle.xlate_core.proofs.Reached.{reached_from}
use Rattle.xlate_core.proofs.laws.runs_are_valid.Goals as goal

pub returns : goal.returns
returns c = record {
  reached = λ config told events h. reached_from events h;
  valid = λ config told events h apart. valid_from events h apart;
  kept = λ config told events h. told_kept events h;
}
