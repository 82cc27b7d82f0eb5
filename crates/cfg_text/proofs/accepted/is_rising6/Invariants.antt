use Rattle.std.proofs.Common.{◌≡◌, drop}
use Rattle.aftr_base.specs.Plan.{rise6}
use Rattle.cfg_text.proofs.Rising.{end6}
use Rattle.cfg_text.proofs.accepted.is_rising6.Given as goal

abbrev pub invariant-loop-p : goal.invariant-loop-p
invariant-loop-p l = rise6 0 l.aggregates ≡ rise6 (end6 l.before) (drop l.p-index l.aggregates)
