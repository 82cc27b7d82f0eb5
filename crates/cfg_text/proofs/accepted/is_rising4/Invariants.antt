use Rattle.std.proofs.Common.{◌≡◌, drop}
use Rattle.aftr_base.specs.Plan.{rise4}
use Rattle.cfg_text.proofs.Rising.{end4}
use Rattle.cfg_text.proofs.accepted.is_rising4.Given as goal

abbrev pub invariant-loop-p : goal.invariant-loop-p
invariant-loop-p l = rise4 0 l.pool ≡ rise4 (end4 l.before) (drop l.p-index l.pool)
