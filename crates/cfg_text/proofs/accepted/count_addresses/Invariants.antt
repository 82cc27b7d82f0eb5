use Rattle.std.proofs.Common.{◌≡◌, ◌*◌, ◌^◌, ◌≤◌, sum_by, take}
use Rattle.aftr_base.specs.Plan.{size4}
use Rattle.cfg_text.proofs.accepted.count_addresses.Given as goal

abbrev pub invariant-loop-p : goal.invariant-loop-p
invariant-loop-p l = record { sum : l.count ≡ sum_by size4 (take l.p-index l.pool); few : l.count ≤ 2 ^ 32 * l.p-index }
