use Rattle.std.proofs.Common.{◌≡◌, ◌<◌, ◌++◌, false, length, take}
use Rattle.xlate_core.specs.Expiry.{closing_limit, closings_of, has_idle, with_idle_ended}
use Rattle.xlate_core.proofs.Closings.{outcome, closings_from}
use Rattle.xlate_core.proofs.Passed.{ArePassed}
use Rattle.xlate_core.proofs.expiry.close_idle.Given as goal

-- With what is still to come, the leases and the closings are those of the whole call. Where more may end, none before is idle.
abbrev pub invariant-loop-at : goal.invariant-loop-at
invariant-loop-at l = record {
  leases : outcome l.left l.now.0 l.table.rows l.blocks.rows l.at ≡ with_idle_ended closing_limit l.now.0 l.table.rows l.fn.blocks.rows;
  closed : l.log ++ closings_from l.left l.now.0 l.table.rows l.blocks.rows l.at
      ≡ l.fn.log ++ closings_of closing_limit l.now.0 l.table.rows l.fn.blocks.rows;
  passed : ArePassed l.now.0 l.table.rows l.fn.blocks.rows l.blocks.rows l.at;
  end : l.at-end ≡ length l.fn.blocks.rows;
  none : 0 < l.left → has_idle l.table.rows (take l.at l.blocks.rows) ≡ false;
}
