use Rattle.std.proofs.Common.{sym, ap, ◌∙◌, not}
use Rattle.lease_log.proofs.IndexSteps.{free_by_last, free_where_none}
use Rattle.lease_log.proofs.telling.is_free.Goals as goal

pub returns-in-Some : goal.returns-in-Some
returns-in-Some c =
    ap not c.overlaps.ensures
    ∙ free_by_last c.args.block _ c.requires c.in-Some.ensures.some

pub returns-in-None : goal.returns-in-None
returns-in-None c =
    sym (free_where_none c.args.block c.requires c.in-None.ensures.none)
