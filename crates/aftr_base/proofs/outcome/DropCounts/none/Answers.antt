use Rattle.std.proofs.Common.{refl}
use Rattle.aftr_base.specs.Drops.{drop_counts}
use Rattle.aftr_base.proofs.outcome.DropCounts.none.Goals as goal

pub returns : goal.returns
unfolding drop_counts
returns c = refl
