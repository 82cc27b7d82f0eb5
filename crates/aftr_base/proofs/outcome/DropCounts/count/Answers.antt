use Rattle.aftr_base.proofs.Counts.{counts_push}
use Rattle.aftr_base.proofs.outcome.DropCounts.count.Goals as goal

pub returns : goal.returns
returns c = λ drops same. counts_push c.args.self.now.0 drops c.args.cause same
