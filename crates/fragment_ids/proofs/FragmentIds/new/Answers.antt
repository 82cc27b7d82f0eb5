use Rattle.fragment_ids.proofs.CountLaws.{counts_each}
use Rattle.fragment_ids.proofs.FragmentIds.new.Goals as goal

pub returns-clause-each : goal.returns-clause-each
returns-clause-each c = counts_each c.new.result.items c.new.ensures.items
