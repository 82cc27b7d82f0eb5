use Rattle.lease_log.proofs.BatchLaws.{written, short}
use Rattle.lease_log.proofs.batch.LogBatch.body.Goals as goal

pub write_body-requires-clause-short : goal.write_body-requires-clause-short
write_body-requires-clause-short c = short c.self.inside.at.0 c.self.inside.events.items c.self.inside.sets c.self.inside.body c.self.invariant

pub returns : goal.returns
returns c = written c.self.invariant c.self.view_is c.as_slice.ensures.value c.write_body.ensures.bytes
