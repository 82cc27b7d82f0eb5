use Rattle.nat_events.proofs.RecordLaws.{reads_back}
use Rattle.nat_events.proofs.write.put_event.Goals as goal

pub returns-in-Block-clause-reads_back : goal.returns-in-Block-clause-reads_back
returns-in-Block-clause-reads_back c = reads_back c.args.event.now

pub returns-in-Horizon-clause-reads_back : goal.returns-in-Horizon-clause-reads_back
returns-in-Horizon-clause-reads_back c = reads_back c.args.event.now

pub returns-in-Plan-clause-reads_back : goal.returns-in-Plan-clause-reads_back
returns-in-Plan-clause-reads_back c = reads_back c.args.event.now
