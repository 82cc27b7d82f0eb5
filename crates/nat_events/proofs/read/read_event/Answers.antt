use Rattle.std.proofs.Common.{arith}
use Rattle.nat_events.proofs.RecordLaws.{accepted, told}
use Rattle.nat_events.proofs.read.read_event.Goals as goal

pub returns-clause-spelled : goal.returns-clause-spelled
returns-clause-spelled c =
    told c.args.set c.args.bytes.now c.read_record.result (λ k. omega (arith, c.type_inv.bytes k)) c.read_record.ensures.value

pub returns-clause-accepts : goal.returns-clause-accepts
returns-clause-accepts c = accepted c.args.set c.args.bytes.now c.read_record.result c.read_record.ensures.value
