use Rattle.std.proofs.Common.{decimal, arith}
use Rattle.aftr_engine.specs.report.Lines.{groups}
use Rattle.aftr_engine.proofs.Lines.{appended_three}
use Rattle.aftr_engine.proofs.report.push_prefix.Goals as goal

pub returns-clause-bytes : goal.returns-clause-bytes
returns-clause-bytes c =
    let owner = c.args.owner in
    appended_three c.args.line.now.bytes (groups 8 owner.0.bits.0) (decimal owner.0.len)
    c.push_groups.new.line.bytes c.push.new.self.bytes c.push_octet.new.line.bytes 47
    c.push_groups.ensures.bytes (c.push.ensures.ascii (omega arith)) c.push_octet.ensures.bytes
