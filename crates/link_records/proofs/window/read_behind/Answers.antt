use Rattle.std.proofs.Common.{arith}
use Rattle.link_records.proofs.WindowSteps.{read_on_if_ok}
use Rattle.link_records.proofs.window.read_behind.Goals as goal

pub returns-clause-bytes : goal.returns-clause-bytes
returns-clause-bytes g c tells =
    read_on_if_ok c.args.buffer.now c.read.new.buf c.args.end _ _ _ _ _ c.read.result (omega arith) c.read.ensures.within
    (c.read.ensures.bytes tells)
