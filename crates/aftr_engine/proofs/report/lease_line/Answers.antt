use Rattle.std.proofs.Common.{decimal, arith}
use Rattle.aftr_engine.specs.report.Lines.{ip4_text, prefix_text, until_text}
use Rattle.aftr_engine.proofs.Lines.{lease_built}
use Rattle.aftr_engine.proofs.report.lease_line.Goals as goal

pub returns : goal.returns
returns c =
    let l = c.args.lease in
    rw (
      c.push-2.ensures.ascii (omega arith),
      c.push_prefix.ensures.bytes,
      c.push.ensures.ascii (omega arith),
      c.push_until.ensures.bytes,
      c.push_number-3.ensures.bytes,
      c.push_number-2.ensures.bytes,
      c.from-2.ensures,
      c.push_number.ensures.bytes,
      c.from.ensures,
      c.push_address.ensures.bytes,
      c.push_str.ensures.bytes,
      c.new-line.ensures,
    )
    (lease_built (ip4_text l.addr) (decimal l.first) (decimal l.last) (decimal l.since.0) (until_text l.until) (prefix_text l.owner))
