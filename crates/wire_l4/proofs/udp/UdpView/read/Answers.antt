use Rattle.std.proofs.Common.{rules, arith}
use Rattle.wire_l4.proofs.UdpGrammar.{udp_spelled, udp_accepted}
use Rattle.wire_l4.proofs.udp.UdpView.read.Goals as goal

pub returns-then-len-lt8-clause-accepts : goal.returns-then-len-lt8-clause-accepts
returns-then-len-lt8-clause-accepts c = udp_accepted c.args.bytes.now

pub returns-clause-accepts : goal.returns-clause-accepts
returns-clause-accepts c = udp_accepted c.args.bytes.now

pub returns-clause-spelled : goal.returns-clause-spelled
returns-clause-spelled c =
    udp_spelled c.args.bytes.now (search rules) c.if-bytes-lt8.false
    (omega (arith, c.u16_in.ensures, c.from-len.ensures)) (omega (arith, c.u16_in.ensures, c.from-len.ensures))
