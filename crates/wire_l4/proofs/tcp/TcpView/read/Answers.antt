use Rattle.std.proofs.Common.{rules, arith}
use Rattle.wire_l4.proofs.TcpGrammar.{tcp_spelled, tcp_accepted}
use Rattle.wire_l4.proofs.tcp.TcpView.read.Goals as goal

pub returns-then-offset-lt5-clause-accepts : goal.returns-then-offset-lt5-clause-accepts
returns-then-offset-lt5-clause-accepts c = tcp_accepted c.args.bytes.now

pub returns-clause-accepts : goal.returns-clause-accepts
returns-clause-accepts c = tcp_accepted c.args.bytes.now

pub returns-clause-spelled : goal.returns-clause-spelled
returns-clause-spelled c = tcp_spelled c.args.bytes.now (search rules) c.if-bytes-lt20.false (omega arith) (omega arith)
