use Rattle.std.proofs.Common.{◌-◌, drop, take, arith, rules}
use Rattle.wire_ip4.specs.Grammar.{header_of}
use Rattle.wire_ip4.proofs.GrammarLaws.{packet_spelled, packet_accepts}
use Rattle.wire_ip4.proofs.view.Ip4View.read.Goals as goal

pub returns-in_err-len-clause-accepts : goal.returns-in_err-len-clause-accepts
returns-in_err-len-clause-accepts c = packet_accepts c.args.bytes.now

pub returns-then-total-len-clause-accepts : goal.returns-then-total-len-clause-accepts
returns-then-total-len-clause-accepts c = packet_accepts c.args.bytes.now

pub returns-then-sum16-clause-accepts : goal.returns-then-sum16-clause-accepts
returns-then-sum16-clause-accepts c = packet_accepts c.args.bytes.now

pub returns-clause-accepts : goal.returns-clause-accepts
returns-clause-accepts c = packet_accepts c.args.bytes.now

pub returns-clause-spelled : goal.returns-clause-spelled
returns-clause-spelled c =
    let bytes = c.args.bytes.now in
    let len = c.in_ok-len.len in
    let payload = take (c.from-total.result - len) (drop len bytes) in
    packet_spelled bytes (header_of bytes) payload (λ i. omega (arith, c.type_inv.bytes i)) (search rules)
