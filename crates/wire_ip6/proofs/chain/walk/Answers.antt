use Rattle.std.proofs.Common.{arith}
use Rattle.wire_ip6.proofs.ChainLaws.{inner_told, pieces_told, others_told, short_told}
use Rattle.wire_ip6.proofs.chain.walk.Goals as goal

pub returns-clause-inner : goal.returns-clause-inner
returns-clause-inner c =
    inner_told c.args.next c.args.bytes.now c.args.whole _ (λ k. omega (arith, c.type_inv.bytes k)) c.follow.ensures

pub returns-clause-pieces : goal.returns-clause-pieces
returns-clause-pieces c =
    pieces_told c.args.next c.args.bytes.now c.args.whole _ (λ k. omega (arith, c.type_inv.bytes k)) c.follow.ensures

pub returns-clause-others : goal.returns-clause-others
returns-clause-others c =
    others_told c.args.next c.args.bytes.now c.args.whole _ (λ k. omega (arith, c.type_inv.bytes k)) c.follow.ensures

pub returns-clause-short : goal.returns-clause-short
returns-clause-short c =
    short_told c.args.next c.args.bytes.now c.args.whole _ (λ k. omega (arith, c.type_inv.bytes k)) c.follow.ensures
