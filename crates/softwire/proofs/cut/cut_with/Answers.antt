use Rattle.std.proofs.Common.{◌≡◌, ◌≤◌, ◌<◌, ℕ, List, length, drop, ◌∙◌, arith}
use Rattle.wire_ip4.proofs.GrammarLaws.{all_after}
use Rattle.softwire.specs.Cut.{ip4_pieces, room_of}
use Rattle.softwire.proofs.Cuts.{on_ok, as_it_stands, in_pieces}
use Rattle.softwire.proofs.CutTold.{told_of}
use Rattle.softwire.proofs.cut.cut_with.Goals as goal

pub returns-then-packet-from-clause-ok : goal.returns-then-packet-from-clause-ok
returns-then-packet-from-clause-ok c =
    let packet : List ℕ = c.args.packet.now in
    let fits : length packet ≤ c.args.mtu = omega (arith, c.if-packet-from.true, c.from.ensures) in
    on_ok c.push.result
    (λ added h payload same bare spelled. as_it_stands c.args.mtu packet c.args.out.now c.push.new.self h payload bare spelled
    c.in_ok-whole.whole.items fits c.in_ok-whole.ensures.items added)
    c.push.ensures.ok

pub returns-clause-ok : goal.returns-clause-ok
returns-clause-ok c =
    let packet : List ℕ = c.args.packet.now in
    let longer : c.args.mtu < length packet = omega (arith, c.if-packet-from.false, c.from.ensures) in
    let are : c.in_ok-pieces.pieces ≡ ip4_pieces c.args.fields.now (room_of c.args.mtu 20) (drop 20 packet) =
    c.in_ok-pieces.ensures ∙ (λ i. ip4_pieces c.args.fields.now (c.room_of.ensures i) (all_after 20 packet i)) in
    on_ok c.append.result
    (λ added h payload same bare spelled. in_pieces c.args.mtu packet c.args.out.now c.append.new.out h payload bare spelled
    c.in_ok-pieces.pieces c.args.fields.now longer same are added)
    c.append.ensures.ok

-- what is told of the packet, whichever way the call ends

pub returns-in_err-whole-clause-tells : goal.returns-in_err-whole-clause-tells
returns-in_err-whole-clause-tells c = told_of c.args.mtu c.args.packet.now (omega (arith, c.requires.mtu)) c.requires.short

pub returns-then-packet-from-clause-tells : goal.returns-then-packet-from-clause-tells
returns-then-packet-from-clause-tells c = told_of c.args.mtu c.args.packet.now (omega (arith, c.requires.mtu)) c.requires.short

pub returns-in_err-pieces-clause-tells : goal.returns-in_err-pieces-clause-tells
returns-in_err-pieces-clause-tells c = told_of c.args.mtu c.args.packet.now (omega (arith, c.requires.mtu)) c.requires.short

pub returns-clause-tells : goal.returns-clause-tells
returns-clause-tells c = told_of c.args.mtu c.args.packet.now (omega (arith, c.requires.mtu)) c.requires.short
