use Rattle.std.proofs.Common.{◌≤◌, ◌++◌, true, false, ℕ, List, length, take, drop, ap, ap₂, ◌∙◌, arith}
use Rattle.wire_l4.specs.Grammar.{Transport, transport_bytes}
use Rattle.wire_l4.specs.Places.{port_at, replaced}
use Rattle.xlate_core.specs.Packet.{transport_behind}
use Rattle.xlate_core.proofs.Datagrams.{front_taken}
use Rattle.xlate_core.proofs.Transports.{read_in}
use Rattle.xlate_core.proofs.packet.set_both_behind.Goals as goal

pub set_behind-requires-2-clause-there : goal.set_behind-requires-2-clause-there
set_behind-requires-2-clause-there c =
    let a = c.args.arrival.now in
    let t = transport_behind a.proto c.args.bytes.now in
    let read = c.set_behind.ensures.reads_back t c.requires.read in
    ap (port_at false) (read_in a.proto (drop 20 c.set_behind.new.bytes) (replaced true c.args.old a.from t) read) ∙ c.requires.destination

pub returns : goal.returns
returns c =
    let a = c.args.arrival.now in
    let bytes = c.args.bytes.now in
    let first = c.set_behind.new.bytes in
    let t = transport_behind a.proto bytes in
    let le : 20 ≤ length bytes = omega (arith, c.requires.whole) in
    let read = read_in a.proto (drop 20 first) (replaced true c.args.old a.from t) (c.set_behind.ensures.reads_back t c.requires.read) in
    c.set_behind-2.ensures.value
    ∙ ap₂ (λ (front : List ℕ) (x : Transport). front ++ transport_bytes (replaced false a.to c.args.dst x))
    (ap (take 20) c.set_behind.ensures.value ∙ front_taken 20 bytes _ le) read
