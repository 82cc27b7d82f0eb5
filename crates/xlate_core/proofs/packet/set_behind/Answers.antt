use Rattle.std.proofs.Common.{◌≤◌, ◌++◌, ℕ, List, length, take, drop, ap, ◌∙◌, arith}
use Rattle.wire_l4.specs.Grammar.{transport_bytes, transport_in, transport_of}
use Rattle.wire_l4.specs.Places.{port_at, replaced}
use Rattle.xlate_core.proofs.Datagrams.{behind_taken, part_is, put_behind}
use Rattle.xlate_core.proofs.packet.set_behind.Goals as goal

pub set_place-requires-clause-there : goal.set_place-requires-clause-there
set_place-requires-clause-there c =
    let le : 20 ≤ length c.args.bytes.now = omega (arith, c.requires.whole) in
    ap (λ (l : List ℕ). port_at c.args.source (transport_in c.args.proto l)) (part_is 20 c.args.bytes.now le) ∙ c.requires.there

pub returns-clause-value : goal.returns-clause-value
returns-clause-value c =
    let bytes = c.args.bytes.now in
    let le : 20 ≤ length bytes = omega (arith, c.requires.whole) in
    put_behind 20 bytes c.set_place.new.bytes le
    ∙ ap (λ (l : List ℕ). take 20 bytes ++ l) c.set_place.ensures.value
    ∙ ap (λ (l : List ℕ). take 20 bytes ++ transport_bytes (replaced c.args.source c.args.old c.args.new (transport_in c.args.proto l)))
    (part_is 20 bytes le)

pub returns-clause-reads_back : goal.returns-clause-reads_back
returns-clause-reads_back c = λ t read.
    let bytes = c.args.bytes.now in
    let made = c.set_place.new.bytes in
    let le : 20 ≤ length bytes = omega (arith, c.requires.whole) in
    ap (λ (l : List ℕ). transport_of c.args.proto (drop 20 l)) (put_behind 20 bytes made le)
    ∙ ap (transport_of c.args.proto) (behind_taken 20 bytes made le)
    ∙ c.set_place.ensures.reads_back t (ap (transport_of c.args.proto) (part_is 20 bytes le) ∙ read)
