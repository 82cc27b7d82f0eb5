use Rattle.std.proofs.Common.{rules}
use Rattle.wire_l4.proofs.Replacing.{WasPlaced, placed_back}
use Rattle.wire_l4.proofs.Sums.{placed_sound}
use Rattle.wire_l4.proofs.place.set_place.Goals as goal

pub returns-in-Udp-clause-reads_back : goal.returns-in-Udp-clause-reads_back
returns-in-Udp-clause-reads_back c =
    let placed : WasPlaced c.args.proto c.args.source c.args.old c.args.new c.args.bytes.now c.set_port.new.bytes =
    record { fits = search rules; addr = search rules; port = search rules; same = search rules; made = search rules } in
    placed_back placed

pub returns-in-Udp-clause-sound : goal.returns-in-Udp-clause-sound
returns-in-Udp-clause-sound c =
    let placed : WasPlaced c.args.proto c.args.source c.args.old c.args.new c.args.bytes.now c.set_port.new.bytes =
    record { fits = search rules; addr = search rules; port = search rules; same = search rules; made = search rules } in
    placed_sound placed c.requires.whole c.requires.there

pub returns-in-Tcp-clause-reads_back : goal.returns-in-Tcp-clause-reads_back
returns-in-Tcp-clause-reads_back c =
    let placed : WasPlaced c.args.proto c.args.source c.args.old c.args.new c.args.bytes.now c.set_port-in-Tcp.new.bytes =
    record { fits = search rules; addr = search rules; port = search rules; same = search rules; made = search rules } in
    placed_back placed

pub returns-in-Tcp-clause-sound : goal.returns-in-Tcp-clause-sound
returns-in-Tcp-clause-sound c =
    let placed : WasPlaced c.args.proto c.args.source c.args.old c.args.new c.args.bytes.now c.set_port-in-Tcp.new.bytes =
    record { fits = search rules; addr = search rules; port = search rules; same = search rules; made = search rules } in
    placed_sound placed c.requires.whole c.requires.there

pub returns-in-Icmp-clause-reads_back : goal.returns-in-Icmp-clause-reads_back
returns-in-Icmp-clause-reads_back c =
    let placed : WasPlaced c.args.proto c.args.source c.args.old c.args.new c.args.bytes.now c.set_identifier.new.bytes =
    record { fits = search rules; addr = search rules; port = search rules; same = search rules; made = search rules } in
    placed_back placed

pub returns-in-Icmp-clause-sound : goal.returns-in-Icmp-clause-sound
returns-in-Icmp-clause-sound c =
    let placed : WasPlaced c.args.proto c.args.source c.args.old c.args.new c.args.bytes.now c.set_identifier.new.bytes =
    record { fits = search rules; addr = search rules; port = search rules; same = search rules; made = search rules } in
    placed_sound placed c.requires.whole c.requires.there
