use Rattle.std.proofs.Common.{sym, ap, ◌∙◌}
use Rattle.wire_l4.specs.Places.{proto_of}
use Rattle.xlate_core.specs.Datagram.{Datagram, flags_of}
use Rattle.xlate_core.specs.declared.packet.Ends.{Ends}
use Rattle.xlate_core.proofs.Arriving.{arrival_is}
use Rattle.xlate_core.proofs.Transports.{proto_in}
use Rattle.xlate_core.proofs.packet.Datagram.arrival.Goals as goal

pub returns : goal.returns
returns c =
    arrival_is _ c.args.self.now
    (sym (proto_in c.self.inside.proto c.self.inside.packet.1) ∙ ap (λ (d : Datagram). proto_of d.body) c.self.view_is)
    c.place.ensures c.place-2.ensures
    (ap (λ (e : Ends). e.flags) c.self.invariant.read ∙ ap (λ (d : Datagram). flags_of d.body) c.self.view_is)
