use Rattle.std.proofs.Common.{ap, sym, ◌∙◌}
use Rattle.wire_l4.specs.Places.{proto_of}
use Rattle.xlate_core.specs.Datagram.{Datagram}
use Rattle.xlate_core.proofs.Transports.{proto_in}
use Rattle.xlate_core.proofs.packet.Datagram.proto.Goals as goal

pub returns : goal.returns
returns c =
    sym (proto_in c.self.inside.proto c.self.inside.packet.1) ∙ ap (λ (d : Datagram). proto_of d.body) c.self.view_is
