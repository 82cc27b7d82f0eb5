use Rattle.std.proofs.Common.{ap, ◌∙◌}
use Rattle.xlate_core.specs.declared.packet.Ends.{Ends}
use Rattle.xlate_core.specs.Datagram.{Datagram, flags_of}
use Rattle.xlate_core.proofs.packet.Datagram.flags.Goals as goal

pub returns : goal.returns
returns c = ap (λ (e : Ends). e.flags) c.self.invariant.read ∙ ap (λ (d : Datagram). flags_of d.body) c.self.view_is
