use Rattle.std.proofs.Common.{subst}
use Rattle.ingress.specs.Packet.{IsWhole, bytes_in}
use Rattle.ingress.proofs.Packets.{whole_held}
use Rattle.ingress.proofs.packet.Packet.bytes.Goals as goal

pub returns-in-Lent-clause-whole : goal.returns-in-Lent-clause-whole
returns-in-Lent-clause-whole c = subst IsWhole c.self.view_is (whole_held (bytes_in c.self.inside.bytes) c.self.invariant)
