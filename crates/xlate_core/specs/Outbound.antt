-- A whole packet of a subscriber: the rules that refuse it, in their order, up to the grant (RFC 6333 5, 6).
use Rattle.std.specs.Prelude.{ℕ, not, ◌||◌, nat_le, List, Result, Ok}
use Rattle.aftr_base.specs.Attempt.{◌>>=◌, ◌>>◌, require}
use Rattle.aftr_base.specs.declared.event.DropCause.{DropCause}
use Rattle.aftr_base.specs.declared.event.DropCause.TheVariants.{NoRoute, TooBig}
use Rattle.cfg_text.specs.declared.config.Config.{Config}
use Rattle.wire_ip4.specs.Grammar.{Header}
use Rattle.ingress.specs.declared.received.Sender.{Sender}
use Rattle.xlate_core.specs.declared.packet.Content.{Content}
use Rattle.ingress.specs.PublicSide.{is_ours}
use Rattle.xlate_core.specs.Datagram.{Datagram}
use Rattle.xlate_core.specs.Content.{content_of}
use Rattle.xlate_core.specs.Packet.{has_route}

-- who sent a datagram, and the datagram
pub record Outbound : Type 0 where
  pub who : Sender
  pub datagram : Datagram

-- What a packet brings, whether that goes to the public side or turns back to a subscriber. One that is too long for the public
-- side is cut, unless that is forbidden.
abbrev pub outward : Config → Header × List ℕ → Result Content DropCause
outward c packet = do
  require (has_route packet.0) NoRoute
  content ← content_of packet
  let f = packet.0.fields
  require (is_ours c f.dst || nat_le f.total c.public_mtu || not f.dont_cut) TooBig
  Ok content
