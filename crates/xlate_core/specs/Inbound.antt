-- A whole packet from the public side: the rules that refuse it, in their order, up to its mapping (RFC 6333 6.2).
use Rattle.std.specs.Prelude.{ℕ, not, ◌&&◌, List, Result}
use Rattle.aftr_base.specs.Attempt.{◌>>◌, require}
use Rattle.aftr_base.specs.declared.event.DropCause.{DropCause}
use Rattle.aftr_base.specs.declared.event.DropCause.TheVariants.{NoRoute}
use Rattle.cfg_text.specs.declared.config.Config.{Config}
use Rattle.wire_ip4.specs.Grammar.{Header}
use Rattle.ingress.specs.PublicSide.{is_ours}
use Rattle.xlate_core.specs.declared.packet.Content.{Content}
use Rattle.xlate_core.specs.Content.{content_of}
use Rattle.xlate_core.specs.Packet.{is_routable}

-- what a packet to the pool brings, from a routed address outside the pool
abbrev pub inward : Config → Header × List ℕ → Result Content DropCause
inward c packet = do
  let f = packet.0.fields
  require (is_routable f.src && not (is_ours c f.src)) NoRoute
  content_of packet
