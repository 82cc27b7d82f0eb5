-- A packet that leaves, cut where it is longer than its link takes (RFC 791 3.2; RFC 8200 4.5, RFC 6333 5.3).
use Rattle.std.specs.Prelude.{ℕ, List, Option, Some, map, if◌then◌else◌}
use Rattle.aftr_base.specs.declared.value.Side.TheVariants.{Softwire as SoftwireSide, Public as PublicSide}
use Rattle.aftr_base.specs.declared.value.Subscriber.{Subscriber}
use Rattle.fragment_ids.specs.declared.Count.{Count}
use Rattle.fragment_ids.specs.Ids.{counted, next_id}
use Rattle.nat_mapping.specs.Rows.{Mapping}
use Rattle.softwire.specs.Cut.{cut_packet, encapsulated, is_cut}
use Rattle.wire_ip4.specs.Grammar.{Header}
use Rattle.xlate_core.specs.declared.step_out.Item.{Item}
use Rattle.xlate_core.specs.State.{State, item}

-- the packets that leave, in order, and how many were cut for each subscriber by then
pub record Sending : Type 0 where
  pub items : List Item
  pub cuts : List Count

-- a subscriber's packet to the public side
abbrev pub public_items : State → Subscriber → Header → List ℕ → List Item
public_items s owner h payload = map (item s PublicSide (Some owner)) (cut_packet s.config.public_mtu h payload)

abbrev pub to_public : State → Subscriber → Header → List ℕ → Sending
to_public s owner h payload = record { items = public_items s owner h payload; cuts = s.cuts }

-- An IPv4 packet to the softwire of a mapping, in packets of this traffic class. The owner is whose place it shows, where that is
-- a subscriber's. The identification of one that is cut counts those to the mapping's own subscriber.
abbrev pub softwire_items : State → Option Subscriber → Mapping → ℕ → List ℕ → List Item
softwire_items s owner row class inner =
    let c = s.config in
    map (item s SoftwireSide owner) (encapsulated c.aftr row.key.softwire class c.softwire_mtu (next_id row.owner s.cuts) inner)

abbrev pub cuts_after : State → Mapping → List ℕ → List Count
cuts_after s row inner = if is_cut s.config.softwire_mtu inner then counted row.owner s.cuts else s.cuts

abbrev pub to_softwire : State → Option Subscriber → Mapping → ℕ → List ℕ → Sending
to_softwire s owner row class inner =
    record { items = softwire_items s owner row class inner; cuts = cuts_after s row inner }
