-- Filtering (RFC 4787 5).
use Rattle.std.specs.Prelude.{Bool, not, ◌||◌, List}
use Rattle.std.specs.List.{list_any}
use Rattle.aftr_base.specs.Value.{ip4_eq}
use Rattle.aftr_base.specs.declared.value.Ip4.{Ip4}
use Rattle.nat_mapping.specs.declared.row.Peer.{Peer}
use Rattle.nat_mapping.specs.Rows.{Mapping}

-- one of the peers has the address
abbrev pub has_address : Ip4 → List Peer → Bool
has_address remote peers = list_any (λ (p : Peer). ip4_eq remote p.addr) peers

-- a row admits each remote address, or by address those that one of its peers has
abbrev pub admits : Mapping → Ip4 → Bool → Bool
admits row remote by_address = not by_address || has_address remote row.peers
