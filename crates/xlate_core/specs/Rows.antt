-- The row of an inner key, and the row of an external place (RFC 4787 4).
use Rattle.std.specs.Prelude.{Bool, List, [], ◌∷◌, find, Option, if◌then◌else◌}
use Rattle.aftr_base.specs.declared.value.Ext.{Ext}
use Rattle.aftr_base.specs.declared.value.InnerKey.{InnerKey}
use Rattle.aftr_base.specs.declared.value.Proto.{Proto}
use Rattle.nat_mapping.specs.declared.row.Peer.{Peer}
use Rattle.nat_mapping.specs.Rows.{Mapping, is_at, is_of, with_peer}

abbrev pub find_out : InnerKey → List Mapping → Option Mapping
find_out key rows = find (is_of key) rows

abbrev pub find_in : Proto → Ext → List Mapping → Option Mapping
find_in proto ext rows = find (is_at proto ext) rows

-- the first row that passes a test with a peer made or refreshed
abbrev pub touched : (Mapping → Bool) → Peer → List Mapping → List Mapping
touched test p [] = []
touched test p (r ∷ rows) = if test r then (record r { peers = with_peer p r.peers } ∷ rows) else (r ∷ touched test p rows)
