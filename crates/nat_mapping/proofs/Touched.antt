-- A row that was changed in its place.
use Rattle.std.proofs.Common.{◌≡◌, ◌≢◌, ℕ, zero, suc, ◌<◌, List, [], ◌∷◌, ◌++◌, length, get_or, set, map, refl, sym, ap, ◌∙◌, arith}
use Rattle.std.proofs.lemmas.List.{length-map, map-append, map-set, get_or-map, get_or-set_other, get_or-set_same}
use Rattle.std.proofs.Math.ListN.{get_or-append}
use Rattle.std.proofs.Math.Seq.{map-set_same}
use Rattle.nat_mapping.specs.declared.row.Row.{Row}
use Rattle.nat_mapping.specs.declared.row.Peer.{Peer}
use Rattle.nat_mapping.specs.Rows.{Mapping, has_peer, has_peer_at, mapping_of, room_of, touched_at, with_peer}

-- a row that stands at a place
pub record StandsAt (rows : List Row) (at : ℕ) (there : Row) : Type 0 where
  pub within : at < length rows
  pub is : there ≡ get_or rows at there

-- where the table's rows are these
pub stands : (rows : List Row) (view : List Mapping) (at : ℕ) (there : Row) → map mapping_of rows ≡ view → at < length view
    → there ≡ get_or rows at there → StandsAt rows at there
stands rows view at there same lt is =
    record { within = omega (arith, lt, length-map rows mapping_of, ap (λ (l : List Mapping). length l) same); is = is }

-- ---- what others see

pub same_rows : (rows : List Row) (at : ℕ) (there row : Row) → StandsAt rows at there → mapping_of row ≡ mapping_of there
    → map mapping_of (set rows at row) ≡ map mapping_of rows
same_rows rows at there row stands same = map-set_same mapping_of rows at row there (same ∙ ap mapping_of stands.is)

pub same_rooms : (rows : List Row) (at : ℕ) (there row : Row) → StandsAt rows at there → room_of row ≡ room_of there
    → map room_of (set rows at row) ≡ map room_of rows
same_rooms rows at there row stands same = map-set_same room_of rows at row there (same ∙ ap room_of stands.is)

pub other_rooms : (rows : List Row) (at : ℕ) (row : Row) (k : ℕ) → k ≢ at
    → get_or (map room_of (set rows at row)) k 0 ≡ get_or (map room_of rows) k 0
other_rooms rows at row k other =
    ap (λ (l : List ℕ). get_or l k 0) (map-set room_of rows at row) ∙ get_or-set_other (map room_of rows) at k (room_of row) 0 other

pub its_room : (rows : List Row) (at : ℕ) (there row : Row) → StandsAt rows at there
    → get_or (map room_of (set rows at row)) at 0 ≡ room_of row
its_room rows at there row stands =
    ap (λ (l : List ℕ). get_or l at 0) (map-set room_of rows at row)
    ∙ get_or-set_same (map room_of rows) at (room_of row) 0 (omega (arith, stands.within, length-map rows room_of))

pub room_there : (rows : List Row) (at : ℕ) (there : Row) → StandsAt rows at there → get_or (map room_of rows) at 0 ≡ room_of there
room_there rows at there stands = get_or-map room_of rows at there 0 stands.within ∙ ap room_of (sym stands.is)

-- a row that comes behind the others leaves them their room
pub still_room : (rows : List Row) (row : Row) (k : ℕ) → k < length rows
    → get_or (map room_of (rows ++ row ∷ [])) k 0 ≡ get_or (map room_of rows) k 0
still_room rows row k lt =
    ap (λ (l : List ℕ). get_or l k 0) (map-append room_of rows (row ∷ []))
    ∙ get_or-append (map room_of rows) (map room_of (row ∷ [])) 0 k (omega (arith, lt, length-map rows room_of))

-- ---- peers

peer_at : (p : Peer) (rows : List Row) (at : ℕ) (d : Row) → at < length rows
    → has_peer_at at p (map mapping_of rows) ≡ has_peer p (get_or rows at d).peers.items
peer_at p [] at d lt = absurd (omega arith)
peer_at p (r ∷ rows) zero d lt = refl
peer_at p (r ∷ rows) (suc at) d lt = peer_at p rows at d (omega arith)

pub peer_there : (p : Peer) (rows : List Row) (at : ℕ) (there : Row) → StandsAt rows at there
    → has_peer_at at p (map mapping_of rows) ≡ has_peer p there.peers.items
peer_there p rows at there stands = peer_at p rows at there stands.within ∙ ap (λ (r : Row). has_peer p r.peers.items) (sym stands.is)

touched_set : (p : Peer) (rows : List Row) (at : ℕ) (d : Row) (m : Mapping) → at < length rows
    → m ≡ record (mapping_of (get_or rows at d)) { peers = with_peer p (get_or rows at d).peers.items }
    → set (map mapping_of rows) at m ≡ touched_at at p (map mapping_of rows)
touched_set p [] at d m lt put = absurd (omega arith)
touched_set p (r ∷ rows) zero d m lt put = ap (λ (n : Mapping). n ∷ map mapping_of rows) put
touched_set p (r ∷ rows) (suc at) d m lt put = ap (λ (rs : List Mapping). mapping_of r ∷ rs) (touched_set p rows at d m (omega arith) put)

pub touched_row : (p : Peer) (rows : List Row) (at : ℕ) (there row : Row) → StandsAt rows at there
    → mapping_of row ≡ record (mapping_of there) { peers = with_peer p there.peers.items }
    → map mapping_of (set rows at row) ≡ touched_at at p (map mapping_of rows)
touched_row p rows at there row stands put =
    map-set mapping_of rows at row
    ∙ touched_set p rows at there (mapping_of row) stands.within
    (put ∙ ap (λ (r : Row). record (mapping_of r) { peers = with_peer p r.peers.items }) stands.is)
