-- The index of the open leases that stands beside what is told while a log is read.
use Rattle.std.specs.Prelude.{◌≡◌, ◌⊎◌, ℕ, ◌<◌, ◌≤◌, true, false, List, length, slice_index_or, All, AllPairs, Option, Some, IsSome}
use Rattle.std.specs.Ordering.{nat_cmp, ordering_then}
use Rattle.std.specs.declared.cmp.Ordering.{Ordering}
use Rattle.aftr_base.specs.Row.{is_open}
use Rattle.aftr_base.specs.Telling.{is_lease_of}
use Rattle.aftr_base.specs.declared.row.LeaseRow.{LeaseRow}
use Rattle.lease_log.specs.Sound.{clash}
use Rattle.lease_log.specs.declared.place.Place.{Place}

-- the order of places: by address, and at one address by port
abbrev pub place_cmp : Place → Place → Ordering
place_cmp p q = ordering_then (nat_cmp p.addr q.addr) (nat_cmp p.port q.port)

-- p comes before q, or is q
abbrev pub IsUpTo : Place → Place → Type 0
IsUpTo p q = (p.addr < q.addr) ⊎ ((p.addr ≡ q.addr) × (p.port ≤ q.port))

-- where a lease's block begins
abbrev pub place_of : LeaseRow → Place
place_of l = record { addr = l.addr.0; port = l.first }

-- the lease at this position is open and begins at this place
pub record IsOpenAt (leases : List LeaseRow) (place : Place) (at : ℕ) : Type 0 where
  pub within : at < length leases
  pub stands : (d : LeaseRow) → is_open (slice_index_or leases at d) ≡ true
  pub begins : (d : LeaseRow) → place_of (slice_index_or leases at d) ≡ place

-- The index has the position of each open lease by its place, and nothing else; no two open leases share a port.
pub record IsIndexed (leases : List LeaseRow) (find : Place → Option ℕ) : Type 0 where
  pub ports : All (λ (l : LeaseRow). l.first ≤ l.last) leases
  pub apart : AllPairs (λ l m. clash l m ≡ false) leases
  pub finds : (place : Place) (at : ℕ) → find place ≡ Some at → IsOpenAt leases place at
  pub has : (at : ℕ) (d : LeaseRow) → at < length leases → is_open (slice_index_or leases at d) ≡ true
      → find (place_of (slice_index_or leases at d)) ≡ Some at

-- of the places up to this one that the index has, the last has this position
pub record IsLastUpTo (find : Place → Option ℕ) (place : Place) (at : ℕ) : Type 0 where
  pub here : Place
  pub found : find here ≡ Some at
  pub before : IsUpTo here place
  pub last : (q : Place) → IsUpTo q place → IsSome (find q) → IsUpTo q here

-- the lease at this position is the open one of a block, since no later moment than the block's
pub record IsLeaseAt (leases : List LeaseRow) (block : LeaseRow) (at : ℕ) : Type 0 where
  pub within : at < length leases
  pub same : (d : LeaseRow) → is_lease_of block.owner block.addr block.first block.last (slice_index_or leases at d) ≡ true
  pub begun : (d : LeaseRow) → (slice_index_or leases at d).since.0 ≤ block.since.0
