-- Who held an address and a port at a moment (RFC 6888 4).
use Rattle.std.specs.Prelude.{ℕ, Bool, ◌&&◌, nat_lt, List, [], ◌∷◌, map, filter, if◌then◌else◌}
use Rattle.aftr_base.specs.Value.{ip4_eq, is_within}
use Rattle.aftr_base.specs.Told.{until_of}
use Rattle.aftr_base.specs.declared.told.Told.{Told}
use Rattle.aftr_base.specs.declared.value.Ip4.{Ip4}
use Rattle.aftr_base.specs.declared.value.Subscriber.{Subscriber}
use Rattle.aftr_base.specs.declared.row.LeaseRow.{LeaseRow}
use Rattle.trace_query.specs.declared.Named.{Named}
use Rattle.trace_query.specs.declared.Named.TheVariants.{Subscriber as NamedSubscriber, Unheld, Beyond}

-- both ends included; an open lease ends at the horizon
abbrev pub is_during : ℕ → LeaseRow → ℕ → Bool
is_during horizon l at = is_within l.since.0 (until_of horizon l.until).0 at

abbrev pub holds : ℕ → Ip4 → ℕ → ℕ → LeaseRow → Bool
holds horizon addr port at l = ip4_eq addr l.addr && is_within l.first l.last port && is_during horizon l at

-- the owners of all leases that hold the place at the moment
abbrev pub names_of : Told → Ip4 → ℕ → ℕ → List Subscriber
names_of t addr port at = map (λ (l : LeaseRow). l.owner) (filter (holds t.horizon.0 addr port at) t.leases)

abbrev pub first_name : List Subscriber → Named
first_name [] = Unheld
first_name (s ∷ others) = NamedSubscriber s

-- the log promises no names past its horizon
abbrev pub name_of : Told → Ip4 → ℕ → ℕ → Named
name_of t addr port at = if nat_lt t.horizon.0 at then Beyond t.horizon else first_name (names_of t addr port at)
