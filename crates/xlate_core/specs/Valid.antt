-- What holds of every state that a run comes to.
use Rattle.std.specs.Prelude.{◌≡◌, ℕ, ◌^◌, ◌<◌, ◌≤◌, ◌++◌, Bool, true, false, not, ◌&&◌, ◌||◌, nat_le, List, None, Some, AllPairs, All}
use Rattle.std.specs.List.{list_all, list_any}
use Rattle.aftr_base.specs.Value.{ip4_eq, key_eq, subscriber_eq, is_within}
use Rattle.aftr_base.specs.Limits.{log_moment_limit}
use Rattle.aftr_base.specs.Plan.{is_prefix6}
use Rattle.aftr_base.specs.Row.{is_in_use, is_open, overlaps}
use Rattle.aftr_base.specs.Told.{end_of}
use Rattle.aftr_base.specs.declared.row.LeaseRow.{LeaseRow}
use Rattle.aftr_base.specs.declared.row.PlanRow.{PlanRow}
use Rattle.aftr_base.specs.declared.told.Told.{Told}
use Rattle.cfg_text.specs.Accepted.{is_accepted}
use Rattle.cfg_text.specs.declared.config.Config.{Config}
use Rattle.nat_mapping.specs.Rows.{Mapping}
use Rattle.subscriber_table.specs.Under.{subscriber_of}
use Rattle.nat_mapping.specs.Rows.{is_at}
use Rattle.xlate_core.specs.State.{State, latest}

-- a row's place lies in an open lease of its owner
abbrev pub lies_in_lease : Mapping → LeaseRow → Bool
lies_in_lease r l = is_open l && subscriber_eq r.owner l.owner && ip4_eq r.ext.addr l.addr && is_within l.first l.last r.ext.port

abbrev pub is_granted : State → Mapping → Bool
is_granted s r = list_any (lies_in_lease r) s.leases

-- each row's does
abbrev pub AreGranted : List Mapping → List LeaseRow → Type 0
AreGranted rows leases = All (λ r. list_any (lies_in_lease r) leases ≡ true) rows

-- the owner is the subscriber of the key's softwire
abbrev pub is_owned : State → Mapping → Bool
is_owned s r = elim (subscriber_of s.config r.key.softwire) [ None ↦ false | Some owner ↦ subscriber_eq r.owner owner ]

-- two rows with one key, or with one place in one protocol
abbrev pub are_alike : Mapping → Mapping → Bool
are_alike r q = key_eq r.key q.key || is_at q.key.proto q.ext r

-- the lease isn't over before that moment
abbrev pub lasts_to : ℕ → LeaseRow → Bool
lasts_to at l = elim l.until [ None ↦ true | Some until ↦ nat_le at until.0 ]

-- two leases that share a port at some moment
abbrev pub clash : LeaseRow → LeaseRow → Bool
clash l m = overlaps l m.addr m.first m.last && lasts_to m.since.0 l && lasts_to l.since.0 m

-- two open leases that share a port
abbrev pub clash_open : LeaseRow → LeaseRow → Bool
clash_open l m = is_open l && is_open m && overlaps l m.addr m.first m.last

-- a subscriber's range of ports, that has begun by now where it is open, and else has ended since, by the latest moment
abbrev pub is_lease_by : ℕ → ℕ → LeaseRow → Bool
is_lease_by now latest l =
    is_prefix6 l.owner.0 && nat_le l.first l.last
    && (elim l.until [ None ↦ nat_le l.since.0 now | Some until ↦ nat_le l.since.0 until.0 && nat_le until.0 latest ])

-- Each mapping has a place in an open lease of its owner, no two share a key or a place, and no two open leases share a port.
pub record IsConsistent (s : State) : Type 0 where
  pub granted : All (λ r. is_granted s r ≡ true) s.rows
  pub owned : All (λ r. is_owned s r ≡ true) s.rows
  pub apart : AllPairs (λ r q. are_alike r q ≡ false) s.rows
  pub leases : All (λ l. is_lease_by s.clock (latest s) l ≡ true) s.leases
  pub open_apart : AllPairs (λ l m. clash_open l m ≡ false) s.leases

-- no two leases share a port at a moment
abbrev pub AreDisjoint : List LeaseRow → Type 0
AreDisjoint leases = AllPairs (λ l m. clash l m ≡ false) leases

-- so it is, and no two leases share a port at a moment, whether they are open or have ended
pub record IsValid (s : State) : Type 0 where
  pub consistent : IsConsistent s
  pub disjoint : AreDisjoint s.leases

-- a lease's owner is a prefix, and its address and ports are numbers of 32 and of 16 bits
pub record IsOnWire (l : LeaseRow) : Type 0 where
  pub owner : is_prefix6 l.owner.0 ≡ true
  pub addr : l.addr.0 < 2 ^ 32
  pub range : l.first ≤ l.last
  pub last : l.last < 2 ^ 16

-- what is known of each state that a run comes to, whatever leases the log told at its start
pub record IsReached (s : State) : Type 0 where
  pub accepted : is_accepted s.config ≡ true
  pub consistent : IsConsistent s
  pub wire : All IsOnWire s.leases

-- ---- what a run may start from

-- no row is open
abbrev pub is_closed : Told → Bool
is_closed t = list_all (λ l. not (is_open l)) t.leases && list_all (λ (p : PlanRow). not (is_in_use p)) t.plans

-- no moment is past the limit
abbrev pub is_told_by : ℕ → Told → Bool
is_told_by limit t =
    nat_le (end_of t) limit && list_all (λ (l : LeaseRow). nat_le l.since.0 limit) t.leases
    && list_all (λ (p : PlanRow). nat_le p.since.0 limit) t.plans

-- an accepted configuration and a log whose leases have ended
pub record IsStart (c : Config) (t : Told) : Type 0 where
  pub accepted : is_accepted c ≡ true
  pub leases : All (λ l. is_lease_by 0 (end_of t) l ≡ true) t.leases
  pub ended : All (λ l. is_open l ≡ false) t.leases
  pub wire : All IsOnWire t.leases
  pub moments : end_of t ≤ log_moment_limit

-- ---- what stays of it

-- The leases that were told at the start stand first and as they were, every other one was opened past the end of what was told,
-- and the horizon isn't below the told one.
pub record KeepsTold (t : Told) (s : State) : Type 0 where
  pub opened : List LeaseRow
  pub leases : s.leases ≡ t.leases ++ opened
  pub later : All (λ (l : LeaseRow). end_of t < l.since.0) opened
  pub plans : s.plans ≡ t.plans
  pub horizon : t.horizon.0 ≤ s.horizon
