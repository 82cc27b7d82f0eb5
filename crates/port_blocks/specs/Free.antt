-- Which block of ports is free for a subscriber (RFC 6431 2, RFC 6888 3), by the lease rows in order of opening.
use Rattle.std.specs.Prelude.{ℕ, ◌+◌, ◌-◌, ◌*◌, Bool, false, not, ◌&&◌, ◌||◌, nat_le, nat_lt, List, map, flat_map, filter, find, Option}
use Rattle.std.specs.Prelude.{Some, None, option_map, slice_get}
use Rattle.std.specs.List.{list_all, range_with_len}
use Rattle.aftr_base.specs.Attempt.{first_some, or_else}
use Rattle.aftr_base.specs.Value.{ip4, subscriber_eq, moment}
use Rattle.aftr_base.specs.declared.value.Ip4.{Ip4}
use Rattle.aftr_base.specs.declared.value.Prefix4.{Prefix4}
use Rattle.aftr_base.specs.declared.value.Subscriber.{Subscriber}
use Rattle.aftr_base.specs.declared.row.LeaseRow.{LeaseRow}
use Rattle.aftr_base.specs.Plan.{size4, block_count}
use Rattle.aftr_base.specs.Row.{is_open, overlaps}
use Rattle.cfg_text.specs.declared.config.Config.{Config}
use Rattle.port_blocks.specs.declared.choice.Block.{Block}
use Rattle.port_blocks.specs.declared.choice.Choice.{Choice}
use Rattle.port_blocks.specs.declared.choice.Choice.TheVariants.{New, AddressFull, PoolEmpty}

-- the leases in order of opening, and for how many more there is room
pub record Leases : Type 0 where
  pub rows : List LeaseRow
  pub spare : ℕ

-- ---- open leases

abbrev pub is_open_of : Subscriber → LeaseRow → Bool
is_open_of s l = is_open l && subscriber_eq s l.owner

abbrev pub open_of : Subscriber → List LeaseRow → List LeaseRow
open_of s leases = filter (is_open_of s) leases

abbrev pub all_open : List LeaseRow → List LeaseRow
all_open leases = filter is_open leases

-- ---- free blocks

-- A lease that ended stands in nobody's way after the hold time (RFC 6888 3, REQ-8), and in its own owner's not past its end.
abbrev pub has_ended_for : Config → Subscriber → ℕ → LeaseRow → Bool
has_ended_for c s now l =
    elim l.until [
      | None ↦ false
      | Some until ↦ nat_le (until.0 + c.hold_ms) now || (subscriber_eq s l.owner && nat_lt until.0 now)
    ]

abbrev pub last_port : Config → ℕ → ℕ
last_port c first = first + c.block_size - 1

abbrev pub is_free : Config → List LeaseRow → Subscriber → ℕ → Ip4 → ℕ → Bool
is_free c leases s now addr first =
    list_all (λ l. not (overlaps l addr first (last_port c first)) || has_ended_for c s now l) leases

-- the first port of a block
abbrev pub port_of : ℕ → ℕ → ℕ
port_of size block = 1024 + size * block

-- the first ports of the blocks that are leased: those behind the plan's
abbrev pub block_ports : Config → List ℕ
block_ports c = map (port_of c.block_size) (range_with_len c.ratio (block_count c.block_size - c.ratio))

-- the addresses of a prefix, and of a pool, in order
abbrev pub addresses_in : Prefix4 → List Ip4
addresses_in p = map ip4 (range_with_len p.bits.0 (size4 p))

abbrev pub addresses_of : List Prefix4 → List Ip4
addresses_of pool = flat_map addresses_in pool

-- the least free block of an address, and of the pool in order
abbrev pub block_on : Config → List LeaseRow → Subscriber → ℕ → Ip4 → Option ℕ
block_on c leases s now addr = find (is_free c leases s now addr) (block_ports c)

abbrev pub block_at : Config → List LeaseRow → Subscriber → ℕ → Ip4 → Option (Ip4 × ℕ)
block_at c leases s now addr = option_map (λ (first : ℕ). (addr, first)) (block_on c leases s now addr)

abbrev pub block_anywhere : Config → List LeaseRow → Subscriber → ℕ → Option (Ip4 × ℕ)
block_anywhere c leases s now = first_some (block_at c leases s now) (addresses_of c.pool)

-- ---- the block that a subscriber may have next

abbrev pub block_from : Config → Ip4 → ℕ → Block
block_from c addr first = record { addr = addr; first = first; last = last_port c first }

-- the one address that all of a subscriber's blocks have: the plan's, or that of its first open lease
abbrev pub own_address : Option Ip4 → Subscriber → List LeaseRow → Option Ip4
own_address home s leases = or_else home (option_map (λ (l : LeaseRow). l.addr) (slice_get (open_of s leases) 0))

abbrev pub choice_on : Config → List LeaseRow → Subscriber → ℕ → Ip4 → Choice
choice_on c leases s now addr =
    elim (block_on c leases s now addr) [ Some first ↦ New (block_from c addr first) | None ↦ AddressFull ]

abbrev pub choice_anywhere : Config → List LeaseRow → Subscriber → ℕ → Choice
choice_anywhere c leases s now =
    elim (block_anywhere c leases s now) [ Some b ↦ New (block_from c b.0 b.1) | None ↦ PoolEmpty ]

abbrev pub choice_of : Config → List LeaseRow → Subscriber → Option Ip4 → ℕ → Choice
choice_of c leases s home now =
    elim (own_address home s leases) [ Some addr ↦ choice_on c leases s now addr | None ↦ choice_anywhere c leases s now ]

-- a lease that opens now
abbrev pub opened : Subscriber → Block → ℕ → LeaseRow
opened s b now = record { owner = s; addr = b.addr; first = b.first; last = b.last; since = moment now; until = None }
