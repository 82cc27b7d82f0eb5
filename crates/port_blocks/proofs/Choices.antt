-- What is known of a block that was chosen: it is free, and its numbers fit an address and ports.
use Rattle.std.proofs.Common.{◌≡◌, ℕ, ◌+◌, ◌-◌, ◌*◌, ◌^◌, ◌<◌, ◌≤◌, true, List, [], ◌∷◌, Option, Some, None, All, refl, sym, ap, subst, arith}
use Rattle.std.specs.Prelude.{slice_get, option_map}
use Rattle.std.specs.List.{range_with_len}
use Rattle.std.proofs.lemmas.List.Elements.{All-map, All-weaker, All-filter, All-head}
use Rattle.std.proofs.Math.Nat.{div-mul-le_self, mul-le-mul_right}
use Rattle.aftr_base.specs.Plan.{block_count}
use Rattle.aftr_base.specs.declared.row.LeaseRow.{LeaseRow}
use Rattle.aftr_base.specs.declared.value.Ip4.{Ip4}
use Rattle.aftr_base.specs.declared.value.Subscriber.{Subscriber}
use Rattle.aftr_base.proofs.Founds.{found_passes, found_in, first_in, mapped_some, in_row}
use Rattle.cfg_text.specs.Accepted.{is_accepted}
use Rattle.cfg_text.specs.declared.config.Config.{Config}
use Rattle.cfg_text.proofs.Facts.{facts, addresses_fit}
use Rattle.port_blocks.specs.declared.choice.Block.{Block}
use Rattle.port_blocks.specs.declared.choice.Choice.{Choice}
use Rattle.port_blocks.specs.declared.choice.Choice.TheVariants.{New, AddressFull, PoolEmpty}
use Rattle.port_blocks.specs.Free.{addresses_of, block_anywhere, block_at, block_from, block_on, block_ports, choice_anywhere, choice_of}
use Rattle.port_blocks.specs.Free.{choice_on, is_free, is_open_of, last_port, open_of, own_address, port_of}

-- a whole block within the ports, for which no lease stands in the subscriber's way
pub record IsChosen (c : Config) (leases : List LeaseRow) (owner : Subscriber) (now : ℕ) (b : Block) : Type 0 where
  pub last : b.last ≡ last_port c b.first
  pub free : is_free c leases owner now b.addr b.first ≡ true
  pub ports : b.first + c.block_size ≤ 2 ^ 16

block_ends : (size n : ℕ) → n < block_count size → port_of size n + size ≤ 2 ^ 16
block_ends size n lt =
    let more : (n + 1) * size ≤ block_count size * size = mul-le-mul_right size (omega arith) in
    omega (arith, more, div-mul-le_self (65536 - 1024) size)

ports_fit : (c : Config) → All (λ n. n + c.block_size ≤ 2 ^ 16) (block_ports c)
ports_fit c =
    let count = block_count c.block_size - c.ratio in
    All-map (λ n. n + c.block_size ≤ 2 ^ 16) (port_of c.block_size) (range_with_len c.ratio count)
    (All-weaker (λ n. (c.ratio ≤ n) × (n < c.ratio + count)) (λ n. port_of c.block_size n + c.block_size ≤ 2 ^ 16)
    (λ n h. block_ends c.block_size n (omega (arith, h.0, h.1))) (range_with_len c.ratio count) (in_row c.ratio count))

on_address : (c : Config) (leases : List LeaseRow) (owner : Subscriber) (now : ℕ) (addr : Ip4) (first : ℕ)
    → block_on c leases owner now addr ≡ Some first → IsChosen c leases owner now (block_from c addr first)
on_address c leases owner now addr first found = record {
  last = refl;
  free = found_passes (is_free c leases owner now addr) (block_ports c) first found;
  ports = found_in (λ n. n + c.block_size ≤ 2 ^ 16) (is_free c leases owner now addr) (block_ports c) first (ports_fit c) found;
}

new_inj : (a b : Block) → New a ≡ New b → a ≡ b
new_inj a b h = cc

-- ---- on the subscriber's own address

on_by : (c : Config) (leases : List LeaseRow) (owner : Subscriber) (now : ℕ) (addr : Ip4) (b : Block) (o : Option ℕ)
    → block_on c leases owner now addr ≡ o → elim o [ Some first ↦ New (block_from c addr first) | None ↦ AddressFull ] ≡ New b
    → IsChosen c leases owner now b × (b.addr ≡ addr)
on_by c leases owner now addr b None e h = cc
on_by c leases owner now addr b (Some first) e h =
    let is = new_inj (block_from c addr first) b h in
    (subst (IsChosen c leases owner now) is (on_address c leases owner now addr first e), sym (ap (λ (x : Block). x.addr) is))

-- ---- the first of the pool

at_address : (c : Config) (leases : List LeaseRow) (owner : Subscriber) (now : ℕ) (addr : Ip4) (x : Ip4 × ℕ) → addr.0 < 2 ^ 32
    → block_at c leases owner now addr ≡ Some x → IsChosen c leases owner now (block_from c x.0 x.1) × (x.0.0 < 2 ^ 32)
at_address c leases owner now addr x lt h =
    let (first, found, same) = mapped_some (λ (n : ℕ). (addr, n)) (block_on c leases owner now addr) x h in
    subst (λ (y : Ip4 × ℕ). IsChosen c leases owner now (block_from c y.0 y.1) × (y.0.0 < 2 ^ 32)) same
    (on_address c leases owner now addr first found, lt)

anywhere_by : (c : Config) (leases : List LeaseRow) (owner : Subscriber) (now : ℕ) (b : Block) (o : Option (Ip4 × ℕ)) → is_accepted c ≡ true
    → block_anywhere c leases owner now ≡ o → elim o [ Some x ↦ New (block_from c x.0 x.1) | None ↦ PoolEmpty ] ≡ New b
    → IsChosen c leases owner now b × (b.addr.0 < 2 ^ 32)
anywhere_by c leases owner now b None ok e h = cc
anywhere_by c leases owner now b (Some x) ok e h =
    let addrs = addresses_fit c.pool (facts c ok).pool in
    let (addr, lt, here) = first_in (block_at c leases owner now) (λ (a : Ip4). a.0 < 2 ^ 32) (addresses_of c.pool) x addrs e in
    let is = new_inj (block_from c x.0 x.1) b h in
    subst (λ (y : Block). IsChosen c leases owner now y × (y.addr.0 < 2 ^ 32)) is (at_address c leases owner now addr x lt here)

-- ---- either way

abbrev by_address : Config → List LeaseRow → Subscriber → ℕ → Option Ip4 → Choice
by_address c leases owner now o =
    elim o [ Some addr ↦ choice_on c leases owner now addr | None ↦ choice_anywhere c leases owner now ]

chosen_by : (c : Config) (leases : List LeaseRow) (owner : Subscriber) (now : ℕ) (b : Block) (o : Option Ip4) → is_accepted c ≡ true
    → by_address c leases owner now o ≡ New b → IsChosen c leases owner now b
chosen_by c leases owner now b None ok h =
    (anywhere_by c leases owner now b (block_anywhere c leases owner now) ok refl h).0
chosen_by c leases owner now b (Some addr) ok h =
    (on_by c leases owner now addr b (block_on c leases owner now addr) refl h).0

pub chosen : (c : Config) (leases : List LeaseRow) (owner : Subscriber) (home : Option Ip4) (now : ℕ) (b : Block) → is_accepted c ≡ true
    → choice_of c leases owner home now ≡ New b → IsChosen c leases owner now b
chosen c leases owner home now b ok h = chosen_by c leases owner now b (own_address home owner leases) ok h

some_addr : (a b : Ip4) → Some a ≡ Some b → a ≡ b
some_addr a b h = cc

-- ---- the address, where those of all leases fit 32 bits

abbrev FitsAddress : LeaseRow → Type 0
FitsAddress l = l.addr.0 < 2 ^ 32

first_fits : (ls : List LeaseRow) (addr : Ip4) → All FitsAddress ls → option_map (λ (l : LeaseRow). l.addr) (slice_get ls 0) ≡ Some addr
    → addr.0 < 2 ^ 32
first_fits [] addr all h = cc
first_fits (l ∷ ls) addr all h = subst (λ (a : Ip4). a.0 < 2 ^ 32) (some_addr l.addr addr h) (All-head FitsAddress l ls all)

address_by : (c : Config) (leases : List LeaseRow) (owner : Subscriber) (now : ℕ) (b : Block) (o : Option Ip4) → is_accepted c ≡ true
    → ((addr : Ip4) → o ≡ Some addr → addr.0 < 2 ^ 32) → by_address c leases owner now o ≡ New b → b.addr.0 < 2 ^ 32
address_by c leases owner now b None ok own h = (anywhere_by c leases owner now b (block_anywhere c leases owner now) ok refl h).1
address_by c leases owner now b (Some addr) ok own h =
    subst (λ (a : Ip4). a.0 < 2 ^ 32) (sym (on_by c leases owner now addr b (block_on c leases owner now addr) refl h).1) (own addr refl)

pub chosen_address : (c : Config) (leases : List LeaseRow) (owner : Subscriber) (now : ℕ) (b : Block) → is_accepted c ≡ true
    → All (λ (l : LeaseRow). l.addr.0 < 2 ^ 32) leases → choice_of c leases owner None now ≡ New b → b.addr.0 < 2 ^ 32
chosen_address c leases owner now b ok all h =
    address_by c leases owner now b (own_address None owner leases) ok
    (λ addr own. first_fits (open_of owner leases) addr (All-filter (is_open_of owner) FitsAddress leases all) own) h
