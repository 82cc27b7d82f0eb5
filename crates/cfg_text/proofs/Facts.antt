-- What follows where a configuration is accepted.
use Rattle.std.proofs.Common.{◌≡◌, ℕ, ◌+◌, ◌-◌, ◌*◌, ◌/◌, ◌%◌, ◌^◌, ◌<◌, ◌≤◌, Bool, true, nat_le, nat_lt, not, ◌&&◌, ◌||◌, ◌==◌, List, []}
use Rattle.std.proofs.Common.{◌∷◌, length, map, All, refl, arith}
use Rattle.std.specs.List.{list_all, list_any, flat_map, range_with_len}
use Rattle.std.proofs.lemmas.Bool.{and_parts, and_from, leb-true, ltb-true, le-leb, lt-ltb, eqb-true, eq-eqb}
use Rattle.std.proofs.lemmas.List.Elements.{All-map, All-weaker, All-nil, All-append}
use Rattle.std.proofs.Math.Nat.{mul-mod_left, div-mul-le_self}
use Rattle.aftr_base.specs.Value.{ip4, is_within, is_under4, is_under6, prefix_of}
use Rattle.aftr_base.specs.Plan.{is_aggregate, is_block_size, is_plan, is_pool, is_pool_prefix, is_prefix4, is_prefix6, is_ratio}
use Rattle.aftr_base.specs.Plan.{are_aggregates, address_count, subscriber_count, rise4, rise6, size4, is_routable_octet, tunnel_prefix}
use Rattle.aftr_base.specs.declared.value.Ip4.{Ip4}
use Rattle.aftr_base.specs.declared.value.Ip6.{Ip6}
use Rattle.aftr_base.specs.declared.value.Prefix4.{Prefix4}
use Rattle.aftr_base.specs.declared.value.Prefix6.{Prefix6}
use Rattle.aftr_base.proofs.Founds.{all_pass, any_gives, in_row}
use Rattle.cfg_text.specs.declared.config.Config.{Config}
use Rattle.cfg_text.specs.Accepted.{AcceptedFacts, is_accepted, are_quotas, are_spans, are_timers, are_sizes, spec_of}
use Rattle.cfg_text.proofs.Numbers.{all3, all4, all5, all6, within, below_like, last_fits}

-- a test that follows from another one, at each item
all_where : {X : Type 0} (p q : X → Bool) → ((x : X) → p x ≡ true → q x ≡ true) → (xs : List X)
    → list_all p xs ≡ true → list_all q xs ≡ true
all_where p q each [] h = refl
all_where p q each (x ∷ xs) h =
    let parts = and_parts (p x) (list_all p xs) h in
    and_from (q x) (list_all q xs) (each x parts.0) (all_where p q each xs parts.1)

-- ---- the parts of a test

pub prefix6_parts : (p : Prefix6) → is_prefix6 p ≡ true → (p.len ≤ 128) × (p.bits.0 < 2 ^ 128)
prefix6_parts p h =
    let parts = all3 (nat_le p.len 128) (nat_lt p.bits.0 (2 ^ 128)) (p.bits.0 % 2 ^ (128 - p.len) == 0) h in
    (leb-true p.len 128 parts.0, ltb-true p.bits.0 (2 ^ 128) parts.1)

pub prefix4_parts : (p : Prefix4) → is_prefix4 p ≡ true → (p.len ≤ 32) × (p.bits.0 < 2 ^ 32) × (p.bits.0 % size4 p ≡ 0)
prefix4_parts p h =
    let parts = all3 (nat_le p.len 32) (nat_lt p.bits.0 (2 ^ 32)) (p.bits.0 % size4 p == 0) h in
    (leb-true p.len 32 parts.0, ltb-true p.bits.0 (2 ^ 32) parts.1, eqb-true (p.bits.0 % size4 p) 0 parts.2)

pub aggregate_parts : (len : ℕ) (p : Prefix6) → is_aggregate len p ≡ true
    → (is_prefix6 p ≡ true) × (nat_le p.len len ≡ true) × (len ≤ p.len + 24)
aggregate_parts len p h =
    let parts = all3 (is_prefix6 p) (nat_le p.len len) (nat_le len (p.len + 24)) h in
    (parts.0, parts.1, leb-true len (p.len + 24) parts.2)

pub pool_prefix : (p : Prefix4) → is_pool_prefix p ≡ true → is_prefix4 p ≡ true
pool_prefix p h =
    (all4 (is_within 16 32 p.len) (is_prefix4 p) (is_routable_octet (p.bits.0 / 2 ^ 24))
    (not (is_under4 tunnel_prefix p.bits || is_under4 p tunnel_prefix.bits)) h).1

-- ---- the facts

pub facts : (c : Config) → is_accepted c ≡ true → AcceptedFacts c
facts c h =
    let len = c.subscriber_len in
    let (aftr, plan, quotas, spans, timers, sizes) =
    all6 (nat_lt c.aftr.0 (2 ^ 128)) (is_plan (spec_of c)) (are_quotas c) (are_spans c) (are_timers c) (are_sizes c) h in
    let (lens, aggregates, pool, size, ratio) =
    all5 (is_within 16 128 len) (are_aggregates len c.aggregates) (is_pool c.pool) (is_block_size c.block_size)
    (is_ratio c.ratio c.block_size (address_count c.pool) (subscriber_count len c.aggregates)) plan in
    let each_aggregate =
    (all3 (is_within 1 64 (length c.aggregates)) (list_all (is_aggregate len) c.aggregates) (rise6 0 c.aggregates) aggregates).1 in
    let each_prefix =
    (all4 (is_within 1 64 (length c.pool)) (list_all is_pool_prefix c.pool) (rise4 0 c.pool)
    (nat_le (address_count c.pool) 65536) pool).1 in
    let subscriber = within 16 128 len lens in
    let block = within 16 16384 c.block_size (and_parts (is_within 16 16384 c.block_size) (16384 % c.block_size == 0) size).0 in
    let (held, ahead) = and_parts (is_within 1 3600000 c.hold_ms) (is_within 1 3600000 c.horizon_ms) spans in
    let hold = within 1 3600000 c.hold_ms held in
    let horizon = within 1 3600000 c.horizon_ms ahead in
    let udp = within 120000 3600000 c.udp_ms
    (all4 (is_within 120000 3600000 c.udp_ms) (is_within 7440000 86400000 c.tcp_ms)
    (is_within 240000 3600000 c.tcp_short_ms) (is_within 60000 3600000 c.icmp_ms) timers).0 in
    let (six, four, log) =
    all3 (is_within 1280 65535 c.softwire_mtu) (is_within 576 65535 c.public_mtu) (is_within 17 (2 ^ 40) c.log_limit) sizes in
    let softwire = within 1280 65535 c.softwire_mtu six in
    let public = within 576 65535 c.public_mtu four in
    record {
      aftr = ltb-true c.aftr.0 (2 ^ 128) aftr;
      subscriber_least = subscriber.0;
      subscriber_most = subscriber.1;
      aggregates = all_where (is_aggregate len) is_prefix6 (λ p e. (aggregate_parts len p e).0) c.aggregates each_aggregate;
      aggregates_wide =
          all_where (is_aggregate len) (λ p. nat_le p.len len) (λ p e. (aggregate_parts len p e).1) c.aggregates each_aggregate;
      pool = each_prefix;
      block_least = omega (arith, block.0);
      block_most = block.1;
      hold_least = hold.0;
      hold_most = hold.1;
      horizon_most = horizon.1;
      udp_most = udp.1;
      softwire_least = softwire.0;
      softwire_most = softwire.1;
      public_least = public.0;
      public_most = public.1;
    }

-- ---- subscribers

-- an address under a prefix fits its 128 bits
under_prefix_fits : (a : Ip6) (p : Prefix6) → is_prefix6 p ≡ true → is_under6 p a ≡ true → a.0 < 2 ^ 128
under_prefix_fits a p h under =
    let parts = prefix6_parts p h in
    below_like 128 p.len a.0 p.bits.0 parts.0 parts.1 (eqb-true (a.0 / 2 ^ (128 - p.len)) (p.bits.0 / 2 ^ (128 - p.len)) under)

-- a softwire under an aggregate fits 128 bits
pub under_fits : (c : Config) → is_accepted c ≡ true → (a : Ip6)
    → list_any (λ p. is_under6 p a) c.aggregates ≡ true → a.0 < 2 ^ 128
under_fits c h a under =
    any_gives (λ (p : Prefix6). is_prefix6 p ≡ true) (λ p. is_under6 p a) c.aggregates (under_prefix_fits a)
    (all_pass is_prefix6 c.aggregates (facts c h).aggregates) under

-- the prefix that an address lies under is one (RFC 4291 2.3)
pub subscriber_is_prefix : (len : ℕ) (a : Ip6) → a.0 < 2 ^ 128 → len ≤ 128 → is_prefix6 (prefix_of len a) ≡ true
subscriber_is_prefix len a lt most =
    let past = 2 ^ (128 - len) in
    let below : a.0 / past * past < 2 ^ 128 = omega (arith, div-mul-le_self a.0 past, lt) in
    let bits = a.0 / past * past in
    and_from (nat_le len 128 && nat_lt bits (2 ^ 128)) (bits % past == 0)
    (and_from (nat_le len 128) (nat_lt bits (2 ^ 128)) (le-leb len 128 most) (lt-ltb bits (2 ^ 128) below))
    (eq-eqb (bits % past) 0 (mul-mod_left (a.0 / past) past))

-- ---- addresses of the pool

-- each address under a prefix fits 32 bits
pub prefix_addresses_fit : (p : Prefix4) → is_prefix4 p ≡ true
    → All (λ (a : Ip4). a.0 < 2 ^ 32) (map ip4 (range_with_len p.bits.0 (size4 p)))
prefix_addresses_fit p h =
    let parts = prefix4_parts p h in
    let fits : p.bits.0 + size4 p ≤ 2 ^ 32 = last_fits 32 p.len p.bits.0 parts.0 parts.1 parts.2 in
    All-map (λ (a : Ip4). a.0 < 2 ^ 32) ip4 (range_with_len p.bits.0 (size4 p))
    (All-weaker (λ n. (p.bits.0 ≤ n) × (n < p.bits.0 + size4 p)) (λ n. n < 2 ^ 32) (λ n row. omega (arith, row.1, fits))
    (range_with_len p.bits.0 (size4 p)) (in_row p.bits.0 (size4 p)))

-- each address of a pool does
pub addresses_fit : (pool : List Prefix4) → list_all is_pool_prefix pool ≡ true
    → All (λ (a : Ip4). a.0 < 2 ^ 32) (flat_map (λ p. map ip4 (range_with_len p.bits.0 (size4 p))) pool)
addresses_fit [] h = All-nil (λ (a : Ip4). a.0 < 2 ^ 32)
addresses_fit (p ∷ ps) h =
    let parts = and_parts (is_pool_prefix p) (list_all is_pool_prefix ps) h in
    All-append (λ (a : Ip4). a.0 < 2 ^ 32) (map ip4 (range_with_len p.bits.0 (size4 p)))
    (flat_map (λ q. map ip4 (range_with_len q.bits.0 (size4 q))) ps)
    (prefix_addresses_fit p (pool_prefix p parts.0)) (addresses_fit ps parts.1)

-- and each address under one of its prefixes
pub under_pool_fits : (pool : List Prefix4) → list_all is_pool_prefix pool ≡ true → (a : Ip4)
    → list_any (λ p. is_under4 p a) pool ≡ true → a.0 < 2 ^ 32
under_pool_fits pool h a under =
    any_gives (λ (p : Prefix4). is_pool_prefix p ≡ true) (λ p. is_under4 p a) pool (λ p passes here.
    let parts = prefix4_parts p (pool_prefix p passes) in
    below_like 32 p.len a.0 p.bits.0 parts.0 parts.1 (eqb-true (a.0 / 2 ^ (32 - p.len)) (p.bits.0 / 2 ^ (32 - p.len)) here))
    (all_pass is_pool_prefix pool h) under
