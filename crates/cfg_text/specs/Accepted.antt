-- The values that a configuration may have, and what follows from them.
use Rattle.std.specs.Prelude.{◌≡◌, ◌^◌, ◌<◌, ◌≤◌, Bool, true, false, ◌&&◌, ◌==◌, nat_le, nat_lt, if◌then◌else◌, Option, Some, None}
use Rattle.std.specs.List.{list_all}
use Rattle.aftr_base.specs.Value.{is_within}
use Rattle.aftr_base.specs.Plan.{is_plan, is_pool_prefix, is_prefix6}
use Rattle.aftr_base.specs.declared.row.PlanSpec.{PlanSpec}
use Rattle.cfg_text.specs.declared.config.Config.{Config}
use Rattle.cfg_text.specs.declared.config.Filter.TheVariants.{Independent, Address}

-- what a plan is made from
abbrev pub spec_of : Config → PlanSpec
spec_of c = record {
  subscriber_len = c.subscriber_len;
  block_size = c.block_size;
  ratio = c.ratio;
  aggregates = c.aggregates;
  pool = c.pool;
}

-- the plan that the configuration asks for (RFC 7422 2)
abbrev pub plan_of : Config → Option PlanSpec
plan_of c = if c.ratio == 0 then None else Some (spec_of c)

-- what one subscriber may have (RFC 6888 3, REQ-4)
abbrev pub are_quotas : Config → Bool
are_quotas c = is_within 1 64 c.max_blocks && is_within 1 65535 c.max_mappings && is_within 1 65535 c.max_peers

-- how long a block is held, and how far the log vouches
abbrev pub are_spans : Config → Bool
are_spans c = is_within 1 3600000 c.hold_ms && is_within 1 3600000 c.horizon_ms

-- how long what is unused lasts (RFC 4787 4.3, RFC 5382 5, RFC 5508 3.2)
abbrev pub are_timers : Config → Bool
are_timers c =
    is_within 120000 3600000 c.udp_ms && is_within 7440000 86400000 c.tcp_ms
    && is_within 240000 3600000 c.tcp_short_ms && is_within 60000 3600000 c.icmp_ms

-- how long packets (RFC 8200 5, RFC 791 3.1) and the log may get
abbrev pub are_sizes : Config → Bool
are_sizes c = is_within 1280 65535 c.softwire_mtu && is_within 576 65535 c.public_mtu && is_within 17 (2 ^ 40) c.log_limit

abbrev pub is_accepted : Config → Bool
is_accepted c =
    nat_lt c.aftr.0 (2 ^ 128) && is_plan (spec_of c) && are_quotas c && are_spans c && are_timers c && are_sizes c

-- mappings admit only the addresses that were sent to (RFC 4787 5)
abbrev pub by_address : Config → Bool
by_address c = elim c.filter [ Independent ↦ false | Address ↦ true ]

-- what is known of an accepted configuration
pub record AcceptedFacts (c : Config) : Type 0 where
  pub aftr : c.aftr.0 < 2 ^ 128
  pub subscriber_least : 16 ≤ c.subscriber_len
  pub subscriber_most : c.subscriber_len ≤ 128
  pub aggregates : list_all is_prefix6 c.aggregates ≡ true
  pub aggregates_wide : list_all (λ p. nat_le p.len c.subscriber_len) c.aggregates ≡ true
  pub pool : list_all is_pool_prefix c.pool ≡ true
  pub block_least : 0 < c.block_size
  pub block_most : c.block_size ≤ 16384
  pub hold_least : 1 ≤ c.hold_ms
  pub hold_most : c.hold_ms ≤ 3600000
  pub horizon_most : c.horizon_ms ≤ 3600000
  pub udp_most : c.udp_ms ≤ 3600000
  pub softwire_least : 1280 ≤ c.softwire_mtu
  pub softwire_most : c.softwire_mtu ≤ 65535
  pub public_least : 576 ≤ c.public_mtu
  pub public_most : c.public_mtu ≤ 65535
