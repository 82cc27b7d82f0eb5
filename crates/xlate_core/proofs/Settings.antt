-- What is known of the quotas and timers of an accepted configuration, and counts that are compared with them.
use Rattle.std.proofs.Common.{◌≡◌, inl, inr, ℕ, ◌-◌, ◌^◌, ◌≤◌, true, ◌&&◌, min, nat_le, nat_lt, sym, ◌∙◌, arith}
use Rattle.std.proofs.lemmas.Bool.{and_parts, cases_lt, leb-true, lt-ltb, le-ltb}
use Rattle.aftr_base.specs.Plan.{is_plan}
use Rattle.aftr_base.specs.Value.{is_within}
use Rattle.cfg_text.specs.declared.config.Config.{Config}
use Rattle.cfg_text.specs.Accepted.{is_accepted, are_quotas, are_sizes, are_spans, are_timers, spec_of}

pub record IsSet (c : Config) : Type 0 where
  pub mappings : c.max_mappings ≤ 65535
  pub peers : c.max_peers ≤ 65535
  pub blocks : c.max_blocks ≤ 65535
  pub udp : c.udp_ms ≤ 86400000
  pub tcp : c.tcp_ms ≤ 86400000
  pub tcp_short : c.tcp_short_ms ≤ 86400000
  pub icmp : c.icmp_ms ≤ 86400000

most : (first last n : ℕ) → is_within first last n ≡ true → n ≤ last
most first last n h = leb-true n last (and_parts (nat_le first n) (nat_le n last) h).1

pub is_set : (c : Config) → is_accepted c ≡ true → IsSet c
is_set c h =
    let before = nat_lt c.aftr.0 (2 ^ 128) && is_plan (spec_of c) in
    let a = and_parts (before && are_quotas c && are_spans c && are_timers c) (are_sizes c) h in
    let b = and_parts (before && are_quotas c && are_spans c) (are_timers c) a.0 in
    let d = and_parts (before && are_quotas c) (are_spans c) b.0 in
    let quotas = (and_parts before (are_quotas c) d.0).1 in
    let blocks = is_within 1 64 c.max_blocks in
    let mappings = is_within 1 65535 c.max_mappings in
    let q = and_parts (blocks && mappings) (is_within 1 65535 c.max_peers) quotas in
    let few = and_parts blocks mappings q.0 in
    let udp = is_within 120000 3600000 c.udp_ms in
    let tcp = is_within 7440000 86400000 c.tcp_ms in
    let short = is_within 240000 3600000 c.tcp_short_ms in
    let t = and_parts (udp && tcp && short) (is_within 60000 3600000 c.icmp_ms) b.1 in
    let u = and_parts (udp && tcp) short t.0 in
    let v = and_parts udp tcp u.0 in
    record {
      mappings = most 1 65535 c.max_mappings few.1;
      peers = most 1 65535 c.max_peers q.1;
      blocks = omega (arith, most 1 64 c.max_blocks few.0);
      udp = omega (arith, most 120000 3600000 c.udp_ms v.0);
      tcp = most 7440000 86400000 c.tcp_ms v.1;
      tcp_short = omega (arith, most 240000 3600000 c.tcp_short_ms u.1);
      icmp = omega (arith, most 60000 3600000 c.icmp_ms t.1);
    }

-- a count that stands still at the greatest number of 32 bits is below a limit where the count is
pub below_same : (n k most : ℕ) → k ≡ min n (2 ^ 32 - 1) → most ≤ 65535 → nat_lt k most ≡ nat_lt n most
below_same n k most is le = elim (cases_lt n most) [
  | inl lt ↦ lt-ltb k most (omega (arith, is, le, lt)) ∙ sym (lt-ltb n most lt)
  | inr ge ↦ le-ltb k most (omega (arith, is, le, ge)) ∙ sym (le-ltb n most ge)
]

-- and so is one that stood still at that of 64 bits before
pub below_twice : (n m k most : ℕ) → m ≡ min n (2 ^ 64 - 1) → k ≡ min m (2 ^ 32 - 1) → most ≤ 65535 → nat_lt k most ≡ nat_lt n most
below_twice n m k most was is le = elim (cases_lt n most) [
  | inl lt ↦ lt-ltb k most (omega (arith, was, is, le, lt)) ∙ sym (lt-ltb n most lt)
  | inr ge ↦ le-ltb k most (omega (arith, was, is, le, ge)) ∙ sym (le-ltb n most ge)
]
