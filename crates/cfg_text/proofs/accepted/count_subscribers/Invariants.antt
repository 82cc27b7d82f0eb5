use Rattle.std.proofs.Common.{◌≡◌, ◌-◌, ◌*◌, ◌^◌, ◌≤◌, sum_by, take}
use Rattle.cfg_text.proofs.accepted.count_subscribers.Given as goal

abbrev pub invariant-loop-p : goal.invariant-loop-p
invariant-loop-p l = record {
  sum : l.count ≡ sum_by (λ p. 2 ^ (l.len - p.len)) (take l.p-index l.aggregates);
  few : l.count ≤ 2 ^ 24 * l.p-index;
}
