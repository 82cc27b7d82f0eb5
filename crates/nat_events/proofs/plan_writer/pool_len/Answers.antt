use Rattle.std.proofs.Common.{◌∙◌, ℕ, ap, arith, length, decimal}
use Rattle.nat_events.proofs.TextLens.{more_pool}
use Rattle.nat_events.proofs.plan_writer.pool_len.Goals as goal

pub overflow_add-len-in-loop-prefix : goal.overflow_add-len-in-loop-prefix
overflow_add-len-in-loop-prefix c =
    let more = more_pool c.args.pool.now c.loop-prefix.prefix-index (record { bits = record { 0 = 0 }; len = 0 }) c.loop-prefix.len
    c.number_len.result c.loop-prefix-test.true c.loop-prefix.invariant
    (c.number_len.ensures.value ∙ ap (λ (n : ℕ). length (decimal n)) c.from.ensures) in
    omega (arith, more.0, more.1)

pub loop-prefix-preserved : goal.loop-prefix-preserved
loop-prefix-preserved c =
    (more_pool c.args.pool.now c.loop-prefix.prefix-index (record { bits = record { 0 = 0 }; len = 0 }) c.loop-prefix.len
    c.number_len.result c.loop-prefix-test.true c.loop-prefix.invariant
    (c.number_len.ensures.value ∙ ap (λ (n : ℕ). length (decimal n)) c.from.ensures)).0
