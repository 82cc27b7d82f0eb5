use Rattle.std.proofs.Common.{arith}
use Rattle.std.proofs.Math.Pow.{pow_mono}
use Rattle.cfg_text.proofs.Facts.{aggregate_parts}
use Rattle.cfg_text.proofs.accepted.subscribers_of.Goals as goal

pub returns-clause-most : goal.returns-clause-most
returns-clause-most c =
    let parts = aggregate_parts c.args.len c.args.p c.requires in
    omega (arith, parts.2, pow_mono {i = c.saturating_sub.result} {j = 24} (omega (arith, parts.2)))
