use Rattle.std.proofs.Common.{arith}
use Rattle.std.proofs.Math.Pow.{pow_mono}
use Rattle.cfg_text.proofs.accepted.size_of4.Goals as goal

pub returns-clause-most : goal.returns-clause-most
returns-clause-most c = omega (arith, pow_mono {i = c.saturating_sub.result} {j = 32} (omega arith))
