use Rattle.std.proofs.Common.{arith}
use Rattle.ingress.proofs.Kept.{no_family}
use Rattle.ingress.proofs.softwire_side.gathered.Goals as goal

pub take-requires-clause-piece : goal.take-requires-clause-piece
take-requires-clause-piece c = record {
  head = λ four. absurd (no_family c.args.key c.requires.six four);
  bytes = λ i. omega (arith, c.type_inv.part i);
}
