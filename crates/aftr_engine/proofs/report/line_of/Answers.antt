use Rattle.std.proofs.Common.{◌++◌, ◌∷◌, List, ℕ, decimal, get_or, ap, sym, ◌∙◌, arith}
use Rattle.aftr_engine.proofs.Lines.{number_push}
use Rattle.aftr_engine.proofs.report.line_of.Goals as goal

pub loop-number-preserved : goal.loop-number-preserved
loop-number-preserved c = record {
  bytes =
      c.push_number.ensures.bytes
      ∙ ap (λ (xs : List ℕ). xs ++ 32 ∷ decimal (get_or c.args.numbers.now c.loop-number.number-index 0)) c.loop-number.invariant.bytes
      ∙ sym (number_push c.args.head.now c.args.name.now c.args.numbers.now c.loop-number.number-index (omega arith));
  room = omega arith;
}
