use Rattle.std.proofs.Common.{◌≡◌, ◌≤◌, drop}
use Rattle.aftr_engine.specs.words.Words.{number_upto}
use Rattle.aftr_engine.proofs.WordParts.{number_from}
use Rattle.aftr_engine.proofs.words.number_of.Given as goal

abbrev pub invariant-loop-digit : goal.invariant-loop-digit
invariant-loop-digit l = record {
  from : number_upto l.limit l.text ≡ number_from l.limit l.number (drop l.digit-index l.text);
  within : l.number ≤ l.limit;
}
