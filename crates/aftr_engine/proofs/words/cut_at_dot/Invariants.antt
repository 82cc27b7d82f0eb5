use Rattle.std.proofs.Common.{◌≡◌, take, true}
use Rattle.std.specs.List.{list_all}
use Rattle.aftr_engine.proofs.WordParts.{is_other}
use Rattle.aftr_engine.proofs.words.cut_at_dot.Given as goal

abbrev pub invariant-loop-place : goal.invariant-loop-place
invariant-loop-place l = list_all (is_other 46) (take l.place l.text) ≡ true
