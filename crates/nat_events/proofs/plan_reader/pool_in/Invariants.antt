use Rattle.std.proofs.Common.{◌≡◌, take, map}
use Rattle.nat_events.specs.Reading.{prefix4_in}
use Rattle.nat_events.proofs.plan_reader.pool_in.Given as goal

abbrev pub invariant-loop-word : goal.invariant-loop-word
invariant-loop-word l = l.list ≡ map prefix4_in (map (λ w. w.now) (take l.word-index l.words))
