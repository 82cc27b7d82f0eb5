use Rattle.std.proofs.Common.{◌≡◌, take, map}
use Rattle.nat_events.specs.Reading.{prefix6_in}
use Rattle.nat_events.proofs.plan_reader.aggregates_in.Given as goal

abbrev pub invariant-loop-word : goal.invariant-loop-word
invariant-loop-word l = l.list ≡ map prefix6_in (map (λ w. w.now) (take l.word-index l.words))
