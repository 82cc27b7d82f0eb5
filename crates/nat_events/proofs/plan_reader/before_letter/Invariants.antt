use Rattle.std.proofs.Common.{◌≡◌, ◌+◌, length, drop, map, not}
use Rattle.std.specs.Prelude.{take_while}
use Rattle.nat_events.specs.Reading.{is_p}
use Rattle.nat_events.proofs.plan_reader.before_letter.Given as goal

-- the words before it, and those that are to come
abbrev pub invariant-loop-k : goal.invariant-loop-k
invariant-loop-k l =
    length (take_while (λ w. not (is_p w)) (map (λ w. w.now) l.words))
    ≡ l.k + length (take_while (λ w. not (is_p w)) (map (λ w. w.now) (drop l.k l.words)))
