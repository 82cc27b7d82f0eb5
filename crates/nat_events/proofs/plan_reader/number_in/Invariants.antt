use Rattle.std.proofs.Common.{◌≡◌, ◌<◌, ◌^◌, take}
use Rattle.nat_events.specs.Reading.{value10}
use Rattle.nat_events.proofs.plan_reader.number_in.Given as goal

abbrev pub invariant-loop-digit : goal.invariant-loop-digit
invariant-loop-digit l = record { value : l.number ≡ value10 (take l.digit-index l.digits); small : l.number < 2 ^ 16 }
