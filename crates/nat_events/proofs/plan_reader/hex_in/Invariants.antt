use Rattle.std.proofs.Common.{◌≡◌, take}
use Rattle.nat_events.specs.Reading.{value16}
use Rattle.nat_events.proofs.plan_reader.hex_in.Given as goal

abbrev pub invariant-loop-digit : goal.invariant-loop-digit
invariant-loop-digit l = l.number ≡ value16 (take l.digit-index l.digits)
