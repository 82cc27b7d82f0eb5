-- What telling a further event answers.
use Rattle.std.specs.Prelude.{◌≡◌, Result, Ok, Err}
use Rattle.aftr_base.specs.declared.told.Told.{Told}
use Rattle.lease_log.specs.declared.applying.ApplyBad.{ApplyBad}
use Rattle.lease_log.specs.declared.applying.ApplyBad.TheVariants.{Refused, NoMemory}

-- the told is what follows, or nothing follows, or there was no memory
abbrev pub Follows : Result Told (Unit {0}) → Told → Result (Unit {0}) ApplyBad → Type 0
Follows next now (Ok x) = next ≡ Ok now
Follows next now (Err Refused) = next ≡ Err tt
Follows next now (Err NoMemory) = Unit {0}
