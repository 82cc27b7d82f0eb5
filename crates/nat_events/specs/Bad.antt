-- Why a message isn't read, where a record of it isn't.
use Rattle.nat_events.specs.declared.bad.EventBad.{EventBad}
use Rattle.nat_events.specs.declared.bad.EventBad.TheVariants.{NotOurs, NoMemory}
use Rattle.nat_events.specs.declared.bad.EventsBad.{EventsBad}
use Rattle.nat_events.specs.declared.bad.EventsBad.TheVariants.{NotOurs as NoMessage, NoMemory as OutOfMemory}

abbrev pub events_bad : EventBad → EventsBad
events_bad NotOurs = NoMessage
events_bad NoMemory = OutOfMemory
