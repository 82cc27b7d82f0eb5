use Rattle.std.proofs.Common.{◌≡◌, ◌++◌, List}
use Rattle.aftr_base.specs.declared.event.LogEvent.{LogEvent}
use Rattle.nat_events.specs.Reading.{records_in}
use Rattle.nat_events.proofs.RecordsLaws.{behind}
use Rattle.nat_events.proofs.message.read_records.Given as goal

-- the events so far, and those of the records that are left
abbrev pub invariant-records : goal.invariant-records
invariant-records l =
    (events : List LogEvent) × (l.out ≡ l.initial.out ++ events)
    × (records_in l.set l.most l.body ≡ behind events (records_in l.set l.left l.rest))

abbrev pub decreases-records : goal.decreases-records
decreases-records l = l.left
