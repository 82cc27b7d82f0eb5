use Rattle.std.proofs.Common.{◌≡◌, ◌≤◌, ◌-◌, ◌+◌, ◌++◌}
use Rattle.plant_io.specs.Stops.{StopsLeave}
use Rattle.plant_io.specs.Story.{content, sent, IsSettled}
use Rattle.lease_log.specs.Answers.{IsAtTail}
use Rattle.aftr_engine.specs.session.Begun.{config_of, told_at}
use Rattle.aftr_engine.specs.session.Stops.{AccountsFor}
use Rattle.aftr_engine.specs.session.UnderWay.{IsUnderWay}
use Rattle.aftr_engine.proofs.session.Session.run.Given as goal

-- the records so far account for all that was done
abbrev pub invariant-loop-event : goal.invariant-loop-event
invariant-loop-event g l = record {
  way : IsUnderWay (config_of l.fn.self) (told_at l.fn.self) (l.fn.self.journal.at + 1) g.I.Source.tells g.P.Plant.tells
      (g.I.Source.rest l.fn.input) (sent (g.P.Plant.story l.fn.plant))
      (record {
        left = l.self.reader.held ++ g.I.Source.rest l.input;
        offset = l.self.reader.offset;
        sent = sent (g.P.Plant.story l.plant);
        log = content (g.P.Plant.story l.plant);
        tail = l.self.journal.at + 1;
      }) l.self.core l.self.gate;
  idle : l.self.gate.held.records ≡ 0;
  journal : IsAtTail l.self.journal;
  settled : g.P.Plant.tells → IsSettled (g.P.Plant.story l.plant);
  stops : g.I.Source.tells → g.P.Plant.tells → StopsLeave (g.P.Plant.story l.fn.plant) (g.P.Plant.story l.plant)
      (AccountsFor (config_of l.fn.self) (told_at l.fn.self) (g.I.Source.rest l.fn.input) (sent (g.P.Plant.story l.fn.plant)));
  input_later : g.I.Source.faults l.fn.input ≤ g.I.Source.faults l.input;
  disk_later : g.P.Plant.disk_faults l.fn.plant ≤ g.P.Plant.disk_faults l.plant;
  outlet_later : g.P.Plant.out_faults l.fn.plant ≤ g.P.Plant.out_faults l.plant;
}

-- each record ends further on, and none past the limit of 2^50 bytes
abbrev pub decreases-loop-event : goal.decreases-loop-event
decreases-loop-event g l = 1125899906842625 - l.self.reader.offset
