use Rattle.std.proofs.Common.{◌≡◌, ◌≤◌, ◌-◌, ◌*◌, ◌^◌, false}
use Rattle.plant_io.specs.Story.{content}
use Rattle.aftr_base.specs.Told.{nothing_told}
use Rattle.lease_log.specs.Answers.{number_of_rows}
use Rattle.lease_log.specs.Log.{log_at}
use Rattle.lease_log.specs.Sound.{IsSound}
use Rattle.lease_log.proofs.reading.read_frames.Given as goal

-- what was told, and the frames from the journal's place on, are the log
abbrev pub invariant-frames : goal.invariant-frames
invariant-frames g l = record {
  told : g.P.Plant.tells → let file = content (g.P.Plant.story l.fn.plant) in log_at 16 nothing_told file ≡ log_at l.journal.at l.told file;
  same : g.P.Plant.tells → g.P.Plant.story l.plant ≡ g.P.Plant.story l.fn.plant;
  later : g.P.Plant.disk_faults l.fn.plant ≤ g.P.Plant.disk_faults l.plant;
  outlet : g.P.Plant.out_faults l.plant ≡ g.P.Plant.out_faults l.fn.plant;
  sound : IsSound l.told;
  count : 8 * l.told.count ≤ l.journal.at;
  rows : number_of_rows l.told ≤ l.told.count;
  suspect : l.journal.suspect ≡ false;
}

abbrev pub decreases-frames : goal.decreases-frames
decreases-frames g l = 2 ^ 64 - l.journal.at
