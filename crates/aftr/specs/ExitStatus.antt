-- The number that each status ends the program with.
use Rattle.std.specs.Prelude.{ℕ}
use Rattle.aftr_base.specs.declared.outcome.Status.{Status}
use Rattle.aftr_base.specs.declared.outcome.Status.TheVariants.{Ok, BadWords, BadConfig, BadInput, ReadFault, LogFault, OutFault}
use Rattle.aftr_base.specs.declared.outcome.Status.TheVariants.{LogDamaged, LogFull, AlreadyThere, NoMemory}

abbrev pub exit_number : Status → ℕ
exit_number Ok = 0
exit_number BadWords = 1
exit_number (BadConfig key) = 2
exit_number (BadInput input offset) = 3
exit_number ReadFault = 4
exit_number LogFault = 5
exit_number OutFault = 6
exit_number (LogDamaged offset) = 7
exit_number (LogFull tail need limit) = 8
exit_number (AlreadyThere size) = 9
exit_number NoMemory = 10
