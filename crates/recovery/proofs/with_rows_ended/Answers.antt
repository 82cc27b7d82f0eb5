use Rattle.std.proofs.Common.{sym, subst}
use Rattle.aftr_base.specs.declared.told.Told.{Told}
use Rattle.recovery.specs.Answers.{IsReady}
use Rattle.recovery.proofs.Closed.{are_ended, sound_closed}
use Rattle.recovery.proofs.with_rows_ended.Goals as goal

pub returns-clause-ready : goal.returns-clause-ready
returns-clause-ready c =
    let count = c.args.count in
    let journal = c.args.journal in
    let found = c.args.told.count in
    subst (λ (t : Told). IsReady record { told = record t { count = count }; journal = journal; found = found })
    (sym c.end_rows.ensures) (record {
      ended = are_ended c.args.told count;
      few = c.requires.few;
      sound = sound_closed c.args.told count c.requires.sound;
      stands = c.requires.journal;
    })
