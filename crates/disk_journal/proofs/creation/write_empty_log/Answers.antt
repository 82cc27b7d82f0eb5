use Rattle.disk_journal.proofs.MakeSteps.{make_write_failed, make_sync_failed, make_done}
use Rattle.disk_journal.specs.Frames.{file_header}
use Rattle.disk_journal.proofs.creation.write_empty_log.Goals as goal

pub returns-in_err-write_at-clause-stops : goal.returns-in_err-write_at-clause-stops
unfolding file_header
returns-in_err-write_at-clause-stops g c tells = make_write_failed _ (c.requires tells) _ (c.in_err-write_at.ensures.torn tells)

pub returns-in_err-sync-clause-stops : goal.returns-in_err-sync-clause-stops
unfolding file_header
returns-in_err-sync-clause-stops g c tells =
    make_sync_failed _ (c.requires tells) _ _ (c.in_ok-write_at.ensures.written tells) (c.in_err-sync.ensures.same tells)

pub returns-clause-made : goal.returns-clause-made
unfolding file_header
returns-clause-made g c tells =
    (make_done _ (c.requires tells) _ _ (c.in_ok-write_at.ensures.written tells) (c.in_ok-sync.ensures.durable tells)).1

pub returns-clause-stops : goal.returns-clause-stops
unfolding file_header
returns-clause-stops g c tells =
    (make_done _ (c.requires tells) _ _ (c.in_ok-write_at.ensures.written tells) (c.in_ok-sync.ensures.durable tells)).0
