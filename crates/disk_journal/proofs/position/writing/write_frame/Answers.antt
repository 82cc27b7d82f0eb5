use Rattle.disk_journal.proofs.CommitSteps.{inside, inside_later, body_failed, sync_failed, gate_failed, last_sync_failed, all_done}
use Rattle.disk_journal.proofs.position.writing.write_frame.Goals as goal

pub write_at-requires : goal.write_at-requires
write_at-requires g c tells = inside _ _ _ c.requires.body (c.requires.stands tells) (c.requires.settled tells)

pub write_at-requires-2 : goal.write_at-requires-2
write_at-requires-2 g c tells =
    inside_later _ _ _ c.requires.body (c.requires.stands tells) (c.requires.settled tells) _ _
    (c.in_ok-write_at.ensures.written tells) (c.in_ok-sync.ensures.durable tells)

pub returns-in_err-write_at-clause-stops : goal.returns-in_err-write_at-clause-stops
returns-in_err-write_at-clause-stops g c tells =
    body_failed _ _ _ c.requires.body (c.requires.stands tells) (c.requires.settled tells) _ (c.in_err-write_at.ensures.torn tells)

pub returns-in_err-sync-clause-stops : goal.returns-in_err-sync-clause-stops
returns-in_err-sync-clause-stops g c tells =
    sync_failed _ _ _ c.requires.body (c.requires.stands tells) (c.requires.settled tells) _ _
    (c.in_ok-write_at.ensures.written tells) (c.in_err-sync.ensures.same tells)

pub returns-in_err-write_at-2-clause-stops : goal.returns-in_err-write_at-2-clause-stops
returns-in_err-write_at-2-clause-stops g c tells =
    gate_failed _ _ _ c.requires.body (c.requires.stands tells) (c.requires.settled tells) _ _ _
    (c.in_ok-write_at.ensures.written tells) (c.in_ok-sync.ensures.durable tells) (c.in_err-write_at-2.ensures.torn tells)

pub returns-in_err-sync-2-clause-stops : goal.returns-in_err-sync-2-clause-stops
returns-in_err-sync-2-clause-stops g c tells =
    last_sync_failed _ _ _ c.requires.body (c.requires.stands tells) (c.requires.settled tells) _ _ _ _
    (c.in_ok-write_at.ensures.written tells) (c.in_ok-sync.ensures.durable tells) (c.in_ok-write_at-2.ensures.written tells)
    (c.in_err-sync-2.ensures.same tells)

pub returns-clause-stops : goal.returns-clause-stops
returns-clause-stops g c tells =
    let done = all_done _ _ _ c.requires.body (c.requires.stands tells) (c.requires.settled tells) _ _ _ _
    (c.in_ok-write_at.ensures.written tells) (c.in_ok-sync.ensures.durable tells) (c.in_ok-write_at-2.ensures.written tells)
    (c.in_ok-sync-2.ensures.durable tells) in
    done.0

pub returns-clause-done : goal.returns-clause-done
returns-clause-done g c tells =
    let done = all_done _ _ _ c.requires.body (c.requires.stands tells) (c.requires.settled tells) _ _ _ _
    (c.in_ok-write_at.ensures.written tells) (c.in_ok-sync.ensures.durable tells) (c.in_ok-write_at-2.ensures.written tells)
    (c.in_ok-sync-2.ensures.durable tells) in
    done.1
