use Rattle.std.proofs.Common.{◌∙◌, ap, subst, arith, List, ℕ}
use Rattle.plant_io.specs.Story.{content}
use Rattle.plant_io.proofs.ReadBytes.{IsRead}
use Rattle.disk_journal.specs.Frames.{file_header}
use Rattle.disk_journal.proofs.Headers.{header_read, no_room_for_header, attach_stops, attach_settles}
use Rattle.disk_journal.proofs.position.start.begins_with_header.Goals as goal

pub returns-in_err-count-clause-stops : goal.returns-in_err-count-clause-stops
returns-in_err-count-clause-stops g c tells = attach_stops _ _ (c.read_at.ensures.same tells ∙ c.in_ok-sync.ensures.durable tells)

pub returns-then-count-lt17-clause-header : goal.returns-then-count-lt17-clause-header
returns-then-count-lt17-clause-header g c tells =
    let read = subst (λ (file : List ℕ). IsRead file 0 c.in_ok-count.count c.read_at.new.buf)
    (ap content (c.in_ok-sync.ensures.durable tells))
    (record { count_is = c.in_ok-count.ensures.count tells; bytes = c.in_ok-count.ensures.bytes tells }) in
    no_room_for_header _ _ _ read (omega arith) (omega arith)

pub returns-then-count-lt17-clause-settled : goal.returns-then-count-lt17-clause-settled
returns-then-count-lt17-clause-settled g c tells = attach_settles _ _ (c.read_at.ensures.same tells ∙ c.in_ok-sync.ensures.durable tells)

pub returns-then-count-lt17-clause-stops : goal.returns-then-count-lt17-clause-stops
returns-then-count-lt17-clause-stops g c tells = attach_stops _ _ (c.read_at.ensures.same tells ∙ c.in_ok-sync.ensures.durable tells)

pub returns-clause-header : goal.returns-clause-header
unfolding file_header
returns-clause-header g c tells =
    let read = subst (λ (file : List ℕ). IsRead file 0 c.in_ok-count.count c.read_at.new.buf)
    (ap content (c.in_ok-sync.ensures.durable tells))
    (record { count_is = c.in_ok-count.ensures.count tells; bytes = c.in_ok-count.ensures.bytes tells }) in
    header_read _ _ _ read (omega arith) _ (omega arith) c.eq.ensures

pub returns-clause-settled : goal.returns-clause-settled
returns-clause-settled g c tells = attach_settles _ _ (c.read_at.ensures.same tells ∙ c.in_ok-sync.ensures.durable tells)

pub returns-clause-stops : goal.returns-clause-stops
returns-clause-stops g c tells = attach_stops _ _ (c.read_at.ensures.same tells ∙ c.in_ok-sync.ensures.durable tells)
