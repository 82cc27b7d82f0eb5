use Rattle.std.proofs.Common.{sym, subst, arith}
use Rattle.plant_io.specs.Story.{Story, content}
use Rattle.plant_io.proofs.ReadBytes.{IsRead}
use Rattle.disk_journal.specs.Frame.{OpensAt}
use Rattle.disk_journal.proofs.FrameReads.{nothing_read, tail_read, short_read, open_read}
use Rattle.disk_journal.proofs.position.reading.read_frame.Goals as goal

pub returns-then-count-eq0-clause-frame : goal.returns-then-count-eq0-clause-frame
returns-then-count-eq0-clause-frame g c tells = nothing_read _ _ (omega (arith, c.in_ok-count.ensures.count tells))

pub returns-then-head-ne-OPEN-clause-frame : goal.returns-then-head-ne-OPEN-clause-frame
returns-then-head-ne-OPEN-clause-frame g c tells =
    let read : IsRead (content (g.P.Plant.story c.args.plant.now)) c.args.at c.in_ok-count.count c.read_at.new.buf =
    record { count_is = c.in_ok-count.ensures.count tells; bytes = c.in_ok-count.ensures.bytes tells } in
    tail_read _ _ _ _ read (omega arith) c.if-head-ne-OPEN.true

pub returns-then-count-lt5-clause-frame : goal.returns-then-count-lt5-clause-frame
returns-then-count-lt5-clause-frame g c tells =
    let read : IsRead (content (g.P.Plant.story c.args.plant.now)) c.args.at c.in_ok-count.count c.read_at.new.buf =
    record { count_is = c.in_ok-count.ensures.count tells; bytes = c.in_ok-count.ensures.bytes tells } in
    short_read _ _ _ _ read (omega arith) c.if-head-ne-OPEN.false (omega arith) (omega arith)

pub read_message-requires : goal.read_message-requires
read_message-requires g c tells =
    let read : IsRead (content (g.P.Plant.story c.args.plant.now)) c.args.at c.in_ok-count.count c.read_at.new.buf =
    record { count_is = c.in_ok-count.ensures.count tells; bytes = c.in_ok-count.ensures.bytes tells } in
    subst (λ (s : Story). OpensAt (content s) c.args.at c.length_behind.result) (sym (c.read_at.ensures.same tells))
    (open_read _ _ _ _ _ read (omega arith) c.in_ok-count.ensures.within (omega arith) c.if-head-ne-OPEN.false c.length_behind.ensures)
