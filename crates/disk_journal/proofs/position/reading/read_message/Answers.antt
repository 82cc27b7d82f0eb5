use Rattle.std.proofs.Common.{◌≡◌, ◌+◌, ◌≤◌, length, ◌∙◌, arith, subst}
use Rattle.std.proofs.lemmas.List.{take-take, take-append-le}
use Rattle.plant_io.specs.Story.{Story, content}
use Rattle.plant_io.proofs.ReadBytes.{IsRead}
use Rattle.disk_journal.proofs.FrameReads.{damage_read, message_read}
use Rattle.disk_journal.proofs.position.reading.read_message.Goals as goal
use Rattle.disk_journal.proofs.position.reading.read_message.Goals.{then-len-lt-LEAST-via-then-len-lt-LEAST}
use Rattle.disk_journal.proofs.position.reading.read_message.Goals.{then-len-lt-LEAST-via-else-len-lt-LEAST+then-len-gt-MOST}
use Rattle.disk_journal.proofs.position.reading.read_message.Goals.{then-size-at-via-then-size-at}
use Rattle.disk_journal.proofs.position.reading.read_message.Goals.{then-size-at-via-else-size-at+then-size-at-2}

pub returns-then-len-lt-LEAST-clause-frame : goal.returns-then-len-lt-LEAST-clause-frame
returns-then-len-lt-LEAST-clause-frame g c tells =
    damage_read _ _ _ (c.requires tells) (omega (arith, c.ranges.len.fits))
    (λ least most past. elim c.then-len-lt-LEAST.branch [
      | then-len-lt-LEAST-via-then-len-lt-LEAST w ↦ omega arith
      | then-len-lt-LEAST-via-else-len-lt-LEAST+then-len-gt-MOST w ↦ omega arith
    ])

pub returns-then-size-at-clause-frame : goal.returns-then-size-at-clause-frame
returns-then-size-at-clause-frame g c tells =
    let size = c.in_ok-size.ensures.answer tells in
    damage_read _ _ _ (c.requires tells) (omega (arith, c.ranges.len.fits))
    (λ least most past. elim c.then-size-at.branch [
      | then-size-at-via-then-size-at w ↦ omega (arith, size, past)
      | then-size-at-via-else-size-at+then-size-at-2 w ↦ omega (arith, size, past)
    ])

pub returns-clause-frame : goal.returns-clause-frame
returns-clause-frame g c tells =
    let read = subst (λ (s : Story). IsRead (content s) (c.args.at + 5) c.in_ok-count.count c.read_at.new.buf) (c.size.ensures.same tells)
    (record { count_is = c.in_ok-count.ensures.count tells; bytes = c.in_ok-count.ensures.bytes tells }) in
    let room : length c.read_at.new.buf ≡ c.args.len + 1 = omega (arith, c.in-Ok.ensures.len, c.as_mut_slice.ensures.len) in
    let short : c.args.len ≤ length c.read_at.new.buf = omega (arith, room) in
    message_read _ _ _ (c.requires tells) (omega (arith, c.ranges.len.fits)) c.in_ok-count.count c.read_at.new.buf _ (omega arith)
    (omega arith) read room (omega arith)
    (c.truncate.ensures.items
    ∙ take-take c.args.len c.resize.new.self.len _ (omega (arith, c.in-Ok.ensures.len))
    ∙ take-append-le c.args.len c.read_at.new.buf _ short)
