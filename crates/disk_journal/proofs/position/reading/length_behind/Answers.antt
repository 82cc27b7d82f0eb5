use Rattle.std.proofs.Common.{arith, ap, ◌∙◌, sym}
use Rattle.aftr_base.specs.Bytes.{be32}
use Rattle.disk_journal.proofs.FrameReads.{length_read}
use Rattle.disk_journal.proofs.position.reading.length_behind.Goals as goal

pub returns : goal.returns
returns c = length_read c.args.head.now (λ k. omega (arith, c.type_inv.head k)) c.requires ∙ ap be32 (sym c.u32_in.ensures)
