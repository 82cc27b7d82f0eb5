use Rattle.std.proofs.Common.{[], ◌∷◌, ◌++◌, codes, Ok}
use Rattle.aftr_engine.proofs.Writes.{first_failed, next_written}
use Rattle.aftr_engine.proofs.report.write_key_fault.Goals as goal

pub returns-in_err-write_text : goal.returns-in_err-write_text
returns-in_err-write_text g c =
    first_failed (codes "fault BadConfig ")
    (c.args.key.now ++ 10 ∷ []) c.from_residual.result c.from_residual.ensures.0 c.in_err-write_text.ensures

pub returns-in_err-write_text-2 : goal.returns-in_err-write_text-2
returns-in_err-write_text-2 g c =
    let failed = c.from_residual-in_err-write_text-2.result in
    first_failed (codes "fault BadConfig " ++ c.args.key.now) (10 ∷ []) failed c.from_residual-in_err-write_text-2.ensures.0
    (next_written g.R.Sink (codes "fault BadConfig ") c.args.key.now c.args.report.now c.write_text.new.report c.write_text-2.new.report _
    c.in_ok-write_text.ensures (rw c.as_str.ensures at c.in_err-write_text-2.ensures))

pub returns : goal.returns
returns g c =
    next_written g.R.Sink (codes "fault BadConfig " ++ c.args.key.now)
    (10 ∷ []) c.args.report.now c.write_text-2.new.report c.write_text-3.new.report
    c.write_text-3.result
    (next_written g.R.Sink (codes "fault BadConfig ") c.args.key.now c.args.report.now c.write_text.new.report c.write_text-2.new.report
    (Ok tt)
    c.in_ok-write_text.ensures (rw c.as_str.ensures at c.in_ok-write_text-2.ensures))
    c.write_text-3.ensures
