-- The report's lines, computed.
use Rattle.std.proofs.Common.{◌≡◌, [], ◌∷◌, refl}
use Rattle.std.specs.Prelude.{codes}
use Rattle.std.specs.Fmt.{digits}
use Rattle.aftr_base.specs.declared.outcome.Status.TheVariants.{BadConfig, BadInput, LogFull, AlreadyThere}
use Rattle.aftr_base.specs.declared.event.DropCause.TheVariants.{NoProtocol, Settling}
use Rattle.aftr_base.specs.Drops.{drop_counts}
use Rattle.aftr_engine.specs.report.Lines.{summary, fault_line}

with_drops : summary 14 10 (drop_counts (NoProtocol ∷ Settling ∷ NoProtocol ∷ NoProtocol ∷ []))
    ≡ codes "records 14\nsent 10\nmarks 0\ndrop Settling 1\ndrop NoProtocol 3\n"
unfolding drop_counts digits
with_drops = refl

no_record : fault_line (BadInput 0 85) ≡ codes "fault BadInput 0 85\n"
unfolding digits
no_record = refl

full : fault_line (LogFull 34 35 36) ≡ codes "fault LogFull 34 35 36\n"
unfolding digits
full = refl

not_empty : fault_line (AlreadyThere 17) ≡ codes "fault AlreadyThere 17\n"
unfolding digits
not_empty = refl

unknown_key : fault_line (BadConfig (codes "text")) ≡ codes "fault BadConfig text\n"
unknown_key = refl
