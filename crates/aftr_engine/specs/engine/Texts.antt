-- What a command says at its end, by what it counted and what it answers.
use Rattle.std.specs.Prelude.{◌≡◌, ◌⊎◌, ℕ, List, [], codes}
use Rattle.aftr_base.specs.declared.outcome.Status.{Status}
use Rattle.aftr_base.specs.declared.outcome.Status.TheVariants.{Ok, BadConfig, OutFault, NoMemory}
use Rattle.egress_gate.specs.declared.tally.Tally.{Tally}
use Rattle.aftr_base.specs.declared.told.Told.{Told}
use Rattle.aftr_engine.specs.declared.engine.Answer.{Answer}
use Rattle.aftr_engine.specs.declared.engine.Ended.{Ended}
use Rattle.aftr_engine.specs.declared.engine.Answer.TheVariants.{Nothing, Summary, Name, Listed}
use Rattle.aftr_engine.specs.report.Lines.{summary, fault_line, trace_line, told_text}

-- what a call answers that ends well: nothing, a run's counts, a name, or all that the log tells
abbrev pub answer_text : Tally → Answer → List ℕ
answer_text t Nothing = []
answer_text t Summary = summary t.records t.sent t.drops.0
answer_text t (Name name) = trace_line name
answer_text t (Listed listing) = told_text listing.told

-- the text of a status: that, or the line of a fault; an outlet that failed has none
abbrev pub text_of : Tally → Answer → Status → List ℕ
text_of t a Ok = answer_text t a
text_of t a OutFault = []
text_of t a other = fault_line other

-- the refusal of a whole configuration
abbrev pub IsBadText : Status → Type 0
IsBadText (BadConfig key) = key ≡ codes "text"
IsBadText NoMemory = Unit {0}
IsBadText other = ⊥

-- it lists what a log tells, or there was no memory for the lines of its plans
abbrev pub IsListed : Told → Ended → Type 0
IsListed told ended = ((ended.status ≡ Ok) × (answer_text ended.tally ended.answer ≡ told_text told)) ⊎ (ended.status ≡ NoMemory)
