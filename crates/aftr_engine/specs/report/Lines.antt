-- The printed lines.
use Rattle.std.specs.Prelude.{ℕ, zero, suc, ◌+◌, ◌-◌, ◌/◌, ◌%◌, ◌^◌, ◌==◌, nat_lt, List, [], ◌∷◌, ◌++◌, flat_map, Option, Some, None}
use Rattle.std.specs.Prelude.{decimal, codes, if◌then◌else◌}
use Rattle.std.specs.List.{join_with_byte}
use Rattle.aftr_base.specs.declared.value.Ip4.{Ip4}
use Rattle.aftr_base.specs.declared.value.Moment.{Moment}
use Rattle.aftr_base.specs.declared.value.Subscriber.{Subscriber}
use Rattle.aftr_base.specs.declared.row.LeaseRow.{LeaseRow}
use Rattle.aftr_base.specs.declared.row.PlanRow.{PlanRow}
use Rattle.aftr_base.specs.declared.told.Told.{Told}
use Rattle.trace_query.specs.declared.Named.{Named}
use Rattle.trace_query.specs.declared.Named.TheVariants.{Subscriber as NamedSubscriber, Unheld, Beyond}
use Rattle.nat_events.specs.PlanText.{plan_text}
use Rattle.aftr_base.specs.declared.outcome.Status.{Status}
use Rattle.aftr_base.specs.declared.outcome.Status.TheVariants.{Ok, BadWords, BadConfig, BadInput, ReadFault, LogFault, OutFault}
use Rattle.aftr_base.specs.declared.outcome.Status.TheVariants.{LogDamaged, LogFull, AlreadyThere, NoMemory}
use Rattle.aftr_base.specs.declared.event.DropCause.{DropCause}
use Rattle.aftr_base.specs.Drops.{name_of, causes}

-- words between spaces, and a line feed
abbrev pub line : List (List ℕ) → List ℕ
line words = join_with_byte 32 words ++ 10 ∷ []

abbrev pub drop_line : DropCause → ℕ → List ℕ
drop_line cause count = if count == 0 then [] else line (codes "drop" ∷ name_of cause ∷ decimal count ∷ [])

-- a line for each count above 0
abbrev pub drop_lines : List DropCause → List ℕ → List ℕ
drop_lines [] counts = []
drop_lines (c ∷ cs) [] = []
drop_lines (c ∷ cs) (n ∷ ns) = drop_line c n ++ drop_lines cs ns

-- what a run prints that ends well
abbrev pub summary : ℕ → ℕ → List ℕ → List ℕ
summary records sent counts =
    line (codes "records" ∷ decimal records ∷ []) ++ line (codes "sent" ∷ decimal sent ∷ []) ++ line (codes "marks" ∷ decimal 0 ∷ [])
    ++ drop_lines causes counts

-- ---- the answer of a trace, and the rows of a log

abbrev pub octet : Ip4 → ℕ → List ℕ
octet a k = decimal (a.0 / 256 ^ (3 - k) % 256)

abbrev pub ip4_text : Ip4 → List ℕ
ip4_text a = octet a 0 ++ 46 ∷ octet a 1 ++ 46 ∷ octet a 2 ++ 46 ∷ octet a 3

-- hexadecimal digits in lower case
abbrev pub hex_digit : ℕ → ℕ
hex_digit n = if nat_lt n 10 then 48 + n else 87 + n

-- four of them
abbrev pub group : ℕ → List ℕ
group n = hex_digit (n / 4096 % 16) ∷ hex_digit (n / 256 % 16) ∷ hex_digit (n / 16 % 16) ∷ hex_digit (n % 16) ∷ []

-- so many groups of a number from its highest on, joined by colons
abbrev pub groups : ℕ → ℕ → List ℕ
groups zero n = []
groups (suc zero) n = group n
groups (suc (suc k)) n = group (n / 65536 ^ suc k % 65536) ++ 58 ∷ groups (suc k) n

-- eight groups, and the length
abbrev pub prefix_text : Subscriber → List ℕ
prefix_text s = groups 8 s.0.bits.0 ++ 47 ∷ decimal s.0.len

abbrev pub trace_line : Named → List ℕ
trace_line (NamedSubscriber s) = line (codes "named" ∷ prefix_text s ∷ [])
trace_line Unheld = line (codes "unheld" ∷ [])
trace_line (Beyond m) = line (codes "beyond" ∷ decimal m.0 ∷ [])

abbrev pub until_text : Option Moment → List ℕ
until_text None = codes "open"
until_text (Some m) = decimal m.0

abbrev pub lease_line : LeaseRow → List ℕ
lease_line l =
    line (codes "lease" ∷ ip4_text l.addr ∷ decimal l.first ∷ decimal l.last ∷ decimal l.since.0 ∷ until_text l.until
    ∷ prefix_text l.owner ∷ [])

abbrev pub lease_lines : List LeaseRow → List ℕ
lease_lines leases = flat_map lease_line leases

abbrev pub plan_line : PlanRow → List ℕ
plan_line p = line (codes "plan" ∷ decimal p.since.0 ∷ until_text p.until ∷ plan_text p.spec ∷ [])

abbrev pub plan_lines : List PlanRow → List ℕ
plan_lines plans = flat_map plan_line plans

abbrev pub horizon_line : ℕ → List ℕ
horizon_line horizon = line (codes "horizon" ∷ decimal horizon ∷ [])

-- all that a log tells
abbrev pub told_text : Told → List ℕ
told_text t = lease_lines t.leases ++ plan_lines t.plans ++ horizon_line t.horizon.0

-- ---- faults

-- the name of a fault, and its numbers or its key
abbrev pub fault_words : Status → List (List ℕ)
fault_words Ok = []
fault_words BadWords = codes "BadWords" ∷ []
fault_words (BadConfig key) = codes "BadConfig" ∷ key ∷ []
fault_words (BadInput input offset) = codes "BadInput" ∷ decimal input ∷ decimal offset ∷ []
fault_words ReadFault = codes "ReadFault" ∷ []
fault_words LogFault = codes "LogFault" ∷ []
fault_words OutFault = codes "OutFault" ∷ []
fault_words (LogDamaged offset) = codes "LogDamaged" ∷ decimal offset ∷ []
fault_words (LogFull tail need limit) = codes "LogFull" ∷ decimal tail ∷ decimal need ∷ decimal limit ∷ []
fault_words (AlreadyThere size) = codes "AlreadyThere" ∷ decimal size ∷ []
fault_words NoMemory = codes "NoMemory" ∷ []

abbrev pub fault_line : Status → List ℕ
fault_line status = line (codes "fault" ∷ fault_words status)
