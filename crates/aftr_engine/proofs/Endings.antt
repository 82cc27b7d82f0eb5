-- What a command has done, from what its parts have done.
use Rattle.std.proofs.Common.{◌≡◌, ◌≢◌, inl, inr, ℕ, ◌≤◌, max, true, List, [], ◌++◌, length, refl, sym, ap, ◌∙◌, subst, arith}
use Rattle.std.specs.Prelude.{Option, Some, unwrap_or, Result, Ok as Good, Err}
use Rattle.plant_io.specs.Sink.{GainsPart}
use Rattle.plant_io.specs.Story.{Story, content, sent, IsSettled}
use Rattle.plant_io.specs.Stops.{StopsLeave}
use Rattle.plant_io.specs.Uses.{SourceUse, PlantUse, SinkUse}
use Rattle.disk_journal.specs.Frames.{empty_log}
use Rattle.disk_journal.specs.Make.{MakeLeaves}
use Rattle.aftr_base.specs.Drops.{drop_counts}
use Rattle.aftr_base.specs.declared.told.Told.{Told}
use Rattle.aftr_base.specs.declared.outcome.Status.{Status}
use Rattle.aftr_base.specs.declared.outcome.Status.TheVariants.{Ok, BadWords, BadConfig, BadInput, ReadFault, LogFault, OutFault}
use Rattle.aftr_base.specs.declared.outcome.Status.TheVariants.{LogDamaged, LogFull, AlreadyThere, NoMemory}
use Rattle.cfg_text.specs.Accepted.{is_accepted}
use Rattle.cfg_text.specs.Defaults.{defaults}
use Rattle.cfg_text.specs.declared.config.Config.{Config}
use Rattle.xlate_core.specs.Run.{Run}
use Rattle.egress_gate.specs.declared.tally.Tally.{Tally}
use Rattle.aftr_engine.specs.declared.engine.Answer.{Answer}
use Rattle.aftr_engine.specs.declared.engine.Answer.TheVariants.{Nothing, Summary}
use Rattle.aftr_engine.specs.declared.engine.Ended.{Ended}
use Rattle.aftr_engine.specs.declared.words.Command.{Command}
use Rattle.aftr_engine.specs.declared.words.Command.TheVariants.{Init, Run as RunOf}
use Rattle.link_records.specs.Frames.{frames_of}
use Rattle.egress_gate.specs.Logged.{EndsAt, Tells}
use Rattle.egress_gate.specs.Output.{output}
use Rattle.aftr_engine.specs.report.Lines.{fault_line, summary, told_text}
use Rattle.aftr_engine.specs.session.EndToEnd.{output_of, front_run, run_of, summary_of, told_behind}
use Rattle.aftr_engine.specs.session.Begun.{StopsFor, IsAtRecordsEnd, TalliesAs}
use Rattle.aftr_engine.specs.session.Fronts.{HasCome, HasDoneFirst, HasTreatedFirst}
use Rattle.aftr_engine.specs.engine.Texts.{IsListed, answer_text, text_of}
use Rattle.aftr_engine.specs.engine.Reported.{IsKept, IsText, IsReported, IsNoCommand, PrintsFault}
use Rattle.aftr_engine.specs.engine.Running.{BeginsFrom, KeepsRoom, LeavesRows, RefusesConfig, RefusesFor, IsWhole, RanAs, no_source}
use Rattle.lease_log.specs.Log.{Log, log_of}
use Rattle.recovery.specs.Closings.{recovered}
use Rattle.aftr_engine.specs.engine.Asking.{AnswersFor, AnsweredAs, answer_to}
use Rattle.aftr_engine.specs.engine.Making.{MakesFor, MadeAs}
use Rattle.aftr_engine.proofs.RunSteps.{whole_front}

-- what the log tells that a file is
abbrev told_in : Told → Result Log ℕ → Told
told_in other (Good log) = log.told
told_in other (Err offset) = other

-- ---- texts

text_of_fault : (t : Tally) (a : Answer) (status : Status) → status ≢ Ok → status ≢ OutFault → text_of t a status ≡ fault_line status
text_of_fault t a Ok not_ok not_outlet = absurd (not_ok refl)
text_of_fault t a BadWords not_ok not_outlet = refl
text_of_fault t a (BadConfig key) not_ok not_outlet = refl
text_of_fault t a (BadInput input offset) not_ok not_outlet = refl
text_of_fault t a ReadFault not_ok not_outlet = refl
text_of_fault t a LogFault not_ok not_outlet = refl
text_of_fault t a OutFault not_ok not_outlet = absurd (not_outlet refl)
text_of_fault t a (LogDamaged offset) not_ok not_outlet = refl
text_of_fault t a (LogFull tail need limit) not_ok not_outlet = refl
text_of_fault t a (AlreadyThere size) not_ok not_outlet = refl
text_of_fault t a NoMemory not_ok not_outlet = refl

text_is : {IsGood : List ℕ → Type 0} (t : Tally) (a : Answer) (status : Status) → (status ≡ Ok → IsGood (answer_text t a))
    → IsText IsGood status (text_of t a status)
text_is {IsGood} t a status good = record {
  good = λ ok. subst (λ (s : Status). IsGood (text_of t a s)) (sym ok) (good ok);
  outlet = λ is. ap (text_of t a) is;
  fault = text_of_fault t a status;
}

-- ---- a run that was refused

-- by its configuration or its log, it doesn't end well
never_refused : (c : Config) (config : SourceUse) (plant : PlantUse) → RefusesFor c config plant Ok → ⊥
never_refused c config plant why = elim why [ inl config ↦ config | inr log ↦ log.1 ]

-- a command that ended so
abbrev pub EndsBy : (Status → List ℕ → Type 0) → Ended → Type 0
EndsBy HasDone ended = HasDone ended.status (text_of ended.tally ended.answer ended.status)

pub refused : {c : Config} {config input : SourceUse} {plant : PlantUse} (ended : Ended) {status : Status}
    → ended.status ≡ status → ended.tally.drops.0 ≡ drop_counts [] → RefusesFor c config plant status
    → (input.tells → input.left ≡ input.bytes) → (plant.tells → sent plant.after ≡ sent plant.before)
    → (plant.tells → LeavesRows plant status)
    → (plant.tells → status ≢ LogFault → KeepsRoom c.log_limit (content plant.before) (content plant.after))
    → EndsBy (RanAs c config input plant ended.tally.drops.0) ended
refused {c} {config} {input} {plant} ended {status} is none why unread unsent rows room =
    let reason : RefusesFor c config plant ended.status = subst (RefusesFor c config plant) (sym is) why in
    record {
      did = inl (record {
        reason = reason;
        unread = unread;
        unsent = unsent;
        rows = λ tells. subst (LeavesRows plant) (sym is) (rows tells);
        room = λ tells kept. room tells (λ fault. kept (is ∙ fault));
        undropped = none;
      });
      says = text_is ended.tally ended.answer ended.status
          (λ ok. absurd (never_refused c config plant (subst (RefusesFor c config plant) ok reason)));
    }

-- a log that keeps its bytes keeps its rows
pub rows_same : (plant : PlantUse) (status : Status) → content plant.after ≡ content plant.before → LeavesRows plant status
rows_same plant Ok same = same
rows_same plant BadWords same = same
rows_same plant (BadConfig key) same = same
rows_same plant (BadInput input offset) same = same
rows_same plant ReadFault same = same
rows_same plant LogFault same = tt
rows_same plant OutFault same = same
rows_same plant (LogDamaged offset) same = same
rows_same plant (LogFull tail need limit) same = inl same
rows_same plant (AlreadyThere size) same = same
rows_same plant NoMemory same = inl same

-- ---- a run that began

pub defaults_accepted : is_accepted defaults ≡ true
defaults_accepted = refl

whole_by : (c : Config) (from : Told) {input : SourceUse} {plant : PlantUse} {drops : List ℕ} (n : ℕ)
    → (input.tells → n ≡ length (frames_of input.bytes).events)
    → (input.tells → drops ≡ drop_counts (front_run c from n input.bytes).drops)
    → (input.tells → plant.tells → HasTreatedFirst c from n input.bytes (sent plant.before) plant.after)
    → IsWhole c from input plant drops
whole_by c from {input} {plant} n all counts done =
    let run_is = λ (reads : input.tells). whole_front c from input.bytes n (all reads) in
    record {
      packets = λ reads tells.
          (done reads tells).packets ∙ ap (λ (r : Run). sent plant.before ++ output r.items) (run_is reads);
      told = λ reads tells.
          subst (λ (r : Run). Tells (content plant.after) (told_behind from r)) (run_is reads) (done reads tells).tells;
      counts = λ reads. counts reads ∙ ap (λ (r : Run). drop_counts r.drops) (run_is reads);
    }

whole : {c : Config} {from : Told} {input : SourceUse} {plant : PlantUse} {drops : List ℕ} (status : Status)
    → HasCome c from input plant drops status → IsAtRecordsEnd status → IsWhole c from input plant drops
whole {c} {from} Ok came end = whole_by c from came.treated came.records came.counts came.done
whole {c} {from} (BadInput place offset) came end = whole_by c from came.treated came.records came.counts came.done
whole BadWords came end = absurd end
whole (BadConfig key) came end = absurd end
whole ReadFault came end = absurd end
whole LogFault came end = absurd end
whole OutFault came end = absurd end
whole (LogDamaged offset) came end = absurd end
whole (LogFull tail need limit) came end = absurd end
whole (AlreadyThere size) came end = absurd end
whole NoMemory came end = absurd end

summary_is : (c : Config) (from : Told) (input : List ℕ) (t : Tally) → TalliesAs c from input t
    → summary t.records t.sent t.drops.0 ≡ summary_of c from input
summary_is c from input t k =
    ap (λ (n : ℕ). summary n t.sent t.drops.0) k.records
    ∙ ap (λ (n : ℕ). summary (length (frames_of input).events) n t.drops.0) k.sent
    ∙ ap (λ (ns : List ℕ). summary (length (frames_of input).events) (length (run_of c from input).items) ns) k.drops

-- the plant as it was before the log was opened
abbrev earlier : PlantUse → Story → ℕ → ℕ → PlantUse
earlier plant story disk outlet = record {
  tells = plant.tells;
  before = story;
  after = plant.after;
  disk = record { before = disk; after = plant.disk.after };
  outlet = record { before = outlet; after = plant.outlet.after };
}

stops_earlier : (c : Config) (input : SourceUse) (plant : PlantUse) (story : Story) {disk outlet : ℕ} (status : Status)
    → disk ≤ plant.disk.before
    → plant.outlet.before ≡ outlet → StopsFor c input plant status → StopsFor c input (earlier plant story disk outlet) status
stops_earlier c input plant story Ok later same why = why
stops_earlier c input plant story BadWords later same why = why
stops_earlier c input plant story (BadConfig key) later same why = why
stops_earlier c input plant story (BadInput place offset) later same why = why
stops_earlier c input plant story ReadFault later same why = why
stops_earlier c input plant story LogFault later same why = omega (arith, later, why)
stops_earlier c input plant story OutFault later same why = omega (arith, same, why)
stops_earlier c input plant story (LogDamaged offset) later same why = why
stops_earlier c input plant story (LogFull tail need limit) later same why = why
stops_earlier c input plant story (AlreadyThere size) later same why = why
stops_earlier c input plant story NoMemory later same why = tt

-- what a run has done since its log was opened, to this tail, from what it told
pub record HasEnded (c : Config) (from : Told) (opened : ℕ) (input : SourceUse) (plant : PlantUse) (t : Tally)
    (status : Status) : Type 0 where
  pub reason : StopsFor c input plant status
  pub came : HasCome c from input plant t.drops.0 status
  pub room : (now : Told) (tail : ℕ) → plant.tells → status ≢ LogFault → EndsAt (content plant.after) now tail
      → tail ≤ max opened c.log_limit
  pub counts : input.tells → IsAtRecordsEnd status → TalliesAs c from input.bytes t
  pub part : input.tells → plant.tells → GainsPart (output_of c from input.bytes) (sent plant.before) (sent plant.after)
  pub settled : plant.tells → status ≢ LogFault → IsSettled plant.after

-- how the log was opened: its rows were closed, within the limit, and nothing was sent
pub record HasOpened (c : Config) (before now : Story) (from : Told) (opened : ℕ) : Type 0 where
  pub onto : BeginsFrom (content before) from
  pub room : (was : Log) → log_of (content before) ≡ Good was → opened ≤ max was.tail c.log_limit
  pub unsent : sent now ≡ sent before

only_told : (file : List ℕ) {t u : Told} → Tells file t → Tells file u → t ≡ u
only_told file {t} one other = ap (told_in t) (sym one.1 ∙ other.1)

pub ran : {c : Config} {from : Told} {opened : ℕ} {input : SourceUse} {plant : PlantUse} (story : Story) {disk outlet : ℕ} (t : Tally)
    {status : Status} → (plant.tells → HasOpened c story plant.before from opened)
    → disk ≤ plant.disk.before → plant.outlet.before ≡ outlet → HasEnded c from opened input plant t status
    → RanAs c no_source input (earlier plant story disk outlet) t.drops.0 status (text_of t Summary status)
ran {c} {from} {opened} {input} {plant} story {disk} {outlet} t {status} opening later none ended =
    let here : PlantUse = earlier plant story disk outlet in
    let came = ended.came in
    let come : HasCome c from input here t.drops.0 status = record {
      treated = came.treated;
      records = came.records;
      counts = came.counts;
      done = λ reads tells.
          subst (λ (past : List ℕ). HasDoneFirst c from came.treated input.bytes past plant.after status) (opening tells).unsent
          (came.done reads tells);
    } in
    record {
      did = inr (record {
        unset = λ _. refl;
        from = from;
        onto = λ tells. (opening tells).onto;
        reason = stops_earlier c input plant story status later none ended.reason;
        whole = whole status come;
        came = come;
        part = λ reads tells. subst (λ (past : List ℕ). GainsPart (output_of c from input.bytes) past (sent plant.after))
            (opening tells).unsent (ended.part reads tells);
        room = λ tells kept was now before after.
            omega (arith, ended.room now.told now.tail tells kept after, (opening tells).room was before);
        settled = ended.settled;
      });
      says = text_is t Summary status (λ good.
          let all = λ (reads : input.tells). ended.counts reads (subst IsAtRecordsEnd (sym good) tt) in
          record {
            records = t.records;
            packets = t.sent;
            says = refl;
            whole = λ was reads tells is.
                let onto = (opening tells).onto in
                summary_is c from input.bytes t (all reads)
                ∙ ap (λ (x : Told). summary_of c x input.bytes) onto.closed
                ∙ ap (λ (x : Told). summary_of c (recovered x) input.bytes) (only_told (content story) onto.tells is);
          });
    }

-- where no configuration was looked at, none refuses, but for want of memory
no_config : (config : SourceUse) (status : Status) → RefusesConfig no_source status → RefusesConfig config status
no_config config Ok why = why
no_config config BadWords why = why
no_config config (BadConfig key) why = absurd (omega (arith, why.1 tt))
no_config config (BadInput input offset) why = why
no_config config ReadFault why = absurd (omega (arith, why))
no_config config LogFault why = why
no_config config OutFault why = why
no_config config (LogDamaged offset) why = why
no_config config (LogFull tail need limit) why = why
no_config config (AlreadyThere size) why = why
no_config config NoMemory why = tt

-- the same with a configuration that has no bytes
pub unset : {c : Config} {config input : SourceUse} {plant : PlantUse} {drops : List ℕ} {status : Status} {text : List ℕ}
    → (config.tells → config.bytes ≡ []) → RanAs c no_source input plant drops status text → RanAs c config input plant drops status text
unset {config = config} {plant = plant} {status = status} none is = record {
  did = elim is.did [
    | inl r ↦ inl (record {
      reason = elim r.reason [ inl why ↦ inl (no_config config status why) | inr log ↦ inr (none, log.1) ];
      unread = r.unread;
      unsent = r.unsent;
      rows = r.rows;
      room = r.room;
      undropped = r.undropped;
    })
    | inr r ↦ inr (record {
      unset = none;
      from = r.from;
      onto = r.onto;
      reason = r.reason;
      whole = r.whole;
      came = r.came;
      part = r.part;
      room = r.room;
      settled = r.settled;
    })
  ];
  says = is.says;
}

-- ---- a query

-- the answer is the one of the command
pub answers_by : {command : Command} (other : Command) {answer answer' : Told → List ℕ} → command ≡ other
    → answer_to command ≡ Some answer
    → answer_to other ≡ Some answer' → answer' ≡ answer
answers_by other {answer} same one two =
    ap (λ (o : Option (Told → List ℕ)). unwrap_or o answer) (sym two ∙ sym (ap answer_to same) ∙ one)

pub run_answers_none : {command : Command} {answer : Told → List ℕ} → command ≡ RunOf → answer_to command ≡ Some answer → ⊥
run_answers_none same one = absurd (cc (sym (ap answer_to same) ∙ one))

pub init_answers_none : {command : Command} {answer : Told → List ℕ} → command ≡ Init → answer_to command ≡ Some answer → ⊥
init_answers_none same one = absurd (cc (sym (ap answer_to same) ∙ one))

pub unanswered : {answer : Told → List ℕ} {plant : PlantUse} (ended : Ended) {status : Status}
    → ended.status ≡ status → ended.tally.drops.0 ≡ drop_counts [] → status ≢ Ok → AnswersFor plant status
    → (plant.tells → IsKept plant) → EndsBy (AnsweredAs answer plant ended.tally.drops.0) ended
unanswered {answer} {plant} ended is none not_ok why same = record {
  reason = subst (AnswersFor plant) (sym is) why;
  same = same;
  undropped = none;
  says = text_is ended.tally ended.answer ended.status (λ ok. absurd (not_ok (sym is ∙ ok)));
}

pub answered : {answer : Told → List ℕ} {plant : PlantUse} (ended : Ended) {told : Told}
    → ended.status ≡ Ok → ended.tally.drops.0 ≡ drop_counts [] → answer_text ended.tally ended.answer ≡ answer told
    → (plant.tells → Tells (content plant.before) told)
    → (plant.tells → IsKept plant) → EndsBy (AnsweredAs answer plant ended.tally.drops.0) ended
answered {answer} {plant} ended {told} is none says tells same = record {
  reason = subst (AnswersFor plant) (sym is) tt;
  same = same;
  undropped = none;
  says = text_is ended.tally ended.answer ended.status (λ _. record { told = told; tells = tells; says = says });
}

-- making a log, by how it ended
pub made : {plant : PlantUse} (ended : Ended) → MakesFor plant ended.status → ended.tally.drops.0 ≡ drop_counts []
    → (ended.status ≡ Ok → ended.answer ≡ Nothing)
    → (plant.tells → ended.status ≡ Ok → content plant.after ≡ empty_log)
    → (plant.tells → ended.status ≡ Ok → IsSettled plant.after)
    → ((size : ℕ) → plant.tells → ended.status ≡ AlreadyThere size → IsKept plant)
    → (plant.tells → sent plant.after ≡ sent plant.before) → (plant.tells → StopsLeave plant.before plant.after (MakeLeaves plant.before))
    → EndsBy (MadeAs plant ended.tally.drops.0) ended
made ended why none nothing is settled same unsent stops = record {
  reason = why;
  made = is;
  settled = settled;
  same = same;
  unsent = unsent;
  stops = stops;
  undropped = none;
  says = text_is ended.tally ended.answer ended.status (λ ok. ap (answer_text ended.tally) (nothing ok));
}

-- a list, or no memory for it
pub listed : {answer : Told → List ℕ} {plant : PlantUse} (ended : Ended) {told : Told} → IsListed told ended
    → ended.tally.drops.0 ≡ drop_counts [] → told_text told ≡ answer told
    → (plant.tells → Tells (content plant.before) told)
    → (plant.tells → IsKept plant) → EndsBy (AnsweredAs answer plant ended.tally.drops.0) ended
listed ended is none says tells same = elim is [
  | inl all ↦ answered ended all.0 none (all.1 ∙ says) tells same
  | inr refused ↦ unanswered ended refused none (λ ok. absurd (cc ok)) tt same
]

-- ---- every command

-- the status is the one that it ended with, or OutFault, so no other comes from elsewhere
pub was_so : {HasDone : Status → List ℕ → Type 0} {report : SinkUse} {status : Status} (r : IsReported report status HasDone)
    → status ≢ OutFault → HasDone status r.text
was_so {HasDone} r not_outlet = elim r.printed [
  | inl same ↦ subst (λ (s : Status). HasDone s r.text) (sym same.0) r.done
  | inr failed ↦ absurd (not_outlet failed.0)
]

pub faulted : {G : List ℕ → Type 0} {HasDone : Status → List ℕ → Type 0} {report : SinkUse} {status : Status}
    → (r : IsReported report status HasDone) → IsText G r.was r.text → PrintsFault report status
faulted {report = report} {status = status} r says = record {
  line = λ told not_ok not_outlet. elim r.printed [
    | inl same ↦
        same.1 told
        ∙ ap (λ (l : List ℕ). report.past ++ l)
        (says.fault (λ ok. not_ok (same.0 ∙ ok)) (λ outlet. not_outlet (same.0 ∙ outlet)) ∙ ap fault_line (sym same.0))
    | inr failed ↦ absurd (not_outlet failed.0)
  ];
  behind = λ told. elim r.printed [
    | inl same ↦ (r.text, same.1 told)
    | inr failed ↦ (_, (failed.2 told).1)
  ];
}

pub ran_says : {c : Config} {config input : SourceUse} {plant : PlantUse} {drops : List ℕ} (text : List ℕ)
    → RanAs c config input plant drops BadWords text → ⊥
ran_says text is = elim is.did [
  | inl r ↦ elim r.reason [ inl config ↦ config | inr log ↦ log.1 ]
  | inr r ↦ r.reason
]

pub made_says : {plant : PlantUse} {drops : List ℕ} (text : List ℕ) → MadeAs plant drops BadWords text → ⊥
made_says text is = is.reason

pub words_say : {drops : List ℕ} {status : Status} {text : List ℕ} → IsNoCommand drops status text → IsText (λ l. ⊥) status text
words_say is = record {
  good = λ ok. absurd (cc (sym is.refused ∙ ok));
  outlet = λ out. absurd (cc (sym is.refused ∙ out));
  fault = λ _ _. is.says ∙ ap fault_line (sym is.refused);
}

pub ended_so : {HasDone : Status → List ℕ → Type 0} {report : SinkUse} {status : Status} (now : Status)
    (r : IsReported report status HasDone)
    → status ≡ now → now ≢ OutFault → HasDone now r.text
ended_so {HasDone} now r is not_outlet =
    subst (λ (s : Status). HasDone s r.text) is (was_so r (λ outlet. not_outlet (sym is ∙ outlet)))
