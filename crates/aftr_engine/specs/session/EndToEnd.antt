-- What a run has done, over what the log told at its start and the bytes of its input.
use Rattle.std.specs.Prelude.{ℕ, ◌+◌, List, length, take}
use Rattle.aftr_base.specs.Drops.{drop_counts}
use Rattle.aftr_base.specs.declared.told.Told.{Told}
use Rattle.cfg_text.specs.declared.config.Config.{Config}
use Rattle.xlate_core.specs.Run.{told_of}
use Rattle.xlate_core.specs.Run.{Run, run, start}
use Rattle.link_records.specs.Frames.{frames_of}
use Rattle.egress_gate.specs.Output.{output}
use Rattle.aftr_engine.specs.report.Lines.{summary}

-- the translator's run over the records of an input
abbrev pub run_of : Config → Told → List ℕ → Run
run_of c told input = run (start c told) (frames_of input).events

-- what a log tells behind a run that began with what it told: the run's rows and horizon, and its log events as data records
abbrev pub told_behind : Told → Run → Told
told_behind told r = told_of r.state (told.count + length r.log)

abbrev pub output_of : Config → Told → List ℕ → List ℕ
output_of c told input = output (run_of c told input).items

abbrev pub counts_of : Config → Told → List ℕ → List ℕ
counts_of c told input = drop_counts (run_of c told input).drops

abbrev pub summary_of : Config → Told → List ℕ → List ℕ
summary_of c told input =
    summary (length (frames_of input).events) (length (run_of c told input).items) (counts_of c told input)

-- the run over the first n records of an input
abbrev pub front_run : Config → Told → ℕ → List ℕ → Run
front_run c told n input = run (start c told) (take n (frames_of input).events)
