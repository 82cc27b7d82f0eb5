use Rattle.std.proofs.Common.{◌≡◌, ◌<◌, ℕ, List, [], length, refl, subst}
use Rattle.std.specs.Prelude.{Some}
use Rattle.plant_io.specs.Uses.{plant_use}
use Rattle.cfg_text.specs.Defaults.{defaults}
use Rattle.aftr_engine.specs.words.Words.{command_for}
use Rattle.aftr_engine.specs.declared.words.Command.TheVariants.{Run, Trace, Leases}
use Rattle.aftr_base.specs.declared.outcome.Status.TheVariants.{BadWords}
use Rattle.aftr_engine.specs.engine.Running.{at_first}
use Rattle.aftr_engine.specs.engine.Texts.{text_of}
use Rattle.aftr_base.specs.declared.told.Told.{Told}
use Rattle.aftr_engine.specs.engine.Asking.{AnsweredAs}
use Rattle.aftr_engine.proofs.Attribution.{names_front, valid_front}
use Rattle.aftr_engine.proofs.Endings.{answers_by, init_answers_none, run_answers_none, defaults_accepted, ended_so, faulted, made_says}
use Rattle.aftr_engine.proofs.Endings.{ran_says, words_say}
use Rattle.aftr_engine.proofs.LogStops.{leaves_start, make_leaves, read_leaves}
use Rattle.aftr_engine.proofs.Begins.{begins}
use Rattle.egress_gate.proofs.NamesApart.{one_name_disjoint}
use Rattle.aftr_engine.proofs.Firsts.{first_is, first_used, some_input}
use Rattle.aftr_engine.proofs.engine.aftr.Goals as goal
use Rattle.aftr_engine.proofs.engine.aftr.Goals.{in-Some-Init, in-Some-Run, in-Some-Trace, in-Some-Leases, in-None}

pub returns-clause-words : goal.returns-clause-words
returns-clause-words g c = λ none. elim c.match-command_of.branch [
  | in-Some-Init w ↦ absurd (cc (none, c.command_of.ensures, w.in-Some-Init.is))
  | in-Some-Run w ↦ absurd (cc (none, c.command_of.ensures, w.in-Some-Run.is))
  | in-Some-Trace w ↦ absurd (cc (none, c.command_of.ensures, w.in-Some-Trace.is))
  | in-Some-Leases w ↦ absurd (cc (none, c.command_of.ensures, w.in-Some-Leases.is))
  | in-None w ↦
      let ended = w.early-ended.result in
      let shown = rw w.ended-is at c.reported.ensures in
      rw shown.drops
      (record {
        was = ended.status;
        text = text_of ended.tally ended.answer ended.status;
        done = record {
          refused = w.early-ended.ensures.status;
          undropped = w.early-ended.ensures.drops;
          says = rw w.early-ended.ensures.status refl;
        };
        printed = shown.printed;
      })
]

pub returns-clause-run : goal.returns-clause-run
returns-clause-run g c = λ is. elim c.match-command_of.branch [
  | in-Some-Init w ↦ absurd (cc (is, c.command_of.ensures, w.in-Some-Init.is, w.in-Some-Init.field-0-is))
  | in-Some-Run w ↦
      let inputs = c.args.inputs.now in
      let ended = w.run-ended.result in
      let shown = rw w.ended-is at c.reported.ensures in
      let some : 0 < length inputs = some_input c.args.words.now (length inputs) is c.requires in
      rw (
        w.cfg-is,
        w.inputs-is,
        w.plant-is,
        first_used g.I.Source inputs w.index-inputs-0.result w.run-ended.new.input some,
        shown.drops,
      )
      (record {
        was = ended.status;
        text = text_of ended.tally ended.answer ended.status;
        done = w.run-ended.ensures.ran;
        printed = shown.printed;
      })
  | in-Some-Trace w ↦ absurd (cc (is, c.command_of.ensures, w.in-Some-Trace.is, w.in-Some-Trace.field-0-is))
  | in-Some-Leases w ↦ absurd (cc (is, c.command_of.ensures, w.in-Some-Leases.is, w.in-Some-Leases.field-0-is))
  | in-None w ↦ absurd (cc (is, c.command_of.ensures, w.in-None.is))
]

pub returns-clause-init : goal.returns-clause-init
returns-clause-init g c = λ is. elim c.match-command_of.branch [
  | in-Some-Init w ↦
      let ended = w.init-ended.result in
      let shown = rw w.ended-is at c.reported.ensures in
      rw (w.plant-is, shown.drops)
      (record {
        was = ended.status;
        text = text_of ended.tally ended.answer ended.status;
        done = w.init-ended.ensures;
        printed = shown.printed;
      })
  | in-Some-Run w ↦ absurd (cc (is, c.command_of.ensures, w.in-Some-Run.is, w.in-Some-Run.field-0-is))
  | in-Some-Trace w ↦ absurd (cc (is, c.command_of.ensures, w.in-Some-Trace.is, w.in-Some-Trace.field-0-is))
  | in-Some-Leases w ↦ absurd (cc (is, c.command_of.ensures, w.in-Some-Leases.is, w.in-Some-Leases.field-0-is))
  | in-None w ↦ absurd (cc (is, c.command_of.ensures, w.in-None.is))
]

pub returns-clause-query : goal.returns-clause-query
returns-clause-query g c = λ command answer is answers. elim c.match-command_of.branch [
  | in-Some-Init w ↦ absurd (init_answers_none (cc (is, c.command_of.ensures, w.in-Some-Init.is, w.in-Some-Init.field-0-is)) answers)
  | in-Some-Run w ↦ absurd (run_answers_none (cc (is, c.command_of.ensures, w.in-Some-Run.is, w.in-Some-Run.field-0-is)) answers)
  | in-Some-Trace w ↦
      let ended = w.trace-ended.result in
      let shown = rw w.ended-is at c.reported.ensures in
      rw (w.plant-is, shown.drops)
      (record {
        was = ended.status;
        text = text_of ended.tally ended.answer ended.status;
        done = subst (λ (f : Told → List ℕ).
            AnsweredAs f (plant_use g.P.Plant c.args.plant.now w.trace-ended.new.plant) ended.tally.drops.0 ended.status
            (text_of ended.tally ended.answer ended.status))
            (answers_by (Trace w.in-Some-Trace.addr w.in-Some-Trace.port w.in-Some-Trace.at)
            (cc (is, c.command_of.ensures, w.in-Some-Trace.is, w.in-Some-Trace.field-0-is)) answers refl) w.trace-ended.ensures.answered;
        printed = shown.printed;
      })
  | in-Some-Leases w ↦
      let ended = w.list-ended.result in
      let shown = rw w.ended-is at c.reported.ensures in
      rw (w.plant-is, shown.drops)
      (record {
        was = ended.status;
        text = text_of ended.tally ended.answer ended.status;
        done = subst (λ (f : Told → List ℕ).
            AnsweredAs f (plant_use g.P.Plant c.args.plant.now w.list-ended.new.plant) ended.tally.drops.0 ended.status
            (text_of ended.tally ended.answer ended.status))
            (answers_by Leases (cc (is, c.command_of.ensures, w.in-Some-Leases.is, w.in-Some-Leases.field-0-is)) answers refl)
            w.list-ended.ensures.answered;
        printed = shown.printed;
      })
  | in-None w ↦ absurd (cc (is, c.command_of.ensures, w.in-None.is))
]

pub returns-clause-stops : goal.returns-clause-stops
returns-clause-stops g c = λ reads tells other.
    let story = g.P.Plant.story c.args.plant.now in
    let input = at_first [] g.I.Source.rest c.args.inputs.now in
    elim c.match-command_of.branch [
      | in-Some-Init w ↦ absurd (other (cc (c.command_of.ensures, w.in-Some-Init.is, w.in-Some-Init.field-0-is)))
      | in-Some-Run w ↦
          let is : command_for c.args.words.now ≡ Some Run =
          cc (c.command_of.ensures, w.in-Some-Run.is, w.in-Some-Run.field-0-is) in
          let some = some_input c.args.words.now (length c.args.inputs.now) is c.requires in
          rw (w.plant-is, first_is [] g.I.Source.rest c.args.inputs.now w.index-inputs-0.result some)
          (w.run-ended.ensures.stops reads tells)
      | in-Some-Trace w ↦
          rw w.plant-is
          (read_leaves defaults input story (g.P.Plant.story w.trace-ended.new.plant) (w.trace-ended.ensures.stops tells))
      | in-Some-Leases w ↦
          rw w.plant-is
          (read_leaves defaults input story (g.P.Plant.story w.list-ended.new.plant) (w.list-ended.ensures.stops tells))
      | in-None w ↦
          rw w.plant-is (leaves_start defaults input story)
    ]

pub returns-clause-answers : goal.returns-clause-answers
returns-clause-answers g c = λ was reads tells onto start.
    let story = g.P.Plant.story c.args.plant.now in
    let input = at_first [] g.I.Source.rest c.args.inputs.now in
    c.stops_are_answered.ensures defaults input story _ was
    (elim c.match-command_of.branch [
      | in-Some-Init w ↦
          rw w.plant-is (make_leaves defaults input story (g.P.Plant.story w.init-ended.new.plant) onto (w.init-ended.ensures.stops tells))
      | in-Some-Run w ↦
          returns-clause-stops g c reads tells (λ is. absurd (cc (is, c.command_of.ensures, w.in-Some-Run.is, w.in-Some-Run.field-0-is)))
      | in-Some-Trace w ↦
          returns-clause-stops g c reads tells
          (λ is. absurd (cc (is, c.command_of.ensures, w.in-Some-Trace.is, w.in-Some-Trace.field-0-is)))
      | in-Some-Leases w ↦
          returns-clause-stops g c reads tells
          (λ is. absurd (cc (is, c.command_of.ensures, w.in-Some-Leases.is, w.in-Some-Leases.field-0-is)))
      | in-None w ↦ returns-clause-stops g c reads tells (λ is. absurd (cc (is, c.command_of.ensures, w.in-None.is)))
    ]) onto start

pub returns-clause-names : goal.returns-clause-names
returns-clause-names g c = λ told records can.
    let from = begins told can.sound can.ended defaults defaults_accepted in
    names_front defaults told records (at_first [] g.I.Source.rest c.args.inputs.now) from (one_name_disjoint told from can.one)

pub returns-clause-valid : goal.returns-clause-valid
returns-clause-valid g c = λ told records can.
    let from = begins told can.sound can.ended defaults defaults_accepted in
    valid_front defaults told records (at_first [] g.I.Source.rest c.args.inputs.now) from (one_name_disjoint told from can.one)

pub returns-clause-reason : goal.returns-clause-reason
returns-clause-reason g c = λ bad. elim c.match-command_of.branch [
  | in-Some-Init w ↦
      let r = returns-clause-init g c (cc (c.command_of.ensures, w.in-Some-Init.is, w.in-Some-Init.field-0-is)) in
      absurd (made_says r.text (ended_so BadWords r bad (λ e. absurd (cc (e)))))
  | in-Some-Run w ↦
      let r = returns-clause-run g c (cc (c.command_of.ensures, w.in-Some-Run.is, w.in-Some-Run.field-0-is)) in
      absurd (ran_says r.text (ended_so BadWords r bad (λ e. absurd (cc (e)))))
  | in-Some-Trace w ↦
      let command = Trace w.in-Some-Trace.addr w.in-Some-Trace.port w.in-Some-Trace.at in
      let r = returns-clause-query g c command _ (cc (c.command_of.ensures, w.in-Some-Trace.is, w.in-Some-Trace.field-0-is)) refl in
      absurd (ended_so BadWords r bad (λ e. absurd (cc (e)))).reason
  | in-Some-Leases w ↦
      let r = returns-clause-query g c Leases _ (cc (c.command_of.ensures, w.in-Some-Leases.is, w.in-Some-Leases.field-0-is)) refl in
      absurd (ended_so BadWords r bad (λ e. absurd (cc (e)))).reason
  | in-None w ↦ cc (c.command_of.ensures, w.in-None.is)
]

pub returns-clause-fault : goal.returns-clause-fault
returns-clause-fault g c = elim c.match-command_of.branch [
  | in-Some-Init w ↦
      let r = returns-clause-init g c (cc (c.command_of.ensures, w.in-Some-Init.is, w.in-Some-Init.field-0-is)) in
      faulted r r.done.says
  | in-Some-Run w ↦
      let r = returns-clause-run g c (cc (c.command_of.ensures, w.in-Some-Run.is, w.in-Some-Run.field-0-is)) in
      faulted r r.done.says
  | in-Some-Trace w ↦
      let command = Trace w.in-Some-Trace.addr w.in-Some-Trace.port w.in-Some-Trace.at in
      let r = returns-clause-query g c command _ (cc (c.command_of.ensures, w.in-Some-Trace.is, w.in-Some-Trace.field-0-is)) refl in
      faulted r r.done.says
  | in-Some-Leases w ↦
      let r = returns-clause-query g c Leases _ (cc (c.command_of.ensures, w.in-Some-Leases.is, w.in-Some-Leases.field-0-is)) refl in
      faulted r r.done.says
  | in-None w ↦
      let r = returns-clause-words g c (cc (c.command_of.ensures, w.in-None.is)) in
      faulted r (words_say r.done)
]
