use Rattle.std.proofs.Common.{◌<◌, [], length, arith}
use Rattle.aftr_engine.specs.engine.Running.{at_first}
use Rattle.aftr_engine.specs.engine.Texts.{text_of}
use Rattle.aftr_engine.proofs.Attribution.{names_front, valid_front}
use Rattle.aftr_engine.proofs.Begins.{begins}
use Rattle.aftr_engine.proofs.Firsts.{first_is, first_used}
use Rattle.egress_gate.proofs.NamesApart.{one_name_disjoint}
use Rattle.aftr_engine.proofs.engine.run_config.Goals as goal

pub returns-clause-run : goal.returns-clause-run
returns-clause-run g c =
    let inputs = c.args.inputs.now in
    let ended = c.translate-ended.result in
    let some : 0 < length inputs = omega (arith, c.requires.one) in
    rw (first_used g.I.Source inputs c.index-inputs-0.result c.translate-ended.new.input some, c.reported.ensures.drops)
    (record {
      was = ended.status;
      text = text_of ended.tally ended.answer ended.status;
      done = c.translate-ended.ensures.ran;
      printed = c.reported.ensures.printed;
    })

pub returns-clause-stops : goal.returns-clause-stops
returns-clause-stops g c = λ reads tells.
    let inputs = c.args.inputs.now in
    let some : 0 < length inputs = omega (arith, c.requires.one) in
    rw (first_is [] g.I.Source.rest inputs c.index-inputs-0.result some) (c.translate-ended.ensures.stops reads tells)

pub returns-clause-answers : goal.returns-clause-answers
returns-clause-answers g c = λ was reads tells onto start.
    let inputs = c.args.inputs.now in
    c.stops_are_answered.ensures c.args.config (at_first [] g.I.Source.rest inputs) (g.P.Plant.story c.args.plant.now)
    (g.P.Plant.story c.translate-ended.new.plant) was (returns-clause-stops g c reads tells) onto start

pub returns-clause-names : goal.returns-clause-names
returns-clause-names g c = λ told records can.
    let from = begins told can.sound can.ended c.args.config c.requires.accepted in
    names_front c.args.config told records (at_first [] g.I.Source.rest c.args.inputs.now) from (one_name_disjoint told from can.one)

pub returns-clause-valid : goal.returns-clause-valid
returns-clause-valid g c = λ told records can.
    let from = begins told can.sound can.ended c.args.config c.requires.accepted in
    valid_front c.args.config told records (at_first [] g.I.Source.rest c.args.inputs.now) from (one_name_disjoint told from can.one)
