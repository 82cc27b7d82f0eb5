use Rattle.std.proofs.Common.{◌≡◌, ◌++◌, ◌∙◌, sym, subst, List, arith}
use Rattle.std.specs.Prelude.{OnOk, IsOkAnd}
use Rattle.aftr_base.specs.declared.event.LogEvent.{LogEvent}
use Rattle.nat_events.specs.Reading.{Refusable}
use Rattle.nat_events.proofs.ViewLaws.{not_message, events_from}
use Rattle.nat_events.proofs.message.read_events.Goals as goal

pub returns-in_default-clause-not_ours : goal.returns-in_default-clause-not_ours
returns-in_default-clause-not_ours c =
    λ bad. not_message c.args.count c.args.message.now (λ k. omega (arith, c.type_inv.message k))
    (λ m spells. let e = c.in_default.ensures.accepts m spells in absurd (cc e))

pub returns-clause-ok : goal.returns-clause-ok
returns-clause-ok c =
    let same = events_from c.args.count c.args.message.now c.in-Ok.view c.in-Ok.ensures.spelled
    (sym c.is_in_place.ensures ∙ c.if-not-is_in_place.false) (sym c.begins_with_templates.ensures ∙ c.if-not-begins_with_templates.false) in
    subst (λ (r : Refusable (List LogEvent)). OnOk c.read_sets.result (IsOkAnd r (λ events. c.read_sets.new.out ≡ c.args.out.now ++ events)))
    (sym same) c.read_sets.ensures.ok
