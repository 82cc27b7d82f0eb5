use Rattle.std.proofs.Common.{◌∙◌, ap, Bool, Some, None}
use Rattle.std.specs.Prelude.{if◌then◌else◌}
use Rattle.nat_events.proofs.PlanTextLaws.{text_answered}
use Rattle.nat_events.proofs.plan_reader.read_plan_text.Goals as goal

pub returns-then-branch : goal.returns-then-branch
returns-then-branch c =
    text_answered c.args.text.now c.in_ok-spec.spec c.in_ok-is_text_of.field-0 c.in_ok-spec.ensures c.in_ok-is_text_of.ensures
    ∙ ap (λ (b : Bool). if b then Some c.in_ok-spec.spec else None) c.if-branch.true

pub returns-else-branch : goal.returns-else-branch
returns-else-branch c =
    text_answered c.args.text.now c.in_ok-spec.spec c.in_ok-is_text_of.field-0 c.in_ok-spec.ensures c.in_ok-is_text_of.ensures
    ∙ ap (λ (b : Bool). if b then Some c.in_ok-spec.spec else None) c.if-branch.false
