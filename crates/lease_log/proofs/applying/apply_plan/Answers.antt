use Rattle.std.proofs.Common.{◌≡◌, ap, ◌∙◌, sym, refl, true, false, List}
use Rattle.std.specs.Prelude.{◌&&◌, nat_le, Ok, map}
use Rattle.std.specs.List.{list_any}
use Rattle.aftr_base.specs.Row.{is_in_use, plan_ended}
use Rattle.aftr_base.specs.Telling.{after_plan}
use Rattle.aftr_base.specs.declared.row.PlanRow.{PlanRow}
use Rattle.aftr_base.specs.declared.told.Told.{Told}
use Rattle.lease_log.proofs.Requiring.{require-false, require-true}
use Rattle.lease_log.proofs.applying.apply_plan.Goals as goal

pub returns-then-not-may_end_plan : goal.returns-then-not-may_end_plan
returns-then-not-may_end_plan c =
    let t = c.args.told.now in
    let at = c.args.at in
    let may = λ (plans : List PlanRow). list_any (λ (p : PlanRow). is_in_use p && nat_le p.since.0 at.0) plans in
    let no : may t.plans ≡ false = sym (c.may_end_plan.ensures ∙ ap may c.as_slice-in-None.ensures) ∙ c.if-not-may_end_plan.true in
    let ended : Told = record t { plans = map (plan_ended at.0) t.plans } in
    record { told = ap (after_plan t at) c.in-None.is ∙ require-false (may t.plans) (Ok ended) no; leases = refl }

pub returns-else-not-may_end_plan : goal.returns-else-not-may_end_plan
returns-else-not-may_end_plan c =
    let t = c.args.told.now in
    let at = c.args.at in
    let may = λ (plans : List PlanRow). list_any (λ (p : PlanRow). is_in_use p && nat_le p.since.0 at.0) plans in
    let yes : may t.plans ≡ true = sym (c.may_end_plan.ensures ∙ ap may c.as_slice-in-None.ensures) ∙ c.if-not-may_end_plan.false in
    let ended : Told = record t { plans = map (plan_ended at.0) t.plans } in
    let with_plans = λ (plans : List PlanRow). Ok record t { plans = plans } in
    record {
      told = ap (after_plan t at) c.in-None.is ∙ require-true (may t.plans) (Ok ended) yes ∙ ap with_plans (sym c.end_plan.ensures);
      leases = refl;
    }
