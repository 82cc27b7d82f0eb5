use Rattle.std.proofs.Common.{◌≡◌, ◌<◌, suc, true, false, None, length, get_or, set, refl, sym, ◌∙◌, ap, ◌++◌, ◌∷◌, [], List, ℕ, ◌+◌, arith}
use Rattle.std.proofs.lemmas.List.{set-get_or}
use Rattle.aftr_base.specs.Plan.{prefix6}
use Rattle.aftr_base.specs.Row.{block_event, ended}
use Rattle.aftr_base.specs.Value.{ip4, moment}
use Rattle.aftr_base.specs.declared.event.LogEvent.{LogEvent}
use Rattle.aftr_base.specs.declared.row.LeaseRow.{LeaseRow}
use Rattle.port_blocks.specs.Free.{Leases}
use Rattle.xlate_core.specs.Expiry.{is_idle}
use Rattle.xlate_core.proofs.Closings.{outcome, outcome_ended, outcome_busy, outcome_spent, closings_from, closings_ended, closings_busy}
use Rattle.xlate_core.proofs.Closings.{closings_spent}
use Rattle.xlate_core.proofs.IdleLeases.{none_busy, none_ended}
use Rattle.xlate_core.proofs.Passed.{none_passed, passed, passed_ended, slice_there}
use Rattle.xlate_core.proofs.expiry.close_idle.Goals as goal
use Rattle.xlate_core.proofs.expiry.close_idle.Goals.{then-left-gt0+then-is_idle+in_ok-push, else-left-gt0}
use Rattle.xlate_core.proofs.expiry.close_idle.Goals.{else-left-gt0-via-then-left-gt0+else-is_idle, else-left-gt0-via-else-left-gt0}

pub loop-at-init : goal.loop-at-init
loop-at-init c = record {
  leases = refl;
  closed = refl;
  passed = none_passed c.args.now.0 c.args.table.now.rows c.args.blocks.now.rows;
  end = ap (λ (l : List LeaseRow). length l) c.rows-at-end.ensures;
  none = λ more. refl;
}

-- a lease that is read past the end
abbrev none : LeaseRow
none = record {
  owner = record { 0 = prefix6 0 0 };
  addr = ip4 0;
  first = 0;
  last = 0;
  since = moment 0;
  until = None;
}

pub loop-at-preserved : goal.loop-at-preserved
loop-at-preserved c =
    let was = c.loop-at in
    let now = c.args.now.0 in
    let rows = c.args.table.now.rows in
    let old = c.args.blocks.now.rows in
    let before = was.blocks.rows in
    let at = was.at in
    let left = c.if-left-gt0.left in
    let ls = c.if-left-gt0.blocks.rows in
    let lt : at < length before = omega (arith, was.invariant.passed.size, was.invariant.end, c.loop-at-test.true) in
    let read : get_or c.rows.result.now at none ≡ get_or before at none =
    ap (λ (l : List LeaseRow). get_or l at none) c.rows.ensures in
    elim c.if-left-gt0.branch [
      | then-left-gt0+then-is_idle+in_ok-push w ↦
          let idle : is_idle rows (get_or before at none) ≡ true =
          ap (is_idle rows) (sym read) ∙ sym w.is_idle.ensures ∙ w.if-is_idle.true in
          let one_less : suc left ≡ was.left = omega arith in
          let same : ls ≡ set before at (ended now (get_or before at none)) =
          ap (λ (b : Leases). b.rows) w.blocks-is
          ∙ w.give.ensures.rows (get_or before at none) (slice_there before at none lt) in
          record {
            leases = outcome_ended was.left left now rows before ls at none lt one_less same idle ∙ was.invariant.leases;
            closed = closings_ended was.left left now rows before ls was.log c.if-left-gt0.log at none lt one_less same
                (w.log-is ∙ w.in_ok-push.ensures.ok ∙ ap (λ (e : LogEvent). was.log ++ e ∷ []) w.block_event.ensures
                ∙ ap (λ (l : LeaseRow). was.log ++ block_event false now l ∷ []) read)
                idle ∙ was.invariant.closed;
            passed = passed_ended now rows old before ls at none lt same idle was.invariant.passed;
            end = was.invariant.end;
            none = λ more. none_ended now rows before ls at none lt same (was.invariant.none (omega (arith, one_less)));
          }
      | else-left-gt0 w ↦
          let there : ls ≡ before = ap (λ (b : Leases). b.rows) w.blocks-is in
          let same : ls ≡ set before at (get_or before at none) = there ∙ sym (set-get_or before at none) in
          let as_left = ap (λ (n : ℕ). outcome n now rows ls (at + 1)) w.left-is in
          let as_closed = ap (λ (xs : List LogEvent). xs ++ closings_from left now rows ls (at + 1)) w.log-is
          ∙ ap (λ (n : ℕ). was.log ++ closings_from n now rows ls (at + 1)) w.left-is in
          let on = passed now rows old before ls at none lt there was.invariant.passed in
          elim w.else-left-gt0.branch [
            | else-left-gt0-via-then-left-gt0+else-is_idle v ↦
                let busy : is_idle rows (get_or before at none) ≡ false =
                ap (is_idle rows) (sym read) ∙ sym v.is_idle.ensures ∙ v.if-is_idle.false in
                record {
                  leases = as_left ∙ outcome_busy was.left now rows before ls at none lt same busy ∙ was.invariant.leases;
                  closed = as_closed
                      ∙ ap (λ (xs : List LogEvent). was.log ++ xs) (closings_busy was.left now rows before ls at none lt same busy)
                      ∙ was.invariant.closed;
                  passed = on;
                  end = was.invariant.end;
                  none = λ more. none_busy rows before ls at none lt same busy (was.invariant.none (omega (arith, more, w.left-is)));
                }
            | else-left-gt0-via-else-left-gt0 v ↦ record {
              leases = as_left ∙ outcome_spent was.left now rows before ls at none lt same v.if-left-gt0.false ∙ was.invariant.leases;
              closed = as_closed
                  ∙ ap (λ (xs : List LogEvent). was.log ++ xs)
                  (closings_spent was.left now rows before ls at none lt same v.if-left-gt0.false) ∙ was.invariant.closed;
              passed = on;
              end = was.invariant.end;
              none = λ more. absurd (omega (arith, more, w.left-is, v.if-left-gt0.false));
            }
          ]
    ]
