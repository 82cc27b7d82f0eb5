use Rattle.std.proofs.Common.{◌≡◌, ℕ, suc, ◌+◌, List, ◌++◌, take, get_or, ap, sym, ◌∙◌, append_assoc, arith}
use Rattle.aftr_base.specs.declared.event.DropCause.TheVariants.{Settling}
use Rattle.aftr_engine.specs.report.Lines.{drop_line, drop_lines}
use Rattle.aftr_engine.proofs.Lines.{drops_next}
use Rattle.aftr_engine.proofs.report.push_drops.Goals as goal

pub loop-place-preserved : goal.loop-place-preserved
loop-place-preserved c =
    let causes = c.args.causes.now in
    let counts = c.args.counts.now in
    let k = c.loop-place.place in
    let next : k + 1 ≡ suc k = omega arith in
    let line : List ℕ = drop_line (get_or causes k Settling) (get_or counts k 0) in
    record {
      bytes =
          c.push_drop.ensures.bytes ∙ ap (λ (l : List ℕ). l ++ line) c.loop-place.invariant.bytes
          ∙ append_assoc c.args.lines.now.bytes (drop_lines (take k causes) (take k counts)) line
          ∙ ap (λ (l : List ℕ). c.args.lines.now.bytes ++ l) (sym (drops_next causes counts k Settling (omega arith) (omega arith)))
          ∙ ap (λ (n : ℕ). c.args.lines.now.bytes ++ drop_lines (take n causes) (take n counts)) (sym next);
      room = omega (arith, c.push_drop.ensures.room, c.loop-place.invariant.room);
    }
