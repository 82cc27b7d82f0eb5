use Rattle.std.proofs.Common.{◌≡◌, List, ℕ, length, take, ◌∙◌, ap, sym, subst, arith}
use Rattle.std.proofs.lemmas.List.{take_all}
use Rattle.plant_mem.specs.declared.tape.Kept.{Kept}
use Rattle.plant_mem.specs.Disk.{start_of}
use Rattle.plant_mem.specs.Tape.{begun, story_of, TapeValue, IsFilled}
use Rattle.plant_mem.proofs.LeftFiles.{FilledSoFar, filled_more, step_at, filled_done}
use Rattle.plant_mem.proofs.tape.Tape.filled.Goals as goal

pub loop-step-preserved : goal.loop-step-preserved
loop-step-preserved c =
    let index = c.loop-step.step-index in
    let items = c.deref-step-items.result.now in
    let file = c.bytes-file.result.now in
    let before = c.loop-step.image.items in
    let now = c.fill.new.image.items in
    record {
      size = c.fill.ensures.length;
      filled = λ start bytes.
          subst (λ (kept : List Kept). FilledSoFar start bytes c.args.byte kept file now)
          (sym (step_at items index c.step-item.result c.loop-step-test.true c.step-item.is))
          (filled_more start bytes c.args.byte (take index items) c.step-item.result file before now c.loop-step.invariant.size
          (c.loop-step.invariant.filled start bytes) c.fill.ensures.filled);
    }

pub returns : goal.returns
returns c =
    let start = start_of c.self.inside.disk in
    let bytes = c.self.inside.outlet.items in
    let image = c.loop-step.image.items in
    let all : take c.loop-step.step-index c.deref-step-items.result.now ≡ c.self.inside.kept.items =
    take_all c.loop-step.step-index c.deref-step-items.result.now (omega arith) ∙ c.deref-step-items.ensures.value in
    let filled = subst (λ (kept : List Kept). FilledSoFar start bytes c.args.byte kept c.bytes-file.result.now image) all
    (c.loop-step.invariant.filled start bytes) in
    subst (λ (t : TapeValue). IsFilled c.args.byte t.story c.from_vec.result) c.self.view_is
    (subst (λ (l : List ℕ). IsFilled c.args.byte (story_of c.self.inside.kept.items bytes (begun start)) l) (sym c.from_vec.ensures)
    (filled_done _ _ _ _ _ _ c.self.invariant
    (c.loop-step.invariant.size ∙ ap length c.bytes-file.ensures)
    (subst (λ (file : List ℕ). FilledSoFar start bytes c.args.byte c.self.inside.kept.items file image) c.bytes-file.ensures filled)))
