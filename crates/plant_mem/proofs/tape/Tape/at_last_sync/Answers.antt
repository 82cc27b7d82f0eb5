use Rattle.std.proofs.Common.{◌≡◌, List, ℕ, rules, ◌∙◌, ap, sym, arith}
use Rattle.std.proofs.lemmas.List.{at_drop_all}
use Rattle.plant_io.specs.Story.{durable}
use Rattle.plant_mem.specs.declared.tape.Kept.{Kept}
use Rattle.plant_mem.specs.Disk.{start_of}
use Rattle.plant_mem.specs.Tape.{TapeValue, synced_bytes}
use Rattle.plant_mem.proofs.LeftFiles.{durable_of_start}
use Rattle.plant_mem.proofs.tape.Tape.at_last_sync.Goals as goal

pub returns : goal.returns
returns c =
    let start = start_of c.self.inside.disk in
    let file_is : c.in_ok-file.file.items ≡ start = search rules in
    let at_sync_is : c.in_ok-at_sync.at_sync.items ≡ start = search rules in
    let ended =
    at_drop_all (λ (kept : List Kept). synced_bytes kept c.loop-step.file.items c.loop-step.at_sync.items) c.deref-step-items.result.now
    c.loop-step.step-index (omega arith) in
    c.from_vec.ensures
    ∙ sym ended
    ∙ c.loop-step.invariant
    ∙ ap (λ (kept : List Kept). synced_bytes kept c.in_ok-file.file.items c.in_ok-at_sync.at_sync.items) c.deref-step-items.ensures.value
    ∙ ap (λ (l : List ℕ). synced_bytes c.self.inside.kept.items l c.in_ok-at_sync.at_sync.items) file_is
    ∙ ap (λ (l : List ℕ). synced_bytes c.self.inside.kept.items start l) at_sync_is
    ∙ sym (durable_of_start start c.self.inside.kept.items c.self.inside.outlet.items)
    ∙ ap (λ (t : TapeValue). durable t.story) c.self.view_is
