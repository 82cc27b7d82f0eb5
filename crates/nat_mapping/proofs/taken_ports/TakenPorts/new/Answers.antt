use Rattle.std.proofs.Common.{ℕ, List, length, ap, ◌∙◌}
use Rattle.std.proofs.lemmas.List.{length-replicate}
use Rattle.nat_mapping.proofs.Marks.{cleared, none_at_first}
use Rattle.nat_mapping.proofs.taken_ports.TakenPorts.new.Goals as goal

pub invariant_of-result : goal.invariant_of-result
invariant_of-result c =
    let stamps = c.in_ok-stamps.stamps.items in
    let is = c.in_ok-stamps.ensures.items_if_clones_equal (λ stamp same. same) in (
      ap (λ (l : List ℕ). length l) is ∙ length-replicate {A = ℕ} 65536 0,
      cleared 1 65536 stamps is,
    )

pub returns : goal.returns
returns c = none_at_first 65536 c.in_ok-stamps.stamps.items (c.in_ok-stamps.ensures.items_if_clones_equal (λ stamp same. same))
