use Rattle.std.proofs.Common.{◌≡◌, ℕ, ◌+◌, ◌<◌, false, length, get_or, take}
use Rattle.std.specs.List.{list_any}
use Rattle.aftr_base.specs.Value.{place}
use Rattle.nat_mapping.specs.declared.row.Row.{Row}
use Rattle.nat_mapping.specs.Rows.{is_at, mapping_of}
use Rattle.nat_mapping.proofs.ports.mark_all.Given as goal

-- the rows so far have their marks
abbrev pub invariant-loop-row : goal.invariant-loop-row
invariant-loop-row l = (i : ℕ) → i < length l.fn.taken
    → get_or l.taken i false ≡ list_any (λ (r : Row). is_at l.proto (place l.addr (l.from + i)) (mapping_of r)) (take l.row-index l.rows)
