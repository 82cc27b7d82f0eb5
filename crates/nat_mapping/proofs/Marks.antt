-- Marks of ports by stamps, and what a pass over rows marks.
use Rattle.std.proofs.Common.{◌≡◌, ℕ, zero, suc, ◌+◌, ◌<◌, ◌≤◌, Bool, false, ◌||◌, List, [], ◌∷◌, length, get_or, set, take, map, replicate}
use Rattle.std.proofs.Common.{All, refl, sym, ap, ◌∙◌, subst, arith}
use Rattle.std.specs.Prelude.{◌==◌}
use Rattle.std.specs.List.{list_any}
use Rattle.std.proofs.lemmas.Bool.Decides.{nat_tests}
use Rattle.std.proofs.lemmas.List.{get_or-map, take_all}
use Rattle.std.proofs.lemmas.List.Elements.{All-head, All-replicate, All-tail}
use Rattle.std.proofs.lemmas.List.Folds.{list_any_more}
use Rattle.std.proofs.Math.Bool.{or-false}
use Rattle.aftr_base.specs.Value.{place}
use Rattle.aftr_base.specs.declared.value.Ip4.{Ip4}
use Rattle.aftr_base.specs.declared.value.Proto.{Proto}
use Rattle.nat_mapping.specs.declared.row.Row.{Row}
use Rattle.nat_mapping.specs.Rows.{MarksPorts, is_at, is_marked, mapping_of}
use Rattle.nat_mapping.proofs.Mapped.{list_any-map}

-- the marks of stamps: those of this generation
abbrev pub marks_of : ℕ → List ℕ → List Bool
marks_of generation stamps = map (λ (stamp : ℕ). stamp == generation) stamps

pub mark_there : (generation : ℕ) (stamps : List ℕ) (port d : ℕ) → port < length stamps
    → is_marked (marks_of generation stamps) port ≡ (get_or stamps port d == generation)
mark_there generation stamps port d lt = get_or-map (λ (stamp : ℕ). stamp == generation) stamps port d false lt

-- ---- no mark

differs : (stamp most generation : ℕ) → stamp ≤ most → most < generation → (stamp == generation) ≡ false
differs stamp most generation le lt = grind (arith, nat_tests)

pub none_marked : (most generation : ℕ) (stamps : List ℕ) → most < generation → All (λ (stamp : ℕ). stamp ≤ most) stamps
    → (port : ℕ) → is_marked (marks_of generation stamps) port ≡ false
none_marked most generation [] lt all port = refl
none_marked most generation (s ∷ stamps) lt all zero = differs s most generation (All-head (λ (stamp : ℕ). stamp ≤ most) s stamps all) lt
none_marked most generation (s ∷ stamps) lt all (suc port) =
    none_marked most generation stamps lt (All-tail (λ (stamp : ℕ). stamp ≤ most) s stamps all) port

-- stamps as they are at first
pub cleared : (most n : ℕ) (stamps : List ℕ) → stamps ≡ replicate n 0 → All (λ (stamp : ℕ). stamp ≤ most) stamps
cleared most n stamps is =
    subst (All (λ (stamp : ℕ). stamp ≤ most)) (sym is) (All-replicate (λ (stamp : ℕ). stamp ≤ most) n 0 (omega arith))

pub none_at_first : (n : ℕ) (stamps : List ℕ) → stamps ≡ replicate n 0 → (port : ℕ) → is_marked (marks_of 1 stamps) port ≡ false
none_at_first n stamps is = none_marked 0 1 stamps (omega arith) (cleared 0 n stamps is)

-- ---- one mark more

same_mark : (stamp generation : ℕ) → (generation == generation) ≡ ((stamp == generation) || (zero == zero))
same_mark stamp generation = grind (arith, nat_tests)

other_mark : (b : Bool) (at port : ℕ) → (at == port) ≡ false → b ≡ (b || at == port)
other_mark b at port apart = sym (or-false b) ∙ ap (λ (c : Bool). b || c) (sym apart)

zero_suc : (port : ℕ) → (zero == suc port) ≡ false
zero_suc port = grind (arith, nat_tests)

suc_zero : (port : ℕ) → (suc port == zero) ≡ false
suc_zero port = grind (arith, nat_tests)

suc_suc : (at port : ℕ) → (at == port) ≡ (suc at == suc port)
suc_suc at port = grind (arith, nat_tests)

pub marked_one : (generation : ℕ) (stamps : List ℕ) (at port : ℕ) → at < length stamps
    → is_marked (marks_of generation (set stamps at generation)) port ≡ (is_marked (marks_of generation stamps) port || at == port)
marked_one generation [] at port lt = absurd (omega arith)
marked_one generation (s ∷ stamps) zero zero lt = same_mark s generation
marked_one generation (s ∷ stamps) zero (suc port) lt =
    other_mark (is_marked (marks_of generation stamps) port) zero (suc port) (zero_suc port)
marked_one generation (s ∷ stamps) (suc at) zero lt = other_mark (s == generation) (suc at) zero (suc_zero at)
marked_one generation (s ∷ stamps) (suc at) (suc port) lt =
    marked_one generation stamps at port (omega arith)
    ∙ ap (λ (b : Bool). is_marked (marks_of generation stamps) port || b) (suc_suc at port)

-- ---- the ports of the rows before an index

abbrev has_row : Proto → Ip4 → ℕ → Row → Bool
has_row proto addr port r = is_at proto (place addr port) (mapping_of r)

abbrev pub AreMarked : List Bool → Proto → List Row → ℕ → Ip4 → Type 0
AreMarked marks proto rows at addr = (port : ℕ) → is_marked marks port ≡ list_any (has_row proto addr port) (take at rows)

-- what marking a row's port does
abbrev pub MarksRow : List Bool → List Bool → Proto → Row → Ip4 → Type 0
MarksRow old new proto row addr = (port : ℕ) → is_marked new port ≡ (is_marked old port || has_row proto addr port row)

pub marked_more : (old new : List Bool) (proto : Proto) (rows : List Row) (at : ℕ) (row : Row) (addr : Ip4) → at < length rows
    → row ≡ get_or rows at row → AreMarked old proto rows at addr → MarksRow old new proto row addr
    → AreMarked new proto rows (at + 1) addr
marked_more old new proto rows at row addr lt is before here = λ port.
    here port ∙ ap (λ (b : Bool). b || has_row proto addr port row) (before port)
    ∙ ap (λ (r : Row). list_any (has_row proto addr port) (take at rows) || has_row proto addr port r) is
    ∙ sym (list_any_more (has_row proto addr port) rows at row lt)

pub marked_all : (marks : List Bool) (proto : Proto) (rows : List Row) (at : ℕ) (addr : Ip4) → length rows ≤ at
    → AreMarked marks proto rows at addr → MarksPorts marks proto addr (map mapping_of rows)
marked_all marks proto rows at addr end before = λ port lt.
    before port ∙ ap (list_any (has_row proto addr port)) (take_all at rows end)
    ∙ sym (list_any-map mapping_of (is_at proto (place addr port)) rows)
