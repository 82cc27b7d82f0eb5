-- Hexadecimal groups (RFC 4291 2.2).
use Rattle.std.proofs.Common.{◌≡◌, ℕ, zero, suc, ◌+◌, ◌-◌, ◌*◌, ◌/◌, ◌%◌, ◌^◌, ◌<◌, List, [], ◌∷◌, ◌++◌, refl, sym, ap, ◌∙◌}
use Rattle.std.proofs.Common.{append_assoc, arith}
use Rattle.std.proofs.lemmas.Nat.{pow-add}
use Rattle.std.proofs.Math.Nat.{pow-suc}
use Rattle.aftr_engine.specs.report.Lines.{group, groups}

groups_size : (k : ℕ) → 65536 ^ k ≡ 2 ^ (16 * k)
groups_size zero = refl
groups_size (suc k) =
    let more : 16 * suc k ≡ 16 * k + 16 = omega arith in
    pow-suc 65536 k
    ∙ ap (λ (n : ℕ). n * 65536) (groups_size k)
    ∙ sym (pow-add 2 (16 * k) 16)
    ∙ ap (λ (n : ℕ). 2 ^ n) (sym more)

-- the next of eight groups, and the others
groups_next : (bits place : ℕ) → place < 7
    → groups (8 - place) bits ≡ group (bits / 2 ^ (112 - 16 * place) % 65536) ++ 58 ∷ groups (7 - place) bits
groups_next bits place inside =
    let k : ℕ = 6 - place in
    let all : 8 - place ≡ suc (suc k) = omega arith in
    let others : suc k ≡ 7 - place = omega arith in
    let past : 16 * suc k ≡ 112 - 16 * place = omega arith in
    ap (λ (n : ℕ). groups n bits) all
    ∙ ap (λ (n : ℕ). group (bits / n % 65536) ++ 58 ∷ groups (suc k) bits) (groups_size (suc k) ∙ ap (λ (n : ℕ). 2 ^ n) past)
    ∙ ap (λ (n : ℕ). group (bits / 2 ^ (112 - 16 * place) % 65536) ++ 58 ∷ groups n bits) others

-- the next group was written, and a colon
pub group_pushed : (before mid now all : List ℕ) (bits place : ℕ) → place < 7 → before ++ groups (8 - place) bits ≡ all
    → mid ≡ before ++ group (bits / 2 ^ (112 - 16 * place) % 65536) → now ≡ mid ++ 58 ∷ [] → now ++ groups (8 - (place + 1)) bits ≡ all
group_pushed before mid now all bits place inside ahead first second =
    let this : List ℕ = group (bits / 2 ^ (112 - 16 * place) % 65536) in
    let rest : List ℕ = groups (7 - place) bits in
    let left : 8 - (place + 1) ≡ 7 - place = omega arith in
    ap (λ (n : ℕ). now ++ groups n bits) left
    ∙ ap (λ (xs : List ℕ). xs ++ rest) (second ∙ ap (λ (xs : List ℕ). xs ++ 58 ∷ []) first)
    ∙ append_assoc (before ++ this) (58 ∷ []) rest
    ∙ append_assoc before this (58 ∷ rest)
    ∙ ap (λ (xs : List ℕ). before ++ xs) (sym (groups_next bits place inside))
    ∙ ahead
