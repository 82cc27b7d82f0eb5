-- What a read of a file gives.
use Rattle.std.proofs.Common.{◌≡◌, ℕ, ◌+◌, ◌-◌, ◌<◌, ◌≤◌, min, List, length, get_or, take, drop, sym, ◌∙◌, ap, arith}
use Rattle.std.proofs.lemmas.List.{get_or-take, get_or-drop, take_all}

-- a read from a place gave these bytes of a file
pub record IsRead (file : List ℕ) (at count : ℕ) (buffer : List ℕ) : Type 0 where
  pub count_is : count ≡ min (length buffer) (length file - at)
  pub bytes : take count buffer ≡ take count (drop at file)

pub byte_read : (file : List ℕ) (at count : ℕ) (buffer : List ℕ) (i : ℕ) → IsRead file at count buffer → i < count
    → get_or file (at + i) 0 ≡ get_or buffer i 0
byte_read file at count buffer i h lt =
    sym (get_or-drop at file i 0) ∙ sym (get_or-take count (drop at file) i 0 lt) ∙ ap (λ (l : List ℕ). get_or l i 0) (sym h.bytes) ∙ get_or-take count buffer i 0 lt

-- a buffer that was filled
pub filled_read : (file : List ℕ) (at count : ℕ) (buffer : List ℕ) → IsRead file at count buffer → at + length buffer ≤ length file
    → buffer ≡ take (length buffer) (drop at file)
filled_read file at count buffer h within =
    let all : count ≡ length buffer = omega (arith, h.count_is, within) in
    sym (take_all count buffer (omega (arith, all))) ∙ h.bytes ∙ ap (λ (n : ℕ). take n (drop at file)) all
