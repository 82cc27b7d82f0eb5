-- What bytes show of those that stand at an offset among them.
use Rattle.std.proofs.Common.{◌≡◌, ℕ, ◌+◌, ◌-◌, ◌*◌, ◌≤◌, List, take, drop, sym, ap, ◌∙◌, arith, slice_range}
use Rattle.std.specs.Int.{w16, w32, from_be_bytes}
use Rattle.std.proofs.lemmas.List.{drop-drop, drop-take, take-take, get_or-take, get_or-drop}
use Rattle.aftr_base.specs.Bytes.{u8_at}
use Rattle.softwire.specs.Cut.{piece_of}
use Rattle.softwire.specs.Reading.{ShowsFront}

part_is : (i len : ℕ) (bytes : List ℕ) → slice_range bytes i (i + len) ≡ take len (drop i bytes)
part_is i len bytes = let size : i + len - i ≡ len = omega arith in ap (λ (k : ℕ). take k (drop i bytes)) size

-- a part of those that stand at an offset
pub part_at : (offset k len : ℕ) (bytes rest : List ℕ) → drop offset bytes ≡ rest
    → slice_range bytes (offset + k) (offset + k + len) ≡ slice_range rest k (k + len)
part_at offset k len bytes rest there =
    part_is (offset + k) len bytes ∙ ap (take len) (sym (drop-drop k offset bytes) ∙ ap (drop k) there) ∙ sym (part_is k len rest)

-- a part of the front
front_part : (n k len : ℕ) (bytes : List ℕ) → k + len ≤ n → slice_range (take n bytes) k (k + len) ≡ slice_range bytes k (k + len)
front_part n k len bytes room =
    let size : n ≡ k + (n - k) = omega arith in
    part_is k len (take n bytes)
    ∙ ap (λ (m : ℕ). take len (drop k (take m bytes))) size
    ∙ ap (take len) (drop-take k (n - k) bytes)
    ∙ take-take len (n - k) (drop k bytes) (omega arith)
    ∙ sym (part_is k len bytes)

-- bytes with the same front show the same
pub shows_front : (offset n : ℕ) (payload part bytes : List ℕ) → drop offset bytes ≡ part → take n part ≡ take n payload
    → ShowsFront offset n payload bytes
shows_front offset n payload part bytes there same =
    let one : (k : ℕ) → k + 1 ≤ n → u8_at (offset + k) bytes ≡ u8_at k payload = λ k room.
    sym (get_or-drop offset bytes k 0) ∙ ap (u8_at k) there ∙ sym (get_or-take n part k 0 (omega arith)) ∙ ap (u8_at k) same
    ∙ get_or-take n payload k 0 (omega arith) in
    let more : (k len : ℕ) → k + len ≤ n → slice_range bytes (offset + k) (offset + k + len) ≡ slice_range payload k (k + len) =
    λ k len room. part_at offset k len bytes part there ∙ sym (front_part n k len part room)
    ∙ ap (λ (l : List ℕ). slice_range l k (k + len)) same ∙ front_part n k len payload room in
    record {
      octets = one;
      words = λ k room. ap (from_be_bytes w16) (more k 2 room);
      long_words = λ k room. ap (from_be_bytes w32) (more k 4 room);
    }

-- the first part of cut bytes is their front
pub first_is : (n : ℕ) (bytes : List ℕ) → take n (piece_of n bytes 0) ≡ take n bytes
first_is n bytes =
    let none : n * 0 ≡ 0 = omega arith in
    let size : 0 + n - 0 ≡ n = omega arith in
    ap (λ (m : ℕ). take n (take (m + n - m) (drop m bytes))) none ∙ ap (λ (k : ℕ). take n (take k bytes)) size
    ∙ take-take n n bytes (omega arith)
