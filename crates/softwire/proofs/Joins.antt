-- The parts of cut bytes, joined, are the bytes.
use Rattle.std.proofs.Common.{◌≡◌, ℕ, zero, suc, ◌+◌, ◌-◌, ◌*◌, ◌/◌, ◌≤◌, ◌<◌, List, [], ◌∷◌, ◌++◌, length, take, map, sym}
use Rattle.std.proofs.Common.{ap, ◌∙◌, arith}
use Rattle.std.specs.List.{concat, range_with_len}
use Rattle.std.proofs.Math.Nat.{mul_comm, mul-div_cancel}
use Rattle.std.proofs.Math.Seq.{take-add}
use Rattle.std.proofs.lemmas.Grind.{div_ceil_times}
use Rattle.std.proofs.lemmas.List.{append-nil, length-take-le, take_all}
use Rattle.std.proofs.lemmas.List.Folds.{concat-append}
use Rattle.std.proofs.lemmas.List.FromFn.{map-range_with_len_more}
use Rattle.softwire.specs.Cut.{piece_count, piece_of, joined_before, room_of, JoinsAgain}
use Rattle.softwire.proofs.Pieces.{begins, piece_is}

module _ (n : ℕ) (bytes : List ℕ) where
  one_more : (i : ℕ) → joined_before n bytes (i + 1) ≡ joined_before n bytes i ++ piece_of n bytes i
  one_more i =
      ap concat (map-range_with_len_more (piece_of n bytes) 0 i i (omega arith))
      ∙ concat-append (map (piece_of n bytes) (range_with_len 0 i)) (piece_of n bytes i ∷ [])
      ∙ ap (λ l. joined_before n bytes i ++ l) (append-nil (piece_of n bytes i))

  -- they are as many bytes of the front
  front : (i : ℕ) → joined_before n bytes i ≡ take (n * i) bytes
  front zero = ap (λ (k : ℕ). take k bytes) (let none : 0 ≡ n * 0 = omega arith in none)
  front (suc i) =
      let next : n * i + n ≡ n * suc i = omega arith in
      let step : suc i ≡ i + 1 = omega arith in
      ap (joined_before n bytes) step ∙ one_more i ∙ (λ k. front i k ++ sym (piece_is n bytes i) k)
      ∙ sym (take-add (n * i) n bytes) ∙ ap (λ (k : ℕ). take k bytes) next

  pub joins_whole : 0 < n → joined_before n bytes (piece_count n bytes) ≡ bytes
  joins_whole some =
      let count = piece_count n bytes in
      let all : length bytes ≤ n * count = omega (arith, (div_ceil_times (length bytes) n some).0, mul_comm n count) in
      front count ∙ take_all (n * count) bytes all

  pub joins_at : (i : ℕ) → 0 < n → i < piece_count n bytes → length (joined_before n bytes i) ≡ n * i
  joins_at i some lt =
      let inside : n * i ≤ length bytes = omega (arith, begins n bytes i some lt) in
      ap length (front i) ∙ length-take-le (n * i) bytes inside

-- an offset is a whole number of units
units : (k i : ℕ) → k * 8 * i / 8 * 8 ≡ k * 8 * i
units k i =
    let turned : k * 8 * i ≡ k * i * 8 = omega arith in
    ap (λ (m : ℕ). m / 8 * 8) turned ∙ ap (λ (m : ℕ). m * 8) (mul-div_cancel (k * i) (omega arith)) ∙ sym turned

pub joins_again : (mtu headers : ℕ) (bytes : List ℕ) → headers + 8 ≤ mtu → JoinsAgain (room_of mtu headers) bytes
joins_again mtu headers bytes room =
    let n = room_of mtu headers in
    let some : 0 < n = omega (arith, room) in
    record {
      whole = joins_whole n bytes some;
      places = λ i lt. units ((mtu - headers) / 8) i ∙ sym (joins_at n bytes i some lt);
    }
