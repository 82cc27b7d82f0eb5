-- Where the pieces of cut bytes begin.
use Rattle.std.proofs.Common.{◌≡◌, ℕ, ◌+◌, ◌-◌, ◌*◌, ◌≤◌, ◌<◌, List, length, take, drop, ap, arith}
use Rattle.std.proofs.Math.Nat.{mul-le-mul_right, mul_comm}
use Rattle.std.proofs.lemmas.Grind.{div_ceil_times}
use Rattle.softwire.specs.Cut.{piece_count, piece_of}

-- a piece begins before the end
pub begins : (n : ℕ) (bytes : List ℕ) (i : ℕ) → 0 < n → i < piece_count n bytes → n * i < length bytes
begins n bytes i some lt =
    let len = length bytes in
    let count = piece_count n bytes in
    let most : count * n < len + n = (div_ceil_times len n some).1 in
    let next : (i + 1) * n ≤ count * n = mul-le-mul_right n (omega (arith, lt)) in
    let whole : (i + 1) * n ≡ n * i + n = omega (arith, mul_comm i n) in
    omega (arith, most, next, whole)

-- and it is the front of what follows
pub piece_is : (n : ℕ) (bytes : List ℕ) (i : ℕ) → take n (drop (n * i) bytes) ≡ piece_of n bytes i
piece_is n bytes i = let size : n ≡ n * i + n - n * i = omega arith in ap (λ (k : ℕ). take k (drop (n * i) bytes)) size
