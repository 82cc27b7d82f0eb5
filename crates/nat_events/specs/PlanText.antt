-- The text of a plan: its numbers in decimal, and each prefix in hexadecimal before its length, with one space between
-- two parts.
use Rattle.std.specs.Prelude.{ℕ, zero, suc, ◌+◌, ◌*◌, ◌/◌, ◌%◌, ◌^◌, nat_lt, List, [], ◌∷◌, ◌++◌, decimal, codes, flat_map, if◌then◌else◌}
use Rattle.aftr_base.specs.declared.value.Prefix4.{Prefix4}
use Rattle.aftr_base.specs.declared.value.Prefix6.{Prefix6}
use Rattle.aftr_base.specs.declared.row.PlanSpec.{PlanSpec}

abbrev pub hex_digit : ℕ → ℕ
hex_digit n = if nat_lt n 10 then 48 + n else 87 + n

-- the last k hexadecimal digits of n, in lower case
unfoldable pub hex_digits : ℕ → ℕ → List ℕ
hex_digits zero n = []
hex_digits (suc k) n = hex_digit (n / 2 ^ (4 * k) % 16) ∷ hex_digits k n

abbrev pub spaced : List ℕ → List ℕ
spaced text = 32 ∷ text

abbrev pub prefix4_text : Prefix4 → List ℕ
prefix4_text p = hex_digits 8 p.bits.0 ++ 47 ∷ decimal p.len

abbrev pub prefix6_text : Prefix6 → List ℕ
prefix6_text p = hex_digits 32 p.bits.0 ++ 47 ∷ decimal p.len

abbrev pub aggregates_text : List Prefix6 → List ℕ
aggregates_text aggregates = flat_map (λ (p : Prefix6). spaced (prefix6_text p)) aggregates

abbrev pub pool_text : List Prefix4 → List ℕ
pool_text pool = flat_map (λ (p : Prefix4). spaced (prefix4_text p)) pool

-- the letter a stands before the aggregates, the letter p before the pool
unfoldable pub plan_text : PlanSpec → List ℕ
plan_text p =
    decimal p.subscriber_len ++ spaced (decimal p.block_size) ++ spaced (decimal p.ratio)
    ++ codes " a" ++ aggregates_text p.aggregates ++ codes " p" ++ pool_text p.pool
