-- How far the prefixes before have come.
use Rattle.std.proofs.Common.{ℕ, ◌+◌, ◌-◌, ◌^◌, Option, Some, None}
use Rattle.aftr_base.specs.declared.value.Prefix4.{Prefix4}
use Rattle.aftr_base.specs.declared.value.Prefix6.{Prefix6}
use Rattle.aftr_base.specs.Plan.{size4}

-- the address behind the last prefix
abbrev pub end4 : Option Prefix4 → ℕ
end4 None = 0
end4 (Some p) = p.bits.0 + size4 p

abbrev pub end6 : Option Prefix6 → ℕ
end6 None = 0
end6 (Some p) = p.bits.0 + 2 ^ (128 - p.len)
