-- The clock: a moment that isn't past it changes nothing, and another raises it.
use Rattle.std.proofs.Common.{◌≡◌, ℕ, ◌<◌, ◌≤◌, Bool, true, false, cond, [], max, nat_le, refl, ap, arith}
use Rattle.std.proofs.lemmas.Bool.{leb-true, leb-false, le-leb, lt-leb}
use Rattle.frag_reasm.specs.Offers.{live}
use Rattle.nat_mapping.specs.Rows.{expired}
use Rattle.xlate_core.specs.Expiry.{Closed, at_moment, leases_ended}
use Rattle.xlate_core.specs.State.{State}

-- nothing has closed
abbrev pub unmoved : State → Closed
unmoved s = record { state = s; closings = [] }

-- the state with the clock raised, before leases end
abbrev pub raised : ℕ → State → State
raised at s = record s { clock = at; rows = expired at s.rows; kept = live at s.kept }

by_test : (P : Closed → Type 0) (at : ℕ) (s : State) (b : Bool) → nat_le at s.clock ≡ b → (at ≤ s.clock → P (unmoved s))
    → (s.clock < at → P (leases_ended (raised at s))) → P (cond b (unmoved s) (leases_ended (raised at s)))
by_test P at s true e same moved = same (leb-true at s.clock e)
by_test P at s false e same moved = moved (leb-false at s.clock e)

-- what holds both ways holds of the state at a moment
pub by_moment : (P : Closed → Type 0) (at : ℕ) (s : State) → (at ≤ s.clock → P (unmoved s))
    → (s.clock < at → P (leases_ended (raised at s))) → P (at_moment at s)
by_moment P at s same moved = by_test P at s (nat_le at s.clock) refl same moved

pub moment_stays : (at : ℕ) (s : State) → at ≤ s.clock → at_moment at s ≡ unmoved s
moment_stays at s le = ap (λ (b : Bool). cond b (unmoved s) (leases_ended (raised at s))) (le-leb at s.clock le)

pub moment_raises : (at : ℕ) (s : State) → s.clock < at → at_moment at s ≡ leases_ended (raised at s)
moment_raises at s lt = ap (λ (b : Bool). cond b (unmoved s) (leases_ended (raised at s))) (lt-leb at s.clock lt)

-- the greatest moment so far
pub moment_clock : (at : ℕ) (s : State) → (at_moment at s).state.clock ≡ max s.clock at
moment_clock at s = by_moment (λ (c : Closed). c.state.clock ≡ max s.clock at) at s (λ le. omega (arith, le)) (λ lt. omega (arith, lt))

-- it doesn't fall
pub clock_rises : (at : ℕ) (s : State) → s.clock ≤ (at_moment at s).state.clock
clock_rises at s = omega (arith, moment_clock at s)

-- the configuration stays
pub config_stays : (at : ℕ) (s : State) → (at_moment at s).state.config ≡ s.config
config_stays at s = by_moment (λ (c : Closed). c.state.config ≡ s.config) at s (λ le. refl) (λ lt. refl)

-- so do the floor, the horizon and the plans
pub floor_stays : (at : ℕ) (s : State) → (at_moment at s).state.floor ≡ s.floor
floor_stays at s = by_moment (λ (c : Closed). c.state.floor ≡ s.floor) at s (λ le. refl) (λ lt. refl)

pub horizon_stays : (at : ℕ) (s : State) → (at_moment at s).state.horizon ≡ s.horizon
horizon_stays at s = by_moment (λ (c : Closed). c.state.horizon ≡ s.horizon) at s (λ le. refl) (λ lt. refl)

pub plans_stay : (at : ℕ) (s : State) → (at_moment at s).state.plans ≡ s.plans
plans_stay at s = by_moment (λ (c : Closed). c.state.plans ≡ s.plans) at s (λ le. refl) (λ lt. refl)
