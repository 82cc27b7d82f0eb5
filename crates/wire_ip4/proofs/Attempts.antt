-- What steps that passed show, and that steps which pass give what follows.
use Rattle.std.proofs.Common.{◌≡◌, Bool, true, false, ◌&&◌, Result, Ok, Err, refl}
use Rattle.aftr_base.specs.Attempt.{◌>>=◌, ◌>>◌, require}

pub passes : {A E : Type 0} {b : Bool} (e : E) (r : Result A E) → b ≡ true → (require b e >> r) ≡ r
passes e r h = rw h refl

pub follows : {A B E : Type 0} {r : Result A E} {x : A} (f : A → Result B E) → r ≡ Ok x → (r >>= f) ≡ f x
follows f h = rw h refl

pub passed : {A E : Type 0} (b : Bool) (e : E) (r : Result A E) (x : A) → (require b e >> r) ≡ Ok x → (b ≡ true) × (r ≡ Ok x)
passed true e r x h = (refl, h)
passed false e r x h = cc

pub followed : {A B E : Type 0} (r : Result A E) (f : A → Result B E) (y : B) → (r >>= f) ≡ Ok y → (x : A) × (r ≡ Ok x) × (f x ≡ Ok y)
followed (Ok x) f y h = (x, refl, h)
followed (Err e) f y h = cc

pub both : (a b : Bool) → (a && b) ≡ true → (a ≡ true) × (b ≡ true)
both true b h = (refl, h)
both false b h = cc

pub and_true : {a b : Bool} → a ≡ true → b ≡ true → (a && b) ≡ true
and_true p q = rw (p, q) refl
