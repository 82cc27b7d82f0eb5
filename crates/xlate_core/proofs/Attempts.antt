-- What is known where steps that may be refused gave something.
use Rattle.std.proofs.Common.{◌≡◌, Bool, true, false, Option, Some, None, Result, Ok, Err, ok_or, refl, ap}
use Rattle.std.specs.Result.{OnOk, OnErr}
use Rattle.aftr_base.specs.Attempt.{◌>>=◌, ◌>>◌, require, refused_as}

-- the step before gave something
pub step_gave : {A B E : Type 0} (r : Result A E) (f : A → Result B E) (y : B) → (r >>= f) ≡ Ok y → (x : A) × (r ≡ Ok x) × (f x ≡ Ok y)
step_gave (Ok x) f y h = (x, refl, h)
step_gave (Err e) f y h = cc

-- the test passed
pub test_passed : {B E : Type 0} (b : Bool) (e : E) (r : Result B E) (y : B) → (require b e >> r) ≡ Ok y → (b ≡ true) × (r ≡ Ok y)
test_passed true e r y h = (refl, h)
test_passed false e r y h = cc

-- whatever a refusal is called
pub gave_anyway : {A E F : Type 0} (r : Result A E) (f : F) (y : A) → refused_as r f ≡ Ok y → r ≡ Ok y
gave_anyway (Ok x) f y h = cc
gave_anyway (Err e) f y h = cc

pub was_there : {A E : Type 0} (o : Option A) (e : E) (y : A) → ok_or o e ≡ Ok y → o ≡ Some y
was_there (Some x) e y h = cc
was_there None e y h = cc

pub ok_inj : {A E : Type 0} (x y : A) (r : Result A E) → r ≡ Ok x → r ≡ Ok y → x ≡ y
ok_inj x y r h k = cc

-- and what steps give that aren't refused
pub went : {B E : Type 0} (b : Bool) (e : E) (r : Result B E) → b ≡ true → (require b e >> r) ≡ r
went true e r h = refl
went false e r h = cc

pub gave : {A B E : Type 0} (r : Result A E) (f : A → Result B E) (x : A) → r ≡ Ok x → (r >>= f) ≡ f x
gave r f x h = ap (λ (q : Result _ _). q >>= f) h

-- either answer of a call
pub either_way : {A E P Q R : Type 0} (r : Result A E) → (P → R) → (Q → R) → OnOk r P → OnErr r Q → R
either_way (Ok x) f g p q = f p
either_way (Err e) f g p q = g q
