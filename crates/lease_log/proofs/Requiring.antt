-- Steps that may be refused.
use Rattle.std.proofs.Common.{◌≡◌, Bool, true, false, refl, ap}
use Rattle.std.specs.Prelude.{Result, Ok, Err}
use Rattle.aftr_base.specs.Attempt.{◌>>=◌, ◌>>◌, require}

pub require-false : {A : Type 0} (b : Bool) (r : Result A (Unit {0})) → b ≡ false → (require b tt >> r) ≡ Err tt
require-false b r h = ap (λ (v : Bool). require v tt >> r) h

pub require-true : {A : Type 0} (b : Bool) (r : Result A (Unit {0})) → b ≡ true → (require b tt >> r) ≡ r
require-true b r h = ap (λ (v : Bool). require v tt >> r) h

-- a test before a step that was taken
pub required : {A E : Type 0} (e : E) (b : Bool) (r : Result A E) (x : A) → (require b e >> r) ≡ Ok x → (b ≡ true) × (r ≡ Ok x)
required e true r x h = (refl, h)
required e false r x h = cc

-- what the next step took
pub taken : {A B E : Type 0} (r : Result A E) (f : A → Result B E) (y : B) → (r >>= f) ≡ Ok y → (x : A) × (r ≡ Ok x) × (f x ≡ Ok y)
taken (Ok x) f y h = (x, refl, h)
taken (Err e) f y h = cc

pub ok_inj : {A : Type 0} (x y : A) → (let r : Result A (Unit {0}) = Ok x in r ≡ Ok y) → x ≡ y
ok_inj x y h = cc
