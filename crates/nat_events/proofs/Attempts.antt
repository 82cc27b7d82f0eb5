-- What is known where steps that may be refused were all taken.
use Rattle.std.proofs.Common.{◌≡◌, Bool, true, false, refl, sym, ◌∙◌, Option, Some, None}
use Rattle.std.specs.Prelude.{Result, Ok, Err, ok_or}
use Rattle.aftr_base.specs.Attempt.{◌>>=◌, ◌>>◌, require}

pub require_taken : {X E : Type 0} (test : Bool) (e : E) (next : Result X E) (x : X) → (require test e >> next) ≡ Ok x
    → (test ≡ true) × (next ≡ Ok x)
require_taken true e next x h = (refl, h)
require_taken false e next x h = (cc, cc)

pub bind_taken : {A B E : Type 0} (first : Result A E) (next : A → Result B E) (x : B) → (first >>= next) ≡ Ok x
    → (a : A) × (first ≡ Ok a) × (next a ≡ Ok x)
bind_taken (Ok a) next x h = (a, refl, h)
bind_taken (Err e) next x h = absurd (cc)

pub ok_or_taken : {A E : Type 0} (o : Option A) (e : E) (a : A) → ok_or o e ≡ Ok a → o ≡ Some a
ok_or_taken None e a h = cc
ok_or_taken (Some b) e a h = cc

-- the steps are taken where each of them is
pub after_require : {X E : Type 0} (test : Bool) (e : E) (next r : Result X E) → test ≡ true → next ≡ r → (require test e >> next) ≡ r
after_require test e next r passes is = rw passes is

pub after_bind : {A B E : Type 0} (first : Result A E) (next : A → Result B E) (a : A) (r : Result B E) → first ≡ Ok a → next a ≡ r
    → (first >>= next) ≡ r
after_bind first next a r is then = rw is then

-- an answer is one value
pub one_answer : {X E : Type 0} (r : Result X E) (a b : X) → r ≡ Ok a → r ≡ Ok b → a ≡ b
one_answer r a b h g = let e : Ok a ≡ Ok b = sym h ∙ g in cc
