-- What is known of the item in the middle of a list of which each two items are related, the earlier first.
use Rattle.std.proofs.Common.{List, [], ◌∷◌, ◌++◌}
use Rattle.std.specs.List.{AllByRecursion}
use Rattle.aftr_base.proofs.Pairwise.{Pairwise}

weaker : {X : Type 0} (P Q : X → Type 0) → ((x : X) → P x → Q x) → (xs : List X) → AllByRecursion P xs → AllByRecursion Q xs
weaker P Q f [] h = tt
weaker P Q f (x ∷ xs) h = (f x h.0, weaker P Q f xs h.1)

mid_of : {X : Type 0} (P : X → Type 0) (pre rest : List X) (x : X) → AllByRecursion P (pre ++ x ∷ rest) → P x
mid_of P [] rest x h = h.0
mid_of P (y ∷ pre) rest x h = mid_of P pre rest x h.1

put_mid : {X : Type 0} (P : X → Type 0) (pre rest : List X) (x x' : X) → (P x → P x') → AllByRecursion P (pre ++ x ∷ rest)
    → AllByRecursion P (pre ++ x' ∷ rest)
put_mid P [] rest x x' f h = (f h.0, h.1)
put_mid P (y ∷ pre) rest x x' f h = (h.0, put_mid P pre rest x x' f h.1)

-- those before it, and those behind it
pub before_mid : {X : Type 0} (R : X → X → Type 0) (pre rest : List X) (x : X) → Pairwise R (pre ++ x ∷ rest)
    → AllByRecursion (λ y. R y x) pre
before_mid R [] rest x h = tt
before_mid R (y ∷ pre) rest x h = (mid_of (R y) pre rest x h.0, before_mid R pre rest x h.1)

pub behind_mid : {X : Type 0} (R : X → X → Type 0) (pre rest : List X) (x : X) → Pairwise R (pre ++ x ∷ rest) → AllByRecursion (R x) rest
behind_mid R [] rest x h = h.0
behind_mid R (y ∷ pre) rest x h = behind_mid R pre rest x h.1

-- another in its place
pub pairwise_put : {X : Type 0} (R : X → X → Type 0) (pre rest : List X) (x x' : X) → ((y : X) → R y x → R y x')
    → ((y : X) → R x y → R x' y) → Pairwise R (pre ++ x ∷ rest) → Pairwise R (pre ++ x' ∷ rest)
pairwise_put R [] rest x x' before behind h = (weaker (R x) (R x') behind rest h.0, h.1)
pairwise_put R (y ∷ pre) rest x x' before behind h =
    (put_mid (R y) pre rest x x' (before y) h.0, pairwise_put R pre rest x x' before behind h.1)
