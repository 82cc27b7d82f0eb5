-- Lists that correspond item by item.
use Rattle.std.proofs.Common.{◌≡◌, ℕ, zero, suc, ◌<◌, List, [], ◌∷◌, ◌++◌, length, get_or, set, refl, ap, arith}
use Rattle.std.specs.List.{AllZip}

-- over a list in between
pub zip_both : {X : Type 0} {Z W V : X → X → Type 0} → ((x y z : X) → Z x y → W y z → V x z) → (xs ys zs : List X)
    → AllZip Z xs ys → AllZip W ys zs → AllZip V xs zs
zip_both both [] [] [] z w = tt
zip_both both [] [] (c ∷ zs) z w = absurd w
zip_both both [] (b ∷ ys) zs z w = absurd z
zip_both both (a ∷ xs) [] zs z w = absurd z
zip_both both (a ∷ xs) (b ∷ ys) [] z w = absurd w
zip_both both (a ∷ xs) (b ∷ ys) (c ∷ zs) z w = (both a b c z.0 w.0, zip_both both xs ys zs z.1 w.1)

-- what corresponds to a front and to what follows it
pub record InParts (X : Type 0) (Z : X → X → Type 0) (xs ys zs : List X) : Type 0 where
  pub front : List X
  pub rest : List X
  pub whole : zs ≡ front ++ rest
  pub fronts : AllZip Z xs front
  pub rests : AllZip Z ys rest

pub zip_parts : {X : Type 0} (Z : X → X → Type 0) (xs ys zs : List X) → AllZip Z (xs ++ ys) zs → InParts X Z xs ys zs
zip_parts Z [] ys zs z = record { front = []; rest = zs; whole = refl; fronts = tt; rests = z }
zip_parts Z (x ∷ xs) ys [] z = absurd z
zip_parts {X = X} Z (x ∷ xs) ys (c ∷ zs) z =
    let more = zip_parts Z xs ys zs z.1 in
    record {
      front = c ∷ more.front;
      rest = more.rest;
      whole = ap (λ (l : List X). c ∷ l) more.whole;
      fronts = (z.0, more.fronts);
      rests = more.rests;
    }

-- the items at an index
pub zip_at : {X : Type 0} (Z : X → X → Type 0) (xs ys more : List X) (i : ℕ) (d : X) → AllZip Z xs ys → i < length xs
    → Z (get_or xs i d) (get_or (ys ++ more) i d)
zip_at Z [] ys more i d z lt = absurd (omega arith)
zip_at Z (x ∷ xs) [] more i d z lt = absurd z
zip_at Z (x ∷ xs) (y ∷ ys) more zero d z lt = z.0
zip_at Z (x ∷ xs) (y ∷ ys) more (suc i) d z lt = zip_at Z xs ys more i d z.1 (omega arith)

-- in a weaker way
pub zip_weaker : {X : Type 0} (Z W : X → X → Type 0) → ((x y : X) → Z x y → W x y) → (xs ys : List X) → AllZip Z xs ys → AllZip W xs ys
zip_weaker Z W weaker [] [] z = tt
zip_weaker Z W weaker [] (y ∷ ys) z = absurd z
zip_weaker Z W weaker (x ∷ xs) [] z = absurd z
zip_weaker Z W weaker (x ∷ xs) (y ∷ ys) z = (weaker x y z.0, zip_weaker Z W weaker xs ys z.1)

-- one of the second list in its place
pub zip_put : {X Y : Type 0} (Z : X → Y → Type 0) (xs : List X) (ys : List Y) (i : ℕ) (d : X) (y : Y) → AllZip Z xs ys → i < length ys
    → Z (get_or xs i d) y → AllZip Z xs (set ys i y)
zip_put Z xs [] i d y z lt h = absurd (omega (arith, lt))
zip_put Z [] (v ∷ ys) i d y z lt h = absurd z
zip_put Z (x ∷ xs) (v ∷ ys) zero d y z lt h = (h, z.1)
zip_put Z (x ∷ xs) (v ∷ ys) (suc i) d y z lt h = (z.0, zip_put Z xs ys i d y z.1 (omega (arith, lt)) h)
