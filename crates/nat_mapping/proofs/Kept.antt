-- What is kept, where each call answers by a function of what it left.
use Rattle.std.proofs.Common.{◌≡◌, Bool, true, false, cond, List, [], ◌∷◌, map, ap, ◌∙◌, subst}
use Rattle.std.specs.Prelude.{filter}
use Rattle.std.specs.List.Retain.{RetainsInTurn}

kept_or_not : {X Y : Type 0} (m : X → Y) (b b' : Bool) (x : X) (y : Y) (xs : List X) (ys : List Y) → b ≡ b' → m x ≡ y → map m xs ≡ ys
    → map m (cond b (x ∷ xs) xs) ≡ cond b' (y ∷ ys) ys
kept_or_not m true b' x y xs ys p q r = cc
kept_or_not m false b' x y xs ys p q r = cc

-- seen through m, each item changed by a function, and the answer is a test of it then
pub kept_of_changed : {X Y F : Type 0} (m : X → Y) (R : F → X → Bool → F → X → Type 0) (test : Y → Bool) (change : Y → Y) (f : F)
    → ((x : X) (b : Bool) (f' : F) (x' : X) → R f x b f' x' → (m x' ≡ change (m x)) × (b ≡ test (m x')) × (f' ≡ f))
    → (xs ys : List X) → RetainsInTurn R f xs ys → map m ys ≡ filter test (map change (map m xs))
kept_of_changed m R test change f says [] ys h = ap (map m) h
kept_of_changed m R test change f says (x ∷ xs) ys h =
    let said = says x h.0 h.1 h.2 h.3 in
    let later = subst (λ g. RetainsInTurn R g xs h.4) said.2 h.5 in
    let rest = kept_of_changed m R test change f says xs h.4 later in
    ap (map m) h.6
    ∙ kept_or_not m h.0 (test (change (m x))) h.2 (change (m x)) h.4 (filter test (map change (map m xs))) (said.1 ∙ ap test said.0) said.0 rest
