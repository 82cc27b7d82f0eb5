-- A loop that writes what f makes of each item in its place.
use Rattle.std.proofs.Common.{◌≡◌, ℕ, ◌+◌, ◌<◌, List, ◌++◌, map, take, drop, get_or, length, slice_set, ap, ◌∙◌}
use Rattle.std.proofs.lemmas.List.Edits.{map_over_more}

-- one item more
pub mapped_more : {X : Type 0} (f : X → X) (old items : List X) (i : ℕ) (x y : X) → i < length old
    → items ≡ map f (take i old) ++ drop i old
    → x ≡ get_or items i x
    → y ≡ f x
    → slice_set items i y ≡ map f (take (i + 1) old) ++ drop (i + 1) old
mapped_more f old items i x y within is here made = ap (slice_set items i) made ∙ map_over_more f old items i x within is here
