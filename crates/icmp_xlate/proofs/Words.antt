-- Numbers written into bytes.
use Rattle.std.proofs.Common.{◌≡◌, ℕ, ◌+◌, List, [], ◌∷◌, ◌++◌, length, take, drop}
use Rattle.std.proofs.lemmas.List.{drop-drop, nil_from_length, append_assoc}
use borrow.Rule.Slice.PartMut.{put_mid}

-- a write of four bytes into the part at an offset
pub quad_put : (at size a b c d : ℕ) (xs more : List ℕ) → size ≡ 4 → length more ≡ 0
    → put_mid at size xs (a ∷ b ∷ c ∷ d ∷ more) ≡ take at xs ++ (a ∷ b ∷ c ∷ d ∷ []) ++ drop (at + 4) xs
quad_put at size a b c d xs more four none =
    rw (four, nil_from_length more none, drop-drop 4 at xs) (simp append_assoc)
