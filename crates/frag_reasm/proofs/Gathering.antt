-- A search over a list and what stands behind it, and a walk over the pieces.
use Rattle.std.proofs.Common.{◌≡◌, ℕ, zero, suc, ◌+◌, Bool, true, false, cond, List, [], ◌∷◌, ◌++◌, length, find, Option, Some, None}
use Rattle.std.proofs.Common.{option_map, refl, sym, ap, ◌∙◌, append_assoc, length-append, arith}
use Rattle.std.specs.Prelude.{◌==◌, is_some, option_and_then, if◌then◌else◌}
use Rattle.std.specs.Bool.{then_some}
use Rattle.frag_reasm.specs.declared.piece.Piece.{Piece}
use Rattle.frag_reasm.specs.declared.piece.HeldPiece.{HeldPiece}
use Rattle.frag_reasm.specs.Whole.{held, end_of, bytes_from, piece_at}

front_by : {X : Type 0} (x y : X) (o r : Option X) (b : Bool) → cond b (Some x) o ≡ Some y → (o ≡ Some y → r ≡ Some y)
    → cond b (Some x) r ≡ Some y
front_by x y o r true h next = h
front_by x y o r false h next = next h

-- what was found in the front is found in the whole
pub find_front : {X : Type 0} (p : X → Bool) (xs ys : List X) (x : X) → find p xs ≡ Some x → find p (xs ++ ys) ≡ Some x
find_front p [] ys y h = cc
find_front p (x ∷ xs) ys y h = front_by x y (find p xs) (find p (xs ++ ys)) (p x) h (find_front p xs ys y)

behind_by : {X : Type 0} (x : X) (o r s : Option X) (b : Bool) → cond b (Some x) o ≡ None → (o ≡ None → r ≡ s) → cond b (Some x) r ≡ s
behind_by x o r s true h next = cc
behind_by x o r s false h next = next h

-- and where there is none in the front, the rest is searched
pub find_behind : {X : Type 0} (p : X → Bool) (xs ys : List X) → find p xs ≡ None → find p (xs ++ ys) ≡ find p ys
find_behind p [] ys h = refl
find_behind p (x ∷ xs) ys h = behind_by x (find p xs) (find p (xs ++ ys)) (find p ys) (p x) h (find_behind p xs ys)

-- a search over one piece
alone_by : (p : Piece) (b : Bool) → option_map held (then_some b p) ≡ cond b (Some (held p)) None
alone_by p true = refl
alone_by p false = refl

pub find_alone : (p : Piece) (at offset : ℕ) → offset ≡ p.offset
    → option_map held (then_some (offset == at) p) ≡ find (λ (q : HeldPiece). q.offset == at) (held p ∷ [])
find_alone p at offset e = ap (λ n. option_map held (then_some (n == at) p)) e ∙ alone_by p (p.offset == at)

-- ---- a walk over the pieces, from the offset on, of m pieces at most

-- the pieces with one more
abbrev pub with_one : List HeldPiece → HeldPiece → List HeldPiece
with_one ps p = ps ++ p ∷ []

pub length-with_one : (ps : List HeldPiece) (p : HeldPiece) → length (with_one ps p) ≡ length ps + 1
length-with_one ps p = length-append ps (p ∷ [])

module _ (ps : List HeldPiece) where
  -- what is taken of a piece, and then behind it, of k pieces at most
  abbrev taken : ℕ → HeldPiece → Option (List ℕ)
  taken k p = if p.last then Some p.bytes else option_map (λ more. p.bytes ++ more) (bytes_from k (end_of p) ps)

  step : (m k at : ℕ) → m ≡ suc k → bytes_from m at ps ≡ option_and_then (taken k) (piece_at at ps)
  unfolding bytes_from
  step m k at e = ap (λ (n : ℕ). bytes_from n at ps) e

  -- it stops where it has taken them
  pub walk_spent : (m at : ℕ) → m ≡ 0 → bytes_from m at ps ≡ None
  unfolding bytes_from
  walk_spent zero at e = refl
  walk_spent (suc m) at e = absurd (omega arith)

  -- at a gap
  pub walk_gap : (m at : ℕ) → piece_at at ps ≡ None → bytes_from m at ps ≡ None
  walk_gap zero at e = walk_spent zero at refl
  walk_gap (suc m) at e = step (suc m) m at refl ∙ ap (option_and_then (taken m)) e

  -- and at the last piece; else it goes on behind the piece
  pub walk_last : (m k at : ℕ) (p : HeldPiece) → m ≡ suc k → piece_at at ps ≡ Some p → p.last ≡ true → bytes_from m at ps ≡ Some p.bytes
  walk_last m k at p e found last =
      step m k at e ∙ ap (option_and_then (taken k)) found
      ∙ ap (λ (b : Bool). if b then Some p.bytes else option_map (λ more. p.bytes ++ more) (bytes_from k (end_of p) ps)) last

  pub walk_on : (m k at : ℕ) (p : HeldPiece) → m ≡ suc k → piece_at at ps ≡ Some p → p.last ≡ false
      → bytes_from m at ps ≡ option_map (λ more. p.bytes ++ more) (bytes_from k (end_of p) ps)
  walk_on m k at p e found on =
      step m k at e ∙ ap (option_and_then (taken k)) found
      ∙ ap (λ (b : Bool). if b then Some p.bytes else option_map (λ more. p.bytes ++ more) (bytes_from k (end_of p) ps)) on

-- whether more bytes stand behind doesn't matter to whether there are any
pub some_behind : (bytes : List ℕ) (o : Option (List ℕ)) → is_some (option_map (λ more. bytes ++ more) o) ≡ is_some o
some_behind bytes None = refl
some_behind bytes (Some more) = refl

pub behind_both : (front bytes : List ℕ) (o : Option (List ℕ))
    → option_map (λ more. front ++ more) (option_map (λ more. bytes ++ more) o) ≡ option_map (λ more. (front ++ bytes) ++ more) o
behind_both front bytes None = refl
behind_both front bytes (Some more) = ap (λ (l : List ℕ). Some l) (sym (append_assoc front bytes more))

pub nothing_before : (o : Option (List ℕ)) → option_map (λ more. [] ++ more) o ≡ o
nothing_before None = refl
nothing_before (Some more) = refl
