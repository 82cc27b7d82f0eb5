-- Over the pieces of a datagram that was cut the walk reaches its end.
use Rattle.std.proofs.Common.{◌≡◌, ◌⊎◌, inl, inr, ℕ, zero, suc, ◌-◌, ◌<◌, ◌≤◌, true, List, [], ◌∷◌, ◌++◌, length, drop, Option, Some}
use Rattle.std.proofs.Common.{option_map, refl, sym, ap, ◌∙◌, append_assoc, length-append, arith}
use Rattle.std.specs.Prelude.{◌==◌, count_by, nat_le}
use Rattle.std.specs.Option.{option_map_or}
use Rattle.std.proofs.lemmas.List.{append-nil, drop_at}
use Rattle.std.proofs.lemmas.List.Sums.{count_by-le-length}
use Rattle.std.proofs.lemmas.Bool.{both_ways, cases_Bool, cases_lt, eqb-true, eq-eqb, le-leb, lt-leb, leb-true}
use Rattle.aftr_base.proofs.Founds.{found_passes}
use Rattle.frag_reasm.specs.declared.piece.HeldPiece.{HeldPiece}
use Rattle.frag_reasm.specs.Whole.{IsOneOf, StandsAt, covers, end_of, piece_at, bytes_from, body_of, head_of, Cuts}
use Rattle.frag_reasm.proofs.Members.{cases_Option, one_found, none_found, covers_from, covers_gives, some_counted, count_some}
use Rattle.frag_reasm.proofs.Members.{one_counted, count_fewer}
use Rattle.frag_reasm.proofs.Gathering.{walk_last, walk_on}

-- ---- where a piece's bytes stand

pub end_within : (p : HeldPiece) (body : List ℕ) → StandsAt p.offset p.bytes body → end_of p ≤ length body
end_within p body (before, after, whole, len) =
    omega (arith, ap length whole, length-append (before ++ p.bytes) after, length-append before p.bytes, len)

-- from its offset on the body begins with it, and behind it what stands behind its end
pub drop_there : (p : HeldPiece) (body : List ℕ) → StandsAt p.offset p.bytes body → drop p.offset body ≡ p.bytes ++ drop (end_of p) body
drop_there p body (before, after, whole, len) =
    let ends : length (before ++ p.bytes) ≡ end_of p = omega (arith, length-append before p.bytes, len) in
    ap (drop p.offset) (whole ∙ append_assoc before p.bytes after) ∙ drop_at before (p.bytes ++ after) p.offset len
    ∙ ap (λ (l : List ℕ). p.bytes ++ l) (sym (ap (drop (end_of p)) whole ∙ drop_at (before ++ p.bytes) after (end_of p) ends))

nothing_left : (n : ℕ) → drop {A = ℕ} n [] ≡ []
nothing_left zero = refl
nothing_left (suc n) = refl

pub empty_end : (n : ℕ) (xs : List ℕ) → n ≡ length xs → drop n xs ≡ []
empty_end n [] h = nothing_left n
empty_end zero (x ∷ xs) h = absurd (omega arith)
empty_end (suc n) (x ∷ xs) h = empty_end n xs (omega arith)

-- ---- the walk

module _ (ps : List HeldPiece) (head body : List ℕ) (cuts : Cuts ps head body) (bytes : (p : HeldPiece) → IsOneOf p ps
    → 0 < length p.bytes) where
  -- two pieces that have a byte in common are one
  pub cut_same : (i : ℕ) (p q : HeldPiece) → IsOneOf p ps → IsOneOf q ps → covers i p ≡ true → covers i q ≡ true → p ≡ q
  cut_same i p q hp hq cp cq =
      let within : i < length body = omega (arith, covers_gives i p cp, end_within p body (cuts.agrees p hp)) in
      one_counted (covers i) ps p q (omega (arith, cuts.once i within)) hp hq cp cq

  pub cut_covers : (i : ℕ) → i < length body → (p : HeldPiece) × IsOneOf p ps × (covers i p ≡ true)
  cut_covers i lt = some_counted (covers i) ps (omega (arith, cuts.once i lt))

  pub first_byte : (p : HeldPiece) → IsOneOf p ps → covers p.offset p ≡ true
  first_byte p one = let more = bytes p one in covers_from p.offset p (omega arith) (omega arith)

  last_byte : (p : HeldPiece) → IsOneOf p ps → covers (end_of p - 1) p ≡ true
  last_byte p one = let more = bytes p one in covers_from (end_of p - 1) p (omega arith) (omega arith)

  pub not_empty : 0 < length body
  not_empty = omega (arith, bytes cuts.last.0 cuts.last.1, cuts.ends cuts.last.0 cuts.last.1 cuts.last.2)

  -- an offset at which a piece ends, or the first one
  abbrev IsBorder : ℕ → Type 0
  IsBorder at = (at ≡ 0) ⊎ ((p : HeldPiece) × IsOneOf p ps × (end_of p ≡ at))

  -- the piece that covers the byte behind a border begins there
  begins_there : (at : ℕ) (c : HeldPiece) → IsBorder at → IsOneOf c ps → covers at c ≡ true → c.offset ≡ at
  begins_there at c (inl first) one here = omega (arith, covers_gives at c here)
  begins_there at c (inr (p, hp, ends)) one here = elim (cases_lt c.offset at) [
    | inl before ↦
        let range = covers_gives at c here in
        let more = bytes p hp in
        let same : p ≡ c = cut_same (end_of p - 1) p c hp one (last_byte p hp) (covers_from (end_of p - 1) c
        (omega (arith, ends)) (omega (arith, ends, range))) in
        absurd (omega (arith, ap end_of same, ends, range))
    | inr past ↦ omega (arith, past, covers_gives at c here)
  ]

  -- there is a piece at a border before the end
  piece_there : (at : ℕ) → at < length body → IsBorder at → (p : HeldPiece) × IsOneOf p ps × (p.offset ≡ at) × (piece_at at ps ≡ Some p)
  piece_there at lt border =
      let c = cut_covers at lt in
      let there : c.0.offset ≡ at = begins_there at c.0 border c.1 c.2 in
      elim (cases_Option (piece_at at ps)) [
        | inl none ↦ absurd (none_found (λ (q : HeldPiece). q.offset == at) ps c.0 c.1 (eq-eqb c.0.offset at there) none)
        | inr (p, found) ↦ (
          p,
          one_found (λ (q : HeldPiece). q.offset == at) ps p found,
          eqb-true p.offset at (found_passes (λ (q : HeldPiece). q.offset == at) ps p found),
          found,
        )
      ]

  -- a piece that ends with the body is the last one
  last_there : (p : HeldPiece) → IsOneOf p ps → end_of p ≡ length body → p.last ≡ true
  last_there p one ends =
      let l = cuts.last in
      let same_end : end_of p - 1 ≡ end_of l.0 - 1 = omega (arith, ends, cuts.ends l.0 l.1 l.2) in
      let same : p ≡ l.0 = cut_same (end_of p - 1) p l.0 one l.1 (last_byte p one) (ap (λ (i : ℕ). covers i l.0) same_end
      ∙ last_byte l.0 l.1) in
      ap (λ (q : HeldPiece). q.last) same ∙ l.2

  -- the pieces that begin at an offset or behind it
  abbrev left : ℕ → ℕ
  left at = count_by (λ (q : HeldPiece). nat_le at q.offset) ps

  left_fewer : (at : ℕ) (p : HeldPiece) → IsOneOf p ps → p.offset ≡ at → left (end_of p) < left at
  left_fewer at p one there =
      let more = bytes p one in
      count_fewer (λ (q : HeldPiece). nat_le (end_of p) q.offset) (λ (q : HeldPiece). nat_le at q.offset) ps p
      (λ q passes. le-leb at q.offset (omega (arith, leb-true (end_of p) q.offset passes))) one
      (lt-leb (end_of p) p.offset (omega arith)) (le-leb at p.offset (omega arith))

  left_some : (at : ℕ) (p : HeldPiece) → IsOneOf p ps → p.offset ≡ at → 0 < left at
  left_some at p one there = count_some (λ (q : HeldPiece). nat_le at q.offset) ps p one (le-leb at p.offset (omega arith))

  reaches : (n at : ℕ) → left at ≤ n → at < length body → IsBorder at → bytes_from n at ps ≡ Some (drop at body)
  reaches zero at few lt border =
      let p = piece_there at lt border in
      absurd (omega (arith, left_some at p.0 p.1 p.2))
  reaches (suc n) at few lt border =
      let p = piece_there at lt border in
      let from : drop at body ≡ p.0.bytes ++ drop (end_of p.0) body =
      ap (λ (i : ℕ). drop i body) (sym p.2) ∙ drop_there p.0 body (cuts.agrees p.0 p.1) in
      elim (cases_Bool p.0.last) [
        | inl last ↦
            walk_last ps (suc n) n at p.0 refl p.3 last
            ∙ ap (λ (l : List ℕ). Some l) (sym (from
            ∙ ap (λ (l : List ℕ). p.0.bytes ++ l) (empty_end (end_of p.0) body (cuts.ends p.0 p.1 last)) ∙ append-nil p.0.bytes))
        | inr on ↦ elim (cases_lt (end_of p.0) (length body)) [
          | inl more ↦
              walk_on ps (suc n) n at p.0 refl p.3 on
              ∙ ap (option_map (λ rest. p.0.bytes ++ rest)) (reaches n (end_of p.0)
              (omega (arith, left_fewer at p.0 p.1 p.2)) more (inr (p.0, p.1, refl)))
              ∙ ap (λ (l : List ℕ). Some l) (sym from)
          | inr past ↦ absurd (both_ways p.0.last on (last_there p.0 p.1 (omega (arith, past, end_within p.0 body (cuts.agrees p.0 p.1)))))
        ]
      ]

  pub body_there : body_of ps ≡ Some body
  body_there = reaches (length ps) 0 (count_by-le-length (λ (q : HeldPiece). nat_le 0 q.offset) ps) not_empty (inl refl)

  pub head_there : head_of ps ≡ head
  head_there =
      let p = piece_there 0 not_empty (inl refl) in
      ap (λ (o : Option HeldPiece). option_map_or (λ (q : HeldPiece). q.head) o []) p.3 ∙ cuts.first p.0 p.1 p.2
