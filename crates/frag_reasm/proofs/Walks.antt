-- A walk that reaches the end of the last piece cuts a datagram.
use Rattle.std.proofs.Common.{◌≡◌, inl, inr, ℕ, zero, suc, ◌+◌, ◌-◌, ◌<◌, ◌≤◌, true, List, [], ◌++◌, length, Option, Some}
use Rattle.std.proofs.Common.{refl, sym, ap, ◌∙◌, subst, append_assoc, length-append, arith}
use Rattle.std.proofs.lemmas.List.{append-nil}
use Rattle.std.specs.Prelude.{◌==◌}
use Rattle.std.specs.Option.{option_map_or}
use Rattle.std.proofs.lemmas.Bool.{cases_Bool, cases_lt, eqb-true}
use Rattle.aftr_base.proofs.Founds.{some_inj, found_passes, mapped_some}
use Rattle.frag_reasm.specs.declared.piece.HeldPiece.{HeldPiece}
use Rattle.frag_reasm.specs.Whole.{IsOneOf, StandsAt, end_of, piece_at, bytes_from, body_of, head_of, AreApart, Cuts}
use Rattle.frag_reasm.proofs.Members.{cases_Option, one_found, covers_from}
use Rattle.frag_reasm.proofs.Apart.{shares_from, contradict_share, apart_bytes, apart_same, apart_ends, apart_count}
use Rattle.frag_reasm.proofs.Gathering.{walk_spent, walk_gap, walk_last, walk_on}

-- the i-th byte of what was taken from an offset on is one of a piece, whose bytes stand there
abbrev pub IsTaken : List HeldPiece → ℕ → List ℕ → ℕ → Type 0
IsTaken ps at body i =
    (c : HeldPiece) × (k : ℕ) × IsOneOf c ps × (c.offset ≡ at + k) × (k ≤ i) × (i < k + length c.bytes) × StandsAt k c.bytes body

pub record Walked (ps : List HeldPiece) (at : ℕ) (body : List ℕ) : Type 0 where
  pub ends : (l : HeldPiece) × IsOneOf l ps × (l.last ≡ true) × (end_of l ≡ at + length body)
  pub taken : (i : ℕ) → i < length body → IsTaken ps at body i
  pub begins : (c : HeldPiece) × (piece_at at ps ≡ Some c)

module _ (ps : List HeldPiece) where
  offset_found : (at : ℕ) (p : HeldPiece) → piece_at at ps ≡ Some p → p.offset ≡ at
  offset_found at p found = eqb-true p.offset at (found_passes (λ (q : HeldPiece). q.offset == at) ps p found)

  member_found : (at : ℕ) (p : HeldPiece) → piece_at at ps ≡ Some p → IsOneOf p ps
  member_found at p found = one_found (λ (q : HeldPiece). q.offset == at) ps p found

  walked_last : (at : ℕ) (p : HeldPiece) (body : List ℕ) → piece_at at ps ≡ Some p → p.last ≡ true → p.bytes ≡ body → Walked ps at body
  walked_last at p body found last same =
      let there : p.offset ≡ at = offset_found at p found in
      let one : IsOneOf p ps = member_found at p found in
      record {
        ends = (p, one, last, omega (arith, there, ap length same));
        taken = λ i lt. (
          p,
          0,
          one,
          omega (arith, there),
          omega arith,
          omega (arith, ap length same),
          (
            [],
            [],
            sym same
                ∙ sym (append-nil p.bytes),
            refl,
          ),
        );
        begins = (p, found);
      }

  stands_behind : (front bytes body : List ℕ) (k : ℕ) → StandsAt k bytes body → StandsAt (length front + k) bytes (front ++ body)
  stands_behind front bytes body k (before, after, whole, len) = (
    front ++ before,
    after,
    ap (λ (l : List ℕ). front ++ l) whole ∙ sym (append_assoc front (before ++ bytes) after)
        ∙ ap (λ (l : List ℕ). l ++ after) (sym (append_assoc front before bytes)),
    omega (arith, length-append front before, len),
  )

  taken_later : (at : ℕ) (p : HeldPiece) (more : List ℕ) → p.offset ≡ at → IsOneOf p ps → Walked ps (end_of p) more
      → (i : ℕ) → i < length (p.bytes ++ more) → IsTaken ps at (p.bytes ++ more) i
  taken_later at p more there one rest i lt = elim (cases_lt i (length p.bytes)) [
    | inl here ↦ (p, 0, one, omega (arith, there), omega arith, omega arith, ([], more, refl, refl))
    | inr past ↦
        let next : IsTaken ps (end_of p) more (i - length p.bytes) = rest.taken (i - length p.bytes)
        (omega (arith, length-append p.bytes more)) in (
          next.0,
          length p.bytes + next.1,
          next.2,
          omega (arith, next.3, there),
          omega (arith, next.4),
          omega (arith, next.5),
          stands_behind p.bytes next.0.bytes more next.1 next.6,
        )
  ]

  walked_on : (at : ℕ) (p : HeldPiece) (more body : List ℕ) → piece_at at ps ≡ Some p → Walked ps (end_of p) more → p.bytes ++ more ≡ body
      → Walked ps at body
  walked_on at p more body found rest same =
      let there : p.offset ≡ at = offset_found at p found in
      let one : IsOneOf p ps = member_found at p found in
      subst (Walked ps at) same (record {
        ends = (rest.ends.0, rest.ends.1, rest.ends.2, omega (arith, rest.ends.3, there, length-append p.bytes more));
        taken = taken_later at p more there one rest;
        begins = (p, found);
      })

  pub walked : (n at : ℕ) (body : List ℕ) → bytes_from n at ps ≡ Some body → Walked ps at body
  walked zero at body h = let none = walk_spent ps zero at refl in cc
  walked (suc n) at body h = elim (cases_Option (piece_at at ps)) [
    | inl none ↦ let gap = walk_gap ps (suc n) at none in cc
    | inr (p, found) ↦ elim (cases_Bool p.last) [
      | inl last ↦ walked_last at p body found last (some_inj _ _ (sym (walk_last ps (suc n) n at p refl found last) ∙ h))
      | inr on ↦
          let rest = mapped_some (λ more. p.bytes ++ more) (bytes_from n (end_of p) ps) body
          (sym (walk_on ps (suc n) n at p refl found on) ∙ h) in
          walked_on at p rest.0 body found (walked n (end_of p) rest.0 rest.1) rest.2
    ]
  ]

-- the piece that has the first byte of this one is this one
stands : (ps : List HeldPiece) (body : List ℕ) (q : HeldPiece) → AreApart ps → Walked ps 0 body → IsOneOf q ps
    → StandsAt q.offset q.bytes body
stands ps body q apart walk one =
    let bytes : 0 < length q.bytes = apart_bytes ps q apart one in
    let within : end_of q ≤ end_of walk.ends.0 = apart_ends ps q walk.ends.0 apart one walk.ends.1 walk.ends.2 in
    let c : IsTaken ps 0 body q.offset = walk.taken q.offset (omega (arith, walk.ends.3)) in
    let same : c.0 ≡ q = apart_same ps c.0 q apart c.2 one (contradict_share c.0 q (shares_from c.0 q (omega (arith, c.3, c.4))
    (omega (arith, c.3, c.5)))) in
    let there : c.1 ≡ q.offset = omega (arith, c.3, ap (λ (p : HeldPiece). p.offset) same) in
    subst (λ (p : HeldPiece). StandsAt q.offset p.bytes body) same (subst (λ (k : ℕ). StandsAt k c.0.bytes body) there c.6)

pub cuts_of : (ps : List HeldPiece) (body : List ℕ) → AreApart ps → body_of ps ≡ Some body → Cuts ps (head_of ps) body
cuts_of ps body apart h =
    let walk : Walked ps 0 body = walked ps (length ps) 0 body h in
    record {
      agrees = λ p one. stands ps body p apart walk one;
      once = λ i lt. let c : IsTaken ps 0 body i = walk.taken i lt in
          apart_count i ps c.0 apart c.2 (covers_from i c.0 (omega (arith, c.3, c.4)) (omega (arith, c.3, c.5)));
      last = (walk.ends.0, walk.ends.1, walk.ends.2);
      ends = λ p one last.
          let l = walk.ends in
          omega (arith, l.3, apart_ends ps p l.0 apart one l.1 l.2, apart_ends ps l.0 p apart l.1 one last);
      first = λ p one zero_offset.
          let c = walk.begins in
          let there = offset_found ps 0 c.0 c.1 in
          let member = member_found ps 0 c.0 c.1 in
          let bytes = apart_bytes ps p apart one in
          let bytes' = apart_bytes ps c.0 apart member in
          let same : p ≡ c.0 = apart_same ps p c.0 apart one member (contradict_share p c.0 (shares_from p c.0 (omega arith)
          (omega arith))) in
          ap (λ (q : HeldPiece). q.head) same ∙ sym (ap (λ (o : Option HeldPiece). option_map_or (λ (q : HeldPiece). q.head) o []) c.1);
    }
