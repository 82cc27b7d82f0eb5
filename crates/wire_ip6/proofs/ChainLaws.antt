-- What a chain of extension headers leads to, and what is answered.
use Rattle.std.proofs.Common.{◌≡◌, ◌⊎◌, inl, inr, ℕ, zero, suc, ◌+◌, ◌-◌, ◌*◌, ◌/◌, ◌%◌, ◌≤◌, ◌<◌, Bool, true, false, cond, not, ◌&&◌, ◌||◌}
use Rattle.std.proofs.Common.{List, [], ◌∷◌, ◌++◌, length, take, drop, refl, sym, ap, subst, ◌∙◌, arith}
use Rattle.std.specs.Prelude.{◌==◌, nat_lt, slice_index}
use Rattle.std.proofs.lemmas.Bool.{cases_Bool, cases_lt, cond-true, cond-false, ltb-true, ltb-false, lt-ltb, le-ltb, eqb-true, and_parts}
use Rattle.std.proofs.lemmas.Bool.{and_from, or_parts, or_from, or_cases, or_left, or_right, not-true, not_from_false}
use Rattle.std.proofs.lemmas.List.{drop_at, drop_more, drop-drop, take-append-drop, take_rest, length-append, length-drop, length-take-le}
use Rattle.aftr_base.specs.Bytes.{u8_at, IsBytes}
use Rattle.aftr_base.proofs.OctetLaws.{fits_drop}
use Rattle.wire_ip6.specs.declared.fields.FragHead.{FragHead}
use Rattle.wire_ip6.specs.Grammar.{frag_of, SpellsPiece}
use Rattle.wire_ip6.specs.Chain.{Behind, InnerPacket, InnerPiece, OtherHeader, CutShort, is_passed, extension_len, is_piece, end_of}
use Rattle.wire_ip6.specs.Chain.{chain_within, chain_of, IsChain, LeadsTo, LeadsToPiece, is_other, is_cut_short, TellsInner, TellsPieces}
use Rattle.wire_ip6.specs.Chain.{TellsOthers, TellsShort}
use Rattle.wire_ip6.proofs.PieceLaws.{piece_spelled, piece_read}

-- ---- one header

else_same : {X : Type 0} (b : Bool) (x y z : X) → (b ≡ false → y ≡ z) → cond b x y ≡ cond b x z
else_same true x y z e = refl
else_same false x y z e = e refl

when_passed : {X : Type 0} (b : Bool) (x y : X) → b ≡ true → cond (not b) x y ≡ y
when_passed true x y e = refl
when_passed false x y e = cc

when_not : {X : Type 0} (b : Bool) (x y : X) → b ≡ false → cond (not b) x y ≡ x
when_not true x y e = cc
when_not false x y e = refl

shorter : (bytes : List ℕ) → extension_len bytes ≤ length bytes → length (drop (extension_len bytes) bytes) < length bytes
shorter bytes room = omega (arith, length-drop (extension_len bytes) bytes)

-- a bound that is large enough doesn't matter
same_within : (n m next : ℕ) (bytes : List ℕ) (whole : Bool) → length bytes < n → length bytes < m
    → chain_within n next bytes whole ≡ chain_within m next bytes whole
unfolding chain_within
same_within zero m next bytes whole p q = absurd (omega arith)
same_within (suc n) zero next bytes whole p q = absurd (omega arith)
same_within (suc n) (suc m) next bytes whole p q =
    let after : List ℕ = drop (extension_len bytes) bytes in
    let deeper : nat_lt (length bytes) (extension_len bytes) ≡ false
    → chain_within n (u8_at 0 bytes) after whole ≡ chain_within m (u8_at 0 bytes) after whole =
    λ room. let less = shorter bytes (ltb-false (length bytes) (extension_len bytes) room) in
    same_within n m (u8_at 0 bytes) after whole (omega arith) (omega arith) in
    ap (cond (not (is_passed next)) (end_of next bytes whole))
    (else_same (nat_lt (length bytes) (extension_len bytes)) CutShort (chain_within n (u8_at 0 bytes) after whole)
    (chain_within m (u8_at 0 bytes) after whole) deeper)

-- a header is passed over
pub chain_step : (next : ℕ) (bytes : List ℕ) (whole : Bool) → is_passed next ≡ true → extension_len bytes ≤ length bytes
    → chain_of next bytes whole ≡ chain_of (u8_at 0 bytes) (drop (extension_len bytes) bytes) whole
unfolding chain_within
chain_step next bytes whole passed room =
    let after : List ℕ = drop (extension_len bytes) bytes in
    let deeper : Behind = chain_within (length bytes) (u8_at 0 bytes) after whole in
    let short : Bool = nat_lt (length bytes) (extension_len bytes) in
    let less = shorter bytes room in
    when_passed (is_passed next) (end_of next bytes whole) (cond short CutShort deeper) passed
    ∙ cond-false short CutShort deeper (le-ltb (length bytes) (extension_len bytes) room)
    ∙ same_within (length bytes) (suc (length after)) (u8_at 0 bytes) after whole less (omega arith)

-- the same, from behind it
pub chain_on : (next : ℕ) (bytes : List ℕ) (whole : Bool) (len : ℕ) → is_passed next ≡ true → len ≡ extension_len bytes → len ≤ length bytes
    → chain_of (u8_at 0 bytes) (take (length bytes - len) (drop len bytes)) whole ≡ chain_of next bytes whole
chain_on next bytes whole len passed is room =
    ap (λ t. chain_of (u8_at 0 bytes) t whole) (take_rest bytes len ∙ ap (λ n. drop n bytes) is)
    ∙ sym (chain_step next bytes whole passed (omega arith))

-- a header that isn't ends the chain
pub chain_end : (next : ℕ) (bytes : List ℕ) (whole : Bool) → is_passed next ≡ false → chain_of next bytes whole ≡ end_of next bytes whole
unfolding chain_within
chain_end next bytes whole stays =
    when_not (is_passed next) (end_of next bytes whole)
    (cond (nat_lt (length bytes) (extension_len bytes)) CutShort
    (chain_within (length bytes) (u8_at 0 bytes) (drop (extension_len bytes) bytes) whole)) stays

-- nor can one be passed over that is longer than the bytes
pub chain_short : (next : ℕ) (bytes : List ℕ) (whole : Bool) → is_passed next ≡ true → length bytes < extension_len bytes
    → chain_of next bytes whole ≡ CutShort
unfolding chain_within
chain_short next bytes whole passed less =
    let deeper : Behind = chain_within (length bytes) (u8_at 0 bytes) (drop (extension_len bytes) bytes) whole in
    let short : Bool = nat_lt (length bytes) (extension_len bytes) in
    when_passed (is_passed next) (end_of next bytes whole) (cond short CutShort deeper) passed
    ∙ cond-true short CutShort deeper (lt-ltb (length bytes) (extension_len bytes) less)

-- ---- along the headers

first_header : (number : ℕ) (content after bytes : List ℕ) → length content % 8 ≡ 6
    → bytes ≡ number ∷ length content / 8 ∷ (content ++ after)
    → (u8_at 0 bytes ≡ number) × (drop (extension_len bytes) bytes ≡ after) × (extension_len bytes ≤ length bytes)
first_header number content after bytes eights whole =
    let at_len : u8_at 1 bytes ≡ length content / 8 = ap (λ b. slice_index b 1) whole in
    let len : extension_len bytes ≡ suc (suc (length content)) = omega arith in
    let all : length bytes ≡ suc (suc (length content + length after)) = ap length whole ∙ omega (arith, length-append content after) in
    (ap (λ b. slice_index b 0) whole, (λ i. drop (len i) (whole i)) ∙ drop_at content after (length content) refl, omega arith)

along : (headers : List (ℕ × List ℕ)) (next : ℕ) (bytes : List ℕ) (last : ℕ) (rest : List ℕ) (whole : Bool)
    → IsChain next bytes headers last rest
    → chain_of next bytes whole ≡ chain_of last rest whole
along [] next bytes last rest whole chain = λ i. chain_of (chain.0 i) (chain.1 i) whole
along (h ∷ hs) next bytes last rest whole chain =
    let tail = chain.2 in
    let first = first_header h.0 h.1 tail.0 bytes chain.1 tail.1 in
    chain_step next bytes whole chain.0 first.2 ∙ (λ i. chain_of (first.0 i) (first.1 i) whole) ∙ along hs h.0 tail.0 last rest whole tail.2

-- ---- where it stops

-- behind the headers that can be passed over
record Stop (next : ℕ) (bytes : List ℕ) : Type 0 where
  last : ℕ
  rest : List ℕ
  leads : LeadsTo next bytes last rest
  fits : IsBytes rest
  stop : (is_passed last ≡ false) ⊎ ((is_passed last ≡ true) × (length rest < extension_len rest))

one_more : (next : ℕ) (bytes : List ℕ) (last : ℕ) (rest : List ℕ) → is_passed next ≡ true → extension_len bytes ≤ length bytes
    → LeadsTo (u8_at 0 bytes) (drop (extension_len bytes) bytes) last rest → LeadsTo next bytes last rest
one_more next bytes last rest passed room leads =
    let count : ℕ = 6 + 8 * u8_at 1 bytes in
    let content : List ℕ = take count (drop 2 bytes) in
    let after : List ℕ = drop (extension_len bytes) bytes in
    let left : count ≤ length (drop 2 bytes) = omega (arith, length-drop 2 bytes) in
    let len : length content ≡ count = length-take-le count (drop 2 bytes) left in
    let behind : drop count (drop 2 bytes) ≡ after = drop-drop count 2 bytes ∙ ap (λ n. drop n bytes) (omega arith) in
    let parts : drop 2 bytes ≡ content ++ after = sym (take-append-drop count (drop 2 bytes)) ∙ ap (λ t. content ++ t) behind in
    let number : u8_at 1 bytes ≡ length content / 8 = omega arith in
    let spelled : bytes ≡ u8_at 0 bytes ∷ length content / 8 ∷ (content ++ after) =
    drop_more bytes 0 0 (omega arith) ∙ ap (λ t. u8_at 0 bytes ∷ t) (drop_more bytes 1 0 (omega arith) ∙ (λ i. number i ∷ parts i)) in
    ((u8_at 0 bytes, content) ∷ leads.0, (passed, omega arith, (after, spelled, leads.1)))

stops : (n next : ℕ) (bytes : List ℕ) → length bytes < n → IsBytes bytes → Stop next bytes
stops zero next bytes p fits = absurd (omega arith)
stops (suc n) next bytes p fits = elim (cases_Bool (is_passed next)) [
  | inr stays ↦ record { last = next; rest = bytes; leads = ([], (refl, refl)); fits = fits; stop = inl stays }
  | inl passed ↦ elim (cases_lt (length bytes) (extension_len bytes)) [
    | inl less ↦ record { last = next; rest = bytes; leads = ([], (refl, refl)); fits = fits; stop = inr (passed, less) }
    | inr room ↦
        let after : List ℕ = drop (extension_len bytes) bytes in
        let less = shorter bytes room in
        let deeper = stops n (u8_at 0 bytes) after (omega arith) (fits_drop (extension_len bytes) bytes fits) in
        record {
          last = deeper.last;
          rest = deeper.rest;
          leads = one_more next bytes deeper.last deeper.rest passed room deeper.leads;
          fits = deeper.fits;
          stop = deeper.stop;
        }
  ]
]

-- ---- what it ends in, by three tests

abbrev end_by : Bool → Bool → Bool → List ℕ → FragHead → List ℕ → Behind
end_by four piece short rest h after =
    cond four (InnerPacket rest) (cond (not piece) OtherHeader (cond short CutShort (InnerPiece h after)))

by_inner : (a b c : Bool) (rest : List ℕ) (h : FragHead) (after r : List ℕ) → end_by a b c rest h after ≡ InnerPacket r
    → (a ≡ true) × (rest ≡ r)
by_inner true b c rest h after r e = (refl, cc)
by_inner false false c rest h after r e = cc
by_inner false true true rest h after r e = cc
by_inner false true false rest h after r e = cc

by_piece : (a b c : Bool) (rest : List ℕ) (h : FragHead) (after : List ℕ) (g : FragHead) (r : List ℕ)
    → end_by a b c rest h after ≡ InnerPiece g r
    → (b ≡ true) × (c ≡ false) × (h ≡ g) × (after ≡ r)
by_piece true b c rest h after g r e = cc
by_piece false false c rest h after g r e = cc
by_piece false true true rest h after g r e = cc
by_piece false true false rest h after g r e = (refl, refl, cc, cc)

by_other : (a b c : Bool) (rest : List ℕ) (h : FragHead) (after : List ℕ) → end_by a b c rest h after ≡ OtherHeader
    → (a ≡ false) × (b ≡ false)
by_other true b c rest h after e = cc
by_other false false c rest h after e = (refl, refl)
by_other false true true rest h after e = cc
by_other false true false rest h after e = cc

by_short : (a b c : Bool) (rest : List ℕ) (h : FragHead) (after : List ℕ) → end_by a b c rest h after ≡ CutShort → (b ≡ true) × (c ≡ true)
by_short true b c rest h after e = cc
by_short false false c rest h after e = cc
by_short false true true rest h after e = (refl, refl)
by_short false true false rest h after e = cc

ends_other : (a b c : Bool) (rest : List ℕ) (h : FragHead) (after : List ℕ) → a ≡ false → b ≡ false
    → end_by a b c rest h after ≡ OtherHeader
ends_other a b c rest h after p q = rw (p, q) refl

ends_short : (a b c : Bool) (rest : List ℕ) (h : FragHead) (after : List ℕ) → a ≡ false → b ≡ true → c ≡ true
    → end_by a b c rest h after ≡ CutShort
ends_short a b c rest h after p q r = rw (p, q, r) refl

-- ---- the answer and the grammar

-- the answer, where the chain stops
answer_at : (next : ℕ) (bytes : List ℕ) (whole : Bool) (answer : Behind) → answer ≡ chain_of next bytes whole → (s : Stop next bytes)
    → (answer ≡ end_of s.last s.rest whole) × (is_passed s.last ≡ false) ⊎ (answer ≡ CutShort) × (is_passed s.last ≡ true) ×
    (length s.rest < extension_len s.rest)
answer_at next bytes whole answer is s =
    let there : answer ≡ chain_of s.last s.rest whole = is ∙ along s.leads.0 next bytes s.last s.rest whole s.leads.1 in
    elim s.stop [
      | inl stays ↦ inl (there ∙ chain_end s.last s.rest whole stays, stays)
      | inr short ↦ inr (there ∙ chain_short s.last s.rest whole short.0 short.1, short.0, short.1)
    ]

pub inner_told : (next : ℕ) (bytes : List ℕ) (whole : Bool) (answer : Behind) → IsBytes bytes → answer ≡ chain_of next bytes whole
    → TellsInner next bytes answer
inner_told next bytes whole answer fits is r = (sound, complete)
  where
    complete : LeadsTo next bytes 4 r → answer ≡ InnerPacket r
    complete leads = is ∙ along leads.0 next bytes 4 r whole leads.1 ∙ chain_end 4 r whole refl

    sound : answer ≡ InnerPacket r → LeadsTo next bytes 4 r
    sound e =
        let s = stops (suc (length bytes)) next bytes (omega arith) fits in
        elim (answer_at next bytes whole answer is s) [
          | inr short ↦ cc
          | inl ended ↦
              let found = by_inner (s.last == 4) (is_piece s.last whole) (nat_lt (length s.rest) 8) s.rest (frag_of s.rest)
              (drop 8 s.rest) r (sym ended.0 ∙ e) in (
                s.leads.0,
                subst (λ last. IsChain next bytes s.leads.0 last r) (eqb-true s.last 4 found.0)
                    (subst (λ rest. IsChain next bytes s.leads.0 s.last rest) found.1 s.leads.1),
              )
        ]

-- a piece at which the chain ends is the one that its bytes spell
piece_there : (rest : List ℕ) (h : FragHead) (r : List ℕ) → IsBytes rest → nat_lt (length rest) 8 ≡ false → frag_of rest ≡ h
    → drop 8 rest ≡ r → SpellsPiece rest h r
piece_there rest h r fits long same after =
    subst (λ g. SpellsPiece rest g r) same
    (subst (λ t. SpellsPiece rest (frag_of rest) t) after (piece_spelled rest fits (ltb-false (length rest) 8 long)))

pub pieces_told : (next : ℕ) (bytes : List ℕ) (whole : Bool) (answer : Behind) → IsBytes bytes → answer ≡ chain_of next bytes whole
    → TellsPieces next bytes whole answer
pieces_told next bytes whole answer fits is h r = (sound, complete)
  where
    complete : (whole ≡ false) × LeadsToPiece next bytes h r → answer ≡ InnerPiece h r
    complete facts =
        let piece : List ℕ = facts.1.0 in
        let leads = facts.1.1 in
        let read = piece_read piece r h facts.1.2 in
        is ∙ along leads.0 next bytes 44 piece whole leads.1 ∙ chain_end 44 piece whole refl ∙ ap (end_of 44 piece) facts.0
        ∙ cond-false (nat_lt (length piece) 8) CutShort (InnerPiece (frag_of piece) (drop 8 piece)) (le-ltb (length piece) 8 read.2)
        ∙ (λ i. InnerPiece (read.0 i) (read.1 i))

    sound : answer ≡ InnerPiece h r → (whole ≡ false) × LeadsToPiece next bytes h r
    sound e =
        let s = stops (suc (length bytes)) next bytes (omega arith) fits in
        elim (answer_at next bytes whole answer is s) [
          | inr short ↦ cc
          | inl ended ↦
              let found = by_piece (s.last == 4) (is_piece s.last whole) (nat_lt (length s.rest) 8) s.rest (frag_of s.rest)
              (drop 8 s.rest) h r (sym ended.0 ∙ e) in
              let piece = and_parts (s.last == 44) (not whole) found.0 in (
                not-true whole piece.1,
                (
                  s.rest,
                  (s.leads.0, subst (λ last. IsChain next bytes s.leads.0 last s.rest) (eqb-true s.last 44 piece.0) s.leads.1),
                  piece_there s.rest h r s.fits found.1 found.2 found.3,
                ),
              )
        ]

pub others_told : (next : ℕ) (bytes : List ℕ) (whole : Bool) (answer : Behind) → IsBytes bytes → answer ≡ chain_of next bytes whole
    → TellsOthers next bytes whole answer
others_told next bytes whole answer fits is = (sound, complete)
  where
    complete : (last : ℕ) × (rest : List ℕ) × LeadsTo next bytes last rest × (is_other last whole ≡ true) → answer ≡ OtherHeader
    complete facts =
        let last : ℕ = facts.0 in
        let rest : List ℕ = facts.1 in
        let leads = facts.2 in
        let neither = or_parts (is_passed last || last == 4) (is_piece last whole)
        (not-true (is_passed last || last == 4 || is_piece last whole) facts.3) in
        let first = or_parts (is_passed last) (last == 4) neither.0 in
        is ∙ along leads.0 next bytes last rest whole leads.1 ∙ chain_end last rest whole first.0
        ∙ ends_other (last == 4) (is_piece last whole) (nat_lt (length rest) 8) rest (frag_of rest) (drop 8 rest) first.1 neither.1

    sound : answer ≡ OtherHeader → (last : ℕ) × (rest : List ℕ) × LeadsTo next bytes last rest × (is_other last whole ≡ true)
    sound e =
        let s = stops (suc (length bytes)) next bytes (omega arith) fits in
        elim (answer_at next bytes whole answer is s) [
          | inr short ↦ cc
          | inl ended ↦
              let found = by_other (s.last == 4) (is_piece s.last whole) (nat_lt (length s.rest) 8) s.rest (frag_of s.rest)
              (drop 8 s.rest) (sym ended.0 ∙ e) in
              let none = or_from (is_passed s.last || s.last == 4) (is_piece s.last whole)
              (or_from (is_passed s.last) (s.last == 4) ended.1 found.0) found.1 in
              (s.last, s.rest, s.leads, not_from_false (is_passed s.last || s.last == 4 || is_piece s.last whole) none)
        ]

pub short_told : (next : ℕ) (bytes : List ℕ) (whole : Bool) (answer : Behind) → IsBytes bytes → answer ≡ chain_of next bytes whole
    → TellsShort next bytes whole answer
short_told next bytes whole answer fits is = (sound, complete)
  where
    complete : (last : ℕ) × (rest : List ℕ) × LeadsTo next bytes last rest × (is_cut_short last rest whole ≡ true) → answer ≡ CutShort
    complete facts =
        let last : ℕ = facts.0 in
        let rest : List ℕ = facts.1 in
        let leads = facts.2 in
        let there : answer ≡ chain_of last rest whole = is ∙ along leads.0 next bytes last rest whole leads.1 in
        elim (or_cases (is_passed last && nat_lt (length rest) (extension_len rest))
        (is_piece last whole && nat_lt (length rest) 8) facts.3) [
          | inl header ↦
              let parts = and_parts (is_passed last) (nat_lt (length rest) (extension_len rest)) header in
              there ∙ chain_short last rest whole parts.0 (ltb-true (length rest) (extension_len rest) parts.1)
          | inr piece ↦
              let parts = and_parts (is_piece last whole) (nat_lt (length rest) 8) piece in
              let number : last ≡ 44 = eqb-true last 44 (and_parts (last == 44) (not whole) parts.0).0 in
              there ∙ chain_end last rest whole (ap is_passed number)
              ∙ ends_short (last == 4) (is_piece last whole) (nat_lt (length rest) 8) rest (frag_of rest) (drop 8 rest)
              (ap (λ n. n == 4) number) parts.0 parts.1
        ]

    sound : answer ≡ CutShort → (last : ℕ) × (rest : List ℕ) × LeadsTo next bytes last rest × (is_cut_short last rest whole ≡ true)
    sound e =
        let s = stops (suc (length bytes)) next bytes (omega arith) fits in
        let header : Bool = is_passed s.last && nat_lt (length s.rest) (extension_len s.rest) in
        let piece : Bool = is_piece s.last whole && nat_lt (length s.rest) 8 in
        elim (answer_at next bytes whole answer is s) [
          | inr short ↦ (
            s.last,
            s.rest,
            s.leads,
            or_left header piece (and_from (is_passed s.last) (nat_lt (length s.rest) (extension_len s.rest)) short.1
                (lt-ltb (length s.rest) (extension_len s.rest) short.2)),
          )
          | inl ended ↦
              let found = by_short (s.last == 4) (is_piece s.last whole) (nat_lt (length s.rest) 8) s.rest (frag_of s.rest)
              (drop 8 s.rest) (sym ended.0 ∙ e) in
              (s.last, s.rest, s.leads, or_right header piece (and_from (is_piece s.last whole) (nat_lt (length s.rest) 8) found.0 found.1))
        ]
