-- The pieces of a datagram that was cut are held until the last of them comes, whatever order they come in.
use Rattle.std.proofs.Common.{◌≡◌, ◌⊎◌, inl, inr, ℕ, suc, ◌<◌, ◌≤◌, Bool, true, false, not, List, [], ◌∷◌, ◌++◌, length, drop, Some, None}
use Rattle.std.proofs.Common.{refl, sym, ap, ◌∙◌, subst, append_assoc, arith}
use Rattle.std.specs.Prelude.{◌==◌, ◌&&◌, ◌||◌, nat_le, nat_lt, bytes_eq, filter}
use Rattle.std.specs.List.{list_any}
use Rattle.std.proofs.lemmas.List.{append-nil}
use Rattle.std.proofs.lemmas.Bool.{both_ways, cases_Bool, cases_lt, and_parts, and_from, and_left, or_cases, or_parts, or_from, or_left}
use Rattle.std.proofs.lemmas.Bool.{or_right}
use Rattle.std.proofs.lemmas.Bool.{eqb-true, eq-eqb, le-ltb, lt-leb, ltb-true, false_from_ne_true, cond-true, cond-false}
use Rattle.aftr_base.specs.declared.value.Moment.{Moment}
use Rattle.frag_reasm.specs.declared.key.PieceKey.{PieceKey}
use Rattle.frag_reasm.specs.declared.piece.HeldPiece.{HeldPiece}
use Rattle.frag_reasm.specs.declared.pieces.PartialDatagram.{PartialDatagram}
use Rattle.frag_reasm.specs.declared.pieces.Offer.TheVariants.{Whole, Held}
use Rattle.frag_reasm.specs.Keys.{is_six, same_holder, key_limit, end_limit}
use Rattle.frag_reasm.specs.Whole.{IsOneOf, covers, end_of, is_bad, same_flag, same_piece, shares_a_byte, is_past, contradicts, body_of}
use Rattle.frag_reasm.specs.Whole.{head_of, AreApart, Cuts}
use Rattle.frag_reasm.specs.Offers.{is_of, held_of, without, kept_with, is_atomic, is_full, told, joined, Offered, offered}
use Rattle.frag_reasm.specs.Orders.{Arrival, pieces_in, after, IsCutInto, HasRoom, IsComing, Completes, AnyOrder}
use Rattle.frag_reasm.proofs.Members.{cases_Option, at_one, one_front, one_behind, one_cases, covers_from}
use Rattle.frag_reasm.proofs.Apart.{shares_from, contradict_share, apart_bytes, apart_push, apart_count}
use Rattle.frag_reasm.proofs.Walks.{cuts_of}
use Rattle.frag_reasm.proofs.Tilings.{end_within, drop_there, empty_end, cut_same, cut_covers, first_byte, body_there, head_there}
use Rattle.frag_reasm.proofs.Held.{held_kept, known_kept, others_kept, others_all, held_none}
use Rattle.frag_reasm.proofs.Offering.{not_bad_bytes}

-- ---- general: members of lists of pieces

any_one : (test : HeldPiece → Bool) (ps : List HeldPiece) (p : HeldPiece) → IsOneOf p ps → test p ≡ true → list_any test ps ≡ true
any_one test [] p h passes = absurd h
any_one test (x ∷ ps) p (inl same) passes = or_left (test x) (list_any test ps) (ap test (sym same) ∙ passes)
any_one test (x ∷ ps) p (inr later) passes = or_right (test x) (list_any test ps) (any_one test ps p later passes)

one_any : (test : HeldPiece → Bool) (ps : List HeldPiece) → list_any test ps ≡ true → (p : HeldPiece) × IsOneOf p ps × (test p ≡ true)
one_any test [] h = cc
one_any test (x ∷ ps) h = elim (or_cases (test x) (list_any test ps) h) [
  | inl here ↦ (x, inl refl, here)
  | inr later ↦ let rest = one_any test ps later in (rest.0, inr rest.1, rest.2)
]

none_any : (test : HeldPiece → Bool) (ps : List HeldPiece) → ((p : HeldPiece) → IsOneOf p ps → test p ≡ true → ⊥) → list_any test ps ≡ false
none_any test ps h = false_from_ne_true _ (λ any. let p = one_any test ps any in h p.0 p.1 p.2)

-- the list without one of its pieces
taken_out : (ps : List HeldPiece) (h : HeldPiece) → IsOneOf h ps
    → (rest : List HeldPiece) × (length ps ≡ suc (length rest)) × ((q : HeldPiece) → IsOneOf q ps → (q ≡ h) ⊎ IsOneOf q rest)
taken_out [] h one = absurd one
taken_out (x ∷ ps) h (inl same) = (ps, refl, λ q one. elim one [ inl here ↦ inl (here ∙ sym same) | inr later ↦ inr later ])
taken_out (x ∷ ps) h (inr later) =
    let rest = taken_out ps h later in (
      x ∷ rest.0,
      ap suc rest.1,
      λ q one. elim one [
        | inl here ↦ inr (inl here)
        | inr there ↦ elim (rest.2 q there) [ inl same ↦ inl same | inr other ↦ inr (inr other) ]
      ],
    )

share_itself : (p : HeldPiece) → 0 < length p.bytes → contradicts p p ≡ true
share_itself p bytes = contradict_share p p (shares_from p p (omega arith) (omega arith))

-- pieces apart that all are in a list with a further one are fewer
fewer : (hs ps : List HeldPiece) (r : HeldPiece) → AreApart hs → ((q : HeldPiece) → IsOneOf q hs → IsOneOf q ps) → IsOneOf r ps
    → (IsOneOf r hs → ⊥) → length hs < length ps
fewer [] ps r apart all one not_in = let rest = taken_out ps r one in omega (arith, rest.1)
fewer (h ∷ hs) ps r apart all one not_in =
    let rest = taken_out ps h (all h (inl refl)) in
    let later : (q : HeldPiece) → IsOneOf q hs → IsOneOf q rest.0 = λ q there. elim (rest.2 q (all q (inr there))) [
      | inl same ↦ absurd (both_ways (contradicts h q) (at_one (λ y. contradicts h y ≡ false) hs q apart.1 there)
          (ap (contradicts h) same ∙ share_itself h apart.0))
      | inr other ↦ other
    ] in
    let there : IsOneOf r rest.0 = elim (rest.2 r one) [ inl same ↦ absurd (not_in (inl same)) | inr other ↦ other ] in
    omega (arith, rest.1, fewer hs rest.0 r apart.2 later there (λ in_hs. not_in (inr in_hs)))

-- ---- the same piece

bytes_same : (bs : List ℕ) → bytes_eq bs bs ≡ true
bytes_same [] = refl
bytes_same (b ∷ bs) = and_from _ _ (eq-eqb b b refl) (bytes_same bs)

flag_same : (b : Bool) → same_flag b b ≡ true
flag_same true = refl
flag_same false = refl

piece_same : (p : HeldPiece) → same_piece p p ≡ true
piece_same p = and_from _ _ (and_from _ _ (eq-eqb p.offset p.offset refl) (flag_same p.last)) (bytes_same p.bytes)

same_offset : (p q : HeldPiece) → same_piece p q ≡ true → p.offset ≡ q.offset
same_offset p q h = eqb-true p.offset q.offset (and_parts _ _ (and_parts (p.offset == q.offset && same_flag p.last q.last)
    (bytes_eq p.bytes q.bytes) h).0).0

-- ---- what an offer answers where its tests are known

module _ (key : PieceKey) (p : HeldPiece) (now : Moment) (kept : List PartialDatagram) (good : is_bad p ≡ false) where
  atomic_offered : is_atomic key p ≡ true → offered key p now kept ≡ record { answer = Whole p.head p.bytes; kept = kept }
  atomic_offered atomic = cond-false (is_bad p) _ _ good ∙ cond-true (is_atomic key p) _ _ atomic

  known_offered : is_atomic key p ≡ false → list_any (same_piece p) (held_of key kept) ≡ true
      → offered key p now kept ≡ record { answer = Held; kept = kept }
  known_offered many known =
      cond-false (is_bad p) _ _ good ∙ cond-false (is_atomic key p) _ _ many
      ∙ cond-true (list_any (same_piece p) (held_of key kept)) _ _ known

  new_offered : is_atomic key p ≡ false → list_any (same_piece p) (held_of key kept) ≡ false → is_full key kept ≡ false
      → nat_lt (end_limit key) (end_of p) ≡ false → list_any (contradicts p) (held_of key kept) ≡ false
      → offered key p now kept ≡ joined key p now kept
  new_offered many new room short agrees =
      cond-false (is_bad p) _ _ good ∙ cond-false (is_atomic key p) _ _ many
      ∙ cond-false (list_any (same_piece p) (held_of key kept)) _ _ new
      ∙ cond-false (is_full key kept) _ _ room ∙ cond-false (nat_lt (end_limit key) (end_of p)) _ _ short
      ∙ cond-false (list_any (contradicts p) (held_of key kept)) _ _ agrees

-- ---- the pieces of a datagram that was cut

module _ (key : PieceKey) (ps : List HeldPiece) (head body : List ℕ) (cut : IsCutInto key ps head body) where
  has_bytes : (p : HeldPiece) → IsOneOf p ps → 0 < length p.bytes
  has_bytes p one = not_bad_bytes p (cut.good p one)

  ends_within : (p : HeldPiece) → IsOneOf p ps → end_of p ≤ length body
  ends_within p one = end_within p body (cut.cuts.agrees p one)

  one_byte : (i : ℕ) (p q : HeldPiece) → IsOneOf p ps → IsOneOf q ps → covers i p ≡ true → covers i q ≡ true → p ≡ q
  one_byte i p q hp hq = cut_same ps head body cut.cuts has_bytes i p q hp hq

  own_byte : (p : HeldPiece) → IsOneOf p ps → covers p.offset p ≡ true
  own_byte p one = first_byte ps head body cut.cuts has_bytes p one

  -- two at one place are one
  one_place : (p q : HeldPiece) → IsOneOf p ps → IsOneOf q ps → p.offset ≡ q.offset → p ≡ q
  one_place p q hp hq same = one_byte q.offset p q hp hq (ap (λ (i : ℕ). covers i p) (sym same) ∙ own_byte p hp) (own_byte q hq)

  past_none : (p q : HeldPiece) → IsOneOf p ps → IsOneOf q ps → is_past p q ≡ true → ⊥
  past_none p q hp hq h =
      let parts = and_parts q.last (nat_lt (end_of q) (end_of p)) h in
      omega (arith, cut.cuts.ends q hq parts.0, ltb-true (end_of q) (end_of p) parts.1, ends_within p hp)

  -- two that share a byte are one: the first byte of the one that begins later
  one_shared : (p q : HeldPiece) → IsOneOf p ps → IsOneOf q ps → shares_a_byte p q ≡ true → p ≡ q
  one_shared p q hp hq share =
      let parts = and_parts (nat_lt p.offset (end_of q)) (nat_lt q.offset (end_of p)) share in
      let one : p.offset < end_of q = ltb-true p.offset (end_of q) parts.0 in
      let other : q.offset < end_of p = ltb-true q.offset (end_of p) parts.1 in
      elim (cases_lt p.offset q.offset) [
        | inl before ↦ one_byte q.offset p q hp hq (covers_from q.offset p (omega arith) other) (own_byte q hq)
        | inr not_before ↦ one_byte p.offset p q hp hq (own_byte p hp) (covers_from p.offset q (omega arith) one)
      ]

  -- and two that contradict each other are one
  one_contradicts : (p q : HeldPiece) → IsOneOf p ps → IsOneOf q ps → contradicts p q ≡ true → p ≡ q
  one_contradicts p q hp hq h = elim (or_cases (shares_a_byte p q || is_past p q) (is_past q p) h) [
    | inl first ↦ elim (or_cases (shares_a_byte p q) (is_past p q) first) [
      | inl share ↦ one_shared p q hp hq share
      | inr past ↦ absurd (past_none p q hp hq past)
    ]
    | inr past ↦ absurd (past_none q p hq hp past)
  ]

  -- a piece that is all of the datagram is the only one
  atomic_only : (p r : HeldPiece) → IsOneOf p ps → IsOneOf r ps → is_atomic key p ≡ true → r ≡ p
  atomic_only p r hp hr atomic =
      let parts = and_parts (is_six key && p.offset == 0) p.last atomic in
      let first : p.offset ≡ 0 = eqb-true p.offset 0 (and_parts (is_six key) (p.offset == 0) parts.0).1 in
      let bytes = has_bytes r hr in
      one_byte r.offset r p hr hp (own_byte r hr) (covers_from r.offset p (omega (arith, first))
      (omega (arith, cut.cuts.ends p hp parts.1, ends_within r hr)))

  atomic_whole : (p : HeldPiece) → IsOneOf p ps → is_atomic key p ≡ true → (p.head ≡ head) × (p.bytes ≡ body)
  atomic_whole p hp atomic =
      let parts = and_parts (is_six key && p.offset == 0) p.last atomic in
      let first : p.offset ≡ 0 = eqb-true p.offset 0 (and_parts (is_six key) (p.offset == 0) parts.0).1 in (
        cut.cuts.first p hp first,
        sym (ap (λ (i : ℕ). drop i body) (sym first) ∙ drop_there p body (cut.cuts.agrees p hp)
            ∙ ap (λ (l : List ℕ). p.bytes ++ l) (empty_end (end_of p) body (cut.cuts.ends p hp parts.1)) ∙ append-nil p.bytes),
      )

  -- ---- some of them are held

  module _ (hs : List HeldPiece) (apart : AreApart hs) (some : (q : HeldPiece) → IsOneOf q hs → IsOneOf q ps) where
    -- a further one is none of them
    new_none : (p : HeldPiece) → IsOneOf p ps → list_any (same_piece p) hs ≡ false → IsOneOf p hs → ⊥
    new_none p hp new one = both_ways (list_any (same_piece p) hs) new (any_one (same_piece p) hs p one (piece_same p))

    -- and contradicts none
    new_agrees : (p : HeldPiece) → IsOneOf p ps → list_any (same_piece p) hs ≡ false → list_any (contradicts p) hs ≡ false
    new_agrees p hp new = none_any (contradicts p) hs (λ q one h.
        new_none p hp new (subst (λ (x : HeldPiece). IsOneOf x hs) (sym (one_contradicts p q hp (some q one) h)) one))

    -- while one is missing they cut no datagram
    gap_there : (r : HeldPiece) → IsOneOf r ps → (IsOneOf r hs → ⊥) → body_of hs ≡ None
    gap_there r hr missing = elim (cases_Option (body_of hs)) [
      | inl none ↦ none
      | inr (other, there) ↦
          let cuts : Cuts hs (head_of hs) other = cuts_of hs other apart there in
          let l = cuts.last in
          let bytes = has_bytes r hr in
          let lt : r.offset < length other =
          omega (arith, cuts.ends l.0 l.1 l.2, cut.cuts.ends l.0 (some l.0 l.1) l.2, ends_within r hr) in
          let c = cut_covers hs (head_of hs) other cuts (λ q one. apart_bytes hs q apart one) r.offset lt in
          absurd (missing (subst (λ (x : HeldPiece). IsOneOf x hs) (one_byte r.offset c.0 r (some c.0 c.1) hr c.2 (own_byte r hr)) c.1))
    ]

    -- and once all are there, they cut it
    all_cut : ((q : HeldPiece) → IsOneOf q ps → IsOneOf q hs) → Cuts hs head body
    all_cut all = record {
      agrees = λ q one. cut.cuts.agrees q (some q one);
      once = λ i lt.
          let c = cut_covers ps head body cut.cuts has_bytes i lt in
          apart_count i hs c.0 apart (all c.0 c.1) c.2;
      last = (cut.cuts.last.0, all cut.cuts.last.0 cut.cuts.last.1, cut.cuts.last.2);
      ends = λ q one. cut.cuts.ends q (some q one);
      first = λ q one. cut.cuts.first q (some q one);
    }

    whole_there : ((q : HeldPiece) → IsOneOf q ps → IsOneOf q hs) → body_of hs ≡ Some body
    whole_there all = body_there hs head body (all_cut all) (λ q one. has_bytes q (some q one))

    head_of_all : ((q : HeldPiece) → IsOneOf q ps → IsOneOf q hs) → head_of hs ≡ head
    head_of_all all = head_there hs head body (all_cut all) (λ q one. has_bytes q (some q one))

-- ---- what is held after pieces of it came

-- the datagram is known, and a piece of it came
record Known (key : PieceKey) (done : List HeldPiece) (now : List PartialDatagram) : Type 0 where
  known : list_any (is_of key) now ≡ true
  one : (q : HeldPiece) × IsOneOf q done

-- the pieces that came are held, each once, and the other datagrams are those from before
record Progress (key : PieceKey) (kept : List PartialDatagram) (done : List HeldPiece) (now : List PartialDatagram) : Type 0 where
  here : (q : HeldPiece) → IsOneOf q (held_of key now) → IsOneOf q done
  there : (q : HeldPiece) → IsOneOf q done → IsOneOf q (held_of key now)
  apart : AreApart (held_of key now)
  others : without key now ≡ kept
  room : Known key done now ⊎ (now ≡ kept)

record Goes (key : PieceKey) (kept : List PartialDatagram) (done : List HeldPiece) (did : Offered) : Type 0 where
  answer : did.answer ≡ Held
  goes : Progress key kept done did.kept

at_first : (key : PieceKey) (kept : List PartialDatagram) → HasRoom key kept → Progress key kept [] kept
at_first key kept room =
    let none : held_of key kept ≡ [] = held_none key kept room.unknown in
    record {
      here = λ q one. subst (λ (hs : List HeldPiece). IsOneOf q hs) none one;
      there = λ q one. absurd one;
      apart = subst AreApart (sym none) tt;
      others = others_all key kept room.unknown;
      room = inr refl;
    }

module _ (key : PieceKey) (ps : List HeldPiece) (head body : List ℕ) (cut : IsCutInto key ps head body) (kept : List PartialDatagram)
    (free : HasRoom key kept) where
  not_full : (done : List HeldPiece) (now : List PartialDatagram) → Progress key kept done now → length (held_of key now) < 128
      → is_full key now ≡ false
  not_full done now so_far few = or_from _ _ (lt-leb 128 (length (held_of key now)) few) (elim so_far.room [
    | inl known ↦ and_left (not (list_any (is_of key) now)) _ (ap not known.known)
    | inr same ↦ subst (λ (ds : List PartialDatagram). (not (list_any (is_of key) ds) && nat_le (key_limit key) (length (filter
        (λ (d : PartialDatagram). same_holder key d.key) ds))) ≡ false)
        (sym same) (or_parts (nat_le 128 (length (held_of key kept))) _ free.room).1
  ])

  -- the piece that came again changes nothing
  again : (done : List HeldPiece) (now : List PartialDatagram) (p : HeldPiece) (at : Moment) → Progress key kept done now
      → ((q : HeldPiece) → IsOneOf q (done ++ p ∷ []) → IsOneOf q ps) → is_atomic key p ≡ false
      → list_any (same_piece p) (held_of key now) ≡ true → Goes key kept (done ++ p ∷ []) (offered key p at now)
  again done now p at so_far each many known =
      let hp : IsOneOf p ps = each p (one_behind done (p ∷ []) p (inl refl)) in
      let q = one_any (same_piece p) (held_of key now) known in
      let hq : IsOneOf q.0 ps = each q.0 (one_front done (p ∷ []) q.0 (so_far.here q.0 q.1)) in
      let same : q.0 ≡ p = one_place key ps head body cut q.0 p hq hp (sym (same_offset p q.0 q.2)) in
      let mine : IsOneOf p (held_of key now) = subst (λ (x : HeldPiece). IsOneOf x (held_of key now)) same q.1 in
      subst (Goes key kept (done ++ p ∷ [])) (sym (known_offered key p at now (cut.good p hp) many known)) (record {
        answer = refl;
        goes = record {
          here = λ x one. one_front done (p ∷ []) x (so_far.here x one);
          there = λ x one. elim (one_cases done (p ∷ []) x one) [
            | inl front ↦ so_far.there x front
            | inr behind ↦ elim behind [
              | inl is ↦ subst
                  (λ (y : HeldPiece). IsOneOf y (held_of key now)) (sym is) mine
              | inr never ↦ absurd never
            ]
          ];
          apart = so_far.apart;
          others = so_far.others;
          room = elim so_far.room [
            | inl k ↦ inl (record { known = k.known; one = (k.one.0, one_front done (p ∷ []) k.one.0 k.one.1) })
            | inr unchanged ↦ inr unchanged
          ];
        };
      })

  module _ (done : List HeldPiece) (now : List PartialDatagram) (p : HeldPiece) (at : Moment) (so_far : Progress key kept done now)
      (some : (q : HeldPiece) → IsOneOf q done → IsOneOf q ps) (hp : IsOneOf p ps) where
    abbrev held_now : List HeldPiece
    held_now = held_of key now

    abbrev with_p : List HeldPiece
    with_p = held_now ++ p ∷ []

    held_some : (q : HeldPiece) → IsOneOf q held_now → IsOneOf q ps
    held_some q one = some q (so_far.here q one)

    with_some : (q : HeldPiece) → IsOneOf q with_p → IsOneOf q ps
    with_some q one = elim (one_cases held_now (p ∷ []) q one) [
      | inl front ↦ held_some q front
      | inr behind ↦ elim behind [ inl is ↦ subst (λ (y : HeldPiece). IsOneOf y ps) (sym is) hp | inr never ↦ absurd never ]
    ]

    with_apart : list_any (same_piece p) held_now ≡ false → AreApart with_p
    with_apart new =
        apart_push held_now p so_far.apart (has_bytes key ps head body cut p hp)
        (new_agrees key ps head body cut held_now so_far.apart held_some p hp new)

    -- a piece that comes for the first time joins those that are held
    joins : (r : HeldPiece) → IsOneOf r ps → (IsOneOf r held_now → ⊥) → is_atomic key p ≡ false → list_any (same_piece p) held_now ≡ false
        → offered key p at now ≡ joined key p at now
    joins r hr missing many new =
        let few : length held_now < length ps = fewer held_now ps r so_far.apart held_some hr missing in
        new_offered key p at now (cut.good p hp) many new (not_full done now so_far (omega (arith, cut.few)))
        (le-ltb (end_limit key) (end_of p) (omega (arith, cut.fits, ends_within key ps head body cut p hp)))
        (new_agrees key ps head body cut held_now so_far.apart held_some p hp new)

    -- and is held while one is missing
    first_time : (r : HeldPiece) → IsOneOf r ps → (IsOneOf r (done ++ p ∷ []) → ⊥) → is_atomic key p ≡ false
        → list_any (same_piece p) held_now ≡ false → Goes key kept (done ++ p ∷ []) (offered key p at now)
    first_time r hr missing many new =
        let gap : body_of with_p ≡ None = gap_there key ps head body cut with_p (with_apart new) with_some r hr (λ one.
        missing (elim (one_cases held_now (p ∷ []) r one) [
          | inl front ↦ one_front done (p ∷ []) r (so_far.here r front)
          | inr behind ↦ one_behind done (p ∷ []) r behind
        ])) in
        let does : offered key p at now ≡ record { answer = Held; kept = kept_with key p at now } =
        joins r hr (λ one. missing (one_front done (p ∷ []) r (so_far.here r one))) many new ∙ ap (told key p at now) gap in
        subst (Goes key kept (done ++ p ∷ [])) (sym does) (record {
          answer = refl;
          goes = record {
            here = λ x one. elim (one_cases held_now (p ∷ []) x (subst
                (λ (hs : List HeldPiece). IsOneOf x hs) (held_kept key p at now) one)) [
                  | inl front ↦ one_front done (p ∷ []) x (so_far.here x front)
                  | inr behind ↦ one_behind done (p ∷ []) x behind
                ];
            there = λ x one. subst (λ (hs : List HeldPiece). IsOneOf x hs)
                (sym (held_kept key p at now)) (elim (one_cases done (p ∷ []) x one) [
                  | inl front ↦ one_front held_now (p ∷ []) x (so_far.there x front)
                  | inr behind ↦ one_behind held_now (p ∷ []) x behind
                ]);
            apart = subst AreApart (sym (held_kept key p at now)) (with_apart new);
            others = others_kept key p at now ∙ so_far.others;
            room = inl (record { known = known_kept key p at now; one = (p, one_behind done (p ∷ []) p (inl refl)) });
          };
        })

    -- the last one that was missing makes it whole
    completes : (r : HeldPiece) → IsOneOf r ps → (IsOneOf r done → ⊥) → ((q : HeldPiece) → IsOneOf q ps → IsOneOf q done ⊎ (q ≡ p))
        → is_atomic key p ≡ false → offered key p at now ≡ record { answer = Whole head body; kept = kept }
    completes r hr missing all many =
        let same : r ≡ p = elim (all r hr) [ inl came ↦ absurd (missing came) | inr is ↦ is ] in
        let new : list_any (same_piece p) held_now ≡ false = none_any (same_piece p) held_now (λ q one h.
        missing (so_far.here r (subst (λ (x : HeldPiece). IsOneOf x held_now)
        (one_place key ps head body cut q p (held_some q one) hp (sym (same_offset p q h)) ∙ sym same) one))) in
        let there : (q : HeldPiece) → IsOneOf q ps → IsOneOf q with_p = λ q one. elim (all q one) [
          | inl came ↦ one_front held_now (p ∷ []) q (so_far.there q came)
          | inr is ↦ one_behind held_now (p ∷ []) q (inl is)
        ] in
        let whole : body_of with_p ≡ Some body = whole_there key ps head body cut with_p (with_apart new) with_some there in
        joins r hr (λ one. missing (so_far.here r one)) many new ∙ ap (told key p at now) whole
        ∙ ap (λ (h : List ℕ). record { answer = Whole h body; kept = without key now }) (head_of_all key ps head body cut with_p
        (with_apart new) with_some there)
        ∙ ap (λ (ds : List PartialDatagram). record { answer = Whole head body; kept = ds }) so_far.others

    -- also where it is all of the datagram
    completes_alone : (r : HeldPiece) → IsOneOf r ps → (IsOneOf r done → ⊥) → is_atomic key p ≡ true
        → offered key p at now ≡ record { answer = Whole head body; kept = kept }
    completes_alone r hr missing atomic =
        let all = atomic_whole key ps head body cut p hp atomic in
        let same : now ≡ kept = elim so_far.room [
          | inl k ↦ absurd (missing (subst (λ (x : HeldPiece). IsOneOf x done)
              (atomic_only key ps head body cut p k.one.0 hp (some k.one.0 k.one.1) atomic
              ∙ sym (atomic_only key ps head body cut p r hp hr atomic)) k.one.1))
          | inr unchanged ↦ unchanged
        ] in
        atomic_offered key p at now (cut.good p hp) atomic
        ∙ ap (λ (h : List ℕ). record { answer = Whole h p.bytes; kept = now }) all.0
        ∙ ap (λ (b : List ℕ). record { answer = Whole head b; kept = now }) all.1
        ∙ ap (λ (ds : List PartialDatagram). record { answer = Whole head body; kept = ds }) same

  -- one more comes, and one is still missing
  goes_on : (done : List HeldPiece) (now : List PartialDatagram) (a : Arrival) → Progress key kept done now
      → IsComing ps (done ++ a.piece ∷ [])
      → Goes key kept (done ++ a.piece ∷ []) (offered key a.piece a.at now)
  goes_on done now a so_far coming =
      let p : HeldPiece = a.piece in
      let mine : IsOneOf p (done ++ p ∷ []) = one_behind done (p ∷ []) p (inl refl) in
      let hp : IsOneOf p ps = coming.each p mine in
      let some : (q : HeldPiece) → IsOneOf q done → IsOneOf q ps = λ q one. coming.each q (one_front done (p ∷ []) q one) in
      let r = coming.missing in
      elim (cases_Bool (is_atomic key p)) [
        | inl atomic ↦ absurd (r.2 (subst (λ (x : HeldPiece). IsOneOf x (done ++ p ∷ []))
            (sym (atomic_only key ps head body cut p r.0 hp r.1 atomic)) mine))
        | inr many ↦ elim (cases_Bool (list_any (same_piece p) (held_of key now))) [
          | inl known ↦ again done now p a.at so_far coming.each many known
          | inr new ↦ first_time done now p a.at so_far some hp r.0 r.1 r.2 many new
        ]
      ]

  -- fewer came
  coming_front : (front more : List HeldPiece) → IsComing ps (front ++ more) → IsComing ps front
  coming_front front more coming = record {
    each = λ q one. coming.each q (one_front front more q one);
    missing = (coming.missing.0, coming.missing.1, λ one. coming.missing.2 (one_front front more coming.missing.0 one));
  }

  after_some : (done : List HeldPiece) (now : List PartialDatagram) (came : List Arrival) → Progress key kept done now
      → IsComing ps (done ++ pieces_in came)
      → Progress key kept (done ++ pieces_in came) (after key came now)
  after_some done now [] so_far coming = subst (λ (qs : List HeldPiece). Progress key kept qs now) (sym (append-nil done)) so_far
  after_some done now (a ∷ later) so_far coming =
      let turned : (done ++ a.piece ∷ []) ++ pieces_in later ≡ done ++ (a.piece ∷ pieces_in later) = append_assoc done (a.piece ∷ [])
      (pieces_in later) in
      let coming' : IsComing ps ((done ++ a.piece ∷ []) ++ pieces_in later) = subst (IsComing ps) (sym turned) coming in
      let next = goes_on done now a so_far (coming_front (done ++ a.piece ∷ []) (pieces_in later) coming') in
      subst (λ (qs : List HeldPiece). Progress key kept qs (after key (a ∷ later) now)) turned
      (after_some (done ++ a.piece ∷ []) (offered key a.piece a.at now).kept later next.goes coming')

  completed : (done : List HeldPiece) (now : List PartialDatagram) (next : Arrival) → Progress key kept done now → IsComing ps done
      → Completes ps done next.piece → offered key next.piece next.at now ≡ record { answer = Whole head body; kept = kept }
  completed done now next so_far coming last =
      let r = coming.missing in
      elim (cases_Bool (is_atomic key next.piece)) [
        | inl atomic ↦ completes_alone done now next.piece next.at so_far coming.each last.one r.0 r.1 r.2 atomic
        | inr many ↦ completes done now next.piece next.at so_far coming.each last.one r.0 r.1 r.2 last.all many
      ]

pub any_order : AnyOrder
any_order = record {
  held = λ key ps head body kept came next cut free coming.
      let front : IsComing ps (pieces_in came) = coming_front key ps head body cut kept free (pieces_in came) (next.piece ∷ []) coming in
      (goes_on key ps head body cut kept free (pieces_in came) (after key came kept) next
      (after_some key ps head body cut kept free [] kept came (at_first key kept free) front) coming).answer;
  whole = λ key ps head body kept came next cut free coming last.
      completed key ps head body cut kept free (pieces_in came) (after key came kept) next
      (after_some key ps head body cut kept free [] kept came (at_first key kept free) coming) coming last;
}
