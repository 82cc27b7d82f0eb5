-- What is read of bytes, and where reading stops.
use Rattle.std.proofs.Common.{◌≡◌, inl, inr, ℕ, ◌+◌, ◌-◌, ◌≤◌, ◌<◌, List, [], ◌∷◌, ◌++◌, length, take, drop}
use Rattle.std.proofs.Common.{refl, sym, ap, subst, ◌∙◌, arith, append_assoc}
use Rattle.std.specs.Prelude.{IsTrue, Ok, Err}
use Rattle.std.specs.List.{AllByRecursion}
use Rattle.std.proofs.lemmas.List.{nil_from_length, take-append-drop, drop-drop, length-append, length-take-le, length-drop, append-nil}
use Rattle.aftr_base.specs.Bytes.{u16_at, u32_at, be16, be32, IsBytes}
use Rattle.aftr_base.proofs.OctetLaws.{u16_spelled, u16_read, u32_read, u16_below, u32_below}
use Rattle.ipfix_writer.specs.Grammar.{IpfixHead, IpfixSet, IpfixMessage, set_bytes, sets_bytes, head_bytes, message_len}
use Rattle.ipfix_writer.specs.Grammar.{is_set_id, FitsHead, FitsSet, SpellsMessage, head_of, first_set, message_of}
use Rattle.ipfix_writer.proofs.GrammarLaws.{first_read, set_length, behind_head, message_read}
use Rattle.ipfix_writer.proofs.DraftLaws.{message_length, sets_push, all_push, spelled_again}
use Rattle.ipfix_reader.specs.Reading.{AcceptsMessages, HasHeader, SpellsFirst, BeginsWithSet, IsFirstBad}

-- ---- the header

in_a_row : (version len time seq domain rest : List ℕ)
    → version ++ len ++ time ++ seq ++ domain ++ rest ≡ version ++ (len ++ (time ++ (seq ++ (domain ++ rest))))
in_a_row version len time seq domain rest = simp append_assoc

head_again : (bytes : List ℕ) → IsBytes bytes → 16 ≤ length bytes → u16_at 0 bytes ≡ 10
    → bytes ≡ head_bytes (u16_at 2 bytes) (head_of bytes) ++ drop 16 bytes
head_again bytes fits room version =
    let len : List ℕ = be16 (u16_at 2 bytes) in
    let time : List ℕ = be32 (u32_at 4 bytes) in
    let seq : List ℕ = be32 (u32_at 8 bytes) in
    u16_read 0 bytes fits (omega arith) ∙ ap (λ n. be16 n ++ drop 2 bytes) version
    ∙ ap (λ t. be16 10 ++ t) (u16_read 2 bytes fits (omega arith)
    ∙ ap (λ t. len ++ t) (u32_read 4 bytes fits (omega arith)
    ∙ ap (λ t. time ++ t) (u32_read 8 bytes fits (omega arith)
    ∙ ap (λ t. seq ++ t) (u32_read 12 bytes fits (omega arith)))))
    ∙ sym (in_a_row (be16 10) len time seq (be32 (u32_at 12 bytes)) (drop 16 bytes))

fits_head : (bytes : List ℕ) → IsBytes bytes → FitsHead (head_of bytes)
fits_head bytes fits = record { time = u32_below 4 bytes fits; seq = u32_below 8 bytes fits; domain = u32_below 12 bytes fits }

pub header_there : (bytes : List ℕ) → IsBytes bytes → 16 ≤ length bytes → u16_at 0 bytes ≡ 10 → u16_at 2 bytes ≡ length bytes
    → HasHeader bytes
header_there bytes fits room version counted =
    let below = u16_below 2 bytes fits in (
      head_of bytes,
      drop 16 bytes,
      fits_head bytes fits,
      omega arith,
      head_again bytes fits room version ∙ ap (λ n. head_bytes n (head_of bytes) ++ drop 16 bytes) counted,
    )

pub header_read : (bytes : List ℕ) → HasHeader bytes → (16 ≤ length bytes) × (u16_at 0 bytes ≡ 10) × (u16_at 2 bytes ≡ length bytes)
unfolding be16 be32
header_read bytes header =
    let h : IpfixHead = header.0 in
    let whole = header.4 in
    let all : length bytes ≡ 16 + length header.1 = ap length whole ∙ omega arith in (
      omega arith,
      u16_spelled 0 10 bytes _ (omega arith) whole,
      u16_spelled 2 (length bytes) bytes _ header.3 (ap (drop 2) whole),
    )

-- ---- the first set

set_again : (bytes : List ℕ) → IsBytes bytes → 4 ≤ u16_at 2 bytes → u16_at 2 bytes ≤ length bytes
    → (bytes ≡ set_bytes (first_set bytes) ++ drop (u16_at 2 bytes) bytes) × (u16_at 2 bytes ≡ 4 + length (first_set bytes).body)
set_again bytes fits four within =
    let n : ℕ = u16_at 2 bytes in
    let content : List ℕ = drop 4 bytes in
    let body : List ℕ = take (n - 4) content in
    let id : List ℕ = be16 (u16_at 0 bytes) in
    let left : n - 4 ≤ length content = omega (arith, length-drop 4 bytes) in
    let len : n ≡ 4 + length body = omega (arith, length-take-le (n - 4) content left) in
    let behind : drop (n - 4) content ≡ drop n bytes = drop-drop (n - 4) 4 bytes ∙ ap (λ k. drop k bytes) (omega arith) in
    let parts : content ≡ body ++ drop n bytes = sym (take-append-drop (n - 4) content) ∙ ap (λ t. body ++ t) behind in (
      u16_read 0 bytes fits (omega arith)
          ∙ ap (λ t. id ++ t) (u16_read 2 bytes fits (omega arith) ∙ (λ i. be16 (len i) ++ parts i))
          ∙ simp append_assoc,
      len,
    )

pub set_there : (bytes : List ℕ) → IsBytes bytes → 4 ≤ u16_at 2 bytes → u16_at 2 bytes ≤ length bytes
    → IsTrue (is_set_id (u16_at 0 bytes)) → SpellsFirst bytes (first_set bytes) (drop (u16_at 2 bytes) bytes)
set_there bytes fits four within used =
    let again = set_again bytes fits four within in
    let below = u16_below 2 bytes fits in
    record {
      fits = record { used = used; id = u16_below 0 bytes fits; len = omega (arith, again.1) };
      spelled = again.0;
    }

pub set_read : (bytes : List ℕ) → BeginsWithSet bytes
    → (4 ≤ length bytes) × IsTrue (is_set_id (u16_at 0 bytes)) × (4 ≤ u16_at 2 bytes) × (u16_at 2 bytes ≤ length bytes)
set_read bytes begins =
    let s : IpfixSet = begins.0 in
    let first = first_read bytes s begins.1 begins.2.fits begins.2.spelled in
    let len = first.len in
    (first.long, subst (λ n. IsTrue (is_set_id n)) (sym first.id) begins.2.fits.used, omega arith, first.within)

-- ---- set by set

-- behind the header stand sets, and then the rest
pub record Reached (bytes rest : List ℕ) : Type 0 where
  pub before : List IpfixSet
  pub fits : AllByRecursion FitsSet before
  pub spelled : drop 16 bytes ≡ sets_bytes before ++ rest
  pub long : 16 ≤ length bytes

pub reached_start : (bytes rest : List ℕ) → 16 ≤ length bytes → rest ≡ drop 16 bytes → Reached bytes rest
reached_start bytes rest long is = record { before = []; fits = tt; spelled = sym is; long = long }

pub reached_more : (bytes rest : List ℕ) (s : IpfixSet) (behind : List ℕ) → Reached bytes rest → SpellsFirst rest s behind
    → Reached bytes behind
reached_more bytes rest s behind so first =
    let old : List ℕ = sets_bytes so.before in
    record {
      before = so.before ++ s ∷ [];
      fits = all_push so.before s so.fits first.fits;
      spelled = so.spelled ∙ ap (λ t. old ++ t) first.spelled ∙ sym (append_assoc old (set_bytes s) behind)
          ∙ ap (λ t. t ++ behind) (sym (sets_push so.before s));
      long = so.long;
    }

pub reached_place : (bytes rest : List ℕ) (so : Reached bytes rest) → length bytes ≡ 16 + (length (sets_bytes so.before) + length rest)
reached_place bytes rest so =
    let long = so.long in
    omega (arith, length-drop 16 bytes, ap length so.spelled, length-append (sets_bytes so.before) rest)

pub shorter : (rest : List ℕ) (s : IpfixSet) (behind : List ℕ) → SpellsFirst rest s behind → length behind < length rest
shorter rest s behind first = omega (arith, ap length first.spelled, length-append (set_bytes s) behind, set_length s)

-- ---- where reading ends

-- at the end of the bytes they are the message of these sets
pub reached_all : (bytes rest : List ℕ) → HasHeader bytes → Reached bytes rest → length rest ≡ 0 → SpellsMessage bytes (message_of bytes)
reached_all bytes rest header so end =
    let h : IpfixHead = header.0 in
    let m : IpfixMessage = record { head = h; sets = so.before } in
    let short = header.3 in
    let len : length bytes ≡ message_len m = omega (arith, reached_place bytes rest so) in
    let none : rest ≡ [] = nil_from_length rest end in
    let all : header.1 ≡ sets_bytes so.before =
    sym (behind_head bytes (length bytes) h header.1 header.4) ∙ so.spelled ∙ ap (λ t. sets_bytes so.before ++ t) none
    ∙ append-nil (sets_bytes so.before) in
    spelled_again bytes m record {
      fits = record { head = header.2; sets = so.fits; len = omega arith };
      spelled = header.4 ∙ (λ i. head_bytes (len i) h ++ all i);
    }

-- before it, the first bytes that are no set are the fault
pub reached_bad : (bytes rest : List ℕ) → HasHeader bytes → Reached bytes rest → 0 < length rest → ¬ BeginsWithSet rest
    → IsFirstBad bytes (length bytes - length rest)
reached_bad bytes rest header so more bad =
    let h : IpfixHead = header.0 in
    let all : header.1 ≡ sets_bytes so.before ++ rest = sym (behind_head bytes (length bytes) h header.1 header.4) ∙ so.spelled in
    inr (
      so.before,
      record {
        header = h;
        rest = rest;
        fits = so.fits;
        counted = (header.3, header.2);
        spelled = header.4 ∙ ap (λ t. head_bytes (length bytes) h ++ t) all
            ∙ sym (append_assoc (head_bytes (length bytes) h) (sets_bytes so.before) rest);
        more = more;
        no_set = bad;
        place = omega (arith, reached_place bytes rest so);
      },
    )

-- ---- what is spelled isn't refused

has_header : (bytes : List ℕ) (m : IpfixMessage) → SpellsMessage bytes m → HasHeader bytes
has_header bytes m spells =
    let len : message_len m ≡ length bytes = sym (message_length bytes m spells) in
    let fits = spells.fits.len in (
      m.head,
      sets_bytes m.sets,
      spells.fits.head,
      omega arith,
      spells.spelled ∙ ap (λ n. head_bytes n m.head ++ sets_bytes m.sets) len,
    )

-- bytes behind some sets, where all of it is sets, begin with a set
next_set : (all before : List IpfixSet) (rest : List ℕ) → AllByRecursion FitsSet all → AllByRecursion FitsSet before
    → sets_bytes all ≡ sets_bytes before ++ rest → 0 < length rest → BeginsWithSet rest
next_set [] [] rest fits sets whole more = absurd (omega (arith, ap length whole))
next_set (s ∷ ss) [] rest fits sets whole more = (s, sets_bytes ss, record { fits = fits.0; spelled = sym whole })
next_set [] (b ∷ bs) rest fits sets whole more =
    let other = first_read [] b (sets_bytes bs ++ rest) sets.0 (whole ∙ append_assoc (set_bytes b) (sets_bytes bs) rest) in
    let long = other.long in
    absurd (omega arith)
next_set (s ∷ ss) (b ∷ bs) rest fits sets whole more =
    let bytes : List ℕ = sets_bytes (s ∷ ss) in
    let one = first_read bytes s (sets_bytes ss) fits.0 refl in
    let other = first_read bytes b (sets_bytes bs ++ rest) sets.0 (whole ∙ append_assoc (set_bytes b) (sets_bytes bs) rest) in
    next_set ss bs rest fits.1 sets.1 (sym one.behind ∙ other.behind) more

not_both : (bytes : List ℕ) (at : ℕ) (m : IpfixMessage) → SpellsMessage bytes m → IsFirstBad bytes at → ⊥
not_both bytes at m spells bad = elim bad [
  | inl header ↦ header.1 (has_header bytes m spells)
  | inr stop ↦
      let s = stop.1 in
      let sets : List ℕ = sets_bytes stop.0 in
      let whole : bytes ≡ head_bytes (length bytes) s.header ++ (sets ++ s.rest) =
      s.spelled ∙ append_assoc (head_bytes (length bytes) s.header) sets s.rest in
      let same : sets_bytes m.sets ≡ sets ++ s.rest =
      sym (behind_head bytes (message_len m) m.head (sets_bytes m.sets) spells.spelled)
      ∙ behind_head bytes (length bytes) s.header (sets ++ s.rest) whole in
      s.no_set (next_set m.sets stop.0 s.rest spells.fits.sets s.fits same s.more)
]

-- a fault is none of a message, and a message is read as it
pub refused : (bytes : List ℕ) (at : ℕ) → IsFirstBad bytes at → AcceptsMessages bytes (Err record { offset = at })
refused bytes at bad m spells = absurd (not_both bytes at m spells bad)

pub accepted : (bytes : List ℕ) → AcceptsMessages bytes (Ok (message_of bytes))
accepted bytes m spells = ap Ok (message_read bytes m spells)
