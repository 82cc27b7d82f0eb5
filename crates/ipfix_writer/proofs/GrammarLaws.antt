-- The bytes of a message and what is read of them.
use Rattle.std.proofs.Common.{◌≡◌, ℕ, zero, suc, ◌+◌, ◌-◌, ◌≤◌, List, [], ◌∷◌, ◌++◌, length, take, drop}
use Rattle.std.proofs.Common.{refl, sym, ap, ◌∙◌, arith}
use Rattle.std.specs.Prelude.{nat_lt}
use Rattle.std.specs.List.{AllByRecursion}
use Rattle.std.proofs.lemmas.Bool.{cond-false, le-ltb}
use Rattle.std.proofs.lemmas.List.{take_at, drop_at, drop-drop, length-append}
use Rattle.aftr_base.specs.Bytes.{u16_at, u32_at, be16, be32}
use Rattle.aftr_base.proofs.OctetLaws.{u16_spelled, u32_spelled}
use Rattle.ipfix_writer.specs.Grammar.{IpfixHead, IpfixSet, IpfixMessage, set_bytes, sets_bytes, head_bytes, message_len}
use Rattle.ipfix_writer.specs.Grammar.{FitsHead, FitsSet, SpellsMessage, head_of, first_set, sets_within, sets_of, message_of}

-- ---- what is spelled is read back

-- the set at the front, and where the bytes behind it begin
pub record IsFirst (bytes : List ℕ) (s : IpfixSet) (rest : List ℕ) : Type 0 where
  pub long : 4 ≤ length bytes
  pub id : u16_at 0 bytes ≡ s.id
  pub len : u16_at 2 bytes ≡ 4 + length s.body
  pub within : u16_at 2 bytes ≤ length bytes
  pub is : first_set bytes ≡ s
  pub behind : drop (u16_at 2 bytes) bytes ≡ rest

pub first_read : (bytes : List ℕ) (s : IpfixSet) (rest : List ℕ) → FitsSet s → bytes ≡ set_bytes s ++ rest → IsFirst bytes s rest
unfolding be16
first_read bytes s rest fits whole =
    let body : List ℕ = s.body in
    let at_id : u16_at 0 bytes ≡ s.id = u16_spelled 0 s.id bytes (be16 (4 + length body) ++ (body ++ rest)) fits.id whole in
    let at_len : u16_at 2 bytes ≡ 4 + length body = u16_spelled 2 (4 + length body) bytes (body ++ rest) fits.len (ap (drop 2) whole) in
    let all : length bytes ≡ 4 + (length body + length rest) = ap length whole ∙ omega (arith, length-append body rest) in
    let content : drop 4 bytes ≡ body ++ rest = ap (drop 4) whole in
    let at_body : take (u16_at 2 bytes - 4) (drop 4 bytes) ≡ body =
    ap (λ t. take (u16_at 2 bytes - 4) t) content ∙ take_at body rest (u16_at 2 bytes - 4) (omega arith) in
    record {
      long = omega arith;
      id = at_id;
      len = at_len;
      within = omega arith;
      is = λ i. record { id = at_id i; body = at_body i };
      behind = ap (λ n. drop n bytes) at_len ∙ sym (drop-drop (length body) 4 bytes) ∙ ap (drop (length body)) content
          ∙ drop_at body rest (length body) refl;
    }

pub set_length : (s : IpfixSet) → length (set_bytes s) ≡ 4 + length s.body
unfolding be16
set_length s = omega arith

-- a bound that is large enough doesn't matter
pub sets_read : (n : ℕ) (sets : List IpfixSet) → length (sets_bytes sets) ≤ n → AllByRecursion FitsSet sets
    → sets_within n (sets_bytes sets) ≡ sets
unfolding sets_within
sets_read zero [] room fits = refl
sets_read zero (s ∷ ss) room fits =
    let first = first_read (sets_bytes (s ∷ ss)) s (sets_bytes ss) fits.0 refl in
    let long = first.long in
    absurd (omega arith)
sets_read (suc n) [] room fits = refl
sets_read (suc n) (s ∷ ss) room fits =
    let bytes : List ℕ = sets_bytes (s ∷ ss) in
    let first = first_read bytes s (sets_bytes ss) fits.0 refl in
    let long = first.long in
    let all : length bytes ≡ length (set_bytes s) + length (sets_bytes ss) = length-append (set_bytes s) (sets_bytes ss) in
    let len = set_length s in
    cond-false (nat_lt (length bytes) 4) [] (first_set bytes ∷ sets_within n (drop (u16_at 2 bytes) bytes)) (le-ltb (length bytes) 4 long)
    ∙ (λ i. first.is i ∷ sets_within n (first.behind i))
    ∙ ap (λ t. s ∷ t) (sets_read n ss (omega arith) fits.1)

head_read : (bytes : List ℕ) (len : ℕ) (h : IpfixHead) (rest : List ℕ) → FitsHead h → bytes ≡ head_bytes len h ++ rest
    → head_of bytes ≡ h
unfolding be16 be32
head_read bytes len h rest fits whole =
    let at_time : u32_at 4 bytes ≡ h.time = u32_spelled 4 h.time bytes _ fits.time (ap (drop 4) whole) in
    let at_seq : u32_at 8 bytes ≡ h.seq = u32_spelled 8 h.seq bytes _ fits.seq (ap (drop 8) whole) in
    let at_domain : u32_at 12 bytes ≡ h.domain = u32_spelled 12 h.domain bytes _ fits.domain (ap (drop 12) whole) in
    λ i. record { time = at_time i; seq = at_seq i; domain = at_domain i }

pub behind_head : (bytes : List ℕ) (len : ℕ) (h : IpfixHead) (rest : List ℕ) → bytes ≡ head_bytes len h ++ rest → drop 16 bytes ≡ rest
unfolding be16 be32
behind_head bytes len h rest whole = ap (drop 16) whole

-- bytes that spell a message are read as it
pub message_read : (bytes : List ℕ) (m : IpfixMessage) → SpellsMessage bytes m → message_of bytes ≡ m
unfolding message_of
message_read bytes m spells =
    let behind : drop 16 bytes ≡ sets_bytes m.sets = behind_head bytes (message_len m) m.head (sets_bytes m.sets) spells.spelled in
    let at_head : head_of bytes ≡ m.head = head_read bytes (message_len m) m.head (sets_bytes m.sets) spells.fits.head spells.spelled in
    let at_sets : sets_of (drop 16 bytes) ≡ m.sets =
    ap sets_of behind ∙ sets_read (length (sets_bytes m.sets)) m.sets (omega arith) spells.fits.sets in
    λ i. record { head = at_head i; sets = at_sets i }

-- ---- the parts of what is read

pub head_is : (bytes : List ℕ) → (message_of bytes).head ≡ head_of bytes
unfolding message_of
head_is bytes = refl

pub sets_is : (bytes : List ℕ) → (message_of bytes).sets ≡ sets_of (drop 16 bytes)
unfolding message_of
sets_is bytes = refl

pub head_length : (len : ℕ) (h : IpfixHead) → length (head_bytes len h) ≡ 16
unfolding be16 be32
head_length len h = refl
