-- A message that grows set by set.
use Rattle.std.proofs.Common.{◌≡◌, ℕ, ◌+◌, ◌^◌, ◌<◌, List, [], ◌∷◌, ◌++◌, length, sym, ap, subst, ◌∙◌, arith}
use Rattle.std.proofs.Common.{append_assoc}
use Rattle.std.specs.List.{AllByRecursion}
use Rattle.std.proofs.lemmas.List.{length-append, append-nil}
use Rattle.std.proofs.lemmas.List.Concat.{flat_map-append}
use Rattle.aftr_base.specs.Bytes.{be16, be32}
use Rattle.ipfix_writer.specs.Grammar.{IpfixHead, IpfixSet, IpfixMessage, set_bytes, sets_bytes, head_bytes, message_len}
use Rattle.ipfix_writer.specs.Grammar.{FitsHead, FitsSet, SpellsMessage, message_of}
use Rattle.ipfix_writer.specs.Draft.{IpfixDraft, empty_message, with_set, with_len_of}
use Rattle.ipfix_writer.proofs.GrammarLaws.{message_read}

-- what stands in the length makes no difference
len_again : (l : ℕ) (h : IpfixHead) (rest : List ℕ) → with_len_of (head_bytes l h ++ rest) ≡ head_bytes (16 + length rest) h ++ rest
unfolding be16 be32
len_again l h rest =
    let len : length (head_bytes l h ++ rest) ≡ 16 + length rest = omega arith in
    ap (λ n. be16 10 ++ be16 n ++ (be32 h.time ++ be32 h.seq ++ be32 h.domain ++ rest)) len

pub message_length : (bytes : List ℕ) (m : IpfixMessage) → SpellsMessage bytes m → length bytes ≡ message_len m
unfolding be16 be32
message_length bytes m spells = ap length spells.spelled ∙ omega arith

-- the same of a draft with these bytes
pub draft_length : (bytes : List ℕ) (room : ℕ) (d : IpfixDraft) → SpellsMessage bytes (message_of bytes)
    → record { message = message_of bytes; room = room } ≡ d → length bytes ≡ message_len d.message
draft_length bytes room d spells is = message_length bytes (message_of bytes) spells ∙ ap (λ (e : IpfixDraft). message_len e.message) is

pub all_push : (sets : List IpfixSet) (s : IpfixSet) → AllByRecursion FitsSet sets → FitsSet s → AllByRecursion FitsSet (sets ++ s ∷ [])
all_push [] s fits last = (last, tt)
all_push (x ∷ xs) s fits last = (fits.0, all_push xs s fits.1 last)

pub sets_push : (sets : List IpfixSet) (s : IpfixSet) → sets_bytes (sets ++ s ∷ []) ≡ sets_bytes sets ++ set_bytes s
sets_push sets s = flat_map-append set_bytes sets (s ∷ []) ∙ ap (λ t. sets_bytes sets ++ t) (append-nil (set_bytes s))

-- one more set, and the length counted anew
pub set_put : (bytes : List ℕ) (m : IpfixMessage) (s : IpfixSet) → SpellsMessage bytes m → FitsSet s
    → length bytes + (4 + length s.body) < 2 ^ 16
    → SpellsMessage (with_len_of (bytes ++ set_bytes s)) (with_set m s.id s.body)
unfolding be16
set_put bytes m s spells fits within =
    let sets : List IpfixSet = m.sets ++ s ∷ [] in
    let old : List ℕ = sets_bytes m.sets in
    let grown : bytes ++ set_bytes s ≡ head_bytes (message_len m) m.head ++ (old ++ set_bytes s) =
    ap (λ t. t ++ set_bytes s) spells.spelled ∙ append_assoc (head_bytes (message_len m) m.head) old (set_bytes s) in
    let all : old ++ set_bytes s ≡ sets_bytes sets = sym (sets_push m.sets s) in
    let len : length bytes ≡ message_len m = message_length bytes m spells in
    let more : length (sets_bytes sets) ≡ length old + (4 + length s.body) =
    ap length (sets_push m.sets s) ∙ length-append old (set_bytes s) ∙ omega arith in
    record {
      fits = record { head = spells.fits.head; sets = all_push m.sets s spells.fits.sets fits; len = omega arith };
      spelled = ap with_len_of grown ∙ len_again (message_len m) m.head (old ++ set_bytes s)
          ∙ ap (λ t. head_bytes (16 + length t) m.head ++ t) all;
    }

-- a header alone is a message without sets
pub empty_spelled : (bytes : List ℕ) (time seq domain : ℕ) → FitsHead (empty_message time seq domain).head
    → bytes ≡ head_bytes 16 (empty_message time seq domain).head
    → SpellsMessage bytes (empty_message time seq domain)
empty_spelled bytes time seq domain fits is = record {
  fits = record { head = fits; sets = tt; len = omega arith };
  spelled = is ∙ sym (append-nil (head_bytes 16 (empty_message time seq domain).head));
}

-- bytes that spell a message are what a draft may have
pub spelled_again : (bytes : List ℕ) (m : IpfixMessage) → SpellsMessage bytes m → SpellsMessage bytes (message_of bytes)
spelled_again bytes m spells = subst (SpellsMessage bytes) (sym (message_read bytes m spells)) spells
