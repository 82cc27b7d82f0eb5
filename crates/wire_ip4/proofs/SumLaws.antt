-- A header bears its checksum where it was computed, and where it was updated.
use Rattle.std.proofs.Common.{◌≡◌, ℕ, ◌+◌, ◌-◌, ◌*◌, ◌/◌, ◌%◌, ◌^◌, ◌<◌, ◌≤◌, Bool, true, false, List, [], ◌∷◌, ◌++◌, zero, suc, eqb, cond}
use Rattle.std.proofs.Common.{refl, ap, ◌∙◌, arith, append_assoc}
use Rattle.std.specs.Prelude.{sum}
use Rattle.std.specs.List.{AllByRecursion}
use Rattle.std.proofs.lemmas.Bool.{ne_eqb}
use Rattle.std.proofs.lemmas.List.Sums.{sum_by-append}
use Rattle.aftr_base.specs.Bytes.{be16, be32}
use Rattle.aftr_base.specs.Checksum.{address_words, sum16, words_of, ones_sum}
use Rattle.aftr_base.specs.declared.value.Ip4.{Ip4}
use Rattle.aftr_base.proofs.ChecksumLaws.{adjust_is_congruent}
use Rattle.wire_ip4.specs.declared.fields.Ip4Fields.{Ip4Fields}
use Rattle.wire_ip4.specs.Grammar.{Header, IsHeader, AreFields, header_len, header_bytes, bare, header_with}
use Rattle.wire_ip4.specs.Forwarded.{address_on, changing_words, forwarded, hairpinned, readdressed, ttl_word, with_address}
use Rattle.wire_ip4.proofs.HeaderRead.{word_of, word_read}
use Rattle.wire_ip4.proofs.Pieces.{nothing_fits}

-- ---- the words of a header

word_spelled : (n : ℕ) (rest : List ℕ) → n < 65536 → words_of (be16 n ++ rest) ≡ n ∷ words_of rest
unfolding be16
word_spelled n rest lt = let whole : 256 * (n / 256 % 256) + n % 256 ≡ n = omega arith in ap (λ (w : ℕ). w ∷ words_of rest) whole

words_spelled : (n : ℕ) (rest : List ℕ) → n < 2 ^ 32 → words_of (be32 n ++ rest) ≡ n / 65536 ∷ n % 65536 ∷ words_of rest
unfolding be32
words_spelled n rest lt =
    let high : 256 * (n / 16777216 % 256) + n / 65536 % 256 ≡ n / 65536 = omega arith in
    let low : 256 * (n / 256 % 256) + n % 256 ≡ n % 65536 = omega arith in
    λ i. high i ∷ low i ∷ words_of rest

abbrev flags_in : Header → ℕ
flags_in h = word_of h.reserved h.fields.dont_cut h.fields.more h.fields.offset

-- all of them but the options
abbrev words_in : Header → List ℕ
words_in h =
    let f = h.fields in
    (256 * (64 + header_len h / 4) + f.tos) ∷ f.total ∷ f.id ∷ flags_in h ∷ ttl_word h ∷ h.sum
    ∷ f.src.0 / 65536 ∷ f.src.0 % 65536 ∷ f.dst.0 / 65536 ∷ f.dst.0 % 65536 ∷ []

-- a header's bytes from its middle on, and from its third byte on
abbrev ending : Header → List ℕ
ending h = h.fields.ttl ∷ h.fields.proto ∷ (be16 h.sum ++ (be32 h.fields.src.0 ++ (be32 h.fields.dst.0 ++ h.options)))

abbrev parts : Header → List ℕ
parts h = be16 h.fields.total ++ (be16 h.fields.id ++ (be16 (flags_in h) ++ ending h))

parted : (h : Header) → header_bytes h ≡ (64 + header_len h / 4) ∷ h.fields.tos ∷ parts h
parted h = simp append_assoc

header_words : (h : Header) → IsHeader h → words_of (header_bytes h) ≡ words_in h ++ words_of h.options
header_words h is =
    let f = h.fields in
    let flags = (word_read h.reserved f.dont_cut f.more f.offset is.fields.offset).small in
    let dst = words_spelled f.dst.0 h.options is.fields.dst in
    let src =
    words_spelled f.src.0 (be32 f.dst.0 ++ h.options) is.fields.src ∙ ap (λ (l : List ℕ). f.src.0 / 65536 ∷ f.src.0 % 65536 ∷ l) dst in
    let sum = word_spelled h.sum (be32 f.src.0 ++ (be32 f.dst.0 ++ h.options)) is.sum ∙ ap (λ (l : List ℕ). h.sum ∷ l) src in
    let hops = ap (λ (l : List ℕ). flags_in h ∷ ttl_word h ∷ l) sum in
    let cut = word_spelled (flags_in h) (ending h) flags ∙ hops in
    let id = word_spelled f.id (be16 (flags_in h) ++ ending h) is.fields.id ∙ ap (λ (l : List ℕ). f.id ∷ l) cut in
    let total = word_spelled f.total (be16 f.id ++ (be16 (flags_in h) ++ ending h)) is.fields.total ∙ ap (λ (l : List ℕ). f.total ∷ l) id in
    ap words_of (parted h) ∙ ap (λ (l : List ℕ). (256 * (64 + header_len h / 4) + f.tos) ∷ l) total

-- their sum: the words that change under way, the checksum, and the others
abbrev others : Header → ℕ
others h = 256 * (64 + header_len h / 4) + h.fields.tos + h.fields.total + h.fields.id + flags_in h + sum (words_of h.options)

header_sum : (h : Header) → IsHeader h → sum (words_of (header_bytes h))
    ≡ others h + ttl_word h + h.sum + h.fields.src.0 / 65536 + h.fields.src.0 % 65536 + h.fields.dst.0 / 65536 + h.fields.dst.0 % 65536
header_sum h is = ap sum (header_words h is) ∙ sum_by-append (λ (n : ℕ). n) (words_in h) (words_of h.options) ∙ omega arith

-- ---- what sums up to all ones

all_ones : (n : ℕ) → 1 ≤ n → n % 65535 ≡ 0 → ones_sum n ≡ 65535
all_ones zero some e = absurd (omega arith)
all_ones (suc n) some e = let test : eqb (suc n) 0 ≡ false = ne_eqb (suc n) 0 (λ h. omega (arith, h)) in rw test (omega arith)

ones_all : (n : ℕ) → ones_sum n ≡ 65535 → n % 65535 ≡ 0
ones_all zero e = absurd (omega (arith, e))
ones_all (suc n) e =
    let test : eqb (suc n) 0 ≡ false = ne_eqb (suc n) 0 (λ h. omega (arith, h)) in
    let folded = rw test at e in omega (arith, folded)

completed : (n : ℕ) → 1 ≤ n → ones_sum (n + (65535 - ones_sum n)) ≡ 65535
completed zero some = absurd (omega arith)
completed (suc n) some =
    let test : eqb (suc n) 0 ≡ false = ne_eqb (suc n) 0 (λ h. omega (arith, h)) in
    let folded : ones_sum (suc n) ≡ (suc n - 1) % 65535 + 1 = rw test refl in
    all_ones (suc n + (65535 - ones_sum (suc n))) (omega arith) (omega (arith, folded))

-- ---- a checksum that is computed

no_sum : Header → Header
no_sum h = record h { sum = 0 }

pub is_header_with : (f : Ip4Fields) → AreFields f → IsHeader (header_with f)
is_header_with f are = record {
  fields = are;
  sum = omega arith;
  options = λ i. nothing_fits i;
  words = refl;
  most = omega arith;
}

is_bare : (f : Ip4Fields) → AreFields f → IsHeader (bare f)
is_bare f are = record { fields = are; sum = omega arith; options = λ i. nothing_fits i; words = refl; most = omega arith }

pub sound_with : (f : Ip4Fields) → AreFields f → sum16 (header_bytes (header_with f)) ≡ 65535
sound_with f are =
    let before = header_sum (bare f) (is_bare f are) in
    let after = header_sum (header_with f) (is_header_with f are) in
    let n = sum (words_of (header_bytes (bare f))) in
    let whole : sum (words_of (header_bytes (header_with f))) ≡ n + (65535 - ones_sum n) = omega (arith, before, after) in
    ap ones_sum whole ∙ completed n (omega (arith, before))

-- ---- a checksum that is updated

fits_adjusted : (test : Bool) (n : ℕ) → cond test 65535 (n % 65535) < 65536
fits_adjusted true n = omega arith
fits_adjusted false n = omega arith

-- the address that stays is in range, and so is the new one
fits_moved : (source : Bool) (addr : Ip4) (h : Header) → IsHeader h → addr.0 < 2 ^ 32
    → ((with_address source addr h).fields.src.0 < 2 ^ 32) × ((with_address source addr h).fields.dst.0 < 2 ^ 32)
fits_moved true addr h is lt = (lt, is.fields.dst)
fits_moved false addr h is lt = (is.fields.src, lt)

pub is_forwarded : (source : Bool) (addr : Ip4) (h : Header) → IsHeader h → addr.0 < 2 ^ 32 → IsHeader (forwarded source addr h)
is_forwarded source addr h is lt =
    let addresses = fits_moved source addr h is lt in
    record {
      fields = record {
        tos = is.fields.tos;
        total = is.fields.total;
        id = is.fields.id;
        offset = is.fields.offset;
        ttl = omega (arith, is.fields.ttl);
        proto = is.fields.proto;
        src = addresses.0;
        dst = addresses.1;
      };
      sum = fits_adjusted _ _;
      options = is.options;
      words = is.words;
      most = is.most;
    }

-- the words of the address that doesn't change
abbrev kept : Bool → Header → ℕ
kept source h = cond source (h.fields.dst.0 / 65536 + h.fields.dst.0 % 65536) (h.fields.src.0 / 65536 + h.fields.src.0 % 65536)

changing_sum : (source : Bool) (h : Header) → IsHeader h
    → sum (words_of (header_bytes h)) ≡ others h + kept source h + sum (changing_words source h) + h.sum
changing_sum true h is = header_sum h is ∙ omega arith
changing_sum false h is = header_sum h is ∙ omega arith

kept_along : (source : Bool) (addr : Ip4) (h : Header) → kept source (forwarded source addr h) ≡ kept source h
kept_along true addr h = refl
kept_along false addr h = refl

words_along : (source : Bool) (addr : Ip4) (h : Header) → IsHeader h → addr.0 < 2 ^ 32
    → AllByRecursion (λ m. m ≤ 65535) (changing_words source (forwarded source addr h))
words_along true addr h is lt = (omega (arith, is.fields.ttl, is.fields.proto), (omega arith, (omega arith, tt)))
words_along false addr h is lt = (omega (arith, is.fields.ttl, is.fields.proto), (omega arith, (omega arith, tt)))

-- a sum stays all ones where a part of it became a congruent one
along : (rest old new before after : ℕ) → before ≡ rest + old → after ≡ rest + new → new % 65535 ≡ old % 65535 → 1 ≤ after
    → ones_sum before ≡ 65535 → ones_sum after ≡ 65535
along rest old new before after p q same some full = all_ones after some (let none = ones_all before full in omega arith)

pub sound_forwarded : (source : Bool) (addr : Ip4) (h : Header) → IsHeader h → addr.0 < 2 ^ 32
    → sum16 (header_bytes h) ≡ 65535 → sum16 (header_bytes (forwarded source addr h)) ≡ 65535
sound_forwarded source addr h is lt sound =
    let h' = forwarded source addr h in
    let old = changing_words source h in
    let new = changing_words source h' in
    let same = adjust_is_congruent h.sum old new (words_along source addr h is lt) refl in
    let before = changing_sum source h is in
    let after = changing_sum source h' (is_forwarded source addr h is lt) in
    along (others h + kept source h) (h.sum + sum old) (h'.sum + sum new)
    (sum (words_of (header_bytes h))) (sum (words_of (header_bytes h')))
    (omega (arith, before)) (omega (arith, after, kept_along source addr h)) same (omega (arith, after)) sound

-- ---- a checksum that is updated for an address alone

is_readdressed : (source : Bool) (addr : Ip4) (h : Header) → IsHeader h → addr.0 < 2 ^ 32 → IsHeader (readdressed source addr h)
is_readdressed source addr h is lt =
    let addresses = fits_moved source addr h is lt in
    record {
      fields = record {
        tos = is.fields.tos;
        total = is.fields.total;
        id = is.fields.id;
        offset = is.fields.offset;
        ttl = is.fields.ttl;
        proto = is.fields.proto;
        src = addresses.0;
        dst = addresses.1;
      };
      sum = fits_adjusted _ _;
      options = is.options;
      words = is.words;
      most = is.most;
    }

abbrev word_sum : Ip4 → ℕ
word_sum a = sum (address_words a.0)

-- what the sum becomes
readdressed_sum : (source : Bool) (addr : Ip4) (h : Header) → IsHeader h → addr.0 < 2 ^ 32
    → (let h' = readdressed source addr h in sum (words_of (header_bytes h')) + word_sum (address_on source h) + h.sum
    ≡ sum (words_of (header_bytes h)) + word_sum addr + h'.sum)
readdressed_sum true addr h is lt =
    omega (arith, header_sum h is, header_sum (readdressed true addr h) (is_readdressed true addr h is lt))
readdressed_sum false addr h is lt =
    omega (arith, header_sum h is, header_sum (readdressed false addr h) (is_readdressed false addr h is lt))

some_sum : (h : Header) → IsHeader h → 1 ≤ sum (words_of (header_bytes h))
some_sum h is = omega (arith, header_sum h is)

replaced_sum : (before after old new was is : ℕ) → after + old + was ≡ before + new + is → (is + new) % 65535 ≡ (was + old) % 65535
    → 1 ≤ after → ones_sum before ≡ 65535 → ones_sum after ≡ 65535
replaced_sum before after old new was is same congruent some full =
    all_ones after some (let none = ones_all before full in omega (arith, same, congruent, none))

pub sound_readdressed : (source : Bool) (addr : Ip4) (h : Header) → IsHeader h → addr.0 < 2 ^ 32
    → sum16 (header_bytes h) ≡ 65535 → sum16 (header_bytes (readdressed source addr h)) ≡ 65535
sound_readdressed source addr h is lt sound =
    let h' = readdressed source addr h in
    let words : AllByRecursion (λ m. m ≤ 65535) (address_words addr.0) = (omega arith, (omega arith, tt)) in
    let congruent = adjust_is_congruent h.sum (address_words (address_on source h).0) (address_words addr.0) words refl in
    replaced_sum (sum (words_of (header_bytes h))) (sum (words_of (header_bytes h'))) (word_sum (address_on source h)) (word_sum addr)
    h.sum h'.sum (readdressed_sum source addr h is lt) congruent (some_sum h' (is_readdressed source addr h is lt)) sound

pub sound_hairpinned : (src dst : Ip4) (h : Header) → IsHeader h → src.0 < 2 ^ 32 → dst.0 < 2 ^ 32
    → sum16 (header_bytes h) ≡ 65535 → sum16 (header_bytes (hairpinned src dst h)) ≡ 65535
sound_hairpinned src dst h is from to sound =
    sound_readdressed false dst (forwarded true src h) (is_forwarded true src h is from) to (sound_forwarded true src h is from sound)
