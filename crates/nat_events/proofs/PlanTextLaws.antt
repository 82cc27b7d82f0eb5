-- The text of a plan reads back.
use Rattle.std.proofs.Common.{◌≡◌, ℕ, ◌+◌, ◌-◌, ◌*◌, ◌/◌, ◌%◌, ◌^◌, ◌≤◌, ◌<◌, Bool, true, false, List, [], ◌∷◌, ◌++◌, length, take, drop, map, Option, Some, None}
use Rattle.std.proofs.Common.{refl, sym, ap, ◌∙◌, subst, arith, append_assoc, inl, inr}
use Rattle.std.specs.Prelude.{◌&&◌, ◌||◌, ◌==◌, nat_le, nat_lt, decimal, codes, flat_map, not, bytes_eq, take_while, if◌then◌else◌}
use Rattle.std.specs.List.{AllByRecursion, list_all, prefix_len}
use Rattle.std.proofs.lemmas.Bool.{and_parts, and_from, leb-true, le-leb, ltb-true, cases_Bool, cond-true, not_from_false, false_from_ne_true}
use Rattle.std.proofs.lemmas.List.{take_at, drop_at, length-append, length-take, append-nil, take_min, take-map, drop-map}
use Rattle.std.proofs.lemmas.List.Elements.{All-append, All-cons, All-nil}
use Rattle.std.proofs.lemmas.List.Splits.{slice_split_none, slice_split_at}
use Rattle.std.proofs.lemmas.List.Concat.{flat_map-append}
use Rattle.std.proofs.lemmas.List.Sums.{take_while-cons}
use Rattle.std.proofs.lemmas.Fmt.{decimal_nonempty}
use Rattle.std.proofs.lemmas.Slice.Eq.{bytes_eq-Decides}
use Rattle.std.proofs.Math.Nat.{div-le_self}
use Rattle.aftr_base.specs.Value.{is_within, is_under4}
use Rattle.aftr_base.specs.Plan.{prefix4, prefix6, is_plan, is_prefix4, is_prefix6, is_aggregate, are_aggregates, is_pool, is_pool_prefix, is_block_size, is_ratio}
use Rattle.aftr_base.specs.Plan.{address_count, subscriber_count, block_count, is_routable_octet, tunnel_prefix, rise4, rise6, size4}
use Rattle.aftr_base.specs.declared.value.Prefix4.{Prefix4}
use Rattle.aftr_base.specs.declared.value.Prefix6.{Prefix6}
use Rattle.aftr_base.specs.declared.row.PlanSpec.{PlanSpec}
use Rattle.nat_events.specs.PlanText.{hex_digits, spaced, prefix4_text, prefix6_text, aggregates_text, pool_text, plan_text}
use Rattle.nat_events.specs.Reading.{value10, value16, prefix4_in, prefix6_in, is_p, aggregates_in, pool_in, plan_in, words_of, is_plan_of_text, plan_with_text, plan_of_text}
use Rattle.nat_events.proofs.DigitLaws.{HasNoSpace, value-decimal, value-hex, value-hex8, length-hex_digits, no_space_decimal, no_space_hex}

-- ---- a prefix

after_digits : (digits len : List ℕ) (k : ℕ) → length digits ≡ k → drop (k + 1) (digits ++ 47 ∷ len) ≡ len
after_digits digits len k size =
    ap (drop (k + 1)) (sym (append_assoc digits (47 ∷ []) len))
    ∙ drop_at (digits ++ 47 ∷ []) len (k + 1) (length-append digits (47 ∷ []) ∙ ap (λ (n : ℕ). n + 1) size)

pub prefix6_back : (p : Prefix6) → p.len ≤ 128 → p.bits.0 < 2 ^ 128 → prefix6_in (prefix6_text p) ≡ p
prefix6_back p short small =
    let digits : List ℕ = hex_digits 32 p.bits.0 in
    let bits : value16 (take 32 (prefix6_text p)) ≡ p.bits.0 =
    ap value16 (take_at digits (47 ∷ decimal p.len) 32 (length-hex_digits 32 p.bits.0)) ∙ value-hex p.bits.0 small in
    let number : value10 (drop 33 (prefix6_text p)) ≡ p.len =
    ap value10 (after_digits digits (decimal p.len) 32 (length-hex_digits 32 p.bits.0)) ∙ value-decimal p.len (omega arith) in
    let len : value10 (drop 33 (prefix6_text p)) % 2 ^ 8 ≡ p.len = omega arith in
    λ i. prefix6 (bits i) (len i)

pub prefix4_back : (p : Prefix4) → p.len ≤ 32 → p.bits.0 < 2 ^ 32 → prefix4_in (prefix4_text p) ≡ p
prefix4_back p short small =
    let digits : List ℕ = hex_digits 8 p.bits.0 in
    let whole : value16 (take 8 (prefix4_text p)) ≡ p.bits.0 =
    ap value16 (take_at digits (47 ∷ decimal p.len) 8 (length-hex_digits 8 p.bits.0)) ∙ value-hex8 p.bits.0 small in
    let bits : value16 (take 8 (prefix4_text p)) % 2 ^ 32 ≡ p.bits.0 = omega arith in
    let number : value10 (drop 9 (prefix4_text p)) ≡ p.len =
    ap value10 (after_digits digits (decimal p.len) 8 (length-hex_digits 8 p.bits.0)) ∙ value-decimal p.len (omega arith) in
    let len : value10 (drop 9 (prefix4_text p)) % 2 ^ 8 ≡ p.len = omega arith in
    λ i. prefix4 (bits i) (len i)

no_space_prefix : (k bits len : ℕ) → len < 2 ^ 64 → HasNoSpace (hex_digits k bits ++ 47 ∷ decimal len)
no_space_prefix k bits len small =
    All-append (λ c. (c == 32) ≡ false) (hex_digits k bits) (47 ∷ decimal len) (no_space_hex k bits)
    (All-cons (λ c. (c == 32) ≡ false) 47 (decimal len) refl (no_space_decimal len small))

-- ---- words

words_joined : (word : List ℕ) (words : List (List ℕ)) → HasNoSpace word → AllByRecursion HasNoSpace words
    → words_of (word ++ flat_map spaced words) ≡ word ∷ words
words_joined word [] clear rest = ap words_of (append-nil word) ∙ slice_split_none (λ b. b == 32) word clear
words_joined word (next ∷ words) clear rest =
    slice_split_at (λ b. b == 32) word 32 (next ++ flat_map spaced words) clear refl
    ∙ ap (λ (t : List (List ℕ)). word ∷ t) (words_joined next words rest.0 rest.1)

flat_map-map : {X : Type 0} (f : X → List ℕ) (xs : List X) → flat_map spaced (map f xs) ≡ flat_map (λ x. spaced (f x)) xs
flat_map-map f [] = refl
flat_map-map f (x ∷ xs) = ap (λ (t : List ℕ). spaced (f x) ++ t) (flat_map-map f xs)

-- the words of a plan behind the first four
abbrev prefix_words : PlanSpec → List (List ℕ)
prefix_words p = map prefix6_text p.aggregates ++ (112 ∷ []) ∷ map prefix4_text p.pool

text_of_prefixes : (p : PlanSpec) → flat_map spaced (prefix_words p) ≡ aggregates_text p.aggregates ++ (codes " p" ++ pool_text p.pool)
text_of_prefixes p =
    flat_map-append spaced (map prefix6_text p.aggregates) ((112 ∷ []) ∷ map prefix4_text p.pool)
    ∙ (λ i. flat_map-map prefix6_text p.aggregates i ++ (32 ∷ 112 ∷ flat_map-map prefix4_text p.pool i))

in_a_row : (a b c d e f g : List ℕ) → a ++ b ++ c ++ d ++ e ++ f ++ g ≡ a ++ (b ++ (c ++ (d ++ (e ++ (f ++ g)))))
in_a_row a b c d e f g = simp append_assoc

pub text_in_words : (p : PlanSpec) → plan_text p
    ≡ decimal p.subscriber_len ++ flat_map spaced (decimal p.block_size ∷ decimal p.ratio ∷ (97 ∷ []) ∷ prefix_words p)
unfolding plan_text
text_in_words p =
    let len : List ℕ = decimal p.subscriber_len in
    let size : List ℕ = decimal p.block_size in
    let ratio : List ℕ = decimal p.ratio in
    in_a_row len (spaced size) (spaced ratio) (codes " a") (aggregates_text p.aggregates) (codes " p") (pool_text p.pool)
    ∙ ap (λ t. len ++ (spaced (size ++ (spaced (ratio ++ (32 ∷ 97 ∷ t)))))) (sym (text_of_prefixes p))

-- ---- what is known of a plan that may be

-- numbers and prefixes have their widths
pub record PlanFits (p : PlanSpec) : Type 0 where
  pub subscriber_len : p.subscriber_len ≤ 128
  pub block_size : p.block_size ≤ 16384
  pub ratio : p.ratio < 2 ^ 16
  pub few_aggregates : length p.aggregates ≤ 64
  pub few_prefixes : length p.pool ≤ 64
  pub aggregates : list_all (is_aggregate p.subscriber_len) p.aggregates ≡ true
  pub pool : list_all is_pool_prefix p.pool ≡ true

within_most : (first last n : ℕ) → is_within first last n ≡ true → n ≤ last
within_most first last n h = leb-true n last (and_parts (nat_le first n) (nat_le n last) h).1

pub plan_fits : (p : PlanSpec) → is_plan p ≡ true → PlanFits p
plan_fits p h =
    let len = p.subscriber_len in
    let addresses = address_count p.pool in
    let subscribers = subscriber_count p.subscriber_len p.aggregates in
    let (four, ratio) = and_parts (is_within 16 128 len && are_aggregates len p.aggregates && is_pool p.pool && is_block_size p.block_size)
    (is_ratio p.ratio p.block_size addresses subscribers) h in
    let (three, size) = and_parts (is_within 16 128 len && are_aggregates len p.aggregates && is_pool p.pool) (is_block_size p.block_size) four in
    let (two, pool) = and_parts (is_within 16 128 len && are_aggregates len p.aggregates) (is_pool p.pool) three in
    let (lens, aggregates) = and_parts (is_within 16 128 len) (are_aggregates len p.aggregates) two in
    let each = and_parts (is_within 1 64 (length p.aggregates) && list_all (is_aggregate len) p.aggregates) (rise6 0 p.aggregates) aggregates in
    let counts = and_parts (is_within 1 64 (length p.aggregates)) (list_all (is_aggregate len) p.aggregates) each.0 in
    let rising = and_parts (is_within 1 64 (length p.pool) && list_all is_pool_prefix p.pool && rise4 0 p.pool) (nat_le addresses 65536) pool in
    let prefixes = and_parts (is_within 1 64 (length p.pool) && list_all is_pool_prefix p.pool) (rise4 0 p.pool) rising.0 in
    let counted = and_parts (is_within 1 64 (length p.pool)) (list_all is_pool_prefix p.pool) prefixes.0 in
    let most = and_parts (nat_le p.ratio (block_count p.block_size)) (p.ratio == 0 || nat_le subscribers (addresses * p.ratio)) ratio in
    record {
      subscriber_len = within_most 16 128 len lens;
      block_size = within_most 16 16384 p.block_size (and_parts (is_within 16 16384 p.block_size) (16384 % p.block_size == 0) size).0;
      ratio = omega (arith, leb-true p.ratio (block_count p.block_size) most.0, div-le_self (65536 - 1024) p.block_size);
      few_aggregates = within_most 1 64 (length p.aggregates) counts.0;
      few_prefixes = within_most 1 64 (length p.pool) counted.0;
      aggregates = counts.1;
      pool = counted.1;
    }

pub prefix6_widths : (len : ℕ) (p : Prefix6) → is_aggregate len p ≡ true → (p.len ≤ 128) × (p.bits.0 < 2 ^ 128)
prefix6_widths len p h =
    let front = (and_parts (is_prefix6 p && nat_le p.len len) (nat_le len (p.len + 24)) h).0 in
    let is = (and_parts (is_prefix6 p) (nat_le p.len len) front).0 in
    let widths = and_parts (nat_le p.len 128) (nat_lt p.bits.0 (2 ^ 128)) (and_parts (nat_le p.len 128 && nat_lt p.bits.0 (2 ^ 128)) (p.bits.0 % 2 ^ (128 - p.len) == 0) is).0 in
    (leb-true p.len 128 widths.0, ltb-true p.bits.0 (2 ^ 128) widths.1)

pub prefix4_widths : (p : Prefix4) → is_pool_prefix p ≡ true → (p.len ≤ 32) × (p.bits.0 < 2 ^ 32)
prefix4_widths p h =
    let is = (pool_prefix_parts p h).1 in
    let widths = and_parts (nat_le p.len 32) (nat_lt p.bits.0 (2 ^ 32)) (and_parts (nat_le p.len 32 && nat_lt p.bits.0 (2 ^ 32)) (p.bits.0 % size4 p == 0) is).0 in
    (leb-true p.len 32 widths.0, ltb-true p.bits.0 (2 ^ 32) widths.1)
  where
    pool_prefix_parts : (p : Prefix4) → is_pool_prefix p ≡ true → (is_within 16 32 p.len ≡ true) × (is_prefix4 p ≡ true)
    pool_prefix_parts p h =
        let three = (and_parts (is_within 16 32 p.len && is_prefix4 p && is_routable_octet (p.bits.0 / 2 ^ 24)) (not (is_under4 tunnel_prefix p.bits || is_under4 p tunnel_prefix.bits)) h).0 in
        let two = (and_parts (is_within 16 32 p.len && is_prefix4 p) (is_routable_octet (p.bits.0 / 2 ^ 24)) three).0 in
        and_parts (is_within 16 32 p.len) (is_prefix4 p) two

-- ---- prefixes read back

aggregates_back : (len : ℕ) (ps : List Prefix6) → list_all (is_aggregate len) ps ≡ true → map prefix6_in (map prefix6_text ps) ≡ ps
aggregates_back len [] h = refl
aggregates_back len (p ∷ ps) h =
    let (here, rest) = and_parts (is_aggregate len p) (list_all (is_aggregate len) ps) h in
    let widths = prefix6_widths len p here in
    λ i. prefix6_back p widths.0 widths.1 i ∷ aggregates_back len ps rest i

pool_back : (ps : List Prefix4) → list_all is_pool_prefix ps ≡ true → map prefix4_in (map prefix4_text ps) ≡ ps
pool_back [] h = refl
pool_back (p ∷ ps) h =
    let (here, rest) = and_parts (is_pool_prefix p) (list_all is_pool_prefix ps) h in
    let widths = prefix4_widths p here in
    λ i. prefix4_back p widths.0 widths.1 i ∷ pool_back ps rest i

clear_aggregates : (len : ℕ) (ps : List Prefix6) (words : List (List ℕ)) → list_all (is_aggregate len) ps ≡ true
    → AllByRecursion HasNoSpace words → AllByRecursion HasNoSpace (map prefix6_text ps ++ words)
clear_aggregates len [] words h rest = rest
clear_aggregates len (p ∷ ps) words h rest =
    let (here, more) = and_parts (is_aggregate len p) (list_all (is_aggregate len) ps) h in
    let short = (prefix6_widths len p here).0 in
    (no_space_prefix 32 p.bits.0 p.len (omega arith), clear_aggregates len ps words more rest)

clear_pool : (ps : List Prefix4) → list_all is_pool_prefix ps ≡ true → AllByRecursion HasNoSpace (map prefix4_text ps)
clear_pool [] h = tt
clear_pool (p ∷ ps) h =
    let (here, more) = and_parts (is_pool_prefix p) (list_all is_pool_prefix ps) h in
    let short = (prefix4_widths p here).0 in
    (no_space_prefix 8 p.bits.0 p.len (omega arith), clear_pool ps more)

-- no prefix is the letter p
no_letter : (p : Prefix6) → is_p (prefix6_text p) ≡ false
no_letter p = false_from_ne_true (is_p (prefix6_text p)) (λ e.
    let same = (bytes_eq-Decides (prefix6_text p) (112 ∷ [])).0 e in
    absurd (omega (arith, ap length same, length-append (hex_digits 32 p.bits.0) (47 ∷ decimal p.len), length-hex_digits 32 p.bits.0)))

up_to_letter : (ps : List Prefix6) (words : List (List ℕ)) → take_while (λ (w : List ℕ). not (is_p w)) (map prefix6_text ps ++ (112 ∷ []) ∷ words) ≡ map prefix6_text ps
up_to_letter [] words = refl
up_to_letter (p ∷ ps) words =
    take_while-cons (λ (w : List ℕ). not (is_p w)) (prefix6_text p) (map prefix6_text ps ++ (112 ∷ []) ∷ words)
    ∙ cond-true (not (is_p (prefix6_text p))) (prefix6_text p ∷ take_while (λ (w : List ℕ). not (is_p w)) (map prefix6_text ps ++ (112 ∷ []) ∷ words)) []
    (not_from_false (is_p (prefix6_text p)) (no_letter p))
    ∙ ap (λ (t : List (List ℕ)). prefix6_text p ∷ t) (up_to_letter ps words)

-- ---- the whole text

abbrev plan_words : PlanSpec → List (List ℕ)
plan_words p = decimal p.subscriber_len ∷ decimal p.block_size ∷ decimal p.ratio ∷ (97 ∷ []) ∷ prefix_words p

words_of_text : (p : PlanSpec) → PlanFits p → words_of (plan_text p) ≡ plan_words p
words_of_text p fits =
    let len = fits.subscriber_len in
    let size = fits.block_size in
    let ratio = fits.ratio in
    ap words_of (text_in_words p)
    ∙ words_joined (decimal p.subscriber_len) (decimal p.block_size ∷ decimal p.ratio ∷ (97 ∷ []) ∷ prefix_words p)
    (no_space_decimal p.subscriber_len (omega arith)) (
      no_space_decimal p.block_size (omega arith),
      (
        no_space_decimal p.ratio (omega arith),
        (
          All-cons (λ c. (c == 32) ≡ false) 97 [] refl (All-nil (λ c. (c == 32) ≡ false)),
          clear_aggregates p.subscriber_len p.aggregates ((112 ∷ []) ∷ map prefix4_text p.pool) fits.aggregates
              (All-cons (λ c. (c == 32) ≡ false) 112 [] refl (All-nil (λ c. (c == 32) ≡ false)), clear_pool p.pool fits.pool),
        ),
      ),
    )

read_of_words : (p : PlanSpec) → PlanFits p → plan_in (plan_words p) ≡ p
read_of_words p fits =
    let len = fits.subscriber_len in
    let size = fits.block_size in
    let at_aggregates : aggregates_in (plan_words p) ≡ map prefix6_text p.aggregates = up_to_letter p.aggregates (map prefix4_text p.pool) in
    let ahead : List (List ℕ) = map prefix6_text p.aggregates in
    let at_pool : pool_in (plan_words p) ≡ map prefix4_text p.pool =
    ap (λ (k : ℕ). drop (k + 1) (prefix_words p)) (ap length at_aggregates)
    ∙ ap (drop (length ahead + 1)) (sym (append_assoc ahead ((112 ∷ []) ∷ []) (map prefix4_text p.pool)))
    ∙ drop_at (ahead ++ (112 ∷ []) ∷ []) (map prefix4_text p.pool) (length ahead + 1) (length-append ahead ((112 ∷ []) ∷ [])) in
    let number : value10 (decimal p.subscriber_len) ≡ p.subscriber_len = value-decimal p.subscriber_len (omega arith) in
    let at_len : value10 (decimal p.subscriber_len) % 2 ^ 8 ≡ p.subscriber_len = omega arith in
    let at_size : value10 (decimal p.block_size) ≡ p.block_size = value-decimal p.block_size (omega arith) in
    let at_ratio : value10 (decimal p.ratio) ≡ p.ratio = value-decimal p.ratio fits.ratio in
    let at_six : map prefix6_in (aggregates_in (plan_words p)) ≡ p.aggregates =
    ap (map prefix6_in) at_aggregates ∙ aggregates_back p.subscriber_len p.aggregates fits.aggregates in
    let at_four : map prefix4_in (pool_in (plan_words p)) ≡ p.pool = ap (map prefix4_in) at_pool ∙ pool_back p.pool fits.pool in
    λ i. record { subscriber_len = at_len i; block_size = at_size i; ratio = at_ratio i; aggregates = at_six i; pool = at_four i }

-- the text of a plan that may be is read as it
pub plan_text_read : (p : PlanSpec) → is_plan p ≡ true → length (plan_text p) ≤ 4096 → plan_of_text (plan_text p) ≡ Some p
unfolding plan_of_text
plan_text_read p is short =
    let fits = plan_fits p is in
    let read : plan_in (words_of (plan_text p)) ≡ p = ap plan_in (words_of_text p fits) ∙ read_of_words p fits in
    let passes : (nat_le (length (plan_text p)) 4096 && bytes_eq (plan_text p) (plan_text p) && is_plan p) ≡ true =
    and_from (nat_le (length (plan_text p)) 4096 && bytes_eq (plan_text p) (plan_text p)) (is_plan p)
    (and_from (nat_le (length (plan_text p)) 4096) (bytes_eq (plan_text p) (plan_text p)) (le-leb (length (plan_text p)) 4096 short)
    ((bytes_eq-Decides (plan_text p) (plan_text p)).1 refl)) is in
    ap (plan_with_text (plan_text p)) read ∙ rw passes refl

one_some : (o : Option PlanSpec) (a b : PlanSpec) → o ≡ Some a → o ≡ Some b → a ≡ b
one_some o a b h g = let e : Some a ≡ Some b = sym h ∙ g in cc

no_some : (o : Option PlanSpec) (a : PlanSpec) → o ≡ None → o ≡ Some a → ⊥
no_some o a h g = cc

-- and what is read as a plan is its text
pub plan_text_is : (text : List ℕ) (p : PlanSpec) → plan_of_text text ≡ Some p
    → (plan_text p ≡ text) × (is_plan p ≡ true) × (length (plan_text p) ≤ 4096)
unfolding plan_of_text
plan_text_is text p h = from_test (plan_in (words_of text)) text p h
  where
    from_test : (q : PlanSpec) (text : List ℕ) (p : PlanSpec) → plan_with_text text q ≡ Some p
        → (plan_text p ≡ text) × (is_plan p ≡ true) × (length (plan_text p) ≤ 4096)
    from_test q text p h = elim (cases_Bool (nat_le (length text) 4096 && bytes_eq (plan_text q) text && is_plan q)) [
      | inl passes ↦
          let same : q ≡ p = one_some (Some q) q p refl (rw passes at h) in
          let (front, is) = and_parts (nat_le (length text) 4096 && bytes_eq (plan_text q) text) (is_plan q) passes in
          let (short, spelled) = and_parts (nat_le (length text) 4096) (bytes_eq (plan_text q) text) front in
          let e : plan_text q ≡ text = (bytes_eq-Decides (plan_text q) text).0 spelled in
          subst (λ (r : PlanSpec). (plan_text r ≡ text) × (is_plan r ≡ true) × (length (plan_text r) ≤ 4096)) same
          (e, is, omega (arith, ap length e, leb-true (length text) 4096 short))
      | inr fails ↦ absurd (no_some None p refl (rw fails at h))
    ]

-- ---- its length

pub plan_text_some : (p : PlanSpec) → is_plan p ≡ true → (b : ℕ) × (text : List ℕ) × (plan_text p ≡ b ∷ text)
plan_text_some p is =
    let fits = plan_fits p is in
    let len = fits.subscriber_len in
    let rest : List ℕ = flat_map spaced (decimal p.block_size ∷ decimal p.ratio ∷ (97 ∷ []) ∷ prefix_words p) in
    let some : 0 < length (plan_text p) =
    omega (arith, ap length (text_in_words p), length-append (decimal p.subscriber_len) rest, decimal_nonempty p.subscriber_len (omega arith)) in
    first_and_rest (plan_text p) some
  where
    first_and_rest : (bytes : List ℕ) → 0 < length bytes → (b : ℕ) × (text : List ℕ) × (bytes ≡ b ∷ text)
    first_and_rest [] some = absurd (omega arith)
    first_and_rest (b ∷ text) some = (b, text, refl)

-- ---- a reader's steps

-- a plan that was put together from the words stands or falls with its text
pub text_answered : (text : List ℕ) (spec : PlanSpec) (stands : Bool) → spec ≡ plan_in (words_of text) → stands ≡ is_plan_of_text text spec
    → plan_of_text text ≡ (if stands then Some spec else None)
unfolding plan_of_text
text_answered text spec stands is test = ap (plan_with_text text) (sym is) ∙ ap (λ (b : Bool). if b then Some spec else None) (sym test)

take_while_front : (p : List ℕ → Bool) (words : List (List ℕ)) → take (length (take_while p words)) words ≡ take_while p words
take_while_front p words = ap (λ (n : ℕ). take n words) (length-take (prefix_len p words) words) ∙ take_min (prefix_len p words) words

-- the words up to the letter, and those behind it
pub parted : {B : Type 0} (now : B → List ℕ) (words : List B) (letter : ℕ)
    → letter ≡ length (take_while (λ w. not (is_p w)) (map now (drop 4 words)))
    → (map now (take letter (drop 4 words)) ≡ aggregates_in (map now words))
    × (map now (drop (letter + 1) (drop 4 words)) ≡ pool_in (map now words))
parted now words letter is =
    let back : drop 4 (map now words) ≡ map now (drop 4 words) = drop-map now 4 words in
    let same : letter ≡ length (aggregates_in (map now words)) =
    is ∙ ap (λ (v : List (List ℕ)). length (take_while (λ w. not (is_p w)) v)) (sym back) in (
      sym (take-map now letter (drop 4 words)) ∙ ap (take letter) (sym back)
          ∙ ap (λ (n : ℕ). take n (drop 4 (map now words))) same ∙ take_while_front (λ w. not (is_p w)) (drop 4 (map now words)),
      sym (drop-map now (letter + 1) (drop 4 words)) ∙ ap (drop (letter + 1)) (sym back)
          ∙ ap (λ (n : ℕ). drop (n + 1) (drop 4 (map now words))) same,
    )
