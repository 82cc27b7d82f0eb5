-- How long the text of a plan is.
use Rattle.std.proofs.Common.{◌≡◌, ℕ, ◌+◌, ◌*◌, ◌≤◌, ◌<◌, true, List, [], ◌∷◌, ◌++◌, length, take, drop, get_or, sym, ap, ◌∙◌, arith}
use Rattle.std.specs.Prelude.{decimal, codes, flat_map}
use Rattle.std.specs.List.{list_all}
use Rattle.std.proofs.lemmas.Bool.{and_parts}
use Rattle.std.proofs.lemmas.List.{length-append, take-append-drop, take_more, append-nil}
use Rattle.std.proofs.lemmas.List.Concat.{flat_map-append}
use Rattle.std.proofs.lemmas.Fmt.{length-decimal-le}
use Rattle.aftr_base.specs.Plan.{is_plan, is_aggregate, is_pool_prefix}
use Rattle.aftr_base.specs.declared.value.Prefix4.{Prefix4}
use Rattle.aftr_base.specs.declared.value.Prefix6.{Prefix6}
use Rattle.aftr_base.specs.declared.row.PlanSpec.{PlanSpec}
use Rattle.nat_events.specs.PlanText.{hex_digits, spaced, prefix4_text, prefix6_text, aggregates_text, pool_text, plan_text}
use Rattle.nat_events.proofs.DigitLaws.{length-hex_digits}
use Rattle.nat_events.proofs.PlanTextLaws.{plan_fits, prefix6_widths, prefix4_widths}

pub text_length : (p : PlanSpec) → length (plan_text p)
    ≡ length (decimal p.subscriber_len) + length (decimal p.block_size) + length (decimal p.ratio)
    + length (aggregates_text p.aggregates) + length (pool_text p.pool) + 6
unfolding plan_text
text_length p =
    let len : List ℕ = decimal p.subscriber_len in
    let size : List ℕ = spaced (decimal p.block_size) in
    let ratio : List ℕ = spaced (decimal p.ratio) in
    let six : List ℕ = aggregates_text p.aggregates in
    let four : List ℕ = pool_text p.pool in
    omega (
      arith,
      length-append len size,
      length-append (len ++ size) ratio,
      length-append (len ++ size ++ ratio) (codes " a"),
      length-append (len ++ size ++ ratio ++ codes " a") six,
      length-append (len ++ size ++ ratio ++ codes " a" ++ six) (codes " p"),
      length-append (len ++ size ++ ratio ++ codes " a" ++ six ++ codes " p") four,
    )

pub prefix6_length : (p : Prefix6) → length (spaced (prefix6_text p)) ≡ 34 + length (decimal p.len)
prefix6_length p = omega (arith, length-append (hex_digits 32 p.bits.0) (47 ∷ decimal p.len), length-hex_digits 32 p.bits.0)

pub prefix4_length : (p : Prefix4) → length (spaced (prefix4_text p)) ≡ 10 + length (decimal p.len)
prefix4_length p = omega (arith, length-append (hex_digits 8 p.bits.0) (47 ∷ decimal p.len), length-hex_digits 8 p.bits.0)

-- the texts of one more prefix, which are within those of all
more_text : {X : Type 0} (f : X → List ℕ) (xs : List X) (i : ℕ) (d : X) → i < length xs
    → (length (flat_map f (take (i + 1) xs)) ≡ length (flat_map f (take i xs)) + length (f (get_or xs i d)))
    × (length (flat_map f (take (i + 1) xs)) ≤ length (flat_map f xs))
more_text f xs i d within =
    let step : flat_map f (take (i + 1) xs) ≡ flat_map f (take i xs) ++ f (get_or xs i d) =
    ap (flat_map f) (take_more xs i d within) ∙ flat_map-append f (take i xs) (get_or xs i d ∷ [])
    ∙ ap (λ t. flat_map f (take i xs) ++ t) (append-nil (f (get_or xs i d))) in
    let whole : flat_map f xs ≡ flat_map f (take (i + 1) xs) ++ flat_map f (drop (i + 1) xs) =
    ap (flat_map f) (sym (take-append-drop (i + 1) xs)) ∙ flat_map-append f (take (i + 1) xs) (drop (i + 1) xs) in (
      ap length step ∙ length-append (flat_map f (take i xs)) (f (get_or xs i d)),
      omega (arith, ap length whole, length-append (flat_map f (take (i + 1) xs)) (flat_map f (drop (i + 1) xs))),
    )

pub more_aggregates : (ps : List Prefix6) (i : ℕ) (d : Prefix6) (len digits : ℕ) → i < length ps → len ≡ length (aggregates_text (take i ps))
    → digits ≡ length (decimal (get_or ps i d).len)
    → (len + (34 + digits) ≡ length (aggregates_text (take (i + 1) ps))) × (length (aggregates_text (take (i + 1) ps)) ≤ length (aggregates_text ps))
more_aggregates ps i d len digits within so_far is =
    let more = more_text (λ (p : Prefix6). spaced (prefix6_text p)) ps i d within in
    let here = prefix6_length (get_or ps i d) in
    (omega (arith, more.0, here), more.1)

pub more_pool : (ps : List Prefix4) (i : ℕ) (d : Prefix4) (len digits : ℕ) → i < length ps → len ≡ length (pool_text (take i ps))
    → digits ≡ length (decimal (get_or ps i d).len)
    → (len + (10 + digits) ≡ length (pool_text (take (i + 1) ps))) × (length (pool_text (take (i + 1) ps)) ≤ length (pool_text ps))
more_pool ps i d len digits within so_far is =
    let more = more_text (λ (p : Prefix4). spaced (prefix4_text p)) ps i d within in
    let here = prefix4_length (get_or ps i d) in
    (omega (arith, more.0, here), more.1)

-- ---- a plan that may be has a short text

aggregates_short : (len : ℕ) (ps : List Prefix6) → list_all (is_aggregate len) ps ≡ true → length (aggregates_text ps) ≤ 37 * length ps
aggregates_short len [] h = omega arith
aggregates_short len (p ∷ ps) h =
    let (here, rest) = and_parts (is_aggregate len p) (list_all (is_aggregate len) ps) h in
    let small = (prefix6_widths len p here).0 in
    let digits = length-decimal-le 3 p.len (omega arith) (omega arith) (omega arith) in
    omega (arith, length-append (spaced (prefix6_text p)) (aggregates_text ps), prefix6_length p, digits, aggregates_short len ps rest)

pool_short : (ps : List Prefix4) → list_all is_pool_prefix ps ≡ true → length (pool_text ps) ≤ 12 * length ps
pool_short [] h = omega arith
pool_short (p ∷ ps) h =
    let (here, rest) = and_parts (is_pool_prefix p) (list_all is_pool_prefix ps) h in
    let small = (prefix4_widths p here).0 in
    let digits = length-decimal-le 2 p.len (omega arith) (omega arith) (omega arith) in
    omega (arith, length-append (spaced (prefix4_text p)) (pool_text ps), prefix4_length p, digits, pool_short ps rest)

pub plan_text_short : (p : PlanSpec) → is_plan p ≡ true → length (plan_text p) ≤ 4096
plan_text_short p is =
    let fits = plan_fits p is in
    let len = fits.subscriber_len in
    let size = fits.block_size in
    let ratio = fits.ratio in
    let six = fits.few_aggregates in
    let four = fits.few_prefixes in
    omega (
      arith,
      text_length p,
      length-decimal-le 3 p.subscriber_len (omega arith) (omega arith) (omega arith),
      length-decimal-le 5 p.block_size (omega arith) (omega arith) (omega arith),
      length-decimal-le 5 p.ratio (omega arith) (omega arith) (omega arith),
      aggregates_short p.subscriber_len p.aggregates fits.aggregates,
      pool_short p.pool fits.pool,
    )
