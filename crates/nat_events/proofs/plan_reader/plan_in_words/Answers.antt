use Rattle.std.proofs.Common.{◌≡◌, ℕ, ◌+◌, ◌%◌, List, length, take, drop, map, not, ap, ◌∙◌, Bor}
use Rattle.std.specs.Prelude.{take_while}
use Rattle.nat_events.specs.Reading.{aggregates_in, is_p, pool_in, prefix4_in, prefix6_in, value10, word_at}
use Rattle.nat_events.proofs.PlanTextLaws.{parted}
use Rattle.nat_events.proofs.plan_reader.plan_in_words.Goals as goal

pub returns : goal.returns
returns c =
    let words : List (Bor (List ℕ)) = c.args.words.now in
    let letter : ℕ = c.before_letter-letter.result in
    let now = λ (w : Bor (List ℕ)). w.now in
    let counted : letter ≡ length (take_while (λ w. not (is_p w)) (map now (drop 4 words))) =
    c.before_letter-letter.ensures.value
    ∙ ap (λ (v : List (Bor (List ℕ))). length (take_while (λ w. not (is_p w)) (map now v))) c.behind-prefixes.ensures in
    let parts = parted now words letter counted in
    let at_aggregates : c.in_ok-aggregates_in.field-0 ≡ map prefix6_in (aggregates_in (map now words)) =
    c.in_ok-aggregates_in.ensures
    ∙ ap (λ (v : List (Bor (List ℕ))). map prefix6_in (map now (take letter v))) c.behind-prefixes.ensures
    ∙ ap (map prefix6_in) parts.0 in
    let at_pool : c.in_ok-pool_in.field-0 ≡ map prefix4_in (pool_in (map now words)) =
    c.in_ok-pool_in.ensures ∙ ap (λ (v : List (Bor (List ℕ))). map prefix4_in (map now v)) c.behind.ensures
    ∙ ap (λ (v : List (Bor (List ℕ))). map prefix4_in (map now (drop (letter + 1) v))) c.behind-prefixes.ensures
    ∙ ap (map prefix4_in) parts.1 in
    let at_len : c.number_in.result ≡ value10 (word_at 0 (map now words)) = c.number_in.ensures ∙ ap value10 c.word_at.ensures in
    let at_size : c.number_in-2.result ≡ value10 (word_at 1 (map now words)) = c.number_in-2.ensures ∙ ap value10 c.word_at-2.ensures in
    let at_ratio : c.number_in-3.result ≡ value10 (word_at 2 (map now words)) = c.number_in-3.ensures ∙ ap value10 c.word_at-3.ensures in
    λ i. record {
      subscriber_len = at_len i % 256;
      block_size = at_size i;
      ratio = at_ratio i;
      aggregates = at_aggregates i;
      pool = at_pool i;
    }
