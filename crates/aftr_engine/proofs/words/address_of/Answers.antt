use Rattle.std.proofs.Common.{ℕ, ◌<◌, ◌≡◌, List, ◌∷◌, length, sym, ap, ◌∙◌, arith}
use Rattle.aftr_base.specs.Bytes.{split_on}
use Rattle.aftr_engine.proofs.WordParts.{too_many, split_some}
use Rattle.aftr_engine.proofs.words.address_of.Goals as goal

pub returns-in-Some : goal.returns-in-Some
returns-in-Some c =
    let first = c.in_ok-first.first.now in
    let second = c.in_ok-second.second.now in
    let third = c.in_ok-third.third.now in
    let fourth = c.in-Some.field-0.0.now in
    let rest = c.in-Some.field-0.1.now in
    let parts : split_on 46 c.args.text.now ≡ first ∷ second ∷ third ∷ fourth ∷ split_on 46 rest =
    c.in_ok-first.ensures.found
    ∙ ap (λ (xs : List (List ℕ)). first ∷ xs) (c.in_ok-second.ensures.found
    ∙ ap (λ (xs : List (List ℕ)). second ∷ xs) (c.in_ok-third.ensures.found
    ∙ ap (λ (xs : List (List ℕ)). third ∷ xs) c.in-Some.ensures.found)) in
    let many : length (split_on 46 c.args.text.now) ≡ length (first ∷ second ∷ third ∷ fourth ∷ split_on 46 rest) =
    ap (λ (xs : List (List ℕ)). length xs) parts in
    let more : 4 < length (split_on 46 c.args.text.now) = omega (arith, many, split_some 46 rest) in
    sym (too_many (split_on 46 c.args.text.now) more)
