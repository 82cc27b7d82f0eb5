use Rattle.std.proofs.Common.{ℕ, ◌+◌, ◌≡◌, List, ◌∷◌, ◌++◌, true, take, drop, refl, sym, ap, ◌∙◌, arith}
use Rattle.std.proofs.lemmas.List.{drop_more, take-append-drop, take_all, take_rest}
use Rattle.aftr_base.specs.Bytes.{split_on}
use Rattle.std.specs.List.{list_all}
use Rattle.aftr_engine.proofs.WordParts.{is_other, split_none, split_found}
use Rattle.aftr_engine.proofs.words.cut_at_dot.Goals as goal

pub returns-then-byte-eq46-clause-found : goal.returns-then-byte-eq46-clause-found
returns-then-byte-eq46-clause-found c =
    let text = c.args.text.now in
    let i : ℕ = c.loop-place.place in
    let rest = drop (i + 1) text in
    let cut : drop i text ≡ 46 ∷ rest =
    drop_more text i 0 (omega arith) ∙ ap (λ (b : ℕ). b ∷ rest) c.if-byte-eq46.true in
    let whole : text ≡ take i text ++ 46 ∷ rest =
    sym (take-append-drop i text) ∙ ap (λ (xs : List ℕ). take i text ++ xs) cut in
    ap (λ (xs : List ℕ). split_on 46 xs) whole
    ∙ split_found 46 (take i text) rest refl c.loop-place.invariant
    ∙ ap (λ (xs : List ℕ). take i text ∷ split_on 46 xs) (sym (take_rest text (i + 1)))

pub returns-clause-none : goal.returns-clause-none
returns-clause-none c =
    let text = c.args.text.now in
    let i : ℕ = c.loop-place.place in
    let whole : take i text ≡ text = take_all i text (omega arith) in
    let others : list_all (is_other 46) text ≡ true = ap (λ (xs : List ℕ). list_all (is_other 46) xs) (sym whole)
    ∙ c.loop-place.invariant in
    split_none 46 text others
