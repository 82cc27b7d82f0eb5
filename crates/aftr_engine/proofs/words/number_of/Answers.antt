use Rattle.std.proofs.Common.{ℕ, ◌+◌, ◌*◌, ◌-◌, ◌≡◌, true, drop, get_or, sym, ◌∙◌, arith}
use Rattle.aftr_base.specs.Value.{is_within}
use Rattle.aftr_engine.proofs.WordParts.{number_next, number_passes}
use Rattle.aftr_engine.proofs.words.number_of.Goals as goal

pub returns-then-number-limit : goal.returns-then-number-limit
returns-then-number-limit c =
    let text = c.args.text.now in
    let limit : ℕ = c.args.limit in
    let n : ℕ = c.loop-digit.number in
    let i : ℕ = c.loop-digit.digit-index in
    let digit : is_within 48 57 (get_or text i 0) ≡ true = sym c.is_ascii_digit.ensures.value ∙ c.if-not-is_ascii_digit.false in
    sym (c.loop-digit.invariant.from
    ∙ number_next limit n text i true (omega arith) digit
    ∙ number_passes limit (10 * n + (get_or text i 0 - 48)) (drop (i + 1) text) (omega arith))
