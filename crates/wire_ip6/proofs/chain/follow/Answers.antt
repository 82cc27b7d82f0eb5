use Rattle.std.proofs.Common.{◌≡◌, ◌+◌, ◌*◌, true, sym, ◌∙◌, rules, arith}
use Rattle.wire_ip6.specs.Chain.{is_passed}
use Rattle.wire_ip6.proofs.ChainLaws.{chain_on, chain_end, chain_short}
use Rattle.wire_ip6.proofs.chain.follow.Goals as goal

pub returns-then-rest-lt8 : goal.returns-then-rest-lt8
returns-then-rest-lt8 c =
    let passed : is_passed c.headers.last ≡ true = sym c.passes_over.ensures ∙ c.headers-test.true in
    sym (chain_short c.headers.last c.headers.rest.now c.args.whole passed (omega arith)) ∙ c.headers.invariant

pub returns-then-rest-len : goal.returns-then-rest-len
returns-then-rest-len c =
    let passed : is_passed c.headers.last ≡ true = sym c.passes_over.ensures ∙ c.headers-test.true in
    sym (chain_short c.headers.last c.headers.rest.now c.args.whole passed (search rules)) ∙ c.headers.invariant

pub headers-preserved : goal.headers-preserved
headers-preserved c =
    let passed : is_passed c.headers.last ≡ true = sym c.passes_over.ensures ∙ c.headers-test.true in
    chain_on c.headers.last c.headers.rest.now c.args.whole (8 + 8 * c.from.result) passed (search rules) (search rules)
    ∙ c.headers.invariant

pub returns : goal.returns
returns c = c.end.ensures
    ∙ sym (chain_end c.headers.last c.headers.rest.now c.args.whole (sym c.passes_over.ensures ∙ c.headers-test.false))
    ∙ c.headers.invariant
