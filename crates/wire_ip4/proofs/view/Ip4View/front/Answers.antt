use Rattle.std.proofs.Common.{List, ℕ, Ok, drop, sym, ap, subst, ◌∙◌, arith}
use Rattle.wire_ip4.specs.Grammar.{SpellsFront, header_of}
use Rattle.wire_ip4.proofs.GrammarLaws.{front_spelled, front_accepts, all_after}
use Rattle.wire_ip4.proofs.view.Ip4View.front.Goals as goal

pub returns-in_err-len-clause-accepts : goal.returns-in_err-len-clause-accepts
returns-in_err-len-clause-accepts c = front_accepts c.args.bytes.now

pub returns-clause-accepts : goal.returns-clause-accepts
returns-clause-accepts c = front_accepts c.args.bytes.now

pub returns-clause-value : goal.returns-clause-value
returns-clause-value c =
    ap (λ (l : List ℕ). Ok (header_of c.args.bytes.now, l)) (all_after c.in_ok-len.len c.args.bytes.now) ∙ sym c.in_ok-len.ensures.good

pub returns-clause-spelled : goal.returns-clause-spelled
returns-clause-spelled c =
    let bytes = c.args.bytes.now in
    let len = c.in_ok-len.len in
    subst (SpellsFront bytes (header_of bytes)) (sym (all_after len bytes))
    (front_spelled bytes (header_of bytes) (drop len bytes) (λ i. omega (arith, c.type_inv.bytes i)) c.in_ok-len.ensures.good)
