use Rattle.std.proofs.Common.{ℕ, ◌+◌, ◌*◌, ◌≡◌, Some, sym, ap, ◌∙◌, arith}
use Rattle.aftr_base.specs.Value.{ip4}
use Rattle.aftr_engine.specs.words.Words.{value_of, is_octet}
use Rattle.aftr_engine.proofs.WordParts.{octet_refused, octet_taken, octet_value, third_refused, fourth_refused, all_taken}
use Rattle.aftr_engine.proofs.words.address_with.Goals as goal

pub returns-in_err-c : goal.returns-in_err-c
returns-in_err-c c =
    let third = c.args.third.now in
    c.from_residual-in_err-c.ensures
    ∙ sym (third_refused (is_octet c.args.first.now) (is_octet c.args.second.now) (is_octet third) (is_octet c.args.fourth.now) _
    (octet_refused (is_octet third) (value_of third) (c.in_err-c.ensures)))

pub returns-in_err-d : goal.returns-in_err-d
returns-in_err-d c =
    let fourth = c.args.fourth.now in
    c.from_residual-in_err-d.ensures
    ∙ sym (fourth_refused (is_octet c.args.first.now) (is_octet c.args.second.now) (is_octet c.args.third.now) (is_octet fourth) _
    (octet_refused (is_octet fourth) (value_of fourth) (c.in_err-d.ensures)))

pub returns : goal.returns
returns c =
    let p = c.args.first.now in
    let q = c.args.second.now in
    let r = c.args.third.now in
    let s = c.args.fourth.now in
    let a : value_of p ≡ c.in_ok-a.a = octet_value (is_octet p) (value_of p) c.in_ok-a.a c.in_ok-a.ensures in
    let b : value_of q ≡ c.in_ok-b.b = octet_value (is_octet q) (value_of q) c.in_ok-b.b c.in_ok-b.ensures in
    let d : value_of r ≡ c.in_ok-c.c = octet_value (is_octet r) (value_of r) c.in_ok-c.c c.in_ok-c.ensures in
    let e : value_of s ≡ c.in_ok-d.d = octet_value (is_octet s) (value_of s) c.in_ok-d.d c.in_ok-d.ensures in
    let n : ℕ = 256 * (256 * (256 * (256 * 0 + value_of p) + value_of q) + value_of r) + value_of s in
    let same : c.from_be_bytes.result ≡ n = omega (arith, c.from_be_bytes.ensures, a, b, d, e) in
    ap (λ (m : ℕ). Some (ip4 m)) same
    ∙ sym (all_taken (is_octet p) (is_octet q) (is_octet r) (is_octet s) n
    (octet_taken (is_octet p) (value_of p) c.in_ok-a.a c.in_ok-a.ensures)
    (octet_taken (is_octet q) (value_of q) c.in_ok-b.b c.in_ok-b.ensures)
    (octet_taken (is_octet r) (value_of r) c.in_ok-c.c c.in_ok-c.ensures)
    (octet_taken (is_octet s) (value_of s) c.in_ok-d.d c.in_ok-d.ensures))
