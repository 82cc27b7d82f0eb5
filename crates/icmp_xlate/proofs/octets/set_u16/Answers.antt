use Rattle.std.proofs.Common.{◌≡◌, ◌+◌, ◌-◌, ◌/◌, ◌%◌, ℕ, List, length, take, drop, ap, ◌∙◌, arith}
use Rattle.std.proofs.lemmas.List.{length-take, length-drop}
use Rattle.aftr_base.specs.Bytes.{be16}
use Rattle.wire_l4.proofs.Words.{word_put}
use Rattle.icmp_xlate.proofs.octets.set_u16.Goals as goal
use borrow.Rule.Slice.PartMut.{put_mid}

pub returns : goal.returns
unfolding be16
returns c =
    let at : ℕ = c.args.at in
    let size : ℕ = at + 2 - at in
    let part : List ℕ = take size (drop at c.args.bytes.now) in
    let none : length (drop 2 part) ≡ 0 = omega (arith, length-drop 2 part, length-take size (drop at c.args.bytes.now)) in
    ap (λ (t : List ℕ). put_mid at size c.args.bytes.now t) c.write_u16.ensures
    ∙ word_put at size (c.args.value / 256 % 256) (c.args.value % 256) c.args.bytes.now (drop 2 part) (omega arith) none
