use Rattle.std.proofs.Common.{◌≡◌, ◌+◌, ◌-◌, ◌/◌, ◌%◌, ℕ, List, length, take, drop, ap, ◌∙◌, arith}
use Rattle.std.proofs.lemmas.List.{length-take, length-drop}
use Rattle.aftr_base.specs.Bytes.{be32}
use Rattle.icmp_xlate.proofs.Words.{quad_put}
use Rattle.icmp_xlate.proofs.octets.set_u32.Goals as goal
use borrow.Rule.Slice.PartMut.{put_mid}

pub returns : goal.returns
unfolding be32
returns c =
    let at : ℕ = c.args.at in
    let n : ℕ = c.args.value in
    let size : ℕ = at + 4 - at in
    let part : List ℕ = take size (drop at c.args.bytes.now) in
    let none : length (drop 4 part) ≡ 0 = omega (arith, length-drop 4 part, length-take size (drop at c.args.bytes.now)) in
    ap (λ (t : List ℕ). put_mid at size c.args.bytes.now t) c.write_u32.ensures
    ∙ quad_put at size (n / 16777216 % 256) (n / 65536 % 256) (n / 256 % 256) (n % 256) c.args.bytes.now (drop 4 part) (omega arith) none
