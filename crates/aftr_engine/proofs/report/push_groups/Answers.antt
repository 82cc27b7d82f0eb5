use Rattle.std.proofs.Common.{ℕ, ◌≡◌, List, [], ◌∷◌, ◌++◌, length, length-append, ap, arith}
use Rattle.aftr_engine.specs.report.Lines.{groups}
use Rattle.aftr_engine.proofs.Groups.{group_pushed}
use Rattle.aftr_engine.proofs.report.push_groups.Goals as goal

pub loop-place-preserved : goal.loop-place-preserved
loop-place-preserved c =
    let before : List ℕ = c.loop-place.line.bytes in
    let mid : List ℕ = c.push_group.new.line.bytes in
    let now : List ℕ = c.push.new.self.bytes in
    let colon : now ≡ mid ++ 58 ∷ [] = c.push.ensures.ascii (omega arith) in
    let longer : length now ≡ length (mid ++ 58 ∷ []) = ap (λ (xs : List ℕ). length xs) colon in
    record {
      bytes =
          group_pushed before mid now (c.args.line.now.bytes ++ groups 8 c.args.bits) c.args.bits c.loop-place.place
          (omega arith) c.loop-place.invariant.bytes c.push_group.ensures.bytes colon;
      room = omega (arith, longer, length-append mid (58 ∷ []), c.push_group.ensures.room, c.loop-place.invariant.room);
    }
