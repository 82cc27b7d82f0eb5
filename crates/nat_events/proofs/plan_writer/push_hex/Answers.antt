use Rattle.std.proofs.Common.{◌≡◌, ◌++◌, [], ◌∷◌}
use Rattle.nat_events.specs.PlanText.{hex_digits}
use Rattle.nat_events.proofs.DigitLaws.{hex_step, hex_end}
use Rattle.nat_events.proofs.plan_writer.push_hex.Goals as goal

pub loop-k-preserved : goal.loop-k-preserved
loop-k-preserved c =
    let pushed : c.push.new.self ≡ c.loop-k.out ++ c.hex_digit.result ∷ [] = c.in_ok-push.ensures.ok in
    let step = hex_step c.loop-k.out (c.args.out.now ++ hex_digits c.args.digits c.args.bits) c.args.digits c.loop-k.k c.args.bits
    c.hex_digit.result c.loop-k-test.true c.hex_digit.ensures c.loop-k.invariant in
    rw pushed step

pub returns : goal.returns
returns c =
    hex_end c.loop-k.out (c.args.out.now ++ hex_digits c.args.digits c.args.bits) c.args.digits c.loop-k.k c.args.bits
    c.loop-k-test.false c.loop-k.invariant
