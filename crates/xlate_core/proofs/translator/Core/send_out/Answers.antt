use Rattle.std.proofs.lemmas.Result.{on_ok_weaker}
use Rattle.xlate_core.specs.declared.step_out.StepOut.{StepOut}
use Rattle.xlate_core.proofs.Sending.{sent_so}
use Rattle.xlate_core.proofs.translator.Core.send_out.Goals as goal

pub returns : goal.returns
returns c =
    let out' : StepOut = record { items = c.emit.new.items; log = c.log_opening.new.log } in
    on_ok_weaker c.log_opening.result
    (λ opened. sent_so c.args.self.now c.keep.new.self c.raise_horizon.new.self c.args.admitted.now.got c.args.admitted.now.grant
    c.flow-flow.result c.args.out.now out' c.raise_horizon.new.log c.in_ok-packets.packets
    c.in_ok-packets.ensures.accepted c.in_ok-packets.ensures.short c.in_ok-packets.ensures.packets
    c.flow-flow.ensures c.in_ok-keep.ensures c.in_ok-raise_horizon.ensures.state c.in_ok-raise_horizon.ensures.log c.in_ok-emit.ensures opened)
    c.log_opening.ensures
