use Rattle.std.proofs.Common.{◌∙◌, sym, ap}
use Rattle.link_records.specs.Frames.{event_at}
use Rattle.link_records.proofs.FrameSteps.{none_is_left}
use Rattle.link_records.proofs.reader.find.Goals as goal

pub returns-in-End-2-clause-whole : goal.returns-in-End-2-clause-whole
returns-in-End-2-clause-whole g c tells =
    let kept = c.in-End-2.ensures.kept tells in
    let all = c.loop-head.invariant.0 tells in
    (kept.0 ∙ all, none_is_left c.args.at _ _ _ all kept.1 (ap (event_at c.args.at) (sym c.as_slice.ensures) ∙ c.in-Short.ensures.1))
