use Rattle.link_records.proofs.WindowSteps.{passed}
use Rattle.link_records.proofs.window.Window.pass.Goals as goal

pub returns : goal.returns
returns c =
    let w = c.args.self.now in
    passed w.buffer.items w.first w.end c.args.count c.requires
