use Rattle.std.proofs.Common.{ℕ, List, ◌++◌, ap, ◌∙◌}
use Rattle.link_records.specs.Reader.{Reader}
use Rattle.link_records.specs.Front.{event_of}
use Rattle.link_records.proofs.FrameSteps.{takes_record}
use Rattle.link_records.proofs.reader.FrameReader.next.Goals as goal

pub returns-in-Ok-clause-reads : goal.returns-in-Ok-clause-reads
returns-in-Ok-clause-reads g c tells =
    let left = ap (λ (r : Reader). r.held ++ g.I.Source.rest c.args.input.now) c.self.view_is in
    takes_record c.self.inside.offset c.args.self.now.offset _ (g.I.Source.rest c.find.new.input) _ _ c.in-Record.head c.in-Ok.event
    c.in-Record.ensures.found (ap (λ (r : Reader). r.offset) c.self.view_is) (c.in-Record.ensures.whole tells ∙ left) c.pass.ensures
    (c.in-Ok.ensures ∙ ap (λ (bytes : List ℕ). event_of bytes c.in-Record.head) c.as_slice.ensures)
