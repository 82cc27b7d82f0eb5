use Rattle.std.proofs.Common.{◌<◌, ℕ, Bool, List, length, ap, sym, ◌∙◌, arith}
use Rattle.std.specs.Prelude.{◌==◌}
use Rattle.nat_mapping.specs.Rows.{is_marked}
use Rattle.nat_mapping.proofs.Marks.{mark_there, marks_of}
use Rattle.nat_mapping.proofs.taken_ports.TakenPorts.is_taken.Goals as goal

pub returns : goal.returns
returns c =
    let was = c.self.inside in
    let stamps = was.stamps.items in
    let at = c.from.result in
    let lt : at < length stamps = omega (arith, c.self.invariant.0, c.ranges.port.fits, c.from.ensures) in
    ap (λ (stamp : ℕ). stamp == was.generation) c.index.ensures
    ∙ sym (mark_there was.generation stamps at c.index.result.now lt)
    ∙ ap (is_marked (marks_of was.generation stamps)) c.from.ensures
    ∙ ap (λ (marks : List Bool). is_marked marks c.args.port) c.self.view_is
