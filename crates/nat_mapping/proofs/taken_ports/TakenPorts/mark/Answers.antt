use Rattle.std.proofs.Common.{◌<◌, ℕ, Bool, List, length, ap, ◌∙◌, ◌||◌, arith}
use Rattle.std.specs.Prelude.{◌==◌}
use Rattle.nat_mapping.specs.Rows.{is_marked}
use Rattle.nat_mapping.proofs.Marks.{marked_one}
use Rattle.nat_mapping.proofs.taken_ports.TakenPorts.mark.Goals as goal

pub returns : goal.returns
returns c = λ p.
    let was = c.self.inside in
    let at = c.from.result in
    let lt : at < length was.stamps.items = omega (arith, c.self.invariant.0, c.ranges.port.fits, c.from.ensures) in
    marked_one was.generation was.stamps.items at p lt
    ∙ ap (λ (marks : List Bool). is_marked marks p || at == p) c.self.view_is
    ∙ ap (λ (port : ℕ). is_marked c.args.self.now p || port == p) c.from.ensures
