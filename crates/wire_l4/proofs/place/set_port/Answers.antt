use Rattle.std.proofs.Common.{rules, ◌≡◌, ◌∙◌}
use Rattle.std.specs.Prelude.{if◌then◌else◌}
use Rattle.wire_l4.proofs.Segments.{HasSumAt, place_set}
use Rattle.wire_l4.proofs.place.set_port.Goals as goal
use Rattle.wire_l4.proofs.place.set_port.Goals.{then-source, else-source}

pub returns : goal.returns
returns c =
    let h : HasSumAt c.args.sum_at c.args.bytes.now = record { fits = search rules; low = c.requires.behind; room = c.requires.room } in
    let at : c.if-source.port_at ≡ (if c.args.source then 0 else 2) =
    elim c.if-source.branch [ then-source w ↦ search rules | else-source w ↦ search rules ] in
    c.set_u16-2.ensures ∙ place_set h c.args.source c.args.port c.args.sum at c.set_u16.ensures
