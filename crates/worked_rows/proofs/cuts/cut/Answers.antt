use Rattle.std.proofs.Common.{◌≡◌, false, sym, ap, ◌∙◌}
use Rattle.wire_ip4.specs.Grammar.{is_piece, is_piece_of}
use Rattle.softwire.proofs.Cuts.{no_options}
use Rattle.worked_rows.proofs.cuts.cut.Goals as goal

pub cut4-requires-clause-packet : goal.cut4-requires-clause-packet
cut4-requires-clause-packet c =
    let view = c.in-Ok.view in
    let whole : is_piece view.0 ≡ false = sym (c.if-is_piece.ensures ∙ ap is_piece_of c.fields.ensures.value) in (
      view.0,
      view.1,
      sym c.in-Ok.ensures.value,
      no_options view.0 c.has_options.result c.has_options.ensures c.if-has_options.false,
      whole,
    )
