use Rattle.std.proofs.Common.{◌≡◌, false, sym, ap, ◌∙◌}
use Rattle.wire_ip4.specs.Grammar.{is_piece, is_piece_of}
use Rattle.ingress.proofs.Packets.{holds_whole, is_read}
use Rattle.ingress.proofs.Steps.{stays_whole}
use Rattle.ingress.proofs.plain.Plain.whole.Goals as goal

pub lent-requires : goal.lent-requires
lent-requires c =
    holds_whole c.self.inside.head.now c.self.inside.bytes.now c.self.inside.packet c.self.invariant
    (ap is_piece_of (sym c.fields.ensures.value) ∙ sym c.is_piece.ensures ∙ c.if-is_piece.false)

pub returns-clause-tells : goal.returns-clause-tells
returns-clause-tells c =
    let whole : is_piece c.self.inside.packet.0 ≡ false =
    ap is_piece_of (sym c.fields.ensures.value) ∙ sym c.is_piece.ensures ∙ c.if-is_piece.false in
    stays_whole c.args.key c.args.now.0 c.args.pieces.now c.self.inside.packet c.lent.result c.args.self whole
    (c.lent.ensures ∙ (is_read c.self.inside.bytes.now c.self.inside.packet c.self.invariant.read).same) c.self.view_is
