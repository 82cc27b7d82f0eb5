use Rattle.std.proofs.Common.{subst, sym}
use Rattle.aftr_base.specs.Bytes.{IsBytes}
use Rattle.ingress.specs.Gathering.{IsPlainHead}
use Rattle.ingress.proofs.Packets.{is_piece_in}
use Rattle.ingress.proofs.plain.Plain.as_piece.Goals as goal

pub returns-clause-piece : goal.returns-clause-piece
returns-clause-piece c = λ key.
    let holds = c.self.invariant in
    let is = is_piece_in c.self.inside.packet holds.header holds.plain holds.payload key in
    record {
      head = λ four. subst IsPlainHead (sym holds.front) (is.head four);
      bytes = subst IsBytes (sym c.payload.ensures) is.bytes;
    }
