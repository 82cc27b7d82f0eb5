use Rattle.std.proofs.Common.{◌≡◌, ◌+◌, ◌*◌, ◌/◌, ◌++◌, ◌∷◌, [], ℕ, List, length, take, sym, ap, ◌∙◌, arith}
use Rattle.std.specs.Prelude.{nat_lt}
use Rattle.std.proofs.lemmas.List.FromFn.{map-range_with_len_more}
use Rattle.wire_ip4.specs.declared.fields.Ip4Fields.{Ip4Fields}
use Rattle.wire_ip4.specs.Grammar.{header_bytes, header_with}
use Rattle.wire_ip4.proofs.GrammarLaws.{all_after}
use Rattle.softwire.specs.Cut.{ip4_piece, piece_fields, piece_of}
use Rattle.softwire.proofs.Pieces.{piece_is}
use Rattle.softwire.proofs.cut.pieces_of.Goals as goal

pub loop-i-preserved : goal.loop-i-preserved
loop-i-preserved c =
    let n : ℕ = c.args.room in
    let i : ℕ = c.loop-i.i in
    let f : Ip4Fields = c.args.fields.now in
    let payload : List ℕ = c.args.payload.now in
    let part : c.front_of-part.result.now ≡ piece_of n payload i =
    c.front_of-part.ensures ∙ ap (take n) (all_after (n * i) payload) ∙ piece_is n payload i in
    let made : c.in_ok-piece.piece.items ≡ ip4_piece f n payload i =
    c.in_ok-piece.ensures
    ∙ (λ k.
    header_bytes (header_with (piece_fields f (length (part k)) (n * i / 8) (nat_lt (i + 1) (c.div_ceil-count.ensures k)))) ++ part k) in
    c.in_ok-push.ensures.ok ∙ (λ k. c.loop-i.invariant k ++ made k ∷ [])
    ∙ sym (map-range_with_len_more (ip4_piece f n payload) 0 i i (omega arith))
