use Rattle.std.proofs.Common.{◌≡◌, ◌+◌, ◌*◌, ◌/◌, ◌++◌, ◌∷◌, [], ℕ, List, take, sym, ap, ◌∙◌, arith}
use Rattle.std.specs.Prelude.{nat_lt}
use Rattle.std.proofs.lemmas.List.FromFn.{map-range_with_len_more}
use Rattle.wire_ip4.proofs.GrammarLaws.{all_after}
use Rattle.wire_ip6.specs.Grammar.{frag_bytes}
use Rattle.softwire.specs.Tunnel.{tunnel_packet}
use Rattle.softwire.specs.Cut.{fragment, piece_of}
use Rattle.softwire.proofs.Pieces.{piece_is}
use Rattle.softwire.proofs.fragments.fragments_of.Goals as goal

pub loop-i-preserved : goal.loop-i-preserved
loop-i-preserved c =
    let n : ℕ = c.args.room in
    let i : ℕ = c.loop-i.i in
    let inner : List ℕ = c.args.inner.now in
    let by = c.args.carrier in
    let part : c.front_of-part.result.now ≡ piece_of n inner i =
    c.front_of-part.ensures ∙ ap (take n) (all_after (n * i) inner) ∙ piece_is n inner i in
    let made : c.in_ok-piece.piece.items ≡ fragment by.aftr by.softwire by.class by.id n inner i =
    c.in_ok-piece.ensures
    ∙ (λ k. tunnel_packet by.aftr by.softwire by.class 44 (frag_bytes (record {
      next = 4;
      offset = n * i / 8;
      more = nat_lt (i + 1) (c.div_ceil-count.ensures k);
      id = by.id;
    }) ++ part k)) in
    c.in_ok-push.ensures.ok ∙ (λ k. c.loop-i.invariant k ++ made k ∷ [])
    ∙ sym (map-range_with_len_more (fragment by.aftr by.softwire by.class by.id n inner) 0 i i (omega arith))
