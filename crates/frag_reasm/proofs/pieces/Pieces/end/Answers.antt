use Rattle.std.proofs.Common.{rules, ◌∙◌, sym, ap, subst, not}
use Rattle.std.proofs.lemmas.Fn.{filter_same}
use Rattle.frag_reasm.specs.declared.pieces.PartialDatagram.{PartialDatagram}
use Rattle.frag_reasm.specs.Offers.{is_of, without, IsSound}
use Rattle.frag_reasm.proofs.Sound.{sound_filter}
use Rattle.frag_reasm.proofs.pieces.Pieces.end.Goals as goal

pub invariant_of-self : goal.invariant_of-self
invariant_of-self c =
    subst IsSound (sym (filter_same _ (λ (d : PartialDatagram). not (is_of c.args.key.now d)) _
    (λ x b f' k. search rules) _ _ c.retain.ensures.filtered))
    (sound_filter (λ (d : PartialDatagram). not (is_of c.args.key.now d)) c.self.inside.datagrams.items c.self.invariant)

pub returns : goal.returns
returns c =
    filter_same _ (λ (d : PartialDatagram). not (is_of c.args.key.now d)) _ (λ x b f' k. search rules) _ _ c.retain.ensures.filtered
    ∙ ap (without c.args.key.now) c.self.view_is
