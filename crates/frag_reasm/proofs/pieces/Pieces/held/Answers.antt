use Rattle.std.proofs.Common.{◌∙◌, ap, Option, []}
use Rattle.std.specs.Option.{option_map_or}
use Rattle.frag_reasm.specs.declared.pieces.PartialDatagram.{PartialDatagram}
use Rattle.frag_reasm.proofs.pieces.Pieces.held.Goals as goal

pub returns-in-Some-clause-value : goal.returns-in-Some-clause-value
returns-in-Some-clause-value c = c.as_slice.ensures
    ∙ ap (λ (o : Option PartialDatagram). option_map_or (λ (d : PartialDatagram). d.pieces) o []) c.in-Some.ensures.value

pub returns-in-None-clause-value : goal.returns-in-None-clause-value
returns-in-None-clause-value c = ap (λ (o : Option PartialDatagram). option_map_or
    (λ (d : PartialDatagram). d.pieces) o []) c.in-None.ensures.value
