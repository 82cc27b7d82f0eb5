use Rattle.std.proofs.Common.{refl, ◌∙◌}
use Rattle.wire_ip4.specs.Grammar.{header_with}
use Rattle.softwire.proofs.tests.is_cut_alike.Goals as goal

pub cut_with-requires-clause-packet : goal.cut_with-requires-clause-packet
cut_with-requires-clause-packet c =
    let (payload, written) = c.in_ok-bytes.ensures.written in
    (header_with c.fields-fields.result, payload, refl, refl, c.deref.ensures.value ∙ written)
