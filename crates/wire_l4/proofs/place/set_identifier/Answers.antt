use Rattle.std.proofs.Common.{ℕ, [], ◌∷◌, ◌∙◌, ap}
use Rattle.aftr_base.specs.Checksum.{adjusted}
use Rattle.wire_l4.specs.Grammar.{echo_bytes, echo_of}
use Rattle.wire_l4.proofs.Replacing.{echo_set}
use Rattle.wire_l4.proofs.place.set_identifier.Goals as goal

pub returns : goal.returns
returns c =
    c.set_u16-2.ensures
    ∙ echo_set c.args.new c.adjust-sum.result c.args.bytes.now c.set_u16.new.bytes c.requires c.set_u16.ensures
    ∙ ap (λ (n : ℕ). echo_bytes (record (echo_of c.args.bytes.now) { id = c.args.new; sum = n }))
    (c.adjust-sum.ensures.field ∙ ap (λ (n : ℕ). adjusted n (c.args.old ∷ []) (c.args.new ∷ [])) c.u16_in.ensures)
