use Rattle.std.proofs.Common.{◌∙◌, ap, sym, arith}
use Rattle.ipfix_writer.proofs.GrammarLaws.{head_is}
use Rattle.ipfix_writer.proofs.DraftLaws.{message_length}
use Rattle.ipfix_reader.proofs.view.MessageView.time.Goals as goal

pub u32_in-requires : goal.u32_in-requires
u32_in-requires c = let counted = message_length c.self.inside.bytes.now _ c.self.invariant in record { room = omega arith }

pub returns : goal.returns
returns c = c.u32_in.ensures ∙ ap (λ h. h.time) (sym (head_is c.self.inside.bytes.now)) ∙ ap (λ m. m.head.time) c.self.view_is
