use Rattle.std.proofs.Common.{◌≡◌, ◌≤◌, ◌++◌, ◌∙◌, length, vec_len, vec_capacity, ap, sym, rules, arith}
use Rattle.ipfix_writer.specs.Grammar.{SpellsMessage}
use Rattle.ipfix_writer.specs.Draft.{empty_message}
use Rattle.ipfix_writer.proofs.GrammarLaws.{message_read, head_is, head_length}
use Rattle.aftr_base.specs.Bytes.{u32_at}
use Rattle.ipfix_writer.proofs.DraftLaws.{empty_spelled, spelled_again, message_length}
use Rattle.ipfix_writer.proofs.message.Message.clear.Goals as goal

pub u32_in-requires : goal.u32_in-requires
u32_in-requires c =
    let counted = message_length c.self.inside.bytes.items _ c.self.invariant in
    record { room = omega (arith, ap length c.as_slice.ensures.value, counted) }

pub append-requires : goal.append-requires
append-requires c =
    let counted = message_length c.self.inside.bytes.items _ c.self.invariant in
    let items : vec_len c.self.inside.bytes ≡ length c.self.inside.bytes.items = search rules in
    let within : vec_len c.self.inside.bytes ≤ vec_capacity c.self.inside.bytes = search rules in
    let header : length c.header_octets-header.result ≡ 16 = ap length c.header_octets-header.ensures ∙ head_length 16 _ in
    omega (arith, items, counted, within, header)

spelled : (c : goal.After-append) → SpellsMessage c.append.new.bytes.items (empty_message c.args.time c.args.seq c.u32_in.result)
spelled c =
    empty_spelled c.append.new.bytes.items c.args.time c.args.seq c.u32_in.result
    record { time = search rules; seq = search rules; domain = search rules }
    (c.append.ensures.items ∙ ap (λ t. t ++ c.header_octets-header.result) c.clear.ensures.items ∙ c.header_octets-header.ensures)

pub invariant_of-self : goal.invariant_of-self
invariant_of-self c = spelled_again c.append.new.bytes.items _ (spelled c)

pub returns-clause-value : goal.returns-clause-value
returns-clause-value c = message_read c.append.new.bytes.items _ (spelled c) ∙ ap (empty_message c.args.time c.args.seq) domain
  where
    domain : c.u32_in.result ≡ c.args.self.now.message.head.domain
    domain = c.u32_in.ensures ∙ ap (u32_at 12) c.as_slice.ensures.value ∙ ap (λ h. h.domain) (sym (head_is c.self.inside.bytes.items))
        ∙ ap (λ d. d.message.head.domain) c.self.view_is
