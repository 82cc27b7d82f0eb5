use Rattle.std.proofs.Common.{◌≡◌, ◌≤◌, ◌<◌, ◌+◌, ◌++◌, ◌∙◌, length, vec_len, vec_capacity, ap, subst, sym, rules, arith}
use Rattle.ipfix_writer.specs.Grammar.{IpfixSet, set_bytes, message_of, SpellsMessage}
use Rattle.ipfix_writer.specs.Draft.{with_set, with_len_of}
use Rattle.ipfix_writer.proofs.GrammarLaws.{message_read}
use Rattle.ipfix_writer.proofs.DraftLaws.{draft_length, message_length, set_put, spelled_again}
use Rattle.ipfix_writer.proofs.message.Message.put_set.Goals as goal
use Rattle.ipfix_writer.proofs.message.Message.put_set.Goals.{Else-is_err}

pub append_set-requires-clause-header : goal.append_set-requires-clause-header
append_set-requires-clause-header c =
    let items : vec_len c.self.inside.bytes ≡ length c.self.inside.bytes.items = search rules in
    let counted = message_length c.self.inside.bytes.items _ c.self.invariant in
    omega (arith, items, counted)

pub append_set-requires-clause-within : goal.append_set-requires-clause-within
append_set-requires-clause-within c =
    let items : vec_len c.self.inside.bytes ≡ length c.self.inside.bytes.items = search rules in
    let counted = draft_length c.self.inside.bytes.items _ _ c.self.invariant c.self.view_is in
    let place : c.len.result + (4 + length c.args.body.now) ≤ 65535 = search rules in
    omega (arith, items, counted, c.len.ensures.value)

pub returns-then-is_err-clause-no_memory : goal.returns-then-is_err-clause-no_memory
returns-then-is_err-clause-no_memory c refused =
    let items : vec_len c.self.inside.bytes ≡ length c.self.inside.bytes.items = search rules in
    let counted = draft_length c.self.inside.bytes.items _ _ c.self.invariant c.self.view_is in
    let less : vec_capacity c.self.inside.bytes < vec_len c.self.inside.bytes + (4 + length c.args.body.now) = search rules in
    omega (arith, items, counted, less, ap (λ d. d.room) c.self.view_is)

-- the message with its new set
spelled : (c : Else-is_err)
    → SpellsMessage c.append_set.new.bytes.items (with_set (message_of c.self.inside.bytes.items) c.args.id c.args.body.now)
spelled c =
    let s : IpfixSet = record { id = c.args.id; body = c.args.body.now } in
    let old = c.self.inside.bytes.items in
    let is : c.append_set.new.bytes.items ≡ with_len_of (old ++ set_bytes s) = search rules in
    let place : c.len.result + (4 + length c.args.body.now) ≤ 65535 = search rules in
    let counted = draft_length old _ _ c.self.invariant c.self.view_is in
    subst (λ bytes. SpellsMessage bytes (with_set (message_of old) s.id s.body)) (sym is)
    (set_put old (message_of old) s c.self.invariant record { used = c.requires; id = search rules; len = omega arith }
    (omega (arith, counted, c.len.ensures.value)))

pub invariant_of-self-2 : goal.invariant_of-self-2
invariant_of-self-2 c = spelled_again c.append_set.new.bytes.items _ (spelled c)

pub returns-clause-ok : goal.returns-clause-ok
returns-clause-ok c =
    message_read c.append_set.new.bytes.items _ (spelled c)
    ∙ ap (λ d. with_set d.message c.args.id c.args.body.now) c.self.view_is
