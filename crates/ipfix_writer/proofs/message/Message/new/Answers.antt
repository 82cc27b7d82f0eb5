use Rattle.std.proofs.Common.{◌∙◌, rules}
use Rattle.ipfix_writer.specs.Grammar.{SpellsMessage}
use Rattle.ipfix_writer.specs.Draft.{empty_message}
use Rattle.ipfix_writer.proofs.GrammarLaws.{message_read}
use Rattle.ipfix_writer.proofs.DraftLaws.{empty_spelled, spelled_again}
use Rattle.ipfix_writer.proofs.message.Message.new.Goals as goal

spelled : (c : goal.In_ok-bytes) → SpellsMessage c.in_ok-bytes.bytes.items (empty_message c.args.time c.args.seq c.args.domain)
spelled c =
    empty_spelled c.in_ok-bytes.bytes.items c.args.time c.args.seq c.args.domain
    record { time = search rules; seq = search rules; domain = search rules }
    (c.in_ok-bytes.ensures.items ∙ c.header_octets.ensures)

pub invariant_of-result : goal.invariant_of-result
invariant_of-result c = spelled_again c.in_ok-bytes.bytes.items _ (spelled c)

pub returns : goal.returns
returns c = record { ok = message_read c.in_ok-bytes.bytes.items _ (spelled c) }
