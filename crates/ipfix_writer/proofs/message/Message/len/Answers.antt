use Rattle.std.proofs.Common.{◌≡◌, ◌∙◌, length, vec_len, ap, rules, arith}
use Rattle.ipfix_writer.specs.Grammar.{message_len, message_of}
use Rattle.ipfix_writer.proofs.DraftLaws.{message_length}
use Rattle.ipfix_writer.proofs.message.Message.len.Goals as goal

counted : (c : goal.After-len) → c.len.result ≡ message_len (message_of c.self.inside.bytes.items)
counted c =
    let items : vec_len c.self.inside.bytes ≡ length c.self.inside.bytes.items = search rules in
    c.len.ensures ∙ items ∙ message_length c.self.inside.bytes.items _ c.self.invariant

pub returns-clause-value : goal.returns-clause-value
returns-clause-value c = counted c ∙ ap (λ d. message_len d.message) c.self.view_is

pub returns-clause-within : goal.returns-clause-within
returns-clause-within c = let fits = c.self.invariant.fits.len in omega (arith, counted c)
