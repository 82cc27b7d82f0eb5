use Rattle.std.proofs.Common.{◌≤◌, ◌∙◌, length, ap, rules, arith}
use Rattle.std.proofs.lemmas.List.{take_rest}
use Rattle.ipfix_writer.specs.Grammar.{message_len, message_of, sets_bytes}
use Rattle.ipfix_writer.proofs.GrammarLaws.{behind_head}
use Rattle.ipfix_writer.proofs.DraftLaws.{message_length}
use Rattle.ipfix_reader.proofs.view.MessageView.sets.Goals as goal

pub slice_bounds-result-count : goal.slice_bounds-result-count
slice_bounds-result-count c = let counted = message_length c.self.inside.bytes.now _ c.self.invariant in omega arith

pub slice_bounds-result-start : goal.slice_bounds-result-start
slice_bounds-result-start c =
    let long : 16 ≤ length c.self.inside.bytes.now = slice_bounds-result-count c in
    search rules

pub returns-clause-value : goal.returns-clause-value
returns-clause-value c =
    let bytes = c.self.inside.bytes.now in
    let m = message_of bytes in
    take_rest bytes 16 ∙ behind_head bytes (message_len m) m.head (sets_bytes m.sets) c.self.invariant.spelled
    ∙ ap (λ m. sets_bytes m.sets) c.self.view_is
