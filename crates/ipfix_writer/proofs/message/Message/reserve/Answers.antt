use Rattle.std.proofs.Common.{◌≡◌, length, vec_len, ap, rules, arith}
use Rattle.ipfix_writer.specs.Grammar.{message_len, message_of}
use Rattle.std.specs.Prelude.{Result, Ok, Err, OnErr}
use Rattle.ipfix_writer.proofs.DraftLaws.{draft_length, message_length}
use Rattle.ipfix_writer.proofs.message.Message.reserve.Goals as goal

pub returns-clause-ok : goal.returns-clause-ok
returns-clause-ok c =
    let items : vec_len c.self.inside.bytes ≡ length c.self.inside.bytes.items = search rules in
    let counted = message_length c.self.inside.bytes.items _ c.self.invariant in
    let same : message_len (message_of c.reserve.new.self.items) ≡ message_len (message_of c.self.inside.bytes.items) =
    ap (λ bytes. message_len (message_of bytes)) c.reserve.ensures.items in
    let room = c.in_ok-reserve.ensures.ok in
    let len = c.in_ok-reserve.ensures.len in
    omega (arith, items, counted, same)

-- what holds anyway holds of a refusal
anyway : {T E : Type 0} {P : Type 0} (r : Result T E) → P → OnErr r P
anyway (Ok x) p = tt
anyway (Err e) p = p

pub returns-in_err-reserve-clause-no_memory : goal.returns-in_err-reserve-clause-no_memory
returns-in_err-reserve-clause-no_memory c =
    let items : vec_len c.self.inside.bytes ≡ length c.self.inside.bytes.items = search rules in
    let counted = draft_length c.self.inside.bytes.items _ _ c.self.invariant c.self.view_is in
    let full = c.in_err-reserve.ensures.full in
    anyway c.from_residual.result (omega (arith, items, counted, full, ap (λ d. d.room) c.self.view_is))
