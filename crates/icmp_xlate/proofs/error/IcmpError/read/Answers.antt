use Rattle.std.proofs.Common.{rules, ◌≤◌, ◌∙◌, subst, List, ℕ}
use Rattle.wire_icmp.specs.Grammar.{SpellsMessage}
use Rattle.wire_icmp.specs.Quoted.{shown_in}
use Rattle.icmp_xlate.proofs.ErrorPackets.{found, is_ready, none_found, was_read}
use Rattle.icmp_xlate.proofs.error.IcmpError.read.Goals as goal

pub returns-in_err-quoted : goal.returns-in_err-quoted
returns-in_err-quoted c =
    let packet = c.args.packet in
    let message = c.in-Ok.message in
    let spelled = subst (λ (l : List ℕ). SpellsMessage l message) c.payload.ensures c.in-Ok.ensures.spelled in
    c.from_residual.ensures ∙ none_found packet.0 packet.1 message spelled c.in_err-quoted.ensures.value

pub invariant_of-result : goal.invariant_of-result
invariant_of-result c =
    let packet = c.args.packet in
    let message = c.in-Ok.message in
    let spelled = subst (λ (l : List ℕ). SpellsMessage l message) c.payload.ensures c.in-Ok.ensures.spelled in
    let short : c.fields-fields.result.total ≤ 65535 = search rules in
    is_ready c.requires.plain c.requires.alive c.requires.total c.fields-fields.ensures.value short
    (was_read packet.1 message (shown_in c.in_ok-quoted.quoted) spelled c.in_ok-quoted.ensures.value c.embedded.ensures.spelled)

pub returns : goal.returns
returns c =
    let packet = c.args.packet in
    let message = c.in-Ok.message in
    let spelled = subst (λ (l : List ℕ). SpellsMessage l message) c.payload.ensures c.in-Ok.ensures.spelled in
    found packet.0 packet.1 (shown_in c.in_ok-quoted.quoted)
    (was_read packet.1 message (shown_in c.in_ok-quoted.quoted) spelled c.in_ok-quoted.ensures.value c.embedded.ensures.spelled)
