use Rattle.std.proofs.Common.{◌+◌, List, ℕ, length, sym, ap, subst, ◌∙◌}
use Rattle.wire_icmp.specs.Grammar.{SpellsMessage}
use Rattle.wire_icmp.specs.Quoted.{shown_in}
use Rattle.icmp_xlate.proofs.Reading.{IsRead, no_options, error_read}
use Rattle.icmp_xlate.proofs.tests.places.Goals as goal

pub returns : goal.returns
returns c =
    let packet : List ℕ = c.args.packet.now in
    let view = c.in-Ok.view in
    let message = c.in-Ok-read.message in
    let payload = c.payload-payload.ensures in
    let read : IsRead packet view.0 (shown_in c.in_ok-quoted.quoted) =
    error_read packet view.0 view.1 message (shown_in c.in_ok-quoted.quoted) c.in-Ok.ensures.spelled
    (no_options view.0 c.has_options.result c.has_options.ensures c.if-has_options.false)
    (c.if-packet-payload.false ∙ ap (λ (l : List ℕ). 20 + length l) payload)
    (subst (λ (l : List ℕ). SpellsMessage l message) payload c.in-Ok-read.ensures.spelled)
    (sym c.in_ok-quoted.ensures.value) c.embedded.ensures.spelled in
    (view.0, read.report, read.error, read.src, read.dst)
