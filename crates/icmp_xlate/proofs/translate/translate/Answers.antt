use Rattle.std.proofs.Common.{◌≤◌, ◌++◌, List, ℕ, length, not, ap, ◌∙◌, arith}
use Rattle.wire_ip4.specs.Grammar.{header_bytes}
use Rattle.wire_icmp.specs.Quoted.{report_bytes}
use Rattle.icmp_xlate.specs.Translated.{translated}
use Rattle.icmp_xlate.proofs.Packets.{message_spelled, message_put}
use Rattle.icmp_xlate.proofs.translate.translate.Goals as goal

pub set_quoted_place-requires : goal.set_quoted_place-requires
set_quoted_place-requires c =
    let (h, r, e, there) = c.requires.error in
    record { quotes = (r, message_spelled c.args.packet.now h r e, there) }

pub returns : goal.returns
returns c =
    let packet : List ℕ = c.args.packet.now in
    let long : 20 ≤ length packet = omega (arith, c.requires.header) in
    record {
      value = λ h r e there.
          let made = c.set_quoted_place.ensures.value r (message_spelled packet h r e) there in
          c.readdress.ensures.value h (report_bytes (translated (not c.args.source) c.args.new r)) e.header e.plain
          (message_put packet h r c.set_quoted_place.new.message e long ∙ ap (λ (l : List ℕ). header_bytes h ++ l) made);
    }
