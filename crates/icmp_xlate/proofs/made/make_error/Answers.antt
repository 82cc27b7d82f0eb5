use Rattle.std.proofs.Common.{◌++◌, ℕ, List, length, ap, ◌∙◌, rules}
use Rattle.std.proofs.lemmas.List.{length-take-le}
use Rattle.wire_ip4.specs.Grammar.{header_bytes, header_with}
use Rattle.icmp_xlate.specs.Made.{error_fields}
use Rattle.icmp_xlate.proofs.MadeErrors.{packet_long, on_ok, made_behind, reads_back, IsMade}
use Rattle.icmp_xlate.proofs.made.make_error.Goals as goal

pub header_in-requires : goal.header_in-requires
header_in-requires c = packet_long c.args.offending.now c.in-Ok.packet c.in-Ok.ensures.spelled

pub message_about-message-requires : goal.message_about-message-requires
message_about-message-requires c =
    let long = packet_long c.args.offending.now c.in-Ok.packet c.in-Ok.ensures.spelled in
    record { bare = ap length c.header_in.ensures ∙ length-take-le 20 c.args.offending.now long }

pub returns-clause-ok : goal.returns-clause-ok
returns-clause-ok c =
    let message = c.message_about-message.result.items in
    let made : IsMade c.args.error c.args.offending.now c.in-Ok.packet c.as_slice-2.result.now = record {
      spelled = c.in-Ok.ensures.spelled;
      fields = c.fields-fields.result;
      fields_are = c.fields-fields.ensures.value;
      payload = c.payload-payload.result.now;
      payload_is = c.payload-payload.ensures;
      no_error = c.if-is_error.ensures;
      header = c.header_in.result.now;
      header_is = c.header_in.ensures;
      message = message;
      message_is = c.message_about-message.ensures;
      packet_is = c.as_slice-2.ensures.value ∙ c.packet_to-packet.ensures
          ∙ ap (λ (l : List ℕ). header_bytes (header_with (error_fields c.fields-fields.result.src (length l))) ++ l)
          c.as_slice.ensures.value;
    } in
    on_ok c.extend_from_slice.result
    (λ added h payload read bare. made_behind c.args.error c.args.offending.now c.args.out.now c.extend_from_slice.new.self
    c.as_slice-2.result.now c.in-Ok.packet (h, payload) made c.in-Ok.ensures.value read bare added)
    c.extend_from_slice.ensures.ok

pub returns-clause-reads_back : goal.returns-clause-reads_back
returns-clause-reads_back c = λ h payload. reads_back c.args.error c.args.offending.now h payload (search rules)

pub returns-then-is_error-clause-reads_back : goal.returns-then-is_error-clause-reads_back
returns-then-is_error-clause-reads_back c = λ h payload. reads_back c.args.error c.args.offending.now h payload (search rules)
