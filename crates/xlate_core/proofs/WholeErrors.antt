-- What an ICMP error is that was received, and what it is as it goes on.
use Rattle.std.proofs.Common.{◌≡◌, ℕ, ◌+◌, ◌≤◌, Bool, true, false, not, ◌&&◌, ◌||◌, ◌==◌, List, [], length, take, Option, Some, None, option_map}
use Rattle.std.proofs.Common.{ok_or, Result, Ok, Err, nat_le, refl, sym, ap, ◌∙◌, subst, arith}
use Rattle.std.specs.Prelude.{if◌then◌else◌}
use Rattle.std.proofs.lemmas.Bool.{eqb-true, leb-true}
use Rattle.std.proofs.lemmas.List.{length-take}
use Rattle.aftr_base.specs.Bytes.{be16, be32}
use Rattle.aftr_base.specs.declared.event.DropCause.{DropCause}
use Rattle.aftr_base.specs.declared.event.DropCause.TheVariants.{BadPacket, NoMapping}
use Rattle.aftr_base.specs.declared.value.Ext.{Ext}
use Rattle.aftr_base.specs.declared.value.Proto.{Proto}
use Rattle.aftr_base.specs.declared.value.Proto.TheVariants.{Tcp, Udp, Icmp}
use Rattle.cfg_text.specs.declared.config.Config.{Config}
use Rattle.wire_ip4.specs.Grammar.{Header, header_with}
use Rattle.wire_l4.specs.Grammar.{Echo, transport_bytes}
use Rattle.wire_icmp.specs.declared.view.IcmpKind.TheVariants.{Fault}
use Rattle.wire_icmp.specs.declared.view.IcmpBad.{IcmpBad}
use Rattle.wire_icmp.specs.Grammar.{kind_of, message_of}
use Rattle.wire_icmp.specs.Quoted.{Report, quoted_bytes, report_bytes, report_of}
use Rattle.icmp_xlate.specs.Errors.{ErrorPacket, error_bytes, error_of, error_place, forwarded_error, turned_error}
use Rattle.icmp_xlate.specs.declared.made.MadeError.{MadeError}
use Rattle.icmp_xlate.specs.Made.{error_fields, error_packet, is_error as is_error_in, made_error, sound_message}
use Rattle.icmp_xlate.proofs.ErrorLengths.{IsError, is_error}
use Rattle.nat_mapping.specs.Rows.{Mapping}
use Rattle.ingress.specs.declared.received.Sender.{Sender}
use Rattle.xlate_core.specs.declared.packet.Content.{Content}
use Rattle.xlate_core.specs.declared.packet.Content.TheVariants.{Carries, Reports}
use Rattle.subscriber_table.specs.Under.{subscriber_of}
use Rattle.xlate_core.specs.Datagram.{Datagram, inner_place}
use Rattle.xlate_core.specs.Content.{content_of, datagram_content, error_content, is_report}
use Rattle.xlate_core.specs.Packet.{has_route, is_fault, is_routable, proto_from, transport_from}
use Rattle.xlate_core.specs.Outbound.{outward}
use Rattle.xlate_core.specs.Inbound.{inward}
use Rattle.xlate_core.specs.Rows.{find_in, find_out}
use Rattle.ingress.specs.Packet.{IsUncut}
use Rattle.ingress.specs.PublicSide.{is_ours}
use Rattle.xlate_core.specs.State.{State}
use Rattle.xlate_core.specs.Errors.{error_back, error_from_public, error_from_subscriber, error_in, error_key, error_out, quoted_row}
use Rattle.xlate_core.specs.Sending.{Sending}
use Rattle.xlate_core.proofs.Attempts.{ok_inj, step_gave, test_passed, was_there}
use Rattle.xlate_core.proofs.Transports.{numbered}
use Rattle.xlate_core.proofs.WholeDatagrams.{length_header, length_replaced}

-- ---- an error in a packet

fault_by : (a b c : Bool) (n : ℕ) → (n == 3) ≡ a → (n == 11) ≡ b → (n == 12) ≡ c → (a || b || c) ≡ true → kind_of n ≡ Fault
fault_by true b c n e f g h = ap kind_of (eqb-true n 3 e)
fault_by false true c n e f g h = ap kind_of (eqb-true n 11 f)
fault_by false false true n e f g h = ap kind_of (eqb-true n 12 g)
fault_by false false false n e f g h = cc

fault_kind : (n : ℕ) → is_fault n ≡ true → kind_of n ≡ Fault
fault_kind n h = fault_by (n == 3) (n == 11) (n == 12) n refl refl refl h

-- a report is an ICMP message that is an error
record IsMessage (proto : Proto) (bytes : List ℕ) : Type 0 where
  icmp : proto ≡ Icmp
  message : Echo
  reads : message_of bytes ≡ Ok message
  fault : kind_of message.kind ≡ Fault

message_by : (bytes : List ℕ) (r : Result Echo IcmpBad) → message_of bytes ≡ r → elim r [ Err bad ↦ false | Ok m ↦ is_fault m.kind ] ≡ true
    → IsMessage Icmp bytes
message_by bytes (Ok m) e h = record { icmp = refl; message = m; reads = e; fault = fault_kind m.kind h }
message_by bytes (Err bad) e h = cc

is_message : (proto : Proto) (bytes : List ℕ) → is_report proto bytes ≡ true → IsMessage proto bytes
is_message Icmp bytes h = message_by bytes (message_of bytes) refl h
is_message Udp bytes h = cc
is_message Tcp bytes h = cc

reports_by : (o : Option ErrorPacket) (e : ErrorPacket) → ok_or (option_map Reports o) BadPacket ≡ Ok (Reports e) → o ≡ Some e
reports_by None e h = cc
reports_by (Some x) e h = cc

never_reports : (d : Datagram) (e : ErrorPacket) (r : Result Content DropCause) → r ≡ Ok (Carries d) → r ≡ Ok (Reports e) → ⊥
never_reports d e r h k = cc

report_by : (p : Header × List ℕ) (proto : Proto) (report : Bool) (e : ErrorPacket) → is_report proto p.1 ≡ report
    → (if report then error_content p else datagram_content proto p) ≡ Ok (Reports e) → (is_report proto p.1 ≡ true) × (error_of p ≡ Some e)
report_by p proto true e is h = (is, reports_by (error_of p) e h)
report_by p proto false e is h =
    let (t, holds, same) = step_gave (transport_from proto p.1) _ (Reports e) h in
    absurd (never_reports _ e _ refl same)

header_by : (h : Header) (o : Option Report) (e : ErrorPacket) → option_map (λ (r : Report). record { header = h; report = r }) o ≡ Some e
    → h ≡ e.header
header_by h None e x = cc
header_by h (Some r) e x = cc

header_kept : (p : Header × List ℕ) (e : ErrorPacket) → error_of p ≡ Some e → p.0 ≡ e.header
header_kept p e h = header_by p.0 (report_of p.1) e h

-- an error that its header can tell the length of
pub record IsShortError (e : ErrorPacket) : Type 0 where
  pub is : IsError e
  pub short : e.header.fields.total ≤ 65535

-- a packet that brings an error
pub reports_whole : (p : Header × List ℕ) (e : ErrorPacket) → IsUncut p → content_of p ≡ Ok (Reports e) → IsShortError e × (p.0 ≡ e.header)
reports_whole p e packet h =
    let (total, rest) = test_passed (nat_le p.0.fields.total 65535) _ _ (Reports e) h in
    let (proto, known, next) = step_gave (proto_from p.0.fields.proto) _ (Reports e) rest in
    let (ttl, next') = test_passed (nat_le 2 p.0.fields.ttl) _ _ (Reports e) next in
    let (report, there) = report_by p proto (is_report proto p.1) e refl next' in
    let message = is_message proto p.1 report in
    let icmp = subst (λ (x : Proto). proto_from p.0.fields.proto ≡ Ok x) message.icmp known in
    let one : p.0.fields.proto ≡ 1 = numbered p.0.fields.proto Icmp icmp in
    let is = is_error p message.message e packet.plain one packet.total message.reads message.fault there in
    let kept = header_kept p e there in
    let short = subst (λ (k : Header). k.fields.total ≤ 65535) kept (leb-true p.0.fields.total 65535 total) in
    (record { is = is; short = short }, kept)

-- what a subscriber sends: it has a route
pub record IsErrorOutward (e : ErrorPacket) : Type 0 where
  pub whole : IsShortError e
  pub routed : has_route e.header ≡ true

pub error_outward : (c : Config) (p : Header × List ℕ) (e : ErrorPacket) → IsUncut p → outward c p ≡ Ok (Reports e) → IsErrorOutward e
error_outward c p e packet h =
    let f = p.0.fields in
    let (routed, next) = test_passed (has_route p.0) _ _ (Reports e) h in
    let (x, holds, next') = step_gave (content_of p) _ (Reports e) next in
    let same = (test_passed (is_ours c f.dst || nat_le f.total c.public_mtu || not f.dont_cut) _ _ (Reports e) next').1 in
    let (whole, kept) = reports_whole p e packet (holds ∙ same) in
    record { whole = whole; routed = subst (λ (k : Header). has_route k ≡ true) kept routed }

-- what the public side sends
pub error_inward : (c : Config) (p : Header × List ℕ) (e : ErrorPacket) → IsUncut p → inward c p ≡ Ok (Reports e) → IsShortError e
error_inward c p e packet h =
    let f = p.0.fields in
    let holds = (test_passed (is_routable f.src && not (is_ours c f.src)) _ _ (Reports e) h).1 in
    (reports_whole p e packet holds).0

-- ---- as it goes on

length_report : (r : Report) → length (report_bytes r) ≡ 8 + length (quoted_bytes r.quoted)
unfolding be16 be32
length_report r = omega arith

length_error : (e : ErrorPacket)
    → length (error_bytes e)
    ≡ 48 + length e.header.options + length e.report.quoted.header.options + length (transport_bytes e.report.quoted.front)
length_error e =
    let q = e.report.quoted in
    omega (arith, length_header e.header (report_bytes e.report), length_report e.report, length_header q.header (transport_bytes q.front))

pub length_forwarded : (source : Bool) (new : Ext) (e : ErrorPacket) → IsError e
    → length (error_bytes (forwarded_error source new e)) ≡ e.header.fields.total
length_forwarded source new e is =
    omega (
      arith,
      length_error e,
      length_error (forwarded_error source new e),
      length_replaced (not source) (error_place source e) new e.report.quoted.front,
      is.total,
    )

pub length_turned : (src dst : Ext) (e : ErrorPacket) → IsError e → length (error_bytes (turned_error src dst e)) ≡ e.header.fields.total
length_turned src dst e is =
    let out = forwarded_error true src e in
    omega (
      arith,
      length_error e,
      length_error (turned_error src dst e),
      length_replaced true (error_place false out) dst out.report.quoted.front,
      length_replaced false (error_place true e) src e.report.quoted.front,
      is.total,
    )

-- what stands behind its header
pub length_quoting : (source : Bool) (new : Ext) (e : ErrorPacket) → IsShortError e
    → length (report_bytes (forwarded_error source new e).report) ≤ 65515
length_quoting source new e whole =
    let out = forwarded_error source new e in
    omega (arith, length_forwarded source new e whole.is, length_header out.header (report_bytes out.report), whole.short)

-- an error that is made quotes 28 bytes at most
-- what is made about a packet that isn't one of an error
pub made_is : (e : MadeError) (h : Header) (payload : List ℕ) → is_error_in h.fields.proto payload ≡ false
    → made_error e h payload ≡ error_packet e h payload
made_is e h payload other = ap (λ (b : Bool). if b then [] else error_packet e h payload) other

length_message : (e : MadeError) (h : Header) (payload : List ℕ) → h.options ≡ [] → length (sound_message e h payload) ≤ 36
unfolding be16 be32
length_message e h payload bare =
    let none : length h.options ≡ 0 = ap length bare in
    omega (arith, length_header h (take 8 payload), length-take 8 payload, none)

pub length_made : (e : MadeError) (h : Header) (payload : List ℕ) → h.options ≡ [] → length (error_packet e h payload) ≤ 56
length_made e h payload bare =
    let message = sound_message e h payload in
    let made = header_with (error_fields h.fields.src (length message)) in
    omega (arith, length_header made message, length_message e h payload bare)

-- ---- the ways of an error

-- a subscriber's, by the mapping of what it quotes
pub record IsSentError (s : State) (who : Sender) (row : Mapping) (e : ErrorPacket) : Type 0 where
  pub owns : subscriber_of s.config who.softwire ≡ Some who.owner
  pub finds : find_out (error_key who.softwire e) s.rows ≡ Some row
  pub sends : IsErrorOutward e

-- to the public side, back to a subscriber, or in from the public side
pub data IsRelayed (s : State) (sent : Sending) : Type 0 where
  GoesOut : (who : Sender) (row : Mapping) (e : ErrorPacket) → sent ≡ error_out s who row e → IsSentError s who row e
      → is_ours s.config e.header.fields.dst ≡ false → IsRelayed s sent
  TurnsBack : (who : Sender) (row to : Mapping) (e : ErrorPacket)
      → sent ≡ error_in s (Some who.owner) to (turned_error row.ext (inner_place to.key) e) → IsSentError s who row e → IsRelayed s sent
  GoesIn : (row : Mapping) (e : ErrorPacket) → sent ≡ error_in s None row (forwarded_error false (inner_place row.key) e) → IsShortError e
      → IsRelayed s sent

relayed_back : (s : State) (who : Sender) (row : Mapping) (e : ErrorPacket) (sent : Sending) → IsSentError s who row e
    → error_back s who row e ≡ Ok sent → IsRelayed s sent
relayed_back s who row e sent is h =
    let (to, there, same) = step_gave (quoted_row s e (error_place false (forwarded_error true row.ext e))) _ sent h in
    let made = error_in s (Some who.owner) to (turned_error row.ext (inner_place to.key) e) in
    TurnsBack who row to e (sym (ok_inj made sent _ refl same)) is

relayed_on : (s : State) (who : Sender) (row : Mapping) (e : ErrorPacket) (sent : Sending) (back : Bool) → is_ours s.config e.header.fields.dst ≡ back
    → IsSentError s who row e → (if back then error_back s who row e else Ok (error_out s who row e)) ≡ Ok sent → IsRelayed s sent
relayed_on s who row e sent true ours is h = relayed_back s who row e sent is h
relayed_on s who row e sent false ours is h = GoesOut who row e (sym (ok_inj (error_out s who row e) sent _ refl h)) is ours

pub relayed_out : (s : State) (who : Sender) (e : ErrorPacket) → subscriber_of s.config who.softwire ≡ Some who.owner
    → IsErrorOutward e → (sent : Sending) → error_from_subscriber s who e ≡ Ok sent → IsRelayed s sent
relayed_out s who e owns sends sent h =
    let (row, found, next) = step_gave (ok_or (find_out (error_key who.softwire e) s.rows) NoMapping) _ sent h in
    let there = was_there (find_out (error_key who.softwire e) s.rows) NoMapping row found in
    relayed_on s who row e sent (is_ours s.config e.header.fields.dst) refl (record { owns = owns; finds = there; sends = sends }) next

pub relayed_in : (s : State) (e : ErrorPacket) → IsShortError e → (sent : Sending) → error_from_public s e ≡ Ok sent → IsRelayed s sent
relayed_in s e is sent h =
    let (row, there, same) = step_gave (quoted_row s e (error_place false e)) _ sent h in
    let made = error_in s None row (forwarded_error false (inner_place row.key) e) in
    GoesIn row e (sym (ok_inj made sent _ refl same)) is
