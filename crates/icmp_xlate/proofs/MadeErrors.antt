-- An error that is made, in the bytes that it is made of.
use Rattle.std.proofs.Common.{◌≡◌, ℕ, ◌+◌, ◌-◌, ◌*◌, ◌≤◌, ◌<◌, ◌^◌, Bool, false, List, [], ◌∷◌, ◌++◌, length, take}
use Rattle.std.proofs.Common.{Result, Ok, Err, sym, ap, ◌∙◌, arith}
use Rattle.std.proofs.Common.{append_assoc, length-append, length-take}
use Rattle.std.specs.Prelude.{sum, OnOk, if◌then◌else◌}
use Rattle.std.proofs.lemmas.List.{append-nil}
use Rattle.aftr_base.specs.Bytes.{be16, be32, IsBytes}
use Rattle.aftr_base.specs.Checksum.{sum16, ones_sum, words_of}
use Rattle.wire_ip4.specs.declared.fields.Ip4Fields.{Ip4Fields}
use Rattle.wire_ip4.specs.declared.fields.Ip4Bad.{Ip4Bad}
use Rattle.wire_ip4.specs.Grammar.{Header, AreFields, header_bytes, header_with, checksum_of, packet_of, SpellsPacket}
use Rattle.wire_ip4.proofs.GrammarLaws.{packet_spelled, packet_accepts}
use Rattle.wire_ip4.proofs.SumLaws.{is_header_with, sound_with}
use Rattle.wire_ip4.proofs.HeaderRead.{length_written}
use Rattle.icmp_xlate.specs.declared.made.MadeError.{MadeError}
use Rattle.icmp_xlate.specs.declared.made.MadeError.TheVariants.{HostUnreachable, TooBig, TimeExceeded}
use Rattle.icmp_xlate.specs.Made.{ReadsBack, code_of, error_fields, error_message, error_packet, is_error, made_error}
use Rattle.icmp_xlate.specs.Made.{sound_message, type_of, word_of}
use Rattle.icmp_xlate.proofs.Sums.{completed, pair_counts, word_counts}
use Rattle.icmp_xlate.proofs.Headers.{head_taken}

pub packet_long : (bytes : List ℕ) (x : Header × List ℕ) → SpellsPacket bytes x.0 x.1 → 20 ≤ length bytes
packet_long bytes x s =
    let head = header_bytes x.0 in
    let (beyond, spelled) = s.spelled in
    omega (arith, ap length spelled, length-append (head ++ x.1) beyond, length-append head x.1, length_written x.0)

head_is : (bytes : List ℕ) (x : Header × List ℕ) → SpellsPacket bytes x.0 x.1 → x.0.options ≡ [] → take 20 bytes ≡ header_bytes x.0
head_is bytes x s bare =
    let (beyond, spelled) = s.spelled in
    ap (take 20) (spelled ∙ append_assoc (header_bytes x.0) x.1 beyond) ∙ head_taken x.0 (x.1 ++ beyond) bare

pub on_ok : {A E : Type 0} {P Q : Type 0} (r : Result A E) → (P → Q) → OnOk r P → OnOk r Q
on_ok (Ok x) f h = f h
on_ok (Err e) f h = h

pub same_read : (r : Result (Header × List ℕ) Ip4Bad) (x y : Header × List ℕ) → Ok x ≡ r → r ≡ Ok y → x ≡ y
same_read r x y p q = let same : ◌≡◌ {A = Result (Header × List ℕ) Ip4Bad} (Ok x) (Ok y) = p ∙ q in cc

-- what was read of the packet, and the parts of what was made
pub record IsMade (error : MadeError) (bytes : List ℕ) (x : Header × List ℕ) (packet : List ℕ) : Type 0 where
  pub spelled : SpellsPacket bytes x.0 x.1
  pub fields : Ip4Fields
  pub fields_are : fields ≡ x.0.fields
  pub payload : List ℕ
  pub payload_is : payload ≡ x.1
  pub no_error : false ≡ is_error fields.proto payload
  pub header : List ℕ
  pub header_is : header ≡ take 20 bytes
  pub message : List ℕ
  pub message_is : (h : Header) → header ≡ header_bytes h → message ≡ sound_message error h payload
  pub packet_is : packet ≡ header_bytes (header_with (error_fields fields.src (length message))) ++ message

made_of : (error : MadeError) (bytes : List ℕ) (x : Header × List ℕ) (packet : List ℕ) → IsMade error bytes x packet → x.0.options ≡ []
    → packet ≡ made_error error x.0 x.1
made_of error bytes x packet m bare =
    let message : m.message ≡ sound_message error x.0 x.1 =
    m.message_is x.0 (m.header_is ∙ head_is bytes x m.spelled bare) ∙ ap (sound_message error x.0) m.payload_is in
    let none : false ≡ is_error x.0.fields.proto x.1 = m.no_error ∙ (λ i. is_error (m.fields_are i).proto (m.payload_is i)) in
    m.packet_is ∙ (λ i. header_bytes (header_with (error_fields (m.fields_are i).src (length (message i)))) ++ message i)
    ∙ ap (λ (b : Bool). if b then [] else error_packet error x.0 x.1) none

pub made_behind : (error : MadeError) (bytes out new packet : List ℕ) (x y : Header × List ℕ) → IsMade error bytes x packet
    → Ok x ≡ packet_of bytes → packet_of bytes ≡ Ok y → y.0.options ≡ [] → new ≡ out ++ packet → new ≡ out ++ made_error error y.0 y.1
made_behind error bytes out new packet x y m read again bare added =
    let same : x ≡ y = same_read (packet_of bytes) x y read again in
    let plain : x.0.options ≡ [] = (λ i. (same i).0.options) ∙ bare in
    added ∙ ap (λ (l : List ℕ). out ++ l) (made_of error bytes x packet m plain)
    ∙ (λ i. out ++ made_error error (same i).0 (same i).1)

-- ---- it is read as it was made

message_short : (e : MadeError) (sum : ℕ) (h : Header) (payload : List ℕ) → length h.options ≡ 0
    → length (error_message e sum h payload) ≤ 36
unfolding be16 be32
message_short e sum h payload plain =
    let few : length (take 8 payload) ≤ 8 = omega (arith, length-take 8 payload) in
    omega (arith, length-append (header_bytes h) (take 8 payload), length_written h, few, plain)

type_some : (e : MadeError) → 1 ≤ type_of e
type_some HostUnreachable = omega arith
type_some (TooBig mtu) = omega arith
type_some TimeExceeded = omega arith

-- the words of a message: its checksum and the others
message_counts : (e : MadeError) (n : ℕ) (h : Header) (payload : List ℕ) → n < 2 ^ 16
    → sum (words_of (error_message e n h payload))
    ≡ 256 * type_of e + code_of e + n + sum (words_of (be32 (word_of e) ++ (header_bytes h ++ take 8 payload)))
message_counts e n h payload fits =
    let rest : List ℕ = header_bytes h ++ take 8 payload in
    ap (λ (l : List ℕ). sum (words_of (type_of e ∷ code_of e ∷ l))) (append_assoc (be16 n) (be32 (word_of e)) rest)
    ∙ omega (
      arith,
      pair_counts (type_of e) (code_of e) (be16 n ++ (be32 (word_of e) ++ rest)),
      word_counts n (be32 (word_of e) ++ rest) fits,
    )

message_sound : (e : MadeError) (h : Header) (payload : List ℕ) → sum16 (sound_message e h payload) ≡ 65535
message_sound e h payload =
    let n = sum (words_of (error_message e 0 h payload)) in
    let before = message_counts e 0 h payload (omega arith) in
    let after = message_counts e (65535 - ones_sum n) h payload (omega arith) in
    let whole : sum (words_of (sound_message e h payload)) ≡ n + (65535 - ones_sum n) = omega (arith, before, after) in
    ap ones_sum whole ∙ completed n (omega (arith, before, type_some e))

pub reads_back : (e : MadeError) (bytes : List ℕ) (h : Header) (payload : List ℕ) → IsBytes bytes → packet_of bytes ≡ Ok (h, payload)
    → h.options ≡ [] → ReadsBack e h payload
reads_back e bytes h payload bytes_fit read bare =
    let s : SpellsPacket bytes h payload = packet_spelled bytes h payload bytes_fit read in
    let message = sound_message e h payload in
    let f = error_fields h.fields.src (length message) in
    let short = message_short e (checksum_of (error_message e 0 h payload)) h payload (ap length bare) in
    let fits : AreFields f = record {
      tos = omega arith;
      total = omega (arith, short);
      id = omega arith;
      offset = omega arith;
      ttl = omega arith;
      proto = omega arith;
      src = omega arith;
      dst = s.header.fields.src;
    } in
    record {
      packet = packet_accepts (error_packet e h payload) (header_with f) message (record {
        header = is_header_with f fits;
        spelled = ([], sym (append-nil (error_packet e h payload)));
        total = omega arith;
        sound = sound_with f fits;
      });
      sound = message_sound e h payload;
    }
