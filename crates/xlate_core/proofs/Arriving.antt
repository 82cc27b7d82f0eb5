-- What a datagram says of itself where it comes in.
use Rattle.std.proofs.Common.{◌≡◌, ℕ, true, false, List, [], ◌++◌, take, drop, refl, sym, ap, ◌∙◌}
use Rattle.aftr_base.specs.Value.{place}
use Rattle.aftr_base.specs.declared.value.Ext.{Ext}
use Rattle.aftr_base.specs.declared.value.Proto.{Proto}
use Rattle.aftr_base.specs.declared.value.Proto.TheVariants.{Tcp, Udp, Icmp}
use Rattle.wire_ip4.specs.Grammar.{Header, header_bytes}
use Rattle.wire_l4.specs.Grammar.{transport_bytes, transport_in}
use Rattle.wire_l4.specs.Places.{port_at, proto_of, replaced}
use Rattle.xlate_core.specs.declared.arrival.Arrival.{Arrival}
use Rattle.xlate_core.specs.Arrivals.{arrival_of}
use Rattle.xlate_core.specs.Datagram.{Datagram, flags_of, hairpinned, place_on, translated}
use Rattle.xlate_core.specs.Packet.{transport_behind}
use Rattle.xlate_core.proofs.Datagrams.{behind_is, front_is}
use Rattle.xlate_core.proofs.Transports.{proto_in, proto_kept, source_put}

-- part by part
pub arrival_is : (a : Arrival) (d : Datagram) → a.proto ≡ proto_of d.body → a.from ≡ place_on true d → a.to ≡ place_on false d
    → a.flags ≡ flags_of d.body → a ≡ arrival_of d
arrival_is a d proto from to flags = λ i. record { proto = proto i; from = from i; to = to i; flags = flags i }

-- the port on the destination's side after the source was replaced
abbrev pub port_then : Proto → Ext → ℕ → ℕ
port_then Icmp src port = src.port
port_then Udp src port = port
port_then Tcp src port = port

abbrev pub datagram_in : Header → Proto → List ℕ → Datagram
datagram_in h proto payload = record { header = h; body = transport_in proto payload }

abbrev pub from_place : Arrival → Ext → ℕ → Arrival
from_place a src port = record a { from = src; to = place a.to.addr port }

turned_by : (h : Header) (proto : Proto) (payload : List ℕ) (src : Ext)
    → (let d = datagram_in h proto payload in
    from_place (arrival_of d) src (port_then proto src (arrival_of d).to.port) ≡ arrival_of (translated true src d))
turned_by h Udp payload src = refl
turned_by h Tcp payload src = refl
turned_by h Icmp payload src = refl

-- after it went out from a place
pub arrives_from : (h : Header) (proto : Proto) (payload : List ℕ) (src : Ext) (a : Arrival) (d : Datagram)
    → datagram_in h proto payload ≡ d → a ≡ arrival_of d
    → from_place a src (port_then proto src a.to.port) ≡ arrival_of (translated true src d)
arrives_from h proto payload src a d is same =
    ap (λ (x : Arrival). from_place x src (port_then proto src x.to.port)) (same ∙ ap arrival_of (sym is))
    ∙ turned_by h proto payload src ∙ ap (λ (x : Datagram). arrival_of (translated true src x)) is

-- ---- as it turns back

pub turned_proto : (proto : Proto) (payload : List ℕ) (old src : Ext)
    → proto_of (replaced true old src (transport_in proto payload)) ≡ proto
turned_proto proto payload old src = proto_kept true old src (transport_in proto payload) ∙ proto_in proto payload

-- the place that it comes to stands in it
pub destination_there : (h : Header) (proto : Proto) (payload bytes : List ℕ) (src old : Ext) (a : Arrival) → drop 20 bytes ≡ payload
    → old ≡ place_on true (datagram_in h proto payload) → a ≡ arrival_of (translated true src (datagram_in h proto payload))
    → port_at false (replaced true old a.from (transport_behind a.proto bytes)) ≡ a.to.port
destination_there h proto payload bytes src old a behind source is =
    let d = datagram_in h proto payload in
    let known : proto_of (translated true src d).body ≡ proto = turned_proto proto payload (place_on true d) src in
    let from : place_on true (translated true src d) ≡ src =
    ap (place src.addr) (source_put (place_on true d) src (transport_in proto payload)) in
    let there = λ (o f : Ext) (p : Proto) (l : List ℕ). port_at false (replaced true o f (transport_in p l)) in
    ap (λ (x : Arrival). there old x.from x.proto (drop 20 bytes)) is
    ∙ ap (λ (f : Ext). there old f (proto_of (translated true src d).body) (drop 20 bytes)) from
    ∙ ap (λ (p : Proto). there old src p (drop 20 bytes)) known
    ∙ ap (λ (l : List ℕ). there old src proto l) behind
    ∙ ap (λ (o : Ext). there o src proto payload) source
    ∙ sym (ap (λ (x : Arrival). x.to.port) is)

-- the packet that was written, by what the datagram says of itself where it comes in
pub written_back : (h written : Header) (proto : Proto) (payload bytes : List ℕ) (src dst old : Ext) (a : Arrival) → written.options ≡ []
    → bytes ≡ header_bytes written ++ payload → old ≡ place_on true (datagram_in h proto payload)
    → a ≡ arrival_of (translated true src (datagram_in h proto payload))
    → take 20 bytes ++ transport_bytes (replaced false a.to dst (replaced true old a.from (transport_behind a.proto bytes)))
    ≡ header_bytes written ++ transport_bytes (hairpinned src dst (datagram_in h proto payload)).body
written_back h written proto payload bytes src dst old a bare so source is =
    let d = datagram_in h proto payload in
    let to = place_on false (translated true src d) in
    let from : place_on true (translated true src d) ≡ src =
    ap (place src.addr) (source_put (place_on true d) src (transport_in proto payload)) in
    let known : proto_of (translated true src d).body ≡ proto = turned_proto proto payload (place_on true d) src in
    let front = front_is written payload bytes bare so in
    let behind = behind_is written payload bytes bare so in
    let whole = λ (x : List ℕ) (t f o : Ext) (p : Proto) (l : List ℕ).
    x ++ transport_bytes (replaced false t dst (replaced true o f (transport_in p l))) in
    ap (λ (x : Arrival). whole (take 20 bytes) x.to x.from old x.proto (drop 20 bytes)) is
    ∙ ap (λ (x : List ℕ). whole x to (place_on true (translated true src d)) old (proto_of (translated true src d).body) (drop 20 bytes)) front
    ∙ ap (λ (f : Ext). whole (header_bytes written) to f old (proto_of (translated true src d).body) (drop 20 bytes)) from
    ∙ ap (λ (o : Ext). whole (header_bytes written) to src o (proto_of (translated true src d).body) (drop 20 bytes)) source
    ∙ ap (λ (p : Proto). whole (header_bytes written) to src (place_on true d) p (drop 20 bytes)) known
    ∙ ap (λ (l : List ℕ). whole (header_bytes written) to src (place_on true d) proto l) behind
