-- Places of leases fit into an IPv4 header and a UDP header, and are read back from there.
use Rattle.std.proofs.Common.{◌≡◌, ℕ, ◌^◌, ◌<◌, ◌≤◌, ◌==◌, Bool, true, false, List, [], ◌∷◌, ◌++◌, option_map, option_to_list, None}
use Rattle.std.proofs.Common.{All, refl, sym, ap, ◌∙◌, subst, arith}
use Rattle.std.specs.Prelude.{IfSome, not, ◌&&◌, ◌||◌}
use Rattle.std.proofs.lemmas.List.Elements.{All-weaker, All-nil, All-cons, All-append}
use Rattle.std.proofs.lemmas.Nat.{from_be_bytes-to_be_bytes_2, from_be_bytes-to_be_bytes_4}
use Rattle.std.proofs.lemmas.Bool.{both_ways, eq-eqb, eqb-true}
use Rattle.aftr_base.specs.Bytes.{u8_at, u16_at, u32_at, be16, be32}
use Rattle.aftr_base.specs.Checksum.{adjusted}
use Rattle.aftr_base.specs.Value.{moment}
use Rattle.aftr_base.specs.Plan.{is_prefix6}
use Rattle.aftr_base.specs.declared.value.Ext.{Ext}
use Rattle.aftr_base.specs.declared.value.Subscriber.{Subscriber}
use Rattle.aftr_base.specs.declared.row.LeaseRow.{LeaseRow}
use Rattle.aftr_base.specs.declared.event.Event.{Event}
use Rattle.aftr_base.specs.declared.event.EventKind.{EventKind}
use Rattle.aftr_base.proofs.Pairwise.{all_zip}
use Rattle.aftr_base.proofs.Founds.{any_gives}
use Rattle.cfg_text.specs.Accepted.{is_accepted}
use Rattle.cfg_text.proofs.Facts.{facts}
use Rattle.wire_ip4.specs.Grammar.{Header, header_bytes}
use Rattle.wire_icmp.specs.Quoted.{is_echo}
use Rattle.wire_l4.specs.Grammar.{Segment, Echo, Transport, Ports, Query, echo_bytes, segment_bytes, transport_bytes}
use Rattle.wire_l4.specs.Places.{segment_sum}
use Rattle.nat_mapping.specs.Rows.{Mapping}
use Rattle.xlate_core.specs.declared.grant.Grant.{Grant}
use Rattle.xlate_core.specs.declared.grant.Flow.{Flow}
use Rattle.nat_mapping.specs.Rows.{expired}
use Rattle.port_blocks.specs.declared.choice.Block.{Block}
use Rattle.port_blocks.specs.declared.choice.Choice.TheVariants.{New}
use Rattle.port_blocks.proofs.Choices.{chosen_address}
use Rattle.xlate_core.specs.State.{State, Step}
use Rattle.xlate_core.specs.Expiry.{Closed, with_idle_ended, closing_limit, at_moment}
pub use Rattle.xlate_core.specs.Valid.{IsOnWire}
use Rattle.xlate_core.specs.Grant.{after_grant}
use Rattle.xlate_core.specs.Datagram.{Datagram, datagram_bytes, hairpinned, place_on, translated}
use Rattle.xlate_core.specs.Step.{step, treatment}
use Rattle.xlate_core.proofs.Clock.{by_moment}
use Rattle.xlate_core.specs.Packet.{is_fault}
use Rattle.xlate_core.specs.Sources.{is_query_at, port_at, port_offset}
use Rattle.xlate_core.proofs.Transports.{HasBody, IsPorts, IsQuery}
use Rattle.xlate_core.proofs.WholeDatagrams.{IsWhole}
use Rattle.xlate_core.proofs.Treatments.{by_way}
use Rattle.xlate_core.proofs.ValidExpiry.{here_parts, lies_here, MayEnd, Lasts, Idle, idle_end}
use Rattle.xlate_core.proofs.ValidForwards.{block_range, chosen_for, lease_of, owner_prefix}
use Rattle.xlate_core.proofs.ValidGrants.{IsGrant, GrantCase, Keeps, Takes, Opens, choice_for, grant_case}
use Rattle.xlate_core.proofs.ValidRows.{lies_at}
use Rattle.xlate_core.proofs.ValidStates.{grant_out, moment_accepted}

-- ---- in a packet

-- the source address, right behind what stands before it
address_read : (h : Header) (rest : List ℕ) → h.fields.src.0 < 2 ^ 32 → u32_at 12 (header_bytes h ++ rest) ≡ h.fields.src.0
unfolding be16 be32
address_read h rest lt = from_be_bytes-to_be_bytes_4 h.fields.src.0 lt

bare_port : (h : Header) (s : Segment) → s.src < 2 ^ 16 → u16_at 20 (header_bytes (record h { options = [] }) ++ segment_bytes s) ≡ s.src
unfolding be16 be32
bare_port h s lt = from_be_bytes-to_be_bytes_2 s.src lt

port_read : (h : Header) (s : Segment) → h.options ≡ [] → s.src < 2 ^ 16 → u16_at 20 (header_bytes h ++ segment_bytes s) ≡ s.src
port_read h s bare lt = ap (λ (o : List ℕ). u16_at 20 (header_bytes (record h { options = o }) ++ segment_bytes s)) bare ∙ bare_port h s lt

-- a datagram that goes out from a place bears it
pub address_out : (e : Ext) (d : Datagram) → e.addr.0 < 2 ^ 32 → u32_at 12 (datagram_bytes (translated true e d)) ≡ e.addr.0
address_out e d lt = address_read (translated true e d).header (transport_bytes (translated true e d).body) lt

abbrev with_body : Datagram → Transport → Datagram
with_body d t = record d { body = t }

-- which protocol a packet is of is read as well
proto_read : (h : Header) (rest : List ℕ) → u8_at 9 (header_bytes h ++ rest) ≡ h.fields.proto
unfolding be16 be32
proto_read h rest = refl

bare_id : (h : Header) (e : Echo) → e.id < 2 ^ 16 → u16_at 24 (header_bytes (record h { options = [] }) ++ echo_bytes e) ≡ e.id
unfolding be16 be32
bare_id h e lt = from_be_bytes-to_be_bytes_2 e.id lt

id_read : (h : Header) (e : Echo) → h.options ≡ [] → e.id < 2 ^ 16 → u16_at 24 (header_bytes h ++ echo_bytes e) ≡ e.id
id_read h e bare lt = ap (λ (o : List ℕ). u16_at 24 (header_bytes (record h { options = o }) ++ echo_bytes e)) bare ∙ bare_id h e lt

-- the type of an ICMP message is read, too, and that of an echo message is no error's
bare_kind : (h : Header) (e : Echo) → u8_at 20 (header_bytes (record h { options = [] }) ++ echo_bytes e) ≡ e.kind
unfolding be16 be32
bare_kind h e = refl

kind_read : (h : Header) (e : Echo) → h.options ≡ [] → u8_at 20 (header_bytes h ++ echo_bytes e) ≡ e.kind
kind_read h e bare = ap (λ (o : List ℕ). u8_at 20 (header_bytes (record h { options = o }) ++ echo_bytes e)) bare ∙ bare_kind h e

echo_by : (n : ℕ) (a b : Bool) → (n == 8) ≡ a → (n == 0) ≡ b → (a || b) ≡ true → is_fault n ≡ false
echo_by n true b e f h = ap is_fault (eqb-true n 8 e)
echo_by n false true e f h = ap is_fault (eqb-true n 0 f)
echo_by n false false e f h = cc

no_fault : (n : ℕ) → is_echo n ≡ true → is_fault n ≡ false
no_fault n h = echo_by n (n == 8) (n == 0) refl refl h

-- the source port or the identifier of a packet
abbrev pub port_in : List ℕ → ℕ
port_in bytes = port_at 0 bytes

abbrev at_offset : Bool → Bool → Bool → List ℕ → ℕ
at_offset icmp error about bytes = u16_at (port_offset 0 icmp error about) bytes

-- by what stands there
pub port_by : (bytes : List ℕ) (icmp error about : Bool) → (u8_at 9 bytes == 1) ≡ icmp → is_fault (u8_at 20 bytes) ≡ error
    → (u8_at 37 bytes == 1) ≡ about → port_in bytes ≡ at_offset icmp error about bytes
port_by bytes icmp error about e f g = λ i. at_offset (e i) (f i) (g i) bytes

-- a packet with ports
port_of : (h : Header) (s : Segment) → (h.fields.proto == 1) ≡ false → h.options ≡ [] → s.src < 2 ^ 16
    → port_in (header_bytes h ++ segment_bytes s) ≡ s.src
port_of h s other bare lt =
    let bytes = header_bytes h ++ segment_bytes s in
    port_by bytes false (is_fault (u8_at 20 bytes)) (u8_at 37 bytes == 1) (ap (λ (n : ℕ). n == 1) (proto_read h (segment_bytes s)) ∙ other) refl refl
    ∙ port_read h s bare lt

-- an echo message
id_of : (h : Header) (e : Echo) → h.fields.proto ≡ 1 → is_echo e.kind ≡ true → h.options ≡ [] → e.id < 2 ^ 16
    → port_in (header_bytes h ++ echo_bytes e) ≡ e.id
id_of h e one echo bare lt =
    let bytes = header_bytes h ++ echo_bytes e in
    port_by bytes true false (u8_at 37 bytes == 1) (eq-eqb (u8_at 9 bytes) 1 (proto_read h (echo_bytes e) ∙ one))
    (ap is_fault (kind_read h e bare) ∙ no_fault e.kind echo) refl
    ∙ id_read h e bare lt

out_of : (e : Ext) (d : Datagram) (t : Transport) → HasBody d.header.fields.proto t → d.header.options ≡ [] → e.port < 2 ^ 16
    → port_in (datagram_bytes (translated true e (with_body d t))) ≡ e.port
out_of e d t (IsPorts p s is other) bare lt =
    let before = with_body d (Ports p s) in
    let after : Segment = record s { src = e.port; sum = option_map (segment_sum p (place_on true before) e) s.sum } in
    ap (λ (x : Transport). port_in (datagram_bytes (translated true e (with_body d x)))) is
    ∙ port_of (translated true e before).header after other bare lt
out_of e d t (IsQuery q is one echo) bare lt =
    let before = with_body d (Query q) in
    let after : Echo = record q { id = e.port; sum = adjusted q.sum (q.id ∷ []) (e.port ∷ []) } in
    ap (λ (x : Transport). port_in (datagram_bytes (translated true e (with_body d x)))) is
    ∙ id_of (translated true e before).header after one echo bare lt

pub port_out : (e : Ext) (d : Datagram) → IsWhole d → e.port < 2 ^ 16 → port_in (datagram_bytes (translated true e d)) ≡ e.port
port_out e d is lt = out_of e d d.body is.body is.options lt

-- ---- in a packet that turned back

pub address_back : (src dst : Ext) (d : Datagram) → src.addr.0 < 2 ^ 32 → u32_at 12 (datagram_bytes (hairpinned src dst d)) ≡ src.addr.0
address_back src dst d lt = address_read (hairpinned src dst d).header (transport_bytes (hairpinned src dst d).body) lt

back_of : (src dst : Ext) (d : Datagram) (t : Transport) → HasBody d.header.fields.proto t → (d.header.fields.proto == 1) ≡ false
    → d.header.options ≡ [] → src.port < 2 ^ 16 → port_in (datagram_bytes (hairpinned src dst (with_body d t))) ≡ src.port
back_of src dst d t (IsQuery e is one echo) other bare lt =
    absurd (both_ways (d.header.fields.proto == 1) other (eq-eqb d.header.fields.proto 1 one))
back_of src dst d t (IsPorts p s is also) other bare lt =
    let before = with_body d (Ports p s) in
    let out : Segment = record s { src = src.port; sum = option_map (segment_sum p (place_on true before) src) s.sum } in
    let turned = translated true src before in
    let after : Segment = record out { dst = dst.port; sum = option_map (segment_sum p (place_on false turned) dst) out.sum } in
    ap (λ (x : Transport). port_in (datagram_bytes (hairpinned src dst (with_body d x)))) is
    ∙ port_of (hairpinned src dst before).header after other bare lt

-- but of an echo message
pub port_back : (src dst : Ext) (d : Datagram) → IsWhole d → (d.header.fields.proto == 1) ≡ false → src.port < 2 ^ 16
    → port_in (datagram_bytes (hairpinned src dst d)) ≡ src.port
port_back src dst d is other lt = back_of src dst d d.body is.body other is.options lt

-- which is a query, whatever it says of itself
query_of : (src dst : Ext) (d : Datagram) (t : Transport) → HasBody d.header.fields.proto t → d.header.options ≡ []
    → is_query_at 0 (datagram_bytes (hairpinned src dst (with_body d t))) ≡ false → (d.header.fields.proto == 1) ≡ false
query_of src dst d t (IsPorts p s is also) bare none = also
query_of src dst d t (IsQuery e is one echo) bare none =
    let before = with_body d (Query e) in
    let out : Echo = record e { id = src.port; sum = adjusted e.sum (e.id ∷ []) (src.port ∷ []) } in
    let after : Echo = record out { id = dst.port; sum = adjusted out.sum (out.id ∷ []) (dst.port ∷ []) } in
    let h = (hairpinned src dst before).header in
    let bytes = header_bytes h ++ echo_bytes after in
    let icmp : (u8_at 9 bytes == 1) ≡ true = eq-eqb (u8_at 9 bytes) 1 (proto_read h (echo_bytes after) ∙ one) in
    let fault : is_fault (u8_at 20 bytes) ≡ false = ap is_fault (kind_read h after bare) ∙ no_fault e.kind echo in
    let query : is_query_at 0 bytes ≡ true = λ i. icmp i && (not (fault i) || u8_at 37 bytes == 1) in
    absurd (both_ways (is_query_at 0 bytes) (ap (λ (x : Transport). is_query_at 0 (datagram_bytes (hairpinned src dst (with_body d x)))) (sym is) ∙ none) query)

pub no_query_back : (src dst : Ext) (d : Datagram) → IsWhole d → is_query_at 0 (datagram_bytes (hairpinned src dst d)) ≡ false
    → (d.header.fields.proto == 1) ≡ false
no_query_back src dst d is none = query_of src dst d d.body is.body is.options none

pub proto_back : (src dst : Ext) (d : Datagram) → u8_at 9 (datagram_bytes (hairpinned src dst d)) ≡ d.header.fields.proto
proto_back src dst d = proto_read (hairpinned src dst d).header (transport_bytes (hairpinned src dst d).body)

-- ---- a lease's owner is a prefix, and its address and ports are numbers of 32 and of 16 bits

wire_ended : (now : ℕ) (rows : List Mapping) (l m : LeaseRow) → MayEnd now rows l m → IsOnWire l → IsOnWire m
wire_ended now rows l m (Lasts same) h = subst IsOnWire (sym same) h
wire_ended now rows l m (Idle idle e) h =
    subst IsOnWire (sym e) (record { owner = h.owner; addr = h.addr; range = h.range; last = h.last })

pub wire_moment : (at : ℕ) (s : State) → All IsOnWire s.leases → All IsOnWire (at_moment at s).state.leases
wire_moment at s h =
    let rows = expired at s.rows in
    let after = with_idle_ended closing_limit at rows s.leases in
    by_moment (λ (c : Closed). All IsOnWire c.state.leases) at s (λ le. h)
    (λ lt. all_zip (MayEnd at rows) IsOnWire IsOnWire (wire_ended at rows) s.leases after (idle_end closing_limit at rows s.leases) h)

wire_addr : (l : LeaseRow) → IsOnWire l → l.addr.0 < 2 ^ 32
wire_addr l h = h.addr

pub wire_opened : (s : State) (f : Flow) (b : Block) → is_accepted s.config ≡ true → is_prefix6 f.who.owner.0 ≡ true
    → All IsOnWire s.leases → choice_for s f ≡ New b → IsOnWire (lease_of s f.who.owner b)
wire_opened s f b ok prefix wire h =
    let is = chosen_for s f b ok h in
    let some = (facts s.config ok).block_least in
    let addrs = All-weaker IsOnWire (λ (l : LeaseRow). l.addr.0 < 2 ^ 32) wire_addr s.leases wire in
    record {
      owner = prefix;
      addr = chosen_address s.config s.leases f.who.owner s.clock b ok addrs h;
      range = omega (arith, some, is.last);
      last = omega (arith, is.last, is.ports, some);
    }

-- that of a grant opens now, where it has one
pub record IsNew (clock : ℕ) (l : LeaseRow) : Type 0 where
  pub since : l.since ≡ moment clock
  pub until : l.until ≡ None
  pub owner : is_prefix6 l.owner.0 ≡ true
  pub range : l.first ≤ l.last

new_case : (s : State) (f : Flow) (g : Grant) → is_accepted s.config ≡ true → is_prefix6 f.who.owner.0 ≡ true
    → GrantCase s f g → IfSome g.lease (IsNew s.clock)
new_case s f g ok prefix (Keeps r found same) = subst (λ (x : Grant). IfSome x.lease (IsNew s.clock)) (sym same) tt
new_case s f g ok prefix (Takes x none taken same) = subst (λ (x : Grant). IfSome x.lease (IsNew s.clock)) (sym same) tt
new_case s f g ok prefix (Opens b none free same) =
    let range = block_range (facts s.config ok).block_least (chosen_for s f b ok free) in
    subst (λ (x : Grant). IfSome x.lease (IsNew s.clock)) (sym same)
    (record { since = refl; until = refl; owner = prefix; range = range })

pub grant_new : {s : State} {f : Flow} {g : Grant} → IsGrant s f g → IfSome g.lease (IsNew s.clock)
grant_new {s = s} {f = f} {g = g} h =
    new_case s f g h.accepted (owner_prefix s.config f.key.softwire f.who.owner h.accepted h.owns) (grant_case h)

wire_case : (s : State) (f : Flow) (g : Grant) → is_accepted s.config ≡ true → is_prefix6 f.who.owner.0 ≡ true → All IsOnWire s.leases
    → GrantCase s f g → All IsOnWire (option_to_list g.lease)
wire_case s f g ok prefix wire (Keeps r found same) =
    subst (λ (x : Grant). All IsOnWire (option_to_list x.lease)) (sym same) (All-nil IsOnWire)
wire_case s f g ok prefix wire (Takes x none taken same) =
    subst (λ (y : Grant). All IsOnWire (option_to_list y.lease)) (sym same) (All-nil IsOnWire)
wire_case s f g ok prefix wire (Opens b none free same) =
    subst (λ (x : Grant). All IsOnWire (option_to_list x.lease)) (sym same)
    (All-cons IsOnWire (lease_of s f.who.owner b) [] (wire_opened s f b ok prefix wire free) (All-nil IsOnWire))

pub wire_grant : {s : State} {f : Flow} {g : Grant} → IsGrant s f g → All IsOnWire s.leases → All IsOnWire (after_grant f g s).leases
wire_grant {s = s} {f = f} {g = g} h wire =
    let prefix = owner_prefix s.config f.key.softwire f.who.owner h.accepted h.owns in
    All-append IsOnWire s.leases (option_to_list g.lease) wire (wire_case s f g h.accepted prefix wire (grant_case h))

pub wire_treated : (s : State) (bytes : List ℕ) (kind : EventKind) → is_accepted s.config ≡ true
    → All IsOnWire s.leases → All IsOnWire (treatment s kind bytes).state.leases
wire_treated s bytes kind ok h = by_way (λ (t : Step). All IsOnWire t.state.leases) s bytes kind (λ kept. record {
  rests = h;
  drops = λ cause. h;
  answers = λ got cause e is. h;
  relays = λ i is. h;
  delivers = λ d r by. h;
  forwards = λ got g by abroad. wire_grant (grant_out ok by) h;
  turns = λ got g row by turned. wire_grant (grant_out ok by) h;
  holds = λ got g cause by refuses. wire_grant (grant_out ok by) h;
})

pub wire_step : (s : State) (e : Event) → is_accepted s.config ≡ true → All IsOnWire s.leases → All IsOnWire (step s e).state.leases
wire_step s e ok h =
    wire_treated (at_moment e.at.0 s).state e.bytes e.kind (moment_accepted e.at.0 s ok) (wire_moment e.at.0 s h)

-- and so of a place in an open lease
pub place_fits : (leases : List LeaseRow) (owner : Subscriber) (e : Ext) → All IsOnWire leases → lies_at leases owner e ≡ true
    → (e.addr.0 < 2 ^ 32) × (e.port < 2 ^ 16)
place_fits leases owner e all h = any_gives IsOnWire (lies_here owner e) leases (λ l fits lies.
    let x = here_parts owner e l lies in
    let low : e.addr.0 < 2 ^ 32 = omega (arith, x.addr, fits.addr) in
    let high : e.port < 2 ^ 16 = omega (arith, x.high, fits.last) in
    (low, high)) all h
