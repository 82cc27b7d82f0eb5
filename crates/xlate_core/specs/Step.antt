-- One record: the clock, what expires, the record's own treatment, and the horizon.
use Rattle.std.specs.Prelude.{ℕ, Bool, ◌&&◌, ◌||◌, nat_lt, List, [], ◌∷◌, ◌++◌, length, Some, None, is_some}
use Rattle.std.specs.Prelude.{true, false, Result, Ok, Err, if◌then◌else◌}
use Rattle.std.specs.List.{list_any}
use Rattle.aftr_base.specs.Value.{moment}
use Rattle.aftr_base.specs.declared.value.Side.TheVariants.{Softwire as SoftwireSide}
use Rattle.aftr_base.specs.declared.event.Event.{Event}
use Rattle.aftr_base.specs.declared.event.EventKind.{EventKind}
use Rattle.aftr_base.specs.declared.event.EventKind.TheVariants.{Softwire, Public, Tick, Change, Snapped, Foreign, Stray}
use Rattle.aftr_base.specs.declared.event.LogEvent.{LogEvent}
use Rattle.aftr_base.specs.declared.event.LogEvent.TheVariants.{Horizon}
use Rattle.aftr_base.specs.declared.event.DropCause.{DropCause}
use Rattle.aftr_base.specs.declared.event.DropCause.TheVariants.{Settling, Snapped as SnappedCause, BadPacket, NoProtocol}
use Rattle.aftr_base.specs.declared.event.DropCause.TheVariants.{BadChange}
use Rattle.wire_ip4.specs.Grammar.{Header}
use Rattle.icmp_xlate.specs.declared.made.MadeError.{MadeError}
use Rattle.nat_mapping.specs.Rows.{Mapping}
use Rattle.wire_l4.specs.Grammar.{transport_bytes}
use Rattle.xlate_core.specs.declared.step_out.Item.{Item}
use Rattle.xlate_core.specs.declared.grant.Grant.{Grant}
use Rattle.xlate_core.specs.declared.grant.Flow.{Flow}
use Rattle.xlate_core.specs.Arrivals.{arrival_of, receiver_of, rows_inbound}
use Rattle.xlate_core.specs.Errors.{answer_bytes, error_about, error_from_public, error_from_subscriber}
use Rattle.ingress.specs.Arrival.{Arrival}
use Rattle.ingress.specs.PublicSide.{is_ours, public_arrival}
use Rattle.ingress.specs.SoftwireSide.{softwire_arrival}
use Rattle.xlate_core.specs.State.{State, Step, is_past_horizon, item, reach_of}
use Rattle.xlate_core.specs.Sending.{Sending, public_items, to_softwire}
use Rattle.xlate_core.specs.Datagram.{Datagram, datagram_bytes, flags_of, is_answer, place_on, key_of, hairpinned, inner_place, translated}
use Rattle.ingress.specs.declared.received.Sender.{Sender}
use Rattle.xlate_core.specs.declared.packet.Content.{Content}
use Rattle.xlate_core.specs.declared.packet.Content.TheVariants.{Carries, Reports}
use Rattle.ingress.specs.declared.received.Received.{Received}
use Rattle.xlate_core.specs.Outbound.{Outbound, outward}
use Rattle.xlate_core.specs.Inbound.{inward}
use Rattle.xlate_core.specs.Grant.{granted, granted_only, after_grant, opening_events}
use Rattle.xlate_core.specs.Expiry.{at_moment}

abbrev pub quiet : State → Step
quiet s = record { state = s; items = []; closings = []; openings = []; drop = None }

abbrev pub dropped : State → DropCause → Step
dropped s cause = record { state = s; items = []; closings = []; openings = []; drop = Some cause }

-- ---- outbound: from a subscriber to the public side

-- what a place is asked for
abbrev pub flow_of : Outbound → Flow
flow_of got = record {
  who = got.who;
  key = key_of got.who.softwire got.datagram;
  remote = place_on false got.datagram;
  flags = flags_of got.datagram.body;
  answers = is_answer got.datagram.body;
}

-- the place that the datagram's mapping has or gets, or the first reason against it
abbrev pub mapped : State → Outbound → Result Grant DropCause
mapped s got = granted s (flow_of got)

-- the datagram as it leaves
abbrev pub turned : Outbound → Grant → Datagram
turned got g = translated true g.place got.datagram

abbrev pub sent_out : State → Outbound → Grant → Step
sent_out s got g = record {
  state = after_grant (flow_of got) g s;
  items = public_items s got.who.owner (turned got g).header (transport_bytes (turned got g).body);
  closings = [];
  openings = opening_events s g;
  drop = None;
}

-- ---- hairpins: from a subscriber to another one, or to itself, through the pool (RFC 4787 6)

-- the datagram to the softwire of its receiver, with its TOS as the traffic class (RFC 2473 6.4)
abbrev pub hairpin : State → Outbound → Grant → Mapping → Sending
hairpin s got g row =
    let d = got.datagram in
    to_softwire s (Some got.who.owner) row d.header.fields.tos (datagram_bytes (hairpinned g.place (inner_place row.key) d))

-- It goes out and then comes in: first the sender's mapping is used, and then the receiver's, which may be the same.
abbrev pub sent_back : State → Outbound → Grant → Mapping → Step
sent_back s got g row =
    let kept = after_grant (flow_of got) g s in record {
      state = record kept { rows = rows_inbound kept (arrival_of (turned got g)); cuts = (hairpin s got g row).cuts };
      items = (hairpin s got g row).items;
      closings = [];
      openings = opening_events s g;
      drop = None;
    }

-- No mapping receives it: what was granted stays.
abbrev pub held_back : State → Outbound → Grant → DropCause → Step
held_back s got g cause = record {
  state = granted_only (flow_of got) g s;
  items = [];
  closings = [];
  openings = opening_events s g;
  drop = Some cause;
}

abbrev pub hairpin_step : State → Outbound → Grant → Step
hairpin_step s got g =
    elim (receiver_of (granted_only (flow_of got) g s) (arrival_of (turned got g))) [
      | Err cause ↦ held_back s got g cause
      | Ok row ↦ sent_back s got g row
    ]

abbrev pub turns_back : State → Outbound → Bool
turns_back s got = is_ours s.config got.datagram.header.fields.dst

abbrev pub forwarding_step : State → Outbound → Grant → Step
forwarding_step s got g = if turns_back s got then hairpin_step s got g else sent_out s got g

-- ---- refusals that the sender is told of

abbrev pub answered : State → Received → DropCause → MadeError → Step
answered s got cause e = record (dropped s cause) { items = item s SoftwireSide None (answer_bytes s got e) ∷ [] }

-- a subscriber's packet is dropped, and its sender told of it where an error tells of that
abbrev pub refused : State → Received → DropCause → Step
refused s got cause = elim (error_about s.config got.packet cause) [ None ↦ dropped s cause | Some e ↦ answered s got cause e ]

-- a packet that leaves all else as it is, or the rule that refuses it
abbrev pub relayed : State → Sending → Step
relayed s sent = record (quiet (record s { cuts = sent.cuts })) { items = sent.items }

abbrev pub relayed_if : State → Result Sending DropCause → Step
relayed_if s r = elim r [ Err cause ↦ dropped s cause | Ok sent ↦ relayed s sent ]

-- ---- a whole packet of a subscriber

abbrev pub sent_by : Sender → Datagram → Outbound
sent_by who d = record { who = who; datagram = d }

abbrev pub content_out : State → Received → Content → Step
content_out s got (Carries d) =
    let sent = sent_by got.who d in
    elim (mapped s sent) [ Err cause ↦ refused s got cause | Ok g ↦ forwarding_step s sent g ]
content_out s got (Reports e) = relayed_if s (error_from_subscriber s got.who e)

abbrev pub from_subscriber : State → Received → Step
from_subscriber s got = elim (outward s.config got.packet) [ Err cause ↦ refused s got cause | Ok content ↦ content_out s got content ]

-- ---- inbound: from the public side to the softwire of the mapping at the destination

-- the datagram to the softwire of its mapping, with its TOS as the traffic class (RFC 2473 6.4)
abbrev pub delivery : State → Datagram → Mapping → Sending
delivery s d row = to_softwire s None row d.header.fields.tos (datagram_bytes (translated false (inner_place row.key) d))

abbrev pub sent_in : State → Datagram → Mapping → Step
sent_in s d row =
    let sent = delivery s d row in
    record (quiet (record s { rows = rows_inbound s (arrival_of d); cuts = sent.cuts })) { items = sent.items }

abbrev pub content_in : State → Content → Step
content_in s (Carries d) = elim (receiver_of s (arrival_of d)) [ Err cause ↦ dropped s cause | Ok row ↦ sent_in s d row ]
content_in s (Reports e) = relayed_if s (error_from_public s e)

abbrev pub from_public : State → Header × List ℕ → Step
from_public s packet = elim (inward s.config packet) [ Err cause ↦ dropped s cause | Ok content ↦ content_in s content ]

-- ---- a record

-- what it brought is treated where the pieces that it left are held; a piece that is held does nothing else
abbrev pub treated : {A : Type 0} → State → Arrival A → (State → A → Step) → Step
treated s a treat =
    let held = record s { kept = a.kept } in
    elim a.brought [ Err cause ↦ dropped held cause | Ok None ↦ quiet held | Ok (Some x) ↦ treat held x ]

-- from the softwire side, and from the public side; a record that settles brings nothing
abbrev pub outbound_step : State → List ℕ → Step
outbound_step s bytes =
    if nat_lt s.floor s.clock then treated s (softwire_arrival s.config s.clock s.kept bytes) from_subscriber else dropped s Settling

abbrev pub inbound_step : State → List ℕ → Step
inbound_step s bytes =
    if nat_lt s.floor s.clock then treated s (public_arrival s.config s.clock s.kept bytes) from_public else dropped s Settling

-- a record that is refused whatever its bytes are, but for the floor
abbrev pub refused_as_kind : State → DropCause → Step
refused_as_kind s cause = dropped s (if nat_lt s.floor s.clock then cause else Settling)

abbrev pub treatment : State → EventKind → List ℕ → Step
treatment s Softwire bytes = outbound_step s bytes
treatment s Public bytes = inbound_step s bytes
treatment s Tick bytes = quiet s
treatment s Change bytes = dropped s BadChange
treatment s Snapped bytes = refused_as_kind s SnappedCause
treatment s Foreign bytes = refused_as_kind s NoProtocol
treatment s Stray bytes = refused_as_kind s BadPacket

-- ---- the horizon: the log promises names ahead, so that not each packet needs a record of its own

-- where it has to be raised, what is then logged, and the state
abbrev pub horizon_by : Bool → State → State
horizon_by raised s = record s { horizon = if raised then reach_of s else s.horizon }

abbrev pub promise_by : Bool → State → List LogEvent
promise_by raised s = if raised then Horizon (moment s.clock) (moment (reach_of s)) ∷ [] else []

-- a subscriber's packet goes out or a lease opens, past the horizon
abbrev pub needs_horizon : Step → Bool
needs_horizon t =
    (list_any (λ (i : Item). is_some i.owner) t.items || nat_lt 0 (length t.openings)) && is_past_horizon t.state

abbrev pub with_horizon : Step → Step
with_horizon t = record t {
  state = horizon_by (needs_horizon t) t.state;
  openings = promise_by (needs_horizon t) t.state ++ t.openings;
}

-- what closed as the clock was raised stands before what the record itself does
abbrev pub step : State → Event → Step
step s e =
    let before = at_moment e.at.0 s in
    let t = with_horizon (treatment before.state e.kind e.bytes) in
    record t { closings = before.closings ++ t.closings }

-- in the order of the log: closings, the horizon, openings
abbrev pub log_of : Step → List LogEvent
log_of t = t.closings ++ t.openings
