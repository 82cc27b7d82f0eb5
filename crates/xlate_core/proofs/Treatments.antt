-- In which ways a record is treated.
use Rattle.std.proofs.Common.{◌≡◌, ℕ, ◌<◌, Bool, true, false, cond, List, Option, Some, None, Result, Ok, Err, ok_or, nat_lt, refl, subst}
use Rattle.std.specs.Prelude.{if◌then◌else◌}
use Rattle.std.proofs.lemmas.Bool.{ltb-true}
use Rattle.aftr_base.specs.declared.event.EventKind.{EventKind}
use Rattle.aftr_base.specs.declared.event.DropCause.{DropCause}
use Rattle.aftr_base.specs.declared.event.DropCause.TheVariants.{Settling, Snapped as SnappedCause, BadPacket, NoProtocol, NoMapping, Filtered}
use Rattle.aftr_base.specs.declared.event.DropCause.TheVariants.{BadChange}
use Rattle.aftr_base.specs.declared.event.EventKind.TheVariants.{Softwire, Public, Tick, Change, Snapped, Foreign, Stray}
use Rattle.cfg_text.specs.declared.config.Config.{Config}
use Rattle.icmp_xlate.specs.declared.made.MadeError.{MadeError}
use Rattle.nat_mapping.specs.Rows.{Mapping}
use Rattle.wire_ip4.specs.Grammar.{Header}
use Rattle.xlate_core.specs.declared.grant.Grant.{Grant}
use Rattle.xlate_core.specs.Rows.{find_in}
use Rattle.subscriber_table.specs.Under.{subscriber_of}
use Rattle.frag_reasm.specs.declared.pieces.PartialDatagram.{PartialDatagram}
use Rattle.ingress.specs.Arrival.{Arrival}
use Rattle.ingress.specs.Laws.{IsReceived}
use Rattle.ingress.specs.Packet.{IsUncut}
use Rattle.ingress.specs.PublicSide.{public_arrival}
use Rattle.ingress.specs.SoftwireSide.{softwire_arrival}
use Rattle.ingress.proofs.Arrivals.{public_brings_uncut, softwire_brings_uncut}
use Rattle.xlate_core.specs.State.{State, Step}
use Rattle.xlate_core.specs.Datagram.{Datagram}
use Rattle.xlate_core.specs.Sending.{Sending}
use Rattle.xlate_core.specs.declared.packet.Content.{Content}
use Rattle.xlate_core.specs.declared.packet.Content.TheVariants.{Carries, Reports}
use Rattle.xlate_core.specs.Errors.{error_about, error_from_public, error_from_subscriber}
use Rattle.ingress.specs.declared.received.Received.{Received}
use Rattle.xlate_core.specs.Outbound.{Outbound, outward}
use Rattle.xlate_core.specs.Inbound.{inward}
use Rattle.xlate_core.specs.declared.arrival.Arrival.{Arrival as Incoming}
use Rattle.xlate_core.specs.Arrivals.{arrival_of, receiver_of}
use Rattle.xlate_core.specs.Grant.{granted_only}
use Rattle.xlate_core.specs.Step.{answered, content_in, content_out, dropped, flow_of, forwarding_step, from_public}
use Rattle.xlate_core.specs.Step.{from_subscriber, hairpin_step, held_back, mapped, quiet, refused, relayed, relayed_if}
use Rattle.xlate_core.specs.Step.{sent_back, sent_by, sent_in, sent_out, treated, treatment, turned, turns_back}
use Rattle.cfg_text.specs.Accepted.{by_address}
use Rattle.nat_filter.specs.Admits.{admits as lets_in}
use Rattle.xlate_core.proofs.Attempts.{step_gave, test_passed, was_there, ok_inj}
use Rattle.xlate_core.proofs.WholeDatagrams.{IsInward, IsOutward, is_inward, is_outward}
use Rattle.xlate_core.proofs.WholeErrors.{IsRelayed, error_inward, error_outward, relayed_in, relayed_out}

-- the same where other pieces are held
abbrev pub keeping : State → List PartialDatagram → State
keeping s kept = record s { kept = kept }

-- a whole packet of a subscriber
abbrev pub IsFrom : Config → Received → Type 0
IsFrom c got = IsReceived c IsUncut got

-- ---- the ways of a packet

-- a subscriber's datagram that goes out
pub record IsOut (s : State) (got : Outbound) (g : Grant) : Type 0 where
  pub settled : s.floor < s.clock
  pub sends : IsOutward got.datagram
  pub owns : subscriber_of s.config got.who.softwire ≡ Some got.who.owner
  pub grants : mapped s got ≡ Ok g

-- a datagram that a mapping receives
pub record IsTaken (s : State) (a : Incoming) (row : Mapping) : Type 0 where
  pub finds : find_in a.proto a.to s.rows ≡ Some row
  pub filters : lets_in row a.from.addr (by_address s.config) ≡ true

pub is_taken : (s : State) (a : Incoming) (row : Mapping) → receiver_of s a ≡ Ok row → IsTaken s a row
is_taken s a row h =
    let (r, found, next) = step_gave (ok_or (find_in a.proto a.to s.rows) NoMapping) _ row h in
    let (filters, same) = test_passed (lets_in r a.from.addr (by_address s.config)) Filtered _ row next in
    subst (IsTaken s a) (ok_inj r row _ refl same) (record {
      finds = was_there (find_in a.proto a.to s.rows) NoMapping r found;
      filters = filters;
    })

-- a datagram of the public side that goes in, by this row
pub record IsIn (s : State) (d : Datagram) (row : Mapping) : Type 0 where
  pub settled : s.floor < s.clock
  pub arrives : IsInward s.config d
  pub receives : IsTaken s (arrival_of d) row

-- a subscriber's datagram that turns back, by this row
abbrev pub IsTurned : State → Outbound → Grant → Mapping → Type 0
IsTurned s got g row = IsTaken (granted_only (flow_of got) g s) (arrival_of (turned got g)) row

-- what holds of a record that changes nothing, of a drop, of one that is told of, of an error that is passed on, of a datagram
-- that goes in, of one that goes out, of one that turns back and of one that no mapping receives
pub record EachWay (P : Step → Type 0) (s : State) : Type 0 where
  pub rests : P (quiet s)
  pub drops : (cause : DropCause) → P (dropped s cause)
  pub answers : (got : Received) (cause : DropCause) (e : MadeError) → IsFrom s.config got → P (answered s got cause e)
  pub relays : (sent : Sending) → IsRelayed s sent → P (relayed s sent)
  pub delivers : (d : Datagram) (row : Mapping) → IsIn s d row → P (sent_in s d row)
  pub forwards : (got : Outbound) (g : Grant) → IsOut s got g → turns_back s got ≡ false → P (sent_out s got g)
  pub turns : (got : Outbound) (g : Grant) (row : Mapping) → IsOut s got g → IsTurned s got g row → P (sent_back s got g row)
  pub holds : (got : Outbound) (g : Grant) (cause : DropCause) → IsOut s got g
      → receiver_of (granted_only (flow_of got) g s) (arrival_of (turned got g)) ≡ Err cause → P (held_back s got g cause)

module _ (P : Step → Type 0) (s : State) (each : EachWay P s) where
  -- a refusal
  told_by : (got : Received) (cause : DropCause) (o : Option MadeError) → IsFrom s.config got
      → P (elim o [ None ↦ dropped s cause | Some e ↦ answered s got cause e ])
  told_by got cause None is = each.drops cause
  told_by got cause (Some e) is = each.answers got cause e is

  way_refused : (got : Received) (cause : DropCause) → IsFrom s.config got → P (refused s got cause)
  way_refused got cause is = told_by got cause (error_about s.config got.packet cause) is

  -- a datagram from a subscriber
  way_back : (got : Outbound) (g : Grant) (r : Result Mapping DropCause)
      → receiver_of (granted_only (flow_of got) g s) (arrival_of (turned got g)) ≡ r → IsOut s got g
      → P (elim r [ Err cause ↦ held_back s got g cause | Ok row ↦ sent_back s got g row ])
  way_back got g (Err cause) e is = each.holds got g cause is e
  way_back got g (Ok row) e is =
      each.turns got g row is (is_taken (granted_only (flow_of got) g s) (arrival_of (turned got g)) row e)

  way_on : (got : Outbound) (g : Grant) (back : Bool) → turns_back s got ≡ back → IsOut s got g
      → P (if back then hairpin_step s got g else sent_out s got g)
  way_on got g true e is = way_back got g (receiver_of (granted_only (flow_of got) g s) (arrival_of (turned got g))) refl is
  way_on got g false e is = each.forwards got g is e

  way_sent : (got : Received) (d : Datagram) (r : Result Grant DropCause) → mapped s (sent_by got.who d) ≡ r → s.floor < s.clock
      → IsFrom s.config got → IsOutward d
      → P (elim r [ Err cause ↦ refused s got cause | Ok g ↦ forwarding_step s (sent_by got.who d) g ])
  way_sent got d (Err cause) e settled is sends = way_refused got cause is
  way_sent got d (Ok g) e settled is sends =
      let sent = sent_by got.who d in
      way_on sent g (turns_back s sent) refl (record { settled = settled; sends = sends; owns = is.owner; grants = e })

  -- an error that is passed on
  way_relayed : (r : Result Sending DropCause) → ((sent : Sending) → r ≡ Ok sent → IsRelayed s sent) → P (relayed_if s r)
  way_relayed (Err cause) h = each.drops cause
  way_relayed (Ok sent) h = each.relays sent (h sent refl)

  way_content : (got : Received) (r : Result Content DropCause) → outward s.config got.packet ≡ r → s.floor < s.clock
      → IsFrom s.config got → P (elim r [ Err cause ↦ refused s got cause | Ok content ↦ content_out s got content ])
  way_content got (Err cause) e settled is = way_refused got cause is
  way_content got (Ok (Carries d)) e settled is =
      way_sent got d (mapped s (sent_by got.who d)) refl settled is (is_outward s.config got.packet d is.packet e)
  way_content got (Ok (Reports r)) e settled is =
      way_relayed (error_from_subscriber s got.who r)
      (relayed_out s got.who r is.owner (error_outward s.config got.packet r is.packet e))

  pub from_subscriber_way : (got : Received) → s.floor < s.clock → IsFrom s.config got → P (from_subscriber s got)
  from_subscriber_way got settled is = way_content got (outward s.config got.packet) refl settled is

  -- a packet of the public side
  way_delivered : (d : Datagram) (r : Result Mapping DropCause) → receiver_of s (arrival_of d) ≡ r → s.floor < s.clock
      → IsInward s.config d → P (elim r [ Err cause ↦ dropped s cause | Ok row ↦ sent_in s d row ])
  way_delivered d (Err cause) e settled is = each.drops cause
  way_delivered d (Ok row) e settled is =
      each.delivers d row (record { settled = settled; arrives = is; receives = is_taken s (arrival_of d) row e })

  way_brought : (packet : Header × List ℕ) (r : Result Content DropCause) → inward s.config packet ≡ r → s.floor < s.clock
      → IsUncut packet → P (elim r [ Err cause ↦ dropped s cause | Ok content ↦ content_in s content ])
  way_brought packet (Err cause) e settled is = each.drops cause
  way_brought packet (Ok (Carries d)) e settled is =
      way_delivered d (receiver_of s (arrival_of d)) refl settled (is_inward s.config packet d is e)
  way_brought packet (Ok (Reports r)) e settled is =
      way_relayed (error_from_public s r) (relayed_in s r (error_inward s.config packet r is e))

  pub from_public_way : (packet : Header × List ℕ) → s.floor < s.clock → IsUncut packet → P (from_public s packet)
  from_public_way packet settled is = way_brought packet (inward s.config packet) refl settled is

-- ---- a record

module _ {A : Type 0} (P : Step → Type 0) (s : State) (treat : State → A → Step) (a : Arrival A) where
  -- what was brought, whatever that is
  way_brought_as : (r : Result (Option A) DropCause) → a.brought ≡ r → ((kept : List PartialDatagram) → EachWay P (keeping s kept))
      → ((x : A) → a.brought ≡ Ok (Some x) → P (treat (keeping s a.kept) x))
      → P (elim r [ Err cause ↦ dropped (keeping s a.kept) cause | Ok None ↦ quiet (keeping s a.kept) | Ok (Some x) ↦ treat (keeping s a.kept) x ])
  way_brought_as (Err cause) e each whole = (each a.kept).drops cause
  way_brought_as (Ok None) e each whole = (each a.kept).rests
  way_brought_as (Ok (Some x)) e each whole = whole x e

  pub way_treated : ((kept : List PartialDatagram) → EachWay P (keeping s kept))
      → ((x : A) → a.brought ≡ Ok (Some x) → P (treat (keeping s a.kept) x)) → P (treated s a treat)
  way_treated each whole = way_brought_as a.brought refl each whole

module _ (P : Step → Type 0) (s : State) (bytes : List ℕ) (each : (kept : List PartialDatagram) → EachWay P (keeping s kept)) where
  way_out : (late : Bool) → nat_lt s.floor s.clock ≡ late
      → P (if late then treated s (softwire_arrival s.config s.clock s.kept bytes) from_subscriber else dropped s Settling)
  way_out true e =
      let a = softwire_arrival s.config s.clock s.kept bytes in
      way_treated P s from_subscriber a each (λ got is. from_subscriber_way P (keeping s a.kept) (each a.kept) got (ltb-true s.floor s.clock e)
      (softwire_brings_uncut s.config s.clock s.kept bytes got is))
  way_out false e = (each s.kept).drops Settling

  way_in : (late : Bool) → nat_lt s.floor s.clock ≡ late
      → P (if late then treated s (public_arrival s.config s.clock s.kept bytes) from_public else dropped s Settling)
  way_in true e =
      let a = public_arrival s.config s.clock s.kept bytes in
      way_treated P s from_public a each (λ packet is. from_public_way P (keeping s a.kept) (each a.kept) packet (ltb-true s.floor s.clock e)
      (public_brings_uncut s.config s.clock s.kept bytes packet is))
  way_in false e = (each s.kept).drops Settling

-- what holds each way, whatever pieces are held, holds of the treatment
pub by_way : (P : Step → Type 0) (s : State) (bytes : List ℕ) (kind : EventKind) → ((kept : List PartialDatagram) → EachWay P (keeping s kept))
    → P (treatment s kind bytes)
by_way P s bytes Softwire each = way_out P s bytes each (nat_lt s.floor s.clock) refl
by_way P s bytes Public each = way_in P s bytes each (nat_lt s.floor s.clock) refl
by_way P s bytes Tick each = (each s.kept).rests
by_way P s bytes Change each = (each s.kept).drops BadChange
by_way P s bytes Snapped each = (each s.kept).drops (cond (nat_lt s.floor s.clock) SnappedCause Settling)
by_way P s bytes Foreign each = (each s.kept).drops (cond (nat_lt s.floor s.clock) NoProtocol Settling)
by_way P s bytes Stray each = (each s.kept).drops (cond (nat_lt s.floor s.clock) BadPacket Settling)
