-- Each packet that goes out has its source in an open lease of its subscriber, which all later leases name, and no other.
use Rattle.std.proofs.Common.{◌≡◌, ℕ, ◌^◌, ◌<◌, ◌≤◌, ◌==◌, Bool, true, false, not, ap, List, [], ◌∷◌, ◌++◌, length, Option, Some, None, IfSome, All, option_to_list, refl, sym, ◌∙◌, subst, arith, ap₂}
use Rattle.std.proofs.lemmas.List.Elements.{All-weaker, All-nil, All-cons, All-append}
use Rattle.std.specs.Prelude.{◌&&◌, ◌||◌, if◌then◌else◌}
use Rattle.std.proofs.lemmas.Bool.{eq-eqb}
use Rattle.aftr_base.specs.Bytes.{u8_at}
use Rattle.aftr_base.specs.Value.{ip4, place}
use Rattle.aftr_base.specs.declared.value.Ext.{Ext}
use Rattle.aftr_base.specs.declared.value.Subscriber.{Subscriber}
use Rattle.aftr_base.specs.declared.value.Side.TheVariants.{Softwire as SoftwireSide, Public as PublicSide}
use Rattle.aftr_base.specs.declared.row.LeaseRow.{LeaseRow}
use Rattle.aftr_base.specs.declared.event.Event.{Event}
use Rattle.aftr_base.specs.declared.event.EventKind.{EventKind}
use Rattle.aftr_base.specs.declared.told.Told.{Told}
use Rattle.cfg_text.specs.declared.config.Config.{Config}
use Rattle.xlate_core.specs.declared.grant.Grant.{Grant}
use Rattle.ingress.specs.declared.received.Sender.{Sender}
use Rattle.xlate_core.specs.declared.step_out.Item.{Item}
use Rattle.xlate_core.specs.State.{State, Step, item}
use Rattle.softwire.specs.Cut.{cut_packet}
use Rattle.wire_icmp.specs.Quoted.{report_bytes}
use Rattle.wire_ip4.specs.Grammar.{Header}
use Rattle.wire_l4.specs.Grammar.{transport_bytes}
use Rattle.icmp_xlate.specs.Errors.{ErrorPacket, error_bytes, forwarded_error, turned_error}
use Rattle.icmp_xlate.proofs.ErrorLengths.{IsError}
use Rattle.icmp_xlate.proofs.ErrorPlaces.{ShowsIdentifier, ShowsPlace, error_kinds, identifier_out, shows_back, shows_out}
use Rattle.nat_mapping.specs.Rows.{Mapping}
use Rattle.xlate_core.specs.Packet.{is_fault}
use Rattle.xlate_core.specs.Sources.{inner_at, is_first, is_query_at, sender_of, shows_by, source_of}
use Rattle.xlate_core.specs.Datagram.{datagram_bytes, hairpinned, inner_place, translated}
use Rattle.xlate_core.specs.Sending.{Sending, public_items, softwire_items}
use Rattle.xlate_core.specs.Outbound.{Outbound}
use Rattle.xlate_core.specs.Expiry.{at_moment}
use Rattle.xlate_core.specs.Errors.{answer_bytes, error_in, error_key, error_out}
use Rattle.xlate_core.specs.Step.{step, treatment, sent_out, sent_back, held_back, turned}
use Rattle.xlate_core.specs.Run.{run, start}
use Rattle.xlate_core.specs.Valid.{AreDisjoint, IsConsistent, IsStart}
use Rattle.xlate_core.proofs.Disjoint.{disjoint_run}
use Rattle.xlate_core.proofs.Holders.{IsHeld, holders, held_later, held_now, sole_holder}
use Rattle.xlate_core.proofs.LeasesOver.{AreLater, later_run}
use Rattle.xlate_core.proofs.Reached.{IsReached, reached_keeping, reached_moment, reached_start, reached_step}
use Rattle.xlate_core.proofs.ValidForwards.{place_granted, row_lies}
use Rattle.xlate_core.proofs.ValidStates.{grant_out}
use Rattle.xlate_core.proofs.FirstPieces.{from_public, from_softwire}
pub use Rattle.xlate_core.proofs.FirstPieces.{IsFromLease}
use Rattle.xlate_core.proofs.Leaving.{all_of, packets_in}
use Rattle.xlate_core.proofs.WirePlaces.{address_back, address_out, no_query_back, place_fits, port_back, port_by, port_in, port_out, wire_grant}
use Rattle.xlate_core.proofs.Packets.{sent_outward}
use Rattle.xlate_core.proofs.Treatments.{EachWay, IsOut, by_way, keeping}
use Rattle.xlate_core.proofs.WholeDatagrams.{length_body, length_hairpinned}
use Rattle.xlate_core.proofs.WholeErrors.{GoesIn, GoesOut, IsRelayed, IsSentError, TurnsBack, length_quoting, length_turned}
use Rattle.xlate_core.proofs.ValidRows.{lies_at}

-- ---- a packet's source

-- the place of a grant is in an open lease of the sender then, and fits into the headers
placed : {s : State} {got : Outbound} {g : Grant} → IsReached s → IsOut s got g
    → (let after = s.leases ++ option_to_list g.lease in
    (lies_at after got.who.owner g.place ≡ true) × (g.place.addr.0 < 2 ^ 32) × (g.place.port < 2 ^ 16))
placed {s = s} {got = got} {g = g} h by =
    let grant = grant_out h.accepted by in
    let there = place_granted grant h.consistent in
    let fits = place_fits (s.leases ++ option_to_list g.lease) got.who.owner g.place (wire_grant grant h.wire) there in
    (there, fits.0, fits.1)

source_out : {s : State} {got : Outbound} {g : Grant} → IsReached s → IsOut s got g
    → All (IsFromLease (s.leases ++ option_to_list g.lease)) (sent_out s got g).items
source_out {s = s} {got = got} {g = g} h by =
    let after = s.leases ++ option_to_list g.lease in
    let sent = turned got g in
    let whole = (sent_outward by).whole in
    let (there, low, high) = placed h by in
    let addr = address_out g.place got.datagram low in
    let port = port_out g.place got.datagram whole high in
    from_public after s got.who.owner sent.header (transport_bytes sent.body) h.accepted whole.options (length_body true g.place got.datagram whole)
    (ap₂ (λ (a p : ℕ). lies_at after got.who.owner (place (ip4 a) p)) addr port ∙ there)

-- one of nobody's has none
nobody : (P : Subscriber → Type 0) (shows : Bool) → IfSome (if shows then None else None) P
nobody P true = tt
nobody P false = tt

nobodys : (leases : List LeaseRow) (i : Item) → i.owner ≡ None → IsFromLease leases i
nobodys leases i none =
    let shows = is_first i.side i.bytes && shows_by i.side (is_query_at (inner_at i.side i.bytes) i.bytes) in
    let P = λ (owner : Subscriber). lies_at leases owner (source_of i) ≡ true in
    subst (λ (o : Option Subscriber). IfSome (if shows then o else None) P) (sym none) (nobody P shows)

-- a packet between subscribers shows it, unless that is an identifier
source_back : {s : State} {got : Outbound} {g : Grant} (row : Mapping) → IsReached s → IsOut s got g
    → All (IsFromLease (s.leases ++ option_to_list g.lease)) (sent_back s got g row).items
source_back {s = s} {got = got} {g = g} row h by =
    let after = s.leases ++ option_to_list g.lease in
    let d = got.datagram in
    let place_in = inner_place row.key in
    let whole = (sent_outward by).whole in
    let (there, low, high) = placed h by in
    from_softwire after s got.who.owner row d.header.fields.tos (datagram_bytes (hairpinned g.place place_in d)) h.accepted
    (omega (arith, length_hairpinned g.place place_in d whole, whole.short)) (λ none.
    let ports = no_query_back g.place place_in d whole none in
    let addr = address_back g.place place_in d low in
    let port = port_back g.place place_in d whole ports high in
    ap₂ (λ (a p : ℕ). lies_at after got.who.owner (place (ip4 a) p)) addr port ∙ there)

-- ---- an error that is passed on

-- its place is that of the mapping of what it quotes, which fits into the headers
error_placed : {s : State} {who : Sender} {row : Mapping} {e : ErrorPacket} → IsReached s → IsSentError s who row e
    → (lies_at s.leases who.owner row.ext ≡ true) × (row.ext.addr.0 < 2 ^ 32) × (row.ext.port < 2 ^ 16)
error_placed {s = s} {who = who} {row = row} {e = e} h is =
    let there = row_lies s (error_key who.softwire e) who.owner row is.owns is.finds h.consistent in
    let fits = place_fits s.leases who.owner row.ext h.wire there in
    (there, fits.0, fits.1)

-- it is about no echo message, where its place isn't an identifier
ports_by : (icmp fault about : Bool) → icmp ≡ true → fault ≡ true → (icmp && (not fault || about)) ≡ false → about ≡ false
ports_by true true false e f h = refl
ports_by true true true e f h = cc
ports_by true false about e f h = cc
ports_by false fault about e f h = cc

ports_quoted : {new : Ext} (e : ErrorPacket) (bytes : List ℕ) → IsError e → ShowsPlace e new bytes → is_query_at 0 bytes ≡ false
    → (u8_at 37 bytes == 1) ≡ false
ports_quoted e bytes is shows none =
    ports_by (u8_at 9 bytes == 1) (is_fault (u8_at 20 bytes)) (u8_at 37 bytes == 1) (eq-eqb (u8_at 9 bytes) 1 shows.proto)
    (ap is_fault shows.kind ∙ error_kinds e.report.kind is.kind) none

-- an error's place, whatever it is about
shown_port : (new : Ext) (e : ErrorPacket) (bytes : List ℕ) (about : Bool) → IsError e → ShowsPlace e new bytes
    → (u8_at 37 bytes == 1) ≡ about → (about ≡ true → ShowsIdentifier new bytes) → port_in bytes ≡ new.port
shown_port new e bytes true is shows known id =
    port_by bytes true true true (eq-eqb (u8_at 9 bytes) 1 shows.proto) (ap is_fault shows.kind ∙ error_kinds e.report.kind is.kind) known
    ∙ id refl known
shown_port new e bytes false is shows known id =
    port_by bytes true true false (eq-eqb (u8_at 9 bytes) 1 shows.proto) (ap is_fault shows.kind ∙ error_kinds e.report.kind is.kind) known
    ∙ shows.port known

source_error_out : {s : State} {who : Sender} {row : Mapping} {e : ErrorPacket} → IsReached s → IsSentError s who row e
    → All (IsFromLease s.leases) (error_out s who row e).items
source_error_out {s = s} {who = who} {row = row} {e = e} h is =
    let (there, low, high) = error_placed h is in
    let whole = is.sends.whole in
    let out = forwarded_error true row.ext e in
    let bytes = error_bytes out in
    let shows = shows_out row.ext e whole.is low high in
    let port = shown_port row.ext e bytes (u8_at 37 bytes == 1) whole.is shows refl (λ about. identifier_out row.ext e whole.is low high) in
    from_public s.leases s who.owner out.header (report_bytes out.report) h.accepted whole.is.bare (length_quoting true row.ext e whole)
    (ap₂ (λ (a p : ℕ). lies_at s.leases who.owner (place (ip4 a) p)) shows.address port ∙ there)

-- between subscribers, where that isn't an identifier
source_error_back : {s : State} {who : Sender} {row : Mapping} {e : ErrorPacket} (to : Mapping) → IsReached s → IsSentError s who row e
    → All (IsFromLease s.leases) (error_in s (Some who.owner) to (turned_error row.ext (inner_place to.key) e)).items
source_error_back {s = s} {who = who} {row = row} {e = e} to h is =
    let (there, low, high) = error_placed h is in
    let whole = is.sends.whole in
    let inner = error_bytes (turned_error row.ext (inner_place to.key) e) in
    let shows = shows_back row.ext e whole.is low high (inner_place to.key) in
    from_softwire s.leases s who.owner to e.header.fields.tos inner h.accepted
    (omega (arith, length_turned row.ext (inner_place to.key) e whole.is, whole.short)) (λ none.
    let about = ports_quoted e inner whole.is shows none in
    let port = shown_port row.ext e inner false whole.is shows about (λ other. cc) in
    ap₂ (λ (a p : ℕ). lies_at s.leases who.owner (place (ip4 a) p)) shows.address port ∙ there)

nobodys_in : (leases : List LeaseRow) (s : State) (row : Mapping) (class : ℕ) (inner : List ℕ)
    → All (IsFromLease leases) (softwire_items s None row class inner)
nobodys_in leases s row class inner =
    all_of (IsFromLease leases) (item s SoftwireSide None) (packets_in s row class inner) (λ bytes. nobodys leases (item s SoftwireSide None bytes) refl)

source_relayed : {s : State} {sent : Sending} → IsReached s → IsRelayed s sent → All (IsFromLease s.leases) sent.items
source_relayed {s = s} h (GoesOut who row e same is abroad) =
    subst (λ (x : Sending). All (IsFromLease s.leases) x.items) (sym same) (source_error_out h is)
source_relayed {s = s} h (TurnsBack who row to e same is) =
    subst (λ (x : Sending). All (IsFromLease s.leases) x.items) (sym same) (source_error_back to h is)
source_relayed {s = s} h (GoesIn row e same is) =
    subst (λ (x : Sending). All (IsFromLease s.leases) x.items) (sym same)
    (nobodys_in s.leases s row e.header.fields.tos (error_bytes (forwarded_error false (inner_place row.key) e)))

-- a packet bears the clock of its step
abbrev pub IsAt : ℕ → Item → Type 0
IsAt now i = i.at.0 ≡ now

at_public : (s : State) (owner : Subscriber) (h : Header) (payload : List ℕ) → All (IsAt s.clock) (public_items s owner h payload)
at_public s owner h payload =
    all_of (IsAt s.clock) (item s PublicSide (Some owner)) (cut_packet s.config.public_mtu h payload) (λ bytes. refl)

at_softwire : (s : State) (owner : Option Subscriber) (row : Mapping) (class : ℕ) (inner : List ℕ)
    → All (IsAt s.clock) (softwire_items s owner row class inner)
at_softwire s owner row class inner = all_of (IsAt s.clock) (item s SoftwireSide owner) (packets_in s row class inner) (λ bytes. refl)

at_relayed : {s : State} {sent : Sending} → IsRelayed s sent → All (IsAt s.clock) sent.items
at_relayed {s = s} (GoesOut who row e same is abroad) =
    subst (λ (x : Sending). All (IsAt s.clock) x.items) (sym same)
    (at_public s who.owner (forwarded_error true row.ext e).header (report_bytes (forwarded_error true row.ext e).report))
at_relayed {s = s} (TurnsBack who row to e same is) =
    subst (λ (x : Sending). All (IsAt s.clock) x.items) (sym same)
    (at_softwire s (Some who.owner) to e.header.fields.tos (error_bytes (turned_error row.ext (inner_place to.key) e)))
at_relayed {s = s} (GoesIn row e same is) =
    subst (λ (x : Sending). All (IsAt s.clock) x.items) (sym same)
    (at_softwire s None row e.header.fields.tos (error_bytes (forwarded_error false (inner_place row.key) e)))

one_item : (P : Item → Type 0) (i : Item) → P i → All P (i ∷ [])
one_item P i h = All-cons P i [] h (All-nil P)

-- each packet of a step
source_ways : (s : State) → IsReached s → EachWay (λ (t : Step). All (IsFromLease t.state.leases) t.items) s
source_ways s h = record {
  rests = All-nil (IsFromLease s.leases);
  drops = λ cause. All-nil (IsFromLease s.leases);
  answers = λ got cause e is. one_item (IsFromLease s.leases) _ (nobodys s.leases (item s SoftwireSide None (answer_bytes s got e)) refl);
  relays = λ sent is. source_relayed h is;
  delivers = λ d row by. nobodys_in s.leases s row d.header.fields.tos (datagram_bytes (translated false (inner_place row.key) d));
  forwards = λ got g by abroad. source_out h by;
  turns = λ got g row by turned. source_back row h by;
  holds = λ got g cause by refuses. All-nil (IsFromLease (held_back s got g cause).state.leases);
}

pub source_treated : (s : State) (bytes : List ℕ) (kind : EventKind) → IsReached s
    → All (IsFromLease (treatment s kind bytes).state.leases) (treatment s kind bytes).items
source_treated s bytes kind h =
    by_way (λ (t : Step). All (IsFromLease t.state.leases) t.items) s bytes kind
    (λ kept. source_ways (keeping s kept) (reached_keeping kept h))

pub source_step : (s : State) (e : Event) → IsReached s → All (IsFromLease (step s e).state.leases) (step s e).items
source_step s e h = source_treated (at_moment e.at.0 s).state e.bytes e.kind (reached_moment e.at.0 s h)

now_treated : (s : State) (bytes : List ℕ) (kind : EventKind)
    → All (IsAt (treatment s kind bytes).state.clock) (treatment s kind bytes).items
now_treated s bytes kind = by_way (λ (t : Step). All (IsAt t.state.clock) t.items) s bytes kind (λ kept. record {
  rests = All-nil (IsAt s.clock);
  drops = λ cause. All-nil (IsAt s.clock);
  answers = λ got cause e is. one_item (IsAt s.clock) _ refl;
  relays = λ sent is. at_relayed is;
  delivers = λ d row by. at_softwire s None row d.header.fields.tos (datagram_bytes (translated false (inner_place row.key) d));
  forwards = λ got g by abroad. at_public s got.who.owner (turned got g).header (transport_bytes (turned got g).body);
  turns = λ got g row by back.
      at_softwire s (Some got.who.owner) row got.datagram.header.fields.tos (datagram_bytes (hairpinned g.place (inner_place row.key) got.datagram));
  holds = λ got g cause by refuses. All-nil (IsAt s.clock);
})

pub now_step : (s : State) (e : Event) → All (IsAt (step s e).state.clock) (step s e).items
now_step s e = now_treated (at_moment e.at.0 s).state e.bytes e.kind

-- ---- a packet's subscriber holds its source at its moment, and ever after

abbrev pub IsHeldAt : List LeaseRow → ℕ → Ext → Option Subscriber → Type 0
IsHeldAt leases at e o = IfSome o (λ (owner : Subscriber). IsHeld leases owner e.addr e.port at)

pub record IsKept (s : State) (i : Item) : Type 0 where
  pub sent : i.at.0 ≤ s.clock
  pub held : IsHeldAt s.leases i.at.0 (source_of i) (sender_of i)

later_by : (s t : State) (at : ℕ) (e : Ext) (o : Option Subscriber) → AreLater s t → at ≤ s.clock → IsHeldAt s.leases at e o
    → IsHeldAt t.leases at e o
later_by s t at e None later le h = tt
later_by s t at e (Some owner) later le h = held_later owner e.addr e.port at later le h

pub kept_later : {s t : State} {i : Item} → AreLater s t → IsKept s i → IsKept t i
kept_later {s = s} {t = t} {i = i} later h = record {
  sent = omega (arith, h.sent, later.clock);
  held = later_by s t i.at.0 (source_of i) (sender_of i) later h.sent h.held;
}

now_by : (s : State) (at : ℕ) (e : Ext) (o : Option Subscriber) → at ≡ s.clock → IsConsistent s
    → IfSome o (λ (owner : Subscriber). lies_at s.leases owner e ≡ true) → IsHeldAt s.leases at e o
now_by s at e None now v h = tt
now_by s at e (Some owner) now v h =
    subst (λ (n : ℕ). IsHeld s.leases owner e.addr e.port n) (sym now) (held_now s owner e v h)

pub kept_now : (s : State) (i : Item) → IsConsistent s → IsAt s.clock i → IsFromLease s.leases i → IsKept s i
kept_now s i v now h = record { sent = omega (arith, now); held = now_by s i.at.0 (source_of i) (sender_of i) now v h }

pub kept_step : (s : State) (e : Event) → IsReached s → All (IsKept (step s e).state) (step s e).items
kept_step s e h =
    let v = (reached_step s e h).consistent in
    let from = source_step s e h in
    let now = now_step s e in
    λ k d lt. kept_now (step s e).state _ v (now k d lt) (from k d lt)

pub kept_run : (s : State) (events : List Event) → IsReached s → All (IsKept (run s events).state) (run s events).items
kept_run s [] h = All-nil (IsKept s)
kept_run s (e ∷ es) h =
    let t = step s e in
    let next = run t.state es in
    let reached = reached_step s e h in
    let later = later_run t.state es reached.accepted in
    let old = All-weaker (IsKept t.state) (IsKept next.state) (λ i kept. kept_later later kept) t.items (kept_step s e h) in
    All-append (IsKept next.state) t.items next.items old (kept_run t.state es reached)

-- ---- so the leases of a state give its name, and no other

abbrev pub IsNamed : List LeaseRow → Item → Type 0
IsNamed leases i =
    IfSome (sender_of i) (λ (owner : Subscriber). holders leases (source_of i).addr (source_of i).port i.at.0 ≡ owner ∷ [])

named_by : (leases : List LeaseRow) (at : ℕ) (e : Ext) (o : Option Subscriber) → AreDisjoint leases → IsHeldAt leases at e o
    → IfSome o (λ (owner : Subscriber). holders leases e.addr e.port at ≡ owner ∷ [])
named_by leases at e None apart h = tt
named_by leases at e (Some owner) apart h = sole_holder leases owner e.addr e.port at apart h

pub kept_named : (s : State) (i : Item) → AreDisjoint s.leases → IsKept s i → IsNamed s.leases i
kept_named s i apart h = named_by s.leases i.at.0 (source_of i) (sender_of i) apart h.held

pub names_run : (s : State) (events : List Event) → IsReached s → AreDisjoint s.leases
    → All (IsNamed (run s events).state.leases) (run s events).items
names_run s events h apart =
    let end = run s events in
    let after = disjoint_run s events h.accepted apart in
    All-weaker (IsKept end.state) (IsNamed end.state.leases) (λ i kept. kept_named end.state i after kept) end.items (kept_run s events h)

-- from the start on, where no two leases of the log share a port at a moment
pub names_from : {c : Config} {t : Told} (events : List Event) → IsStart c t → AreDisjoint t.leases
    → All (IsNamed (run (start c t) events).state.leases) (run (start c t) events).items
names_from {c = c} {t = t} events h apart = names_run (start c t) events (reached_start h) apart
