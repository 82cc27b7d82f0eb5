-- Packets that leave are no longer than their length fields tell.
use Rattle.std.proofs.Common.{◌≡◌, ℕ, ◌≤◌, true, false, List, [], ◌∷◌, length, sym, subst, arith}
use Rattle.std.specs.Prelude.{Some, None}
use Rattle.std.proofs.lemmas.List.Elements.{All-nil, All-cons, All-append}
use Rattle.aftr_base.specs.declared.event.Event.{Event}
use Rattle.aftr_base.specs.declared.event.EventKind.{EventKind}
use Rattle.cfg_text.specs.Accepted.{is_accepted}
use Rattle.icmp_xlate.specs.declared.made.MadeError.{MadeError}
use Rattle.icmp_xlate.specs.Errors.{error_bytes, forwarded_error, turned_error}
use Rattle.icmp_xlate.specs.Made.{error_packet}
use Rattle.wire_icmp.specs.Quoted.{report_bytes}
use Rattle.wire_l4.specs.Grammar.{transport_bytes}
use Rattle.xlate_core.specs.declared.grant.Grant.{Grant}
use Rattle.xlate_core.specs.declared.step_out.Item.{Item}
use Rattle.xlate_core.specs.Sending.{Sending, public_items}
use Rattle.xlate_core.specs.State.{State, Step}
use Rattle.xlate_core.specs.Datagram.{datagram_bytes, hairpinned, inner_place, translated}
use Rattle.xlate_core.specs.Errors.{answer_bytes}
use Rattle.ingress.specs.declared.received.Received.{Received}
use Rattle.xlate_core.specs.Outbound.{Outbound}
use Rattle.xlate_core.specs.Expiry.{at_moment}
use Rattle.xlate_core.specs.Step.{step, treatment, turned}
use Rattle.xlate_core.specs.Run.{run}
use Rattle.xlate_core.specs.Stepped.{AreShort}
use Rattle.xlate_core.proofs.Leaving.{short_public, short_softwire}
use Rattle.xlate_core.proofs.WholeDatagrams.{IsOutward, length_body, length_tunnelled}
use Rattle.xlate_core.proofs.Treatments.{IsFrom, IsOut, by_way}
use Rattle.xlate_core.proofs.WholeErrors.{GoesIn, GoesOut, IsRelayed, TurnsBack, length_made, length_quoting}
use Rattle.xlate_core.proofs.ValidStates.{moment_accepted, step_accepted}

-- what a subscriber sent
pub sent_outward : {s : State} {got : Outbound} {g : Grant} → IsOut s got g → IsOutward got.datagram
sent_outward by = by.sends

short_out : {s : State} {got : Outbound} {g : Grant} → is_accepted s.config ≡ true → IsOut s got g
    → AreShort (public_items s got.who.owner (turned got g).header (transport_bytes (turned got g).body))
short_out {s = s} {got = got} {g = g} ok by =
    let is = (sent_outward by).whole in
    short_public s got.who.owner (turned got g).header (transport_bytes (turned got g).body) ok is.options (length_body true g.place got.datagram is)

pub length_answer : (s : State) (got : Received) (e : MadeError) → IsFrom s.config got → length (answer_bytes s got e) ≤ 96
length_answer s got e is =
    let made = error_packet e got.packet.0 got.packet.1 in
    omega (arith, length_tunnelled s.config.aftr got.who.softwire 0 4 made, length_made e got.packet.0 got.packet.1 is.packet.plain)

abbrev IsShortItem : Item → Type 0
IsShortItem i = length i.bytes ≤ 65535

-- an error that is passed on
short_relayed : {s : State} {sent : Sending} → is_accepted s.config ≡ true → IsRelayed s sent → AreShort sent.items
short_relayed {s = s} ok (GoesOut who row e same is abroad) =
    let out = forwarded_error true row.ext e in
    let whole = is.sends.whole in
    subst (λ (x : Sending). AreShort x.items) (sym same)
    (short_public s who.owner out.header (report_bytes out.report) ok whole.is.bare (length_quoting true row.ext e whole))
short_relayed {s = s} ok (TurnsBack who row to e same is) =
    subst (λ (x : Sending). AreShort x.items) (sym same) (short_softwire s (Some who.owner) to e.header.fields.tos (error_bytes (turned_error row.ext (inner_place to.key) e)) ok)
short_relayed {s = s} ok (GoesIn row e same is) =
    subst (λ (x : Sending). AreShort x.items) (sym same) (short_softwire s None row e.header.fields.tos (error_bytes (forwarded_error false (inner_place row.key) e)) ok)

one_short : (i : Item) → IsShortItem i → AreShort (i ∷ [])
one_short i h = All-cons IsShortItem i [] h (All-nil IsShortItem)

pub short_treated : (s : State) (bytes : List ℕ) (kind : EventKind) → is_accepted s.config ≡ true → AreShort (treatment s kind bytes).items
short_treated s bytes kind ok = by_way (λ (t : Step). AreShort t.items) s bytes kind (λ kept. record {
  rests = All-nil IsShortItem;
  drops = λ cause. All-nil IsShortItem;
  answers = λ got cause e is. one_short _ (omega (arith, length_answer s got e is));
  relays = λ sent is. short_relayed ok is;
  delivers = λ d row by.
      short_softwire s None row d.header.fields.tos (datagram_bytes (translated false (inner_place row.key) d)) ok;
  forwards = λ got g by abroad. short_out ok by;
  turns = λ got g row by turned.
      short_softwire s (Some got.who.owner) row got.datagram.header.fields.tos
      (datagram_bytes (hairpinned g.place (inner_place row.key) got.datagram)) ok;
  holds = λ got g cause by refuses. All-nil IsShortItem;
})

-- so their lengths are 16-bit numbers
pub short_step : (s : State) (e : Event) → is_accepted s.config ≡ true → AreShort (step s e).items
short_step s e ok = short_treated (at_moment e.at.0 s).state e.bytes e.kind (moment_accepted e.at.0 s ok)

pub short_items : (s : State) (events : List Event) → is_accepted s.config ≡ true → AreShort (run s events).items
short_items s [] ok = All-nil IsShortItem
short_items s (e ∷ es) ok =
    let t = step s e in
    All-append IsShortItem t.items (run t.state es).items (short_step s e ok) (short_items t.state es (step_accepted s e ok))
