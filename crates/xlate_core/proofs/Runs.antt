-- Runs, one record after another, and how much comes of them.
use Rattle.std.proofs.Common.{◌≡◌, ℕ, ◌*◌, ◌≤◌, true, false, List, [], ◌∷◌, ◌++◌, length, refl, sym, subst, ap, ◌∙◌, arith, append_assoc}
use Rattle.std.proofs.Common.{length-append}
use Rattle.std.specs.Prelude.{Bool, Option, Some, None, option_to_list, filter, take}
use Rattle.std.proofs.lemmas.List.{append-nil, length-take, length-map}
use Rattle.aftr_base.specs.declared.event.Event.{Event}
use Rattle.aftr_base.specs.declared.event.EventKind.{EventKind}
use Rattle.aftr_base.specs.declared.event.DropCause.{DropCause}
use Rattle.aftr_base.specs.declared.event.LogEvent.{LogEvent}
use Rattle.aftr_base.specs.declared.row.LeaseRow.{LeaseRow}
use Rattle.nat_mapping.specs.Rows.{Mapping}
use Rattle.xlate_core.specs.declared.grant.Grant.{Grant}
use Rattle.xlate_core.specs.declared.step_out.Item.{Item}
use Rattle.aftr_base.specs.Row.{block_event}
use Rattle.xlate_core.specs.State.{State, Step}
use Rattle.xlate_core.specs.Grant.{opening_events}
use Rattle.nat_mapping.specs.Rows.{expired}
use Rattle.xlate_core.specs.Expiry.{Closed, is_idle, closings_of, at_moment}
use Rattle.xlate_core.specs.Step.{step, treatment, log_of, needs_horizon, promise_by, sent_back, sent_in, sent_out, turned}
use Rattle.xlate_core.specs.Datagram.{Datagram, datagram_bytes, hairpinned, inner_place, translated}
use Rattle.xlate_core.specs.Outbound.{Outbound}
use Rattle.xlate_core.specs.Sending.{Sending}
use Rattle.icmp_xlate.specs.Errors.{error_bytes, forwarded_error, turned_error}
use Rattle.wire_icmp.specs.Quoted.{report_bytes}
use Rattle.wire_l4.specs.Grammar.{transport_bytes}
use Rattle.xlate_core.specs.Run.{Run, run}
use Rattle.xlate_core.proofs.Clock.{by_moment}
use Rattle.xlate_core.proofs.Leaving.{few_public, few_softwire}
use Rattle.xlate_core.proofs.Packets.{sent_outward}
use Rattle.xlate_core.proofs.Treatments.{IsIn, IsOut, by_way}
use Rattle.xlate_core.proofs.WholeDatagrams.{length_body, length_hairpinned, length_translated}
use Rattle.xlate_core.proofs.WholeErrors.{GoesIn, GoesOut, IsRelayed, TurnsBack, length_forwarded, length_quoting, length_turned}

-- ---- a run and what follows it

pub record IsThen (first next both : Run) : Type 0 where
  pub state : both.state ≡ next.state
  pub items : both.items ≡ first.items ++ next.items
  pub log : both.log ≡ first.log ++ next.log
  pub drops : both.drops ≡ first.drops ++ next.drops

-- more behind what a step gave
after_more : {A : Type 0} (front first next both : List A) → both ≡ first ++ next → front ++ both ≡ front ++ first ++ next
after_more {A = A} front first next both same = ap (λ (l : List A). front ++ l) same ∙ sym (append_assoc front first next)

pub run_append : (s : State) (seen rest : List Event) → IsThen (run s seen) (run (run s seen).state rest) (run s (seen ++ rest))
run_append s [] rest = record { state = refl; items = refl; log = refl; drops = refl }
run_append s (e ∷ seen) rest =
    let t = step s e in
    let first = run t.state seen in
    let next = run first.state rest in
    let both = run t.state (seen ++ rest) in
    let more = run_append t.state seen rest in
    record {
      state = more.state;
      items = after_more t.items first.items next.items both.items more.items;
      log = after_more (log_of t) first.log next.log both.log more.log;
      drops = after_more (option_to_list t.drop) first.drops next.drops both.drops more.drops;
    }

-- one more record after a run
pub record GoesOn (before after : Run) (t : Step) : Type 0 where
  pub state : after.state ≡ t.state
  pub items : after.items ≡ before.items ++ t.items
  pub log : after.log ≡ before.log ++ log_of t
  pub drops : after.drops ≡ before.drops ++ option_to_list t.drop

pub run_push : (s : State) (seen : List Event) (e : Event) → GoesOn (run s seen) (run s (seen ++ e ∷ [])) (step (run s seen).state e)
run_push s seen e =
    let before = run s seen in
    let t = step before.state e in
    let whole = run_append s seen (e ∷ []) in
    record {
      state = whole.state;
      items = whole.items ∙ ap (λ (l : List Item). before.items ++ l) (append-nil t.items);
      log = whole.log ∙ ap (λ (l : List LogEvent). before.log ++ l) (append-nil (log_of t));
      drops = whole.drops ∙ ap (λ (l : List DropCause). before.drops ++ l) (append-nil (option_to_list t.drop));
    }

-- ---- a record gives at most 8,192 packets, as one is cut into no more, closes at most 512 leases, raises the horizon once and opens one lease at most, and is
-- dropped at most once

pub record IsSmall (t : Step) : Type 0 where
  pub items : length t.items ≤ 8192
  pub closings : length t.closings ≤ 512
  pub openings : length t.openings ≤ 2
  pub drops : length (option_to_list t.drop) ≤ 1

-- the record's own treatment closes nothing
pub record IsLone (t : Step) : Type 0 where
  pub items : length t.items ≤ 8192
  pub closings : t.closings ≡ []
  pub openings : length t.openings ≤ 1
  pub drops : length (option_to_list t.drop) ≤ 1

at_most_one : {A : Type 0} (o : Option A) → length (option_to_list o) ≤ 1
at_most_one None = omega arith
at_most_one (Some x) = omega arith

one_opening : (s : State) (g : Grant) → length (opening_events s g) ≤ 1
one_opening s g = omega (arith, length-map (option_to_list g.lease) (block_event true s.clock), at_most_one g.lease)

few_out : {s : State} {got : Outbound} {g : Grant} → IsOut s got g → length (sent_out s got g).items ≤ 8192
few_out {s = s} {got = got} {g = g} by =
    few_public s got.who.owner (turned got g).header (transport_bytes (turned got g).body)
    (omega (arith, length_body true g.place got.datagram (sent_outward by).whole))

few_back : {s : State} {got : Outbound} {g : Grant} (row : Mapping) → IsOut s got g → length (sent_back s got g row).items ≤ 8192
few_back {s = s} {got = got} {g = g} row by =
    let whole = (sent_outward by).whole in
    few_softwire s (Some got.who.owner) row got.datagram.header.fields.tos (datagram_bytes (hairpinned g.place (inner_place row.key) got.datagram))
    (omega (arith, length_hairpinned g.place (inner_place row.key) got.datagram whole, whole.short))

few_in : {s : State} {d : Datagram} {row : Mapping} → IsIn s d row → length (sent_in s d row).items ≤ 8192
few_in {s = s} {d = d} {row = row} by =
    let whole = by.arrives.whole in
    few_softwire s None row d.header.fields.tos (datagram_bytes (translated false (inner_place row.key) d))
    (omega (arith, length_translated false (inner_place row.key) d whole, whole.short))

few_relayed : {s : State} {sent : Sending} → IsRelayed s sent → length sent.items ≤ 8192
few_relayed {s = s} (GoesOut who row e same is abroad) =
    let out = forwarded_error true row.ext e in
    subst (λ (x : Sending). length x.items ≤ 8192) (sym same)
    (few_public s who.owner out.header (report_bytes out.report) (omega (arith, length_quoting true row.ext e is.sends.whole)))
few_relayed {s = s} (TurnsBack who row to e same is) =
    let whole = is.sends.whole in
    subst (λ (x : Sending). length x.items ≤ 8192) (sym same)
    (few_softwire s (Some who.owner) to e.header.fields.tos (error_bytes (turned_error row.ext (inner_place to.key) e))
    (omega (arith, length_turned row.ext (inner_place to.key) e whole.is, whole.short)))
few_relayed {s = s} (GoesIn row e same is) =
    subst (λ (x : Sending). length x.items ≤ 8192) (sym same)
    (few_softwire s None row e.header.fields.tos (error_bytes (forwarded_error false (inner_place row.key) e))
    (omega (arith, length_forwarded false (inner_place row.key) e is.is, is.short)))

pub lone_treated : (s : State) (bytes : List ℕ) (kind : EventKind) → IsLone (treatment s kind bytes)
lone_treated s bytes kind = by_way IsLone s bytes kind (λ kept. record {
  rests = record { items = omega arith; closings = refl; openings = omega arith; drops = omega arith };
  drops = λ cause. record { items = omega arith; closings = refl; openings = omega arith; drops = omega arith };
  answers = λ got cause e is. record { items = omega arith; closings = refl; openings = omega arith; drops = omega arith };
  relays = λ sent is. record { items = few_relayed is; closings = refl; openings = omega arith; drops = omega arith };
  delivers = λ d row by. record { items = few_in by; closings = refl; openings = omega arith; drops = omega arith };
  forwards = λ got g by abroad. record { items = few_out by; closings = refl; openings = one_opening s g; drops = omega arith };
  turns = λ got g row by turned. record { items = few_back row by; closings = refl; openings = one_opening s g; drops = omega arith };
  holds = λ got g cause by refuses. record { items = omega arith; closings = refl; openings = one_opening s g; drops = omega arith };
})

few_taken : (n now : ℕ) (rows : List Mapping) (leases : List LeaseRow) → length (closings_of n now rows leases) ≤ n
few_taken n now rows leases =
    let idle = filter (is_idle rows) leases in
    omega (arith, length-map (take n idle) (block_event false now), length-take n idle)

pub few_closed : (at : ℕ) (s : State) → length (at_moment at s).closings ≤ 512
few_closed at s =
    by_moment (λ (c : Closed). length c.closings ≤ 512) at s (λ le. omega arith)
    (λ lt. few_taken 512 at (expired at s.rows) s.leases)

-- what closes as a record is treated closed as the clock was raised
pub step_closings : (s : State) (e : Event) → (step s e).closings ≡ (at_moment e.at.0 s).closings
step_closings s e =
    let before = at_moment e.at.0 s in
    ap (λ (l : List LogEvent). before.closings ++ l) (lone_treated before.state e.bytes e.kind).closings ∙ append-nil before.closings

-- what is promised on the way, and what the record's own treatment opens behind that
abbrev own_of : State → Event → Step
own_of s e = treatment (at_moment e.at.0 s).state e.kind e.bytes

abbrev pub promises_of : State → Event → List LogEvent
promises_of s e = promise_by (needs_horizon (own_of s e)) (own_of s e).state

promised_once : (raised : Bool) (s : State) → length (promise_by raised s) ≤ 1
promised_once true s = omega arith
promised_once false s = omega arith

pub one_promise : (s : State) (e : Event) → length (promises_of s e) ≤ 1
one_promise s e = promised_once (needs_horizon (own_of s e)) (own_of s e).state

pub small_step : (s : State) (e : Event) → IsSmall (step s e)
small_step s e =
    let own = lone_treated (at_moment e.at.0 s).state e.bytes e.kind in
    record {
      items = own.items;
      closings = omega (arith, few_closed e.at.0 s, ap length (step_closings s e));
      openings = omega (arith, length-append (promises_of s e) (own_of s e).openings, one_promise s e, own.openings);
      drops = own.drops;
    }

-- what the log is told of one record
pub short_log : (s : State) (e : Event) → length (log_of (step s e)) ≤ 514
short_log s e =
    let t = step s e in
    let small = small_step s e in
    omega (arith, length-append t.closings t.openings, small.closings, small.openings)

-- ---- so a run is no longer than its records

pub record IsShort (r : Run) (count : ℕ) : Type 0 where
  pub items : length r.items ≤ 8192 * count
  pub log : length r.log ≤ 514 * count
  pub drops : length r.drops ≤ count

pub short_run : (s : State) (events : List Event) → IsShort (run s events) (length events)
short_run s [] = record { items = omega arith; log = omega arith; drops = omega arith }
short_run s (e ∷ es) =
    let t = step s e in
    let next = run t.state es in
    let one = small_step s e in
    let more = short_run t.state es in
    record {
      items = omega (arith, length-append t.items next.items, one.items, more.items);
      log = omega (arith, length-append (log_of t) next.log, short_log s e, more.log);
      drops = omega (arith, length-append (option_to_list t.drop) next.drops, one.drops, more.drops);
    }
