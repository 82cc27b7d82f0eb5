-- What a step has done that sends packets.
use Rattle.std.proofs.Common.{◌≡◌, ℕ, ◌≤◌, List, [], ◌∷◌, ◌++◌, length, refl, sym, ap, ◌∙◌, subst, append-nil, append_assoc}
use Rattle.std.specs.Prelude.{Some, None, true, false, Bool, ◌&&◌, ◌||◌, nat_lt, is_some, map, Option, option_to_list}
use Rattle.std.specs.List.{list_any}
use Rattle.aftr_base.specs.Row.{block_event}
use Rattle.std.proofs.lemmas.List.Elements.{All-cons, All-nil}
use Rattle.aftr_base.specs.declared.value.Side.TheVariants.{Public as PublicSide, Softwire as SoftwireSide}
use Rattle.aftr_base.specs.declared.value.Subscriber.{Subscriber}
use Rattle.aftr_base.specs.declared.row.LeaseRow.{LeaseRow}
use Rattle.aftr_base.specs.declared.event.DropCause.{DropCause}
use Rattle.cfg_text.specs.Accepted.{is_accepted}
use Rattle.nat_mapping.specs.Rows.{Mapping}
use Rattle.softwire.specs.Cut.{cut_packet}
use Rattle.softwire.specs.Reading.{AreWithin}
use Rattle.wire_l4.specs.Grammar.{transport_bytes}
use Rattle.xlate_core.specs.declared.step_out.Item.{Item}
use Rattle.xlate_core.specs.declared.step_out.StepOut.{StepOut}
use Rattle.aftr_base.specs.declared.event.LogEvent.{LogEvent}
use Rattle.xlate_core.specs.declared.grant.Flow.{Flow}
use Rattle.xlate_core.specs.declared.grant.Grant.{Grant}
use Rattle.ingress.specs.declared.received.Received.{Received}
use Rattle.xlate_core.specs.Outbound.{Outbound}
use Rattle.xlate_core.specs.Datagram.{datagram_bytes, hairpinned, inner_place}
use Rattle.xlate_core.specs.Grant.{after_grant, opening_events}
use Rattle.xlate_core.specs.Sending.{cuts_after, public_items, softwire_items}
use Rattle.xlate_core.specs.declared.send.Passage.{Passage}
use Rattle.xlate_core.specs.State.{State, Step, is_past_horizon, item}
use Rattle.xlate_core.specs.Grant.{granted_only}
use Rattle.icmp_xlate.specs.declared.made.MadeError.{MadeError}
use Rattle.xlate_core.specs.Errors.{answer_bytes, error_about}
use Rattle.xlate_core.specs.Step.{answered, dropped, flow_of, hairpin, held_back, horizon_by, needs_horizon, promise_by, refused, sent_back, sent_out, turned}
use Rattle.xlate_core.specs.Step.{with_horizon}
use Rattle.xlate_core.specs.Stepped.{AreShort, HasStepped}
use Rattle.xlate_core.proofs.Leaving.{is_owned, owned_public, owned_softwire, short_items, short_softwire}

pub one_short : (i : Item) → length i.bytes ≤ 65535 → AreShort (i ∷ [])
one_short i h = All-cons (λ (i : Item). length i.bytes ≤ 65535) i [] h (All-nil (λ (i : Item). length i.bytes ≤ 65535))

-- ---- packets that leave

-- a step that sends these, opens leases, and drops nothing
abbrev pub going : State → List Item → List LogEvent → Step
going s items openings = record { state = s; items = items; closings = []; openings = openings; drop = None }

-- A subscriber's packets: the horizon is raised where it has to be, and what opens is logged behind that.
pub raised_so : (s before s' : State) (items : List Item) (openings log : List LogEvent) (out out' : StepOut)
    → list_any is_owned items ≡ true → AreShort items → before ≡ s → s' ≡ horizon_by (is_past_horizon before) before
    → log ≡ out.log ++ promise_by (is_past_horizon before) before → out'.items ≡ out.items ++ items → out'.log ≡ log ++ openings
    → HasStepped (with_horizon (going s items openings)) out s' out' None
raised_so s before s' items openings log out out' owned short there raised told sent opened =
    let past = is_past_horizon s in
    let needs : past ≡ needs_horizon (going s items openings) =
    ap (λ (b : Bool). (b || nat_lt 0 (length openings)) && past) (sym owned) in
    record {
      reaches = raised ∙ ap (λ (x : State). horizon_by (is_past_horizon x) x) there ∙ ap (λ (b : Bool). horizon_by b s) needs;
      packets = sent;
      logged = opened
          ∙ ap (λ (l : List LogEvent). l ++ openings) (told ∙ ap (λ (x : State). out.log ++ promise_by (is_past_horizon x) x) there)
          ∙ append_assoc out.log (promise_by past s) openings
          ∙ ap (λ (b : Bool). out.log ++ (promise_by b s ++ openings)) needs;
      refusal = refl;
      short = short;
    }

-- nobody's packets, where nothing opens
pub plain_so : (s s' : State) (items : List Item) (out out' : StepOut) → list_any is_owned items ≡ false → AreShort items → s' ≡ s
    → out'.items ≡ out.items ++ items → out'.log ≡ out.log → HasStepped (with_horizon (going s items [])) out s' out' None
plain_so s s' items out out' owned short there sent logged =
    let past = is_past_horizon s in
    let needs : false ≡ needs_horizon (going s items []) = ap (λ (b : Bool). (b || false) && past) (sym owned) in
    record {
      reaches = there ∙ ap (λ (b : Bool). horizon_by b s) needs;
      packets = sent;
      logged = logged ∙ sym (append-nil out.log) ∙ ap (λ (b : Bool). out.log ++ (promise_by b s ++ [])) needs;
      refusal = refl;
      short = short;
    }

-- ---- a packet that passes into the softwire of a mapping

abbrev pub passage : Option Subscriber → Mapping → ℕ → Passage
passage from row class = record { from = from; softwire = row.key.softwire; to = row.owner; class = class }

pub passed_items : (s : State) (old new : List Item) (given : List ℕ) (p : Passage) (from : Option Subscriber) (row : Mapping) (class : ℕ)
    (inner : List ℕ) → p ≡ passage from row class → given ≡ inner
    → ((m : Mapping) → m.key.softwire ≡ p.softwire → m.owner ≡ p.to → new ≡ old ++ softwire_items s p.from m p.class given)
    → new ≡ old ++ softwire_items s from row class inner
passed_items s old new given p from row class inner is same h =
    h row (sym (ap (λ (x : Passage). x.softwire) is)) (sym (ap (λ (x : Passage). x.to) is))
    ∙ ap (λ (x : Passage). old ++ softwire_items s x.from row x.class given) is
    ∙ ap (λ (b : List ℕ). old ++ softwire_items s from row class b) same

pub passed_state : (s s' : State) (given : List ℕ) (p : Passage) (from : Option Subscriber) (row : Mapping) (class : ℕ) (inner : List ℕ)
    → p ≡ passage from row class → given ≡ inner
    → ((m : Mapping) → m.owner ≡ p.to → (let x : State = record s { cuts = cuts_after s m given } in s' ≡ x))
    → (let x : State = record s { cuts = cuts_after s row inner } in s' ≡ x)
passed_state s s' given p from row class inner is same h =
    h row (sym (ap (λ (x : Passage). x.to) is))
    ∙ ap (λ (b : List ℕ). let x : State = record s { cuts = cuts_after s row b } in x) same

-- ---- a subscriber's datagram

-- with its row kept, the horizon raised where it has to be, and then its lease logged
pub sent_so : (s kept s' : State) (got : Outbound) (g : Grant) (flow : Flow) (out out' : StepOut) (log : List LogEvent) (packets : List (List ℕ))
    → is_accepted s.config ≡ true → AreWithin 65535 packets
    → packets ≡ cut_packet s.config.public_mtu (turned got g).header (transport_bytes (turned got g).body)
    → flow ≡ flow_of got → kept ≡ after_grant flow g s
    → s' ≡ horizon_by (is_past_horizon kept) kept → log ≡ out.log ++ promise_by (is_past_horizon kept) kept
    → out'.items ≡ out.items ++ map (item s PublicSide (Some flow.who.owner)) packets → out'.log ≡ log ++ opening_events s' g
    → HasStepped (with_horizon (sent_out s got g)) out s' out' None
sent_so s kept s' got g flow out out' log packets ok short cut asked after raised told items opened =
    let sent = turned got g in
    let owner = got.who.owner in
    let whole = after_grant (flow_of got) g s in
    let there : kept ≡ whole = after ∙ ap (λ (f : Flow). after_grant f g s) asked in
    let reaches : s' ≡ horizon_by (is_past_horizon whole) whole = raised ∙ ap (λ (x : State). horizon_by (is_past_horizon x) x) there in
    raised_so whole kept s' (public_items s owner sent.header (transport_bytes sent.body)) (opening_events s g) log out out'
    (owned_public s owner sent.header (transport_bytes sent.body) ok)
    (subst (λ (l : List (List ℕ)). AreShort (map (item s PublicSide (Some owner)) l)) cut (short_items s PublicSide (Some owner) packets short))
    there raised told
    (items ∙ ap (λ (f : Flow). out.items ++ map (item s PublicSide (Some f.who.owner)) packets) asked
    ∙ ap (λ (l : List (List ℕ)). out.items ++ map (item s PublicSide (Some owner)) l) cut)
    (opened ∙ ap (λ (x : State). log ++ opening_events x g) reaches)

-- the same where the datagram turned back
pub turned_so : (s followed s' : State) (got : Outbound) (g : Grant) (row : Mapping) (out out' : StepOut) (log : List LogEvent)
    → is_accepted s.config ≡ true → followed ≡ (sent_back s got g row).state
    → s' ≡ horizon_by (is_past_horizon followed) followed
    → log ≡ out.log ++ promise_by (is_past_horizon followed) followed
    → out'.items ≡ out.items ++ (hairpin s got g row).items → out'.log ≡ log ++ opening_events s' g
    → HasStepped (with_horizon (sent_back s got g row)) out s' out' None
turned_so s followed s' got g row out out' log ok there raised told items opened =
    let whole = (sent_back s got g row).state in
    let class = got.datagram.header.fields.tos in
    let inner = datagram_bytes (hairpinned g.place (inner_place row.key) got.datagram) in
    let reaches : s' ≡ horizon_by (is_past_horizon whole) whole = raised ∙ ap (λ (x : State). horizon_by (is_past_horizon x) x) there in
    raised_so whole followed s' (hairpin s got g row).items (opening_events s g) log out out'
    (owned_softwire s got.who.owner row class inner ok) (short_softwire s (Some got.who.owner) row class inner ok) there raised told items
    (opened ∙ ap (λ (x : State). log ++ opening_events x g) reaches)

opens_by : (now : ℕ) (o : Option LeaseRow) → nat_lt 0 (length (map (block_event true now) (option_to_list o))) ≡ is_some o
opens_by now None = refl
opens_by now (Some l) = refl

-- and where no mapping received it
pub held_so : (s kept s' : State) (got : Outbound) (g : Grant) (cause : DropCause) (out out' : StepOut)
    → kept ≡ granted_only (flow_of got) g s → s' ≡ horizon_by (is_some g.lease && is_past_horizon kept) kept
    → out'.items ≡ out.items
    → out'.log ≡ out.log ++ promise_by (is_some g.lease && is_past_horizon kept) kept ++ opening_events kept g
    → HasStepped (with_horizon (held_back s got g cause)) out s' out' (Some cause)
held_so s kept s' got g cause out out' there raised items logged =
    let whole = granted_only (flow_of got) g s in
    let past = is_past_horizon whole in
    let opens = opens_by s.clock g.lease in
    let told = logged
    ∙ ap (λ (x : State). (out.log ++ promise_by (is_some g.lease && is_past_horizon x) x) ++ opening_events x g) there in
    record {
      reaches = raised ∙ ap (λ (x : State). horizon_by (is_some g.lease && is_past_horizon x) x) there
          ∙ ap (λ (b : Bool). horizon_by (b && past) whole) (sym opens);
      packets = items ∙ sym (append-nil out.items);
      logged = told ∙ ap (λ (b : Bool). (out.log ++ promise_by (b && past) whole) ++ opening_events s g) (sym opens)
          ∙ append_assoc out.log (promise_by (nat_lt 0 (length (opening_events s g)) && past) whole) (opening_events s g);
      refusal = refl;
      short = All-nil (λ (i : Item). length i.bytes ≤ 65535);
    }

-- a refusal of which the sender is told
pub told_so : (s s' : State) (got : Received) (cause : DropCause) (e : MadeError) (out out' : StepOut) (bytes : List ℕ)
    → Some e ≡ error_about s.config got.packet cause → bytes ≡ answer_bytes s got e → length bytes ≤ 65535 → s' ≡ s
    → out'.items ≡ out.items ++ item s SoftwireSide None bytes ∷ [] → out'.log ≡ out.log
    → HasStepped (with_horizon (refused s got cause)) out s' out' (Some cause)
told_so s s' got cause e out out' bytes tells is short same items logged =
    subst (λ (o : Option MadeError). HasStepped (with_horizon (elim o [ None ↦ dropped s cause | Some e ↦ answered s got cause e ])) out s' out' (Some cause))
    tells (record {
      reaches = same;
      packets = items ∙ ap (λ (b : List ℕ). out.items ++ item s SoftwireSide None b ∷ []) is;
      logged = logged ∙ sym (append-nil out.log);
      refusal = refl;
      short = one_short (item s SoftwireSide None (answer_bytes s got e)) (subst (λ (l : List ℕ). length l ≤ 65535) is short);
    })

-- and one of which it isn't
pub untold_so : (s : State) (got : Received) (cause : DropCause) (out : StepOut) → None ≡ error_about s.config got.packet cause
    → HasStepped (with_horizon (refused s got cause)) out s out (Some cause)
untold_so s got cause out none =
    subst (λ (o : Option MadeError). HasStepped (with_horizon (elim o [ None ↦ dropped s cause | Some e ↦ answered s got cause e ])) out s out (Some cause))
    none (record {
      reaches = refl;
      packets = sym (append-nil out.items);
      logged = sym (append-nil out.log);
      refusal = refl;
      short = All-nil (λ (i : Item). length i.bytes ≤ 65535);
    })
