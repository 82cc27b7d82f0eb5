-- What a stop at any moment leaves answers for each packet that left whole.
use Rattle.std.proofs.Common.{◌≡◌, inl, inr, ℕ, ◌+◌, ◌≤◌, ◌<◌, List, [], ◌∷◌, ◌++◌, length, filter, map, get_or, take, drop, All, Some}
use Rattle.std.proofs.Common.{false, refl, sym, ap, ◌∙◌, subst, arith}
use Rattle.std.specs.Prelude.{slice_get}
use Rattle.std.specs.List.{AllByRecursion}
use Rattle.std.proofs.lemmas.Bool.{cond-false, false_from_ne_true}
use Rattle.std.proofs.lemmas.List.{append-nil, map-append, take-append-drop}
use Rattle.std.proofs.lemmas.List.Elements.{filter-append, recursion_from_All}
use Rattle.plant_io.specs.Story.{content, sent}
use Rattle.plant_io.proofs.Images.{content_is_image}
use Rattle.aftr_base.specs.Row.{is_open}
use Rattle.aftr_base.specs.Told.{end_of, lease_closed}
use Rattle.aftr_base.specs.declared.told.Told.{Told}
use Rattle.aftr_base.specs.declared.event.Event.{Event}
use Rattle.aftr_base.specs.declared.row.LeaseRow.{LeaseRow}
use Rattle.aftr_base.specs.declared.value.Ip4.{Ip4}
use Rattle.aftr_base.specs.declared.value.Subscriber.{Subscriber}
use Rattle.cfg_text.specs.declared.config.Config.{Config}
use Rattle.xlate_core.specs.State.{State}
use Rattle.xlate_core.specs.Run.{run, start, told_of}
use Rattle.xlate_core.specs.Valid.{AreDisjoint, IsStart, KeepsTold}
use Rattle.xlate_core.specs.declared.step_out.Item.{Item}
use Rattle.xlate_core.proofs.Holders.{holders, holds as holds_it, holds_parts}
use Rattle.xlate_core.proofs.KeptTold.{told_kept}
use Rattle.xlate_core.proofs.Runs.{run_append}
use Rattle.recovery.specs.Closings.{recovered}
use Rattle.recovery.specs.Laws.{EachClosingIsBelieved, EachClosingKeepsNames, RecoveredKeepsNames}
use Rattle.trace_query.specs.Names.{names_of}
use Rattle.trace_query.specs.Logs.{Holds, IsBelieved, NamesOne}
use Rattle.link_records.specs.Frames.{frames_of}
use Rattle.egress_gate.specs.Logged.{Tells}
use Rattle.egress_gate.specs.Answered.{IsWholeIn}
use Rattle.egress_gate.proofs.Naming.{same_told}
use Rattle.egress_gate.proofs.WholeItems.{front_item, named_one, none_whole}
use Rattle.aftr_engine.specs.session.Attributed.{EachStopIsAnswered}
use Rattle.aftr_engine.specs.session.EndToEnd.{front_run, run_of, told_behind}
use Rattle.egress_gate.specs.Senders.{NamesEachSender}
use Rattle.xlate_core.specs.Sources.{sender_of, source_of}
use Rattle.aftr_engine.specs.session.Stops.{IsAccounted}
use Rattle.aftr_engine.proofs.Attribution.{names_front, valid_front}
use Rattle.egress_gate.proofs.NamesApart.{all_ended, disjoint_name_one, names_are_holders, one_name_disjoint, with_ends}

holds_sent : (c : Config) (told : Told) (n : ℕ) (input : List ℕ) {k : ℕ} {past file bytes : List ℕ} {i : Item} {owner : Subscriber}
    → NamesEachSender (told_behind told (front_run c told n input)) (front_run c told n input).items
    → IsAccounted told (front_run c told n input) past file bytes
    → slice_get (run_of c told input).items k ≡ Some i → sender_of i ≡ Some owner → IsWholeIn past bytes (run_of c told input).items k
    → Holds file (source_of i).addr (source_of i).port i.at.0 (owner ∷ [])
holds_sent c told n input {k} {past} {file} {bytes} {i} {owner} names is item owned whole =
    let events = (frames_of input).events in
    let front = front_run c told n input in
    let after = run front.state (drop n events) in
    let split : (run_of c told input).items ≡ front.items ++ after.items =
    ap (λ (es : List Event). (run (start c told) es).items) (sym (take-append-drop n events))
    ∙ (run_append (start c told) (take n events) (drop n events)).items in
    let first = front_item past bytes front.items after.items is.count k i is.sent
    (subst (λ (items : List Item). IsWholeIn past bytes items k) split whole)
    (ap (λ (items : List Item). slice_get items k) (sym split) ∙ item) in
    let named = named_one (told_behind told front) i (get_or front.items k i) owner first.1 (names k i first.0) owned in
    record {
      log = record { told = told_behind told front; tail = is.tells.0 };
      is_log = is.tells.1;
      named = named.0;
      reached = named.1;
    }

-- ---- and what was named before stays so

none_began : (horizon at port : ℕ) (addr : Ip4) (leases : List LeaseRow) → AllByRecursion (λ (l : LeaseRow). at < l.since.0) leases
    → filter (holds_it addr port at) (with_ends horizon leases) ≡ []
none_began horizon at port addr [] later = refl
none_began horizon at port addr (l ∷ leases) later =
    let ended = lease_closed horizon l in
    let rest = filter (holds_it addr port at) (with_ends horizon leases) in
    cond-false (holds_it addr port at ended) (ended ∷ rest) rest
    (false_from_ne_true (holds_it addr port at ended) (λ h. absurd (omega (arith, later.0, (holds_parts addr port at ended h).begun))))
    ∙ none_began horizon at port addr leases later.1

holders_append : (ls ms : List LeaseRow) (addr : Ip4) (port at : ℕ) → filter (holds_it addr port at) ms ≡ []
    → holders (ls ++ ms) addr port at ≡ holders ls addr port at
holders_append ls ms addr port at none =
    ap (λ (kept : List LeaseRow). map (λ (l : LeaseRow). l.owner) kept)
    (filter-append (holds_it addr port at) ls ms
    ∙ ap (λ (kept : List LeaseRow). filter (holds_it addr port at) ls ++ kept) none
    ∙ append-nil (filter (holds_it addr port at) ls))

later_than : (least at : ℕ) (leases : List LeaseRow) → at ≤ least → AllByRecursion (λ (l : LeaseRow). least < l.since.0) leases
    → AllByRecursion (λ (l : LeaseRow). at < l.since.0) leases
later_than least at [] le later = tt
later_than least at (l ∷ leases) le later = (omega (arith, le, later.0), later_than least at leases le later.1)

names_kept : (t : Told) (s : State) (count : ℕ) (addr : Ip4) (port at : ℕ) → All (λ l. is_open l ≡ false) t.leases → KeepsTold t s
    → at ≤ t.horizon.0 → names_of (told_of s count) addr port at ≡ names_of t addr port at
names_kept t s count addr port at ended kept le =
    let more = with_ends s.horizon kept.opened in
    let closed = recursion_from_All (λ l. is_open l ≡ false) t.leases ended in
    let later = later_than (end_of t) at kept.opened (omega (arith, le))
    (recursion_from_All (λ (l : LeaseRow). end_of t < l.since.0) kept.opened kept.later) in
    names_are_holders (told_of s count) addr port at
    ∙ ap (λ (ls : List LeaseRow). holders (with_ends s.horizon ls) addr port at) kept.leases
    ∙ ap (λ (ls : List LeaseRow). holders ls addr port at) (map-append (lease_closed s.horizon) t.leases kept.opened)
    ∙ ap (λ (ls : List LeaseRow). holders (ls ++ more) addr port at) (all_ended s.horizon t.leases closed)
    ∙ holders_append t.leases more addr port at (none_began s.horizon at port addr kept.opened later)
    ∙ ap (λ (ls : List LeaseRow). holders ls addr port at) (sym (all_ended t.horizon.0 t.leases closed))
    ∙ sym (names_are_holders t addr port at)

-- ---- all that a stop leaves

one_kept : (t u : Told) → ((addr : Ip4) (port at : ℕ) → names_of u addr port at ≡ names_of t addr port at) → NamesOne t → NamesOne u
one_kept t u same one = λ addr port at. omega (arith, one addr port at, ap length (same addr port at))

module _ (c : Config) (input : List ℕ) (was : Told) (one : NamesOne was) (begins : IsStart c (recovered was))
    (closing : RecoveredKeepsNames) where
  apart : AreDisjoint (recovered was).leases
  apart = one_name_disjoint (recovered was) begins (one_kept was (recovered was) (closing was) one)

  -- the file that accounts for the first records
  believed : (n : ℕ) {past file bytes : List ℕ} → IsAccounted (recovered was) (front_run c (recovered was) n input) past file bytes
      → IsBelieved file
  believed n is =
      let front = front_run c (recovered was) n input in record {
        log = record { told = told_behind (recovered was) front; tail = is.tells.0 };
        is_log = is.tells.1;
        one = disjoint_name_one (told_behind (recovered was) front) (valid_front c (recovered was) n input begins apart).disjoint;
      }

  sent_named : (n : ℕ) {k : ℕ} {past file bytes : List ℕ} {i : Item} {owner : Subscriber}
      → IsAccounted (recovered was) (front_run c (recovered was) n input) past file bytes
      → slice_get (run_of c (recovered was) input).items k ≡ Some i → sender_of i ≡ Some owner
      → IsWholeIn past bytes (run_of c (recovered was) input).items k → Holds file (source_of i).addr (source_of i).port i.at.0 (owner ∷ [])
  sent_named n is item owned whole =
      holds_sent c (recovered was) n input (names_front c (recovered was) n input begins apart) is item owned whole

  still_named : (n : ℕ) {past file bytes : List ℕ} (addr : Ip4) (port at : ℕ) (names : List Subscriber)
      → IsAccounted (recovered was) (front_run c (recovered was) n input) past file bytes
      → names_of was addr port at ≡ names → at ≤ was.horizon.0 → Holds file addr port at names
  still_named n addr port at names is named reached =
      let front = front_run c (recovered was) n input in
      let kept = told_kept (take n (frames_of input).events) begins in record {
        log = record { told = told_behind (recovered was) front; tail = is.tells.0 };
        is_log = is.tells.1;
        named = names_kept (recovered was) front.state ((recovered was).count + length front.log) addr port at begins.ended kept reached
            ∙ closing was addr port at ∙ named;
        reached = omega (arith, reached, kept.horizon);
      }

pub answered : EachClosingIsBelieved → EachClosingKeepsNames → RecoveredKeepsNames → EachStopIsAnswered
answered closing_believed closing_keeps closing = λ c input before now was stops tells start.
    let first = start (content before) (content_is_image before) in
    let one : NamesOne was = subst NamesOne (same_told (content before) first.is_log tells) first.one in
    let items = (run_of c (recovered was) input).items in
    let here = λ (since : Told) (onto : Tells (content before) since). same_told (content before) tells.1 onto in
    record {
      logs = λ file left. elim (stops.each file left.0 left.1) [
        | inl rows ↦ elim rows.file [
          | inl image ↦ start file image
          | inr part ↦ closing_believed (content before) file part first
        ]
        | inr since ↦
            let same = here since.was since.onto in
            believed c input was one (subst (λ (t : Told). IsStart c (recovered t)) (sym same) since.begins) closing since.accounts.0
            (subst (λ (t : Told). IsAccounted (recovered t) (front_run c (recovered t) since.accounts.0 input) (sent before) file left.0)
            (sym same) since.accounts.1)
      ];
      senders = λ file bytes left k i owner item owned whole. elim (stops.each file bytes left) [
        | inl rows ↦
            absurd (none_whole (sent before) items k
            (subst (λ (l : List ℕ). IsWholeIn (sent before) l items k) rows.nothing_sent whole))
        | inr since ↦
            let same = here since.was since.onto in
            sent_named c input was one (subst (λ (t : Told). IsStart c (recovered t)) (sym same) since.begins) closing since.accounts.0
            (subst (λ (t : Told). IsAccounted (recovered t) (front_run c (recovered t) since.accounts.0 input) (sent before) file bytes)
            (sym same) since.accounts.1) item owned whole
      ];
      kept = λ addr port at names holds file left. elim (stops.each file left.0 left.1) [
        | inl rows ↦ elim rows.file [
          | inl image ↦ holds file image
          | inr part ↦ closing_keeps (content before) file part addr port at names (holds (content before) (content_is_image before))
        ]
        | inr since ↦
            let same = here since.was since.onto in
            let is = holds (content before) (content_is_image before) in
            let told = same_told (content before) is.is_log tells in
            still_named c input was one (subst (λ (t : Told). IsStart c (recovered t)) (sym same) since.begins) closing since.accounts.0
            addr port at names
            (subst (λ (t : Told). IsAccounted (recovered t) (front_run c (recovered t) since.accounts.0 input) (sent before) file left.0)
            (sym same) since.accounts.1)
            (ap (λ (t : Told). names_of t addr port at) (sym told) ∙ is.named)
            (subst (λ (t : Told). at ≤ t.horizon.0) told is.reached)
      ];
    }
