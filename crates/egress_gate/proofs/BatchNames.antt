-- What a stop of one batch leaves: a log that names for each packet that left whole its subscriber, and whom it named before.
use Rattle.std.proofs.Common.{◌≡◌, ◌≢◌, inl, inr, ℕ, ◌+◌, ◌≤◌, ◌<◌, Bool, true, false, cond, ◌&&◌, List, [], ◌∷◌, ◌++◌, length, map}
use Rattle.std.proofs.Common.{filter, get_or}
use Rattle.std.proofs.Common.{All, IfSome, Option, Some, None, Result, Ok, Err, nat_le, refl, sym, ap, ap₂, ◌∙◌, subst, arith, append-nil}
use Rattle.std.proofs.Common.{length-append, is_none}
use Rattle.std.specs.Prelude.{option_to_list}
use Rattle.std.specs.List.{AllByRecursion, AllZip}
use Rattle.std.proofs.lemmas.Bool.{cond-false, false_from_ne_true, le-leb}
use Rattle.std.proofs.lemmas.List.{map-append, length-map}
use Rattle.std.proofs.lemmas.Option.{slice_get-get_or}
use Rattle.std.proofs.lemmas.List.Elements.{filter-append, recursion_from_All}
use Rattle.plant_io.specs.Story.{Story, content, sent, IsImage}
use Rattle.plant_io.specs.Stops.{StopsLeave}
use Rattle.plant_io.proofs.Images.{content_is_image}
use Rattle.aftr_base.specs.Limits.{moment_limit}
use Rattle.aftr_base.specs.Row.{is_open, ended}
use Rattle.aftr_base.specs.Telling.{in_message_order, told_after}
use Rattle.aftr_base.specs.Told.{lease_closed, nothing_told}
use Rattle.aftr_base.specs.Value.{ip4_eq, is_within}
use Rattle.aftr_base.specs.declared.event.Event.{Event}
use Rattle.aftr_base.specs.declared.event.LogEvent.{LogEvent}
use Rattle.aftr_base.specs.declared.row.LeaseRow.{LeaseRow}
use Rattle.aftr_base.specs.declared.told.Told.{Told}
use Rattle.aftr_base.specs.declared.value.Ip4.{Ip4}
use Rattle.aftr_base.specs.declared.value.Moment.{Moment}
use Rattle.aftr_base.specs.declared.value.Subscriber.{Subscriber}
use Rattle.aftr_base.proofs.Founds.{some_inj}
use Rattle.aftr_base.proofs.Pairwise.{zip_same}
use Rattle.cfg_text.specs.Accepted.{is_accepted}
use Rattle.nat_mapping.specs.Rows.{Mapping, expired}
use Rattle.xlate_core.specs.Expiry.{Closed, Idle, Lasts, MayEnd, at_moment, closing_limit, with_idle_ended}
use Rattle.xlate_core.specs.Run.{start, told_of}
use Rattle.xlate_core.specs.State.{State}
use Rattle.xlate_core.specs.Step.{log_of, step}
use Rattle.xlate_core.specs.Valid.{AreDisjoint, IsReached, KeepsTold}
use Rattle.xlate_core.proofs.Clock.{by_moment}
use Rattle.xlate_core.proofs.Disjoint.{disjoint_run, valid_from}
use Rattle.xlate_core.proofs.Holders.{holders, holds as holds_it, holds_parts}
use Rattle.xlate_core.proofs.KeptTold.{told_kept}
use Rattle.xlate_core.proofs.LogTells.{step_ahead, step_horizon, step_told}
use Rattle.xlate_core.proofs.Openings.{IsNew, before_of, opens_step}
use Rattle.xlate_core.proofs.PacketSources.{kept_named, kept_step}
use Rattle.xlate_core.proofs.Reached.{reached_from}
use Rattle.xlate_core.proofs.ValidExpiry.{idle_end, idle_open}
use Rattle.xlate_core.proofs.ValidStates.{run_clock_most}
use Rattle.xlate_core.proofs.Zips.{zip_weaker}
use Rattle.trace_query.specs.Names.{holds, names_of}
use Rattle.trace_query.specs.Logs.{AreBelieved, IsBelieved, NamesOne}
use Rattle.egress_gate.specs.Answered.{AnswersForBatch, IsComeTo, IsSpared, IsWholeIn}
use Rattle.egress_gate.specs.Held.{Held, held_of}
use Rattle.egress_gate.specs.Logged.{EndsAt, IsFollowing, LogsFirst, Tells, told_next}
use Rattle.egress_gate.specs.Output.{output}
use Rattle.egress_gate.specs.Senders.{IsNamed}
use Rattle.egress_gate.proofs.NamesApart.{all_ended, disjoint_name_one, names_are_holders, one_name_disjoint, with_ends}
use Rattle.egress_gate.proofs.Naming.{holds_same, named_item, same_told}
use Rattle.egress_gate.proofs.WholeItems.{named_one, none_whole}

-- ---- what one record makes of the leases

-- a lease stays, or it was open and ends at this moment
data EndsOnce (at : ℕ) (l m : LeaseRow) : Type 0 where
  StaysOn : m ≡ l → EndsOnce at l m
  EndsNow : is_open l ≡ true → m ≡ ended at l → EndsOnce at l m

abbrev BeginsAt : ℕ → LeaseRow → Type 0
BeginsAt at l = l.since.0 ≡ at

-- those of a state, and behind them new ones that begin at the clock
record GoesOn (s t : State) : Type 0 where
  clock : s.clock ≤ t.clock
  kept : List LeaseRow
  more : List LeaseRow
  leases : t.leases ≡ kept ++ more
  became : AllZip (EndsOnce t.clock) s.leases kept
  began : AllByRecursion (BeginsAt t.clock) more

-- as the clock is raised
record HasEnded (s t : State) : Type 0 where
  clock : s.clock ≤ t.clock
  became : AllZip (EndsOnce t.clock) s.leases t.leases

ends_once : (now : ℕ) (rows : List Mapping) (l m : LeaseRow) → MayEnd now rows l m → EndsOnce now l m
ends_once now rows l m (Lasts same) = StaysOn same
ends_once now rows l m (Idle idle same) = EndsNow (idle_open rows l idle) same

ended_moment : (at : ℕ) (s : State) → HasEnded s (at_moment at s).state
ended_moment at s = by_moment (λ (c : Closed). HasEnded s c.state) at s
    (λ le. record { clock = omega arith; became = zip_same (EndsOnce s.clock) (λ l. StaysOn refl) s.leases })
    (λ lt. record {
      clock = omega (arith, lt);
      became = zip_weaker (MayEnd at (expired at s.rows)) (EndsOnce at) (ends_once at (expired at s.rows)) s.leases
          (with_idle_ended closing_limit at (expired at s.rows) s.leases) (idle_end closing_limit at (expired at s.rows) s.leases);
    })

begins_now : (clock : ℕ) (o : Option LeaseRow) → IfSome o (IsNew clock) → AllByRecursion (BeginsAt clock) (option_to_list o)
begins_now clock None new = tt
begins_now clock (Some l) new = (ap (λ (m : Moment). m.0) new.since, tt)

goes_on : (s : State) (e : Event) → is_accepted s.config ≡ true → GoesOn s (step s e).state
goes_on s e ok =
    let before = ended_moment e.at.0 s in
    let opens = opens_step s e ok in
    let now = (step s e).state.clock in
    let same : now ≡ (before_of s e).clock = opens.clock in
    record {
      clock = omega (arith, before.clock, same);
      kept = (before_of s e).leases;
      more = option_to_list opens.lease;
      leases = opens.leases;
      became = subst (λ (n : ℕ). AllZip (EndsOnce n) s.leases (before_of s e).leases) (sym same) before.became;
      began = subst (λ (n : ℕ). AllByRecursion (BeginsAt n) (option_to_list opens.lease)) (sym same)
          (begins_now (before_of s e).clock opens.lease opens.new);
    }

-- ---- so the names up to the horizon and the clock go on

ends_late : (at clock : ℕ) (addr : Ip4) (port : ℕ) (l : LeaseRow) → at ≤ clock → is_open l ≡ true
    → holds_it addr port at (ended clock l) ≡ holds_it addr port at l
ends_late at clock addr port l le lasts = by l.until lasts
  where
    by : (u : Option Moment) → is_none u ≡ true
        → (ip4_eq addr l.addr && is_within l.first l.last port && (nat_le l.since.0 at && nat_le at clock))
        ≡ (ip4_eq addr l.addr && is_within l.first l.last port
        && (nat_le l.since.0 at && (elim u [ None ↦ true | Some until ↦ nat_le at until.0 ])))
    by None lasts =
        ap (λ (b : Bool). ip4_eq addr l.addr && is_within l.first l.last port && (nat_le l.since.0 at && b)) (le-leb at clock le)
    by (Some m) lasts = absurd (cc lasts)

module _ (addr : Ip4) (port at was now clock : ℕ) (le : at ≤ was) (more : was ≤ now) (early : at ≤ clock) where
  same_hold : (l m : LeaseRow) → EndsOnce clock l m → holds now addr port at m ≡ holds was addr port at l
  same_hold l m (StaysOn same) =
      ap (λ (x : LeaseRow). holds now addr port at x) same
      ∙ holds_same now at port addr l (omega (arith, le, more)) ∙ sym (holds_same was at port addr l le)
  same_hold l m (EndsNow lasts same) =
      ap (λ (x : LeaseRow). holds now addr port at x) same
      ∙ holds_same now at port addr (ended clock l) (omega (arith, le, more))
      ∙ ends_late at clock addr port l early lasts ∙ sym (holds_same was at port addr l le)

  same_owner : (l m : LeaseRow) → EndsOnce clock l m → m.owner ≡ l.owner
  same_owner l m (StaysOn same) = ap (λ (x : LeaseRow). x.owner) same
  same_owner l m (EndsNow lasts same) = ap (λ (x : LeaseRow). x.owner) same

  owner_on : (b : Bool) (l m : LeaseRow) (ls ms : List LeaseRow) → m.owner ≡ l.owner
      → map (λ (x : LeaseRow). x.owner) ms ≡ map (λ (x : LeaseRow). x.owner) ls
      → map (λ (x : LeaseRow). x.owner) (cond b (m ∷ ms) ms) ≡ map (λ (x : LeaseRow). x.owner) (cond b (l ∷ ls) ls)
  owner_on true l m ls ms owner rest = ap₂ (λ (x : Subscriber) (xs : List Subscriber). x ∷ xs) owner rest
  owner_on false l m ls ms owner rest = rest

  names_on : (ls ms : List LeaseRow) → AllZip (EndsOnce clock) ls ms
      → map (λ (x : LeaseRow). x.owner) (filter (holds now addr port at) ms)
      ≡ map (λ (x : LeaseRow). x.owner) (filter (holds was addr port at) ls)
  names_on [] [] z = refl
  names_on [] (m ∷ ms) z = absurd z
  names_on (l ∷ ls) [] z = absurd z
  names_on (l ∷ ls) (m ∷ ms) z =
      ap (λ (b : Bool). map (λ (x : LeaseRow). x.owner)
      (cond b (m ∷ filter (holds now addr port at) ms) (filter (holds now addr port at) ms)))
      (same_hold l m z.0)
      ∙ owner_on (holds was addr port at l) l m (filter (holds was addr port at) ls) (filter (holds now addr port at) ms)
      (same_owner l m z.0) (names_on ls ms z.1)

none_began : (now clock at port : ℕ) (addr : Ip4) (more : List LeaseRow) → at ≤ now → at < clock → AllByRecursion (BeginsAt clock) more
    → filter (holds now addr port at) more ≡ []
none_began now clock at port addr [] le lt began = refl
none_began now clock at port addr (l ∷ ls) le lt began =
    let rest = filter (holds now addr port at) ls in
    cond-false (holds now addr port at l) (l ∷ rest) rest (false_from_ne_true (holds now addr port at l) (λ h.
    let there = holds_parts addr port at l (sym (holds_same now at port addr l le) ∙ h) in
    absurd (omega (arith, lt, began.0, there.begun))))
    ∙ none_began now clock at port addr ls le lt began.1

some_then_none : (xs ys : List Subscriber) → xs ≢ [] → length (xs ++ ys) ≤ 1 → ys ≡ []
some_then_none [] ys some le = absurd (some refl)
some_then_none (x ∷ xs) [] some le = refl
some_then_none (x ∷ xs) (y ∷ ys) some le = absurd (omega (arith, le, length-append xs (y ∷ ys)))

module _ (s t : State) (count after : ℕ) (addr : Ip4) (port at : ℕ) (on : GoesOn s t) (more : s.horizon ≤ t.horizon)
    (reached : at ≤ s.horizon) where
  abbrev old_names : List Subscriber
  old_names = names_of (told_of s count) addr port at

  abbrev new_names : List Subscriber
  new_names = map (λ (l : LeaseRow). l.owner) (filter (holds t.horizon addr port at) on.more)

  -- those of the leases that went on, and those of the new ones
  two_parts : at ≤ t.clock → names_of (told_of t after) addr port at ≡ old_names ++ new_names
  two_parts early =
      ap (λ (ls : List LeaseRow). map (λ (l : LeaseRow). l.owner) (filter (holds t.horizon addr port at) ls)) on.leases
      ∙ ap (λ (ls : List LeaseRow). map (λ (l : LeaseRow). l.owner) ls) (filter-append (holds t.horizon addr port at) on.kept on.more)
      ∙ map-append (λ (l : LeaseRow). l.owner) (filter (holds t.horizon addr port at) on.kept)
      (filter (holds t.horizon addr port at) on.more)
      ∙ ap (λ (os : List Subscriber). os ++ new_names)
      (names_on addr port at s.horizon t.horizon t.clock reached more early s.leases on.kept on.became)

  names_before : at < t.clock → names_of (told_of t after) addr port at ≡ old_names
  names_before early =
      two_parts (omega (arith, early))
      ∙ ap (λ (ls : List LeaseRow). old_names ++ map (λ (l : LeaseRow). l.owner) ls)
      (none_began t.horizon t.clock at port addr on.more (omega (arith, reached, more)) early on.began)
      ∙ append-nil old_names

  names_at : at ≡ t.clock → old_names ≢ [] → NamesOne (told_of t after) → names_of (told_of t after) addr port at ≡ old_names
  names_at now some one =
      let both = two_parts (omega (arith, now)) in
      both ∙ ap (λ (os : List Subscriber). old_names ++ os)
      (some_then_none old_names new_names some (omega (arith, one addr port at, ap length both)))
      ∙ append-nil old_names

-- ---- the state that a batch begins from

-- what the log told at the run's start is named as ever, so that no place had two names then
more_holders : (ls ms : List LeaseRow) (addr : Ip4) (port at : ℕ)
    → length (holders ls addr port at) ≤ length (holders (ls ++ ms) addr port at)
more_holders ls ms addr port at =
    let p = holds_it addr port at in
    omega (
      arith,
      length-map (filter p ls) (λ (l : LeaseRow). l.owner),
      length-map (filter p (ls ++ ms)) (λ (l : LeaseRow). l.owner),
      ap length (filter-append p ls ms),
      length-append (filter p ls) (filter p ms),
    )

started_one : (told : Told) (s : State) (count : ℕ) → KeepsTold told s → All (λ l. is_open l ≡ false) told.leases
    → NamesOne (told_of s count) → NamesOne told
started_one told s count kept ended one = λ addr port at.
    let over = recursion_from_All (λ (l : LeaseRow). is_open l ≡ false) told.leases ended in
    let then_named = names_are_holders told addr port at
    ∙ ap (λ (ls : List LeaseRow). holders ls addr port at) (all_ended told.horizon.0 told.leases over) in
    let now_named = names_are_holders (told_of s count) addr port at
    ∙ ap (λ (ls : List LeaseRow). holders (with_ends s.horizon ls) addr port at) kept.leases
    ∙ ap (λ (ls : List LeaseRow). holders ls addr port at) (map-append (lease_closed s.horizon) told.leases kept.opened)
    ∙ ap (λ (ls : List LeaseRow). holders (ls ++ with_ends s.horizon kept.opened) addr port at) (all_ended s.horizon told.leases over) in
    omega (
      arith,
      one addr port at,
      ap length then_named,
      ap length now_named,
      more_holders told.leases (with_ends s.horizon kept.opened) addr port at,
    )

module _ {s : State} (come : IsComeTo s) where
  reached : IsReached s
  reached = subst IsReached (sym come.reaches) (reached_from come.seen come.begins)

  by_limit : s.clock ≤ moment_limit
  by_limit =
      subst (λ (x : State). x.clock ≤ moment_limit) (sym come.reaches)
      (run_clock_most moment_limit (start come.config come.told) come.seen (omega arith) come.timely)

  apart : (count : ℕ) → NamesOne (told_of s count) → AreDisjoint s.leases
  apart count one =
      let kept = subst (KeepsTold come.told) (sym come.reaches) (told_kept come.seen come.begins) in
      let began = one_name_disjoint come.told come.begins (started_one come.told s count kept come.begins.ended one) in
      subst (λ (x : State). AreDisjoint x.leases) (sym come.reaches) (valid_from come.seen come.begins began).disjoint

-- ---- all that a stop leaves

abbrev told_or : Result Told (Unit {0}) → Told
told_or (Ok t) = t
told_or (Err x) = nothing_told

believed_by : {file : List ℕ} (told : Told) → NamesOne told → Tells file told → IsBelieved file
believed_by told one tells = record { log = record { told = told; tail = tells.0 }; is_log = tells.1; one = one }

module _ (before now : Story) (s : State) (e : Event) (count tail : ℕ) (come : IsComeTo s) (timely : e.at.0 ≤ moment_limit)
    (tells : EndsAt (content before) (told_of s count) tail) (first : AreBelieved (IsImage before)) where
  one_before : NamesOne (told_of s count)
  one_before =
      let is = first (content before) (content_is_image before) in
      subst NamesOne (same_told (content before) is.is_log (tail, tells)) is.one

  apart_after : AreDisjoint (step s e).state.leases
  apart_after = disjoint_run s (e ∷ []) (reached come).accepted (apart come count one_before)

  one_after : NamesOne (told_next count (step s e))
  one_after = disjoint_name_one (told_next count (step s e)) apart_after

  each_named : All (IsNamed (told_next count (step s e))) (step s e).items
  each_named = λ k d lt.
      named_item (told_next count (step s e)) (get_or (step s e).items k d)
      (kept_named (step s e).state (get_or (step s e).items k d) apart_after (kept_step s e (reached come) k d lt))
      (step_ahead s e k d lt)

  -- nothing more is told where nothing is logged
  same_after : log_of (step s e) ≡ [] → told_next count (step s e) ≡ told_of s count
  same_after nothing =
      ap told_or (sym (step_told s e count (reached come) (by_limit come) timely)
      ∙ ap (λ (l : List LogEvent). told_after (in_message_order l) (told_of s count)) nothing)

  names_after : (addr : Ip4) (port at : ℕ) (names : List Subscriber) → IsSpared (step s e) at names
      → names_of (told_of s count) addr port at ≡ names → at ≤ s.horizon → names_of (told_next count (step s e)) addr port at ≡ names
  names_after addr port at names spared named le =
      let t = (step s e).state in
      let after = count + length (log_of (step s e)) in
      let on = goes_on s e (reached come).accepted in
      elim spared [
        | inl nothing ↦ ap (λ (x : Told). names_of x addr port at) (same_after nothing) ∙ named
        | inr some ↦ elim some [
          | inl early ↦ names_before s t count after addr port at on (step_horizon s e) le early ∙ named
          | inr late ↦
              names_at s t count after addr port at on (step_horizon s e) le late.0 (λ none. late.1 (sym named ∙ none)) one_after
              ∙ named
        ]
      ]

  pub batch_answered : StopsLeave before now
      (LogsFirst (told_of s count) (told_next count (step s e)) (sent before) (output (step s e).items))
      → AnswersForBatch before now (step s e)
  batch_answered stops = record {
    logs = λ file left. elim (stops.each file left.0 left.1) [
      | inl is ↦ believed_by (told_of s count) one_before is.0
      | inr is ↦ believed_by (told_next count (step s e)) one_after is.0
    ];
    senders = λ file bytes left k i owner item owned whole. elim (stops.each file bytes left) [
      | inl is ↦
          absurd (none_whole (sent before) (step s e).items k
          (subst (λ (l : List ℕ). IsWholeIn (sent before) l (step s e).items k) is.1 whole))
      | inr is ↦
          let items = (step s e).items in
          let here = some_inj i (get_or items k i) (sym item ∙ slice_get-get_or items k i whole.place) in
          let named = named_one (told_next count (step s e)) i (get_or items k i) owner here (each_named k i whole.place) owned in
          record {
            log = record { told = told_next count (step s e); tail = is.0.0 };
            is_log = is.0.1;
            named = named.0;
            reached = named.1;
          }
    ];
    kept = λ addr port at names spared holds file left.
        let is = holds (content before) (content_is_image before) in
        let told = same_told (content before) is.is_log (tail, tells) in
        let named = ap (λ (t : Told). names_of t addr port at) (sym told) ∙ is.named in
        let le : at ≤ s.horizon = subst (λ (t : Told). at ≤ t.horizon.0) told is.reached in
        elim (stops.each file left.0 left.1) [
          | inl same ↦ record {
            log = record { told = told_of s count; tail = same.0.0 };
            is_log = same.0.1;
            named = named;
            reached = le;
          }
          | inr more ↦ record {
            log = record { told = told_next count (step s e); tail = more.0.0 };
            is_log = more.0.1;
            named = names_after addr port at names spared named le;
            reached = omega (arith, le, step_horizon s e);
          }
        ];
  }

-- ---- what is held of a record

module _ (before now : Story) (h : Held) (s : State) (e : Event) (count tail : ℕ) (come : IsComeTo s) (timely : e.at.0 ≤ moment_limit)
    (same : h ≡ held_of count (step s e)) (tells : EndsAt (content before) (told_of s count) tail) where
  held_follows : IsFollowing (content before) h.log (told_of s count) (told_next count (step s e))
  held_follows = record {
    tail = tail;
    log = tells;
    follows = ap (λ (x : Held). told_after (in_message_order x.log.events) (told_of s count)) same
        ∙ step_told s e count (reached come) (by_limit come) timely;
  }

  pub held_answered : AreBelieved (IsImage before)
      → ((was next : Told) → IsFollowing (content before) h.log was next
      → StopsLeave before now (LogsFirst was next (sent before) h.packets))
      → AnswersForBatch before now (step s e)
  held_answered first stops =
      batch_answered before now s e count tail come timely tells first
      (subst (λ (x : Held). StopsLeave before now (LogsFirst (told_of s count) (told_next count (step s e)) (sent before) x.packets)) same
      (stops (told_of s count) (told_next count (step s e)) held_follows))
