-- What becomes of leases over a run: each stays as it is, or ends once, and new ones stand behind them.
use Rattle.std.proofs.Common.{◌≡◌, ℕ, ◌<◌, ◌≤◌, true, List, [], ◌∷◌, ◌++◌, length, get_or, Option, Some, None}
use Rattle.std.proofs.Common.{IfSome, All, refl, sym, ap, ◌∙◌, subst, append_assoc, append-nil, arith}
use Rattle.std.specs.Prelude.{option_to_list}
use Rattle.std.specs.List.{AllZip}
use Rattle.std.proofs.lemmas.Bool.{true≢false}
use Rattle.std.proofs.lemmas.List.Elements.{All-nil, All-cons, All-append, All-weaker}
use Rattle.aftr_base.specs.Row.{is_open, ended}
use Rattle.aftr_base.specs.declared.event.Event.{Event}
use Rattle.aftr_base.specs.declared.row.LeaseRow.{LeaseRow}
use Rattle.aftr_base.specs.declared.value.Moment.{Moment}
use Rattle.aftr_base.proofs.Pairwise.{zip_same, all_zip}
use Rattle.cfg_text.specs.Accepted.{is_accepted}
use Rattle.nat_mapping.specs.Rows.{Mapping}
use Rattle.nat_mapping.specs.Rows.{expired}
use Rattle.xlate_core.specs.Expiry.{Closed, at_moment, closing_limit, leases_ended, with_idle_ended}
use Rattle.xlate_core.specs.State.{State, Step}
use Rattle.xlate_core.specs.Step.{step}
use Rattle.xlate_core.specs.Run.{run}
use Rattle.xlate_core.proofs.Openings.{Opens, opens_step}
use Rattle.xlate_core.proofs.WirePlaces.{IsNew}
use Rattle.xlate_core.proofs.Zips.{zip_at, zip_both, zip_parts, zip_weaker}
use Rattle.xlate_core.proofs.Clock.{by_moment, raised}
use Rattle.xlate_core.proofs.ValidExpiry.{MayEnd, Lasts, Idle, idle_end, idle_open}
use Rattle.xlate_core.proofs.ValidStates.{step_accepted}

-- ---- one lease

-- from a state at one moment to a later state at another: the lease stays, or it was open and ended in between
pub data Later (from to : ℕ) (l m : LeaseRow) : Type 0 where
  Stays : m ≡ l → Later from to l m
  Ends : (at : ℕ) → is_open l ≡ true → from < at → at ≤ to → m ≡ ended at l → Later from to l m

-- its block, its owner and its begin stay either way
pub record IsSameBlock (l m : LeaseRow) : Type 0 where
  pub owner : m.owner ≡ l.owner
  pub addr : m.addr ≡ l.addr
  pub first : m.first ≡ l.first
  pub last : m.last ≡ l.last
  pub since : m.since ≡ l.since

pub later_block : {from to : ℕ} {l m : LeaseRow} → Later from to l m → IsSameBlock l m
later_block {l = l} (Stays same) =
    subst (IsSameBlock l) (sym same) (record { owner = refl; addr = refl; first = refl; last = refl; since = refl })
later_block {l = l} (Ends at lasts after by same) =
    subst (IsSameBlock l) (sym same) (record { owner = refl; addr = refl; first = refl; last = refl; since = refl })

-- what ended stays as it is
never_again : (l m : LeaseRow) (at : ℕ) → m ≡ ended at l → is_open m ≡ true → ⊥
never_again l m at same lasts = true≢false (sym lasts ∙ ap is_open same)

pub later_both : {a b c : ℕ} {l m n : LeaseRow} → a ≤ b → b ≤ c → Later a b l m → Later b c m n → Later a c l n
later_both ab bc (Stays same) (Stays same') = Stays (same' ∙ same)
later_both ab bc (Stays same) (Ends at lasts after by same') =
    Ends at (ap is_open (sym same) ∙ lasts) (omega (arith, ab, after)) by (same' ∙ ap (ended at) same)
later_both ab bc (Ends at lasts after by same) (Stays same') = Ends at lasts after (omega (arith, by, bc)) (same' ∙ same)
later_both {l = l} {m = m} ab bc (Ends at lasts after by same) (Ends at' lasts' after' by' same') = absurd (never_again l m at same lasts')

-- ---- all leases

abbrev pub BeganFrom : ℕ → LeaseRow → Type 0
BeganFrom from l = from ≤ l.since.0

-- those of a state, and behind them new ones that began since
pub record AreLater (s t : State) : Type 0 where
  pub clock : s.clock ≤ t.clock
  pub kept : List LeaseRow
  pub more : List LeaseRow
  pub leases : t.leases ≡ kept ++ more
  pub became : AllZip (Later s.clock t.clock) s.leases kept
  pub began : All (BeganFrom s.clock) more

pub later_same : (s : State) → AreLater s s
later_same s = record {
  clock = omega arith;
  kept = s.leases;
  more = [];
  leases = sym (append-nil s.leases);
  became = zip_same (Later s.clock s.clock) (λ l. Stays refl) s.leases;
  began = All-nil (BeganFrom s.clock);
}

began_on : (from a b : ℕ) (l m : LeaseRow) → Later a b l m → BeganFrom from l → BeganFrom from m
began_on from a b l m later h = omega (arith, h, ap (λ (t : Moment). t.0) (later_block later).since)

pub later_then : {s t u : State} → AreLater s t → AreLater t u → AreLater s u
later_then {s = s} {t = t} {u = u} first next =
    let before = Later s.clock t.clock in
    let after = Later t.clock u.clock in
    let whole = subst (λ (l : List LeaseRow). AllZip after l next.kept) first.leases next.became in
    let parts = zip_parts after first.kept first.more next.kept whole in
    let both = λ (l m n : LeaseRow) (z : before l m) (w : after m n). later_both first.clock next.clock z w in
    let began = BeganFrom s.clock in
    let old = all_zip after began began (began_on s.clock t.clock u.clock) first.more parts.rest parts.rests first.began in
    let new = All-weaker (BeganFrom t.clock) began (λ l h. omega (arith, h, first.clock)) next.more next.began in
    record {
      clock = omega (arith, first.clock, next.clock);
      kept = parts.front;
      more = parts.rest ++ next.more;
      leases = next.leases ∙ ap (λ (l : List LeaseRow). l ++ next.more) parts.whole ∙ append_assoc parts.front parts.rest next.more;
      became = zip_both both s.leases first.kept parts.front first.became parts.fronts;
      began = All-append began parts.rest next.more old new;
    }

-- the lease at an index
pub later_at : {s t : State} (i : ℕ) (d : LeaseRow) → AreLater s t → i < length s.leases
    → Later s.clock t.clock (get_or s.leases i d) (get_or t.leases i d)
later_at {s = s} {t = t} i d later lt =
    subst (λ (l : List LeaseRow). Later s.clock t.clock (get_or s.leases i d) (get_or l i d)) (sym later.leases)
    (zip_at (Later s.clock t.clock) s.leases later.kept later.more i d later.became lt)

-- ---- as the clock is raised

later_end : (from now : ℕ) (rows : List Mapping) (l m : LeaseRow) → from < now → MayEnd now rows l m → Later from now l m
later_end from now rows l m lt (Lasts same) = Stays same
later_end from now rows l m lt (Idle idle same) = Ends now (idle_open rows l idle) lt (omega arith) same

later_ended : (at : ℕ) (s : State) → s.clock < at → AreLater s (leases_ended (raised at s)).state
later_ended at s lt =
    let rows = expired at s.rows in
    let after = with_idle_ended closing_limit at rows s.leases in
    let ends = λ (l m : LeaseRow) (z : MayEnd at rows l m). later_end s.clock at rows l m lt z in
    record {
      clock = omega (arith, lt);
      kept = after;
      more = [];
      leases = sym (append-nil after);
      became = zip_weaker (MayEnd at rows) (Later s.clock at) ends s.leases after (idle_end closing_limit at rows s.leases);
      began = All-nil (BeganFrom s.clock);
    }

pub later_moment : (at : ℕ) (s : State) → AreLater s (at_moment at s).state
later_moment at s = by_moment (λ (c : Closed). AreLater s c.state) at s (λ le. later_same s) (λ lt. later_ended at s lt)

-- ---- as a record is treated

one_began : (clock : ℕ) (o : Option LeaseRow) → IfSome o (IsNew clock) → All (BeganFrom clock) (option_to_list o)
one_began clock None new = All-nil (BeganFrom clock)
one_began clock (Some l) new =
    All-cons (BeganFrom clock) l [] (omega (arith, ap (λ (m : Moment). m.0) new.since)) (All-nil (BeganFrom clock))

pub later_opened : {s : State} {t : Step} → Opens s t → AreLater s t.state
later_opened {s = s} {t = t} opens = record {
  clock = omega (arith, opens.clock);
  kept = s.leases;
  more = option_to_list opens.lease;
  leases = opens.leases;
  became = zip_same (Later s.clock t.state.clock) (λ l. Stays refl) s.leases;
  began = one_began s.clock opens.lease opens.new;
}

later_raised : {s t : State} (horizon : ℕ) → AreLater s t → AreLater s (record t { horizon = horizon })
later_raised horizon later = record {
  clock = later.clock;
  kept = later.kept;
  more = later.more;
  leases = later.leases;
  became = later.became;
  began = later.began;
}

pub later_step : (s : State) (e : Event) → is_accepted s.config ≡ true → AreLater s (step s e).state
later_step s e ok =
    later_then (later_moment e.at.0 s) (later_raised (step s e).state.horizon (later_opened (opens_step s e ok)))

pub later_run : (s : State) (events : List Event) → is_accepted s.config ≡ true → AreLater s (run s events).state
later_run s [] ok = later_same s
later_run s (e ∷ es) ok = later_then (later_step s e ok) (later_run (step s e).state es (step_accepted s e ok))
