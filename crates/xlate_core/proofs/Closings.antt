-- Ending idle leases, step by step as a loop goes over them.
use Rattle.std.proofs.Common.{◌≡◌, ℕ, zero, suc, ◌+◌, ◌<◌, ◌≤◌, Bool, true, false, List, [], ◌∷◌, ◌++◌, length, get_or, set, take, drop}
use Rattle.std.proofs.Common.{map, refl, sym, ap, ◌∙◌, append_assoc, arith}
use Rattle.std.specs.Prelude.{filter, if◌then◌else◌}
use Rattle.std.proofs.lemmas.List.{drop_more, take_more_set, drop-set-lt}
use Rattle.aftr_base.specs.Row.{ended, block_event}
use Rattle.aftr_base.specs.declared.row.LeaseRow.{LeaseRow}
use Rattle.aftr_base.specs.declared.event.LogEvent.{LogEvent}
use Rattle.nat_mapping.specs.Rows.{Mapping}
use Rattle.xlate_core.specs.Expiry.{is_idle, with_idle_ended, closings_of}

-- ---- one lease before others, n of which may end: it ends, or it stays

-- what with_idle_ended makes of the lease is e, and m more may end
abbrev pub Becomes : ℕ → ℕ → ℕ → List Mapping → LeaseRow → LeaseRow → List LeaseRow → Type 0
Becomes n m now rows l e ls = with_idle_ended n now rows (l ∷ ls) ≡ e ∷ with_idle_ended m now rows ls

pub becomes_ended : (n now : ℕ) (rows : List Mapping) (l : LeaseRow) (ls : List LeaseRow) → is_idle rows l ≡ true
    → Becomes (suc n) n now rows l (ended now l) ls
becomes_ended n now rows l ls idle = ap
    (λ (b : Bool). (if b then ended now l else l) ∷ with_idle_ended (if b then n else suc n) now rows ls) idle

pub becomes_busy : (n now : ℕ) (rows : List Mapping) (l : LeaseRow) (ls : List LeaseRow) → is_idle rows l ≡ false → Becomes n n now rows l l ls
becomes_busy zero now rows l ls busy = refl
becomes_busy (suc n) now rows l ls busy = ap
    (λ (b : Bool). (if b then ended now l else l) ∷ with_idle_ended (if b then n else suc n) now rows ls) busy

becomes_spent : (n now : ℕ) (rows : List Mapping) (l : LeaseRow) (ls : List LeaseRow) → n ≤ 0 → Becomes n n now rows l l ls
becomes_spent zero now rows l ls spent = refl
becomes_spent (suc n) now rows l ls spent = absurd (omega arith)

pub closes_ended : (n now : ℕ) (rows : List Mapping) (l : LeaseRow) (ls : List LeaseRow) → is_idle rows l ≡ true
    → closings_of (suc n) now rows (l ∷ ls) ≡ block_event false now l ∷ closings_of n now rows ls
closes_ended n now rows l ls idle = ap
    (λ (b : Bool). map (block_event false now) (take (suc n) (if b then l ∷ filter (is_idle rows) ls else filter (is_idle rows) ls))) idle

pub closes_busy : (n now : ℕ) (rows : List Mapping) (l : LeaseRow) (ls : List LeaseRow) → is_idle rows l ≡ false
    → closings_of n now rows (l ∷ ls) ≡ closings_of n now rows ls
closes_busy n now rows l ls busy = ap
    (λ (b : Bool). map (block_event false now) (take n (if b then l ∷ filter (is_idle rows) ls else filter (is_idle rows) ls))) busy

closes_spent : (n now : ℕ) (rows : List Mapping) (l : LeaseRow) (ls : List LeaseRow) → n ≤ 0
    → closings_of n now rows (l ∷ ls) ≡ closings_of n now rows ls
closes_spent zero now rows l ls spent = refl
closes_spent (suc n) now rows l ls spent = absurd (omega arith)

-- ---- the lease at an index of a list: those before it are done, and left more may end

-- what the list comes to
abbrev pub outcome : ℕ → ℕ → List Mapping → List LeaseRow → ℕ → List LeaseRow
outcome left now rows ls i = take i ls ++ with_idle_ended left now rows (drop i ls)

-- what closes from the index on
abbrev pub closings_from : ℕ → ℕ → List Mapping → List LeaseRow → ℕ → List LogEvent
closings_from left now rows ls i = closings_of left now rows (drop i ls)

outcome_next : (left left' now : ℕ) (rows : List Mapping) (ls ls' : List LeaseRow) (i : ℕ) (d e : LeaseRow) → i < length ls → ls' ≡ set ls i e
    → Becomes left left' now rows (get_or ls i d) e (drop (i + 1) ls) → outcome left' now rows ls' (i + 1) ≡ outcome left now rows ls i
outcome_next left left' now rows ls ls' i d e lt es becomes =
    let next : i < i + 1 = omega arith in
    ap (λ (xs : List LeaseRow). outcome left' now rows xs (i + 1)) es
    ∙ ap (λ (before : List LeaseRow). before ++ with_idle_ended left' now rows (drop (i + 1) (set ls i e))) (take_more_set ls i e lt)
    ∙ ap (λ (after : List LeaseRow). (take i ls ++ e ∷ []) ++ with_idle_ended left' now rows after) (drop-set-lt (i + 1) ls i e next)
    ∙ append_assoc (take i ls) (e ∷ []) (with_idle_ended left' now rows (drop (i + 1) ls))
    ∙ ap (λ (after : List LeaseRow). take i ls ++ after) (sym becomes)
    ∙ ap (λ (after : List LeaseRow). take i ls ++ with_idle_ended left now rows after) (sym (drop_more ls i d lt))

after_next : (left now : ℕ) (rows : List Mapping) (ls ls' : List LeaseRow) (i : ℕ) (e : LeaseRow) → ls' ≡ set ls i e
    → closings_from left now rows ls' (i + 1) ≡ closings_of left now rows (drop (i + 1) ls)
after_next left now rows ls ls' i e es =
    let next : i < i + 1 = omega arith in
    ap (λ (xs : List LeaseRow). closings_from left now rows xs (i + 1)) es
    ∙ ap (closings_of left now rows) (drop-set-lt (i + 1) ls i e next)

closings_same : (left now : ℕ) (rows : List Mapping) (ls ls' : List LeaseRow) (i : ℕ) (d e : LeaseRow) → i < length ls → ls' ≡ set ls i e
    → closings_of left now rows (get_or ls i d ∷ drop (i + 1) ls) ≡ closings_of left now rows (drop (i + 1) ls)
    → closings_from left now rows ls' (i + 1) ≡ closings_from left now rows ls i
closings_same left now rows ls ls' i d e lt es same = after_next left now rows ls ls' i e es ∙ sym same
    ∙ ap (closings_of left now rows) (sym (drop_more ls i d lt))

-- ---- a loop's step over an idle lease, over a busy one, and past the last that may end

pub outcome_ended : (left left' now : ℕ) (rows : List Mapping) (ls ls' : List LeaseRow) (i : ℕ) (d : LeaseRow) → i < length ls
    → suc left' ≡ left → ls' ≡ set ls i (ended now (get_or ls i d)) → is_idle rows (get_or ls i d) ≡ true
    → outcome left' now rows ls' (i + 1) ≡ outcome left now rows ls i
outcome_ended left left' now rows ls ls' i d lt el es idle =
    outcome_next (suc left') left' now rows ls ls' i d (ended now (get_or ls i d)) lt es
    (becomes_ended left' now rows (get_or ls i d) (drop (i + 1) ls) idle)
    ∙ ap (λ (n : ℕ). outcome n now rows ls i) el

pub outcome_busy : (left now : ℕ) (rows : List Mapping) (ls ls' : List LeaseRow) (i : ℕ) (d : LeaseRow) → i < length ls
    → ls' ≡ set ls i (get_or ls i d) → is_idle rows (get_or ls i d) ≡ false
    → outcome left now rows ls' (i + 1) ≡ outcome left now rows ls i
outcome_busy left now rows ls ls' i d lt es busy = outcome_next left left now rows ls ls' i d (get_or ls i d) lt es
    (becomes_busy left now rows (get_or ls i d) (drop (i + 1) ls) busy)

pub outcome_spent : (left now : ℕ) (rows : List Mapping) (ls ls' : List LeaseRow) (i : ℕ) (d : LeaseRow) → i < length ls
    → ls' ≡ set ls i (get_or ls i d) → left ≤ 0 → outcome left now rows ls' (i + 1) ≡ outcome left now rows ls i
outcome_spent left now rows ls ls' i d lt es spent = outcome_next left left now rows ls ls' i d (get_or ls i d) lt es
    (becomes_spent left now rows (get_or ls i d) (drop (i + 1) ls) spent)

pub closings_ended : (left left' now : ℕ) (rows : List Mapping) (ls ls' : List LeaseRow) (closed closed' : List LogEvent) (i : ℕ) (d : LeaseRow)
    → i < length ls
    → suc left' ≡ left
    → ls' ≡ set ls i (ended now (get_or ls i d))
    → closed' ≡ closed ++ block_event false now (get_or ls i d) ∷ [] → is_idle rows (get_or ls i d) ≡ true
    → closed' ++ closings_from left' now rows ls' (i + 1) ≡ closed ++ closings_from left now rows ls i
closings_ended left left' now rows ls ls' closed closed' i d lt el es ec idle =
    let l = get_or ls i d in
    ap (λ (xs : List LogEvent). closed' ++ xs) (after_next left' now rows ls ls' i (ended now l) es)
    ∙ ap (λ (xs : List LogEvent). xs ++ closings_of left' now rows (drop (i + 1) ls)) ec
    ∙ append_assoc closed (block_event false now l ∷ []) (closings_of left' now rows (drop (i + 1) ls))
    ∙ ap (λ (xs : List LogEvent). closed ++ xs) (sym (closes_ended left' now rows l (drop (i + 1) ls) idle))
    ∙ ap (λ (xs : List LeaseRow). closed ++ closings_of (suc left') now rows xs) (sym (drop_more ls i d lt))
    ∙ ap (λ (n : ℕ). closed ++ closings_from n now rows ls i) el

pub closings_busy : (left now : ℕ) (rows : List Mapping) (ls ls' : List LeaseRow) (i : ℕ) (d : LeaseRow) → i < length ls
    → ls' ≡ set ls i (get_or ls i d) → is_idle rows (get_or ls i d) ≡ false
    → closings_from left now rows ls' (i + 1) ≡ closings_from left now rows ls i
closings_busy left now rows ls ls' i d lt es busy = closings_same left now rows ls ls' i d (get_or ls i d) lt es
    (closes_busy left now rows (get_or ls i d) (drop (i + 1) ls) busy)

pub closings_spent : (left now : ℕ) (rows : List Mapping) (ls ls' : List LeaseRow) (i : ℕ) (d : LeaseRow) → i < length ls
    → ls' ≡ set ls i (get_or ls i d) → left ≤ 0 → closings_from left now rows ls' (i + 1) ≡ closings_from left now rows ls i
closings_spent left now rows ls ls' i d lt es spent = closings_same left now rows ls ls' i d (get_or ls i d) lt es
    (closes_spent left now rows (get_or ls i d) (drop (i + 1) ls) spent)
