-- What a log names, by the leases that it tells, up to its horizon.
use Rattle.std.proofs.Common.{◌≡◌, ℕ, ◌≤◌, Bool, true, false, cond, ◌&&◌, List, [], ◌∷◌, map, filter, nat_le, IfSome, Option, Some, None}
use Rattle.std.proofs.Common.{Result, Ok, Err, refl, sym, ap, ◌∙◌}
use Rattle.std.proofs.lemmas.Bool.{le-leb}
use Rattle.aftr_base.specs.Told.{until_of}
use Rattle.aftr_base.specs.Value.{ip4_eq, is_within}
use Rattle.aftr_base.specs.declared.told.Told.{Told}
use Rattle.aftr_base.specs.declared.row.LeaseRow.{LeaseRow}
use Rattle.aftr_base.specs.declared.value.Ip4.{Ip4}
use Rattle.aftr_base.specs.declared.value.Moment.{Moment}
use Rattle.aftr_base.specs.declared.value.Subscriber.{Subscriber}
use Rattle.lease_log.specs.Log.{Log, log_of as log_in}
use Rattle.xlate_core.specs.Laws.{IsAhead}
use Rattle.xlate_core.specs.declared.step_out.Item.{Item}
use Rattle.xlate_core.proofs.Holders.{holders, holds as holds_it}
use Rattle.xlate_core.proofs.PacketSources.{IsNamed as IsHolder}
use Rattle.xlate_core.specs.Sources.{sender_of, source_of}
use Rattle.trace_query.specs.Names.{holds, names_of}
use Rattle.egress_gate.specs.Logged.{Tells}
use Rattle.egress_gate.specs.Senders.{IsNamed}

-- ---- up to the horizon an open lease holds, as one that has no end

during_same : (horizon at : ℕ) (since : Moment) (until : Option Moment) → at ≤ horizon
    → is_within since.0 (until_of horizon until).0 at
    ≡ (nat_le since.0 at && (elim until [ None ↦ true | Some m ↦ nat_le at m.0 ]))
during_same horizon at since None le = ap (λ (b : Bool). nat_le since.0 at && b) (le-leb at horizon le)
during_same horizon at since (Some m) le = refl

pub holds_same : (horizon at port : ℕ) (addr : Ip4) (l : LeaseRow) → at ≤ horizon → holds horizon addr port at l ≡ holds_it addr port at l
holds_same horizon at port addr l le =
    ap (λ (b : Bool). ip4_eq addr l.addr && is_within l.first l.last port && b) (during_same horizon at l.since l.until le)

filter_same : (p q : LeaseRow → Bool) (ls : List LeaseRow) → ((l : LeaseRow) → p l ≡ q l) → filter p ls ≡ filter q ls
filter_same p q [] same = refl
filter_same p q (l ∷ ls) same =
    ap (λ (b : Bool). cond b (l ∷ filter p ls) (filter p ls)) (same l)
    ∙ ap (λ (rest : List LeaseRow). cond (q l) (l ∷ rest) rest) (filter_same p q ls same)

names_same : (t : Told) (addr : Ip4) (port at : ℕ) → at ≤ t.horizon.0 → names_of t addr port at ≡ holders t.leases addr port at
names_same t addr port at le =
    ap (λ (ls : List LeaseRow). map (λ (l : LeaseRow). l.owner) ls)
    (filter_same (holds t.horizon.0 addr port at) (holds_it addr port at) t.leases (λ l. holds_same t.horizon.0 at port addr l le))

-- ---- so each packet is named by what the log tells

named_by : (t : Told) (o : Option Subscriber) (addr : Ip4) (port at : ℕ)
    → IfSome o (λ (owner : Subscriber). holders t.leases addr port at ≡ owner ∷ []) → IfSome o (λ (owner : Subscriber). at ≤ t.horizon.0)
    → IfSome o (λ (owner : Subscriber). (names_of t addr port at ≡ owner ∷ []) × (at ≤ t.horizon.0))
named_by t None addr port at holder ahead = tt
named_by t (Some owner) addr port at holder ahead = (names_same t addr port at ahead ∙ holder, ahead)

-- whose place is shown, if anybody's
ahead_by : (shows : Bool) (o : Option Subscriber) (horizon at : ℕ) → IfSome o (λ (owner : Subscriber). at ≤ horizon)
    → IfSome (cond shows o None) (λ (owner : Subscriber). at ≤ horizon)
ahead_by true o horizon at h = h
ahead_by false o horizon at h = tt

pub named_item : (t : Told) (i : Item) → IsHolder t.leases i → IsAhead t.horizon.0 i → IsNamed t i
named_item t i holder ahead =
    named_by t (sender_of i) (source_of i).addr (source_of i).port i.at.0 holder (ahead_by _ i.owner t.horizon.0 i.at.0 ahead)

-- ---- what a file tells is one thing

abbrev told_in : Told → Result Log ℕ → Told
told_in other (Ok log) = log.told
told_in other (Err offset) = other

pub same_told : (file : List ℕ) {log : Log} {told : Told} → log_in file ≡ Ok log → Tells file told → log.told ≡ told
same_told file {log} {told} is tells = ap (told_in told) (sym is ∙ tells.1)
