-- What a log tells of a run names the subscriber of each packet that goes out.
use Rattle.std.proofs.Common.{◌≡◌, ℕ, ◌≤◌, List, [], get_or, take}
use Rattle.std.proofs.Common.{Ok, ap, add-zero, arith}
use Rattle.aftr_base.specs.Limits.{moment_limit}
use Rattle.aftr_base.specs.Telling.{in_message_order, told_after}
use Rattle.aftr_base.specs.declared.told.Told.{Told}
use Rattle.aftr_base.specs.declared.event.Event.{Event}
use Rattle.cfg_text.specs.declared.config.Config.{Config}
use Rattle.xlate_core.specs.Run.{run, start, told_of}
use Rattle.xlate_core.specs.Step.{log_of, step}
use Rattle.xlate_core.specs.Valid.{AreDisjoint, IsStart, IsValid}
use Rattle.xlate_core.proofs.Disjoint.{valid_from}
use Rattle.xlate_core.proofs.LogTells.{run_ahead, step_told}
use Rattle.xlate_core.proofs.PacketSources.{names_from}
use Rattle.xlate_core.proofs.Reached.{reached_from}
use Rattle.xlate_core.proofs.ValidStates.{AreBy, run_clock_most}
use Rattle.link_records.specs.Frames.{frames_of}
use Rattle.egress_gate.specs.Logged.{told_next}
use Rattle.aftr_engine.specs.session.EndToEnd.{front_run, told_behind}
use Rattle.egress_gate.specs.Senders.{NamesEachSender}
use Rattle.egress_gate.proofs.Naming.{named_item}

-- ---- a run of no records comes to what the log told

pub told_start : (c : Config) (told : Told) → told_behind told (run (start c told) []) ≡ told
told_start c told = ap (λ (n : ℕ). record told { count = n }) (add-zero told.count)

-- ---- what one record more logs follows what the log tells

pub follows : {c : Config} {told : Told} (seen : List Event) (e : Event) (count : ℕ) → IsStart c told → AreBy moment_limit seen
    → e.at.0 ≤ moment_limit
    → (let s = (run (start c told) seen).state in
    told_after (in_message_order (log_of (step s e))) (told_of s count) ≡ Ok (told_next count (step s e)))
follows {c} {told} seen e count begins by early =
    let s = (run (start c told) seen).state in
    step_told s e count (reached_from seen begins) (run_clock_most moment_limit (start c told) seen (omega arith) by) early

-- ---- so each packet is named by what the log tells

pub named_run : (c : Config) (told : Told) (events : List Event) → IsStart c told → AreDisjoint told.leases
    → (let r = run (start c told) events in NamesEachSender (told_behind told r) r.items)
named_run c told events begins apart =
    let r = run (start c told) events in
    let names = names_from events begins apart in
    let ahead = run_ahead (start c told) events in
    λ k d lt. named_item (told_behind told r) (get_or r.items k d) (names k d lt) (ahead k d lt)

pub names_front : (c : Config) (told : Told) (n : ℕ) (input : List ℕ) → IsStart c told → AreDisjoint told.leases
    → (let r = front_run c told n input in NamesEachSender (told_behind told r) r.items)
names_front c told n input begins apart = named_run c told (take n (frames_of input).events) begins apart

pub valid_front : (c : Config) (told : Told) (n : ℕ) (input : List ℕ) → IsStart c told → AreDisjoint told.leases
    → IsValid (front_run c told n input).state
valid_front c told n input begins apart = valid_from (take n (frames_of input).events) begins apart
