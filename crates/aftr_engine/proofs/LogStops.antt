-- What a stop leaves of a command that reads a log, and of a run behind it.
use Rattle.std.proofs.Common.{◌≡◌, inl, inr, ℕ, false, nat_lt, List, [], take, refl, sym, ◌∙◌, subst}
use Rattle.std.specs.Prelude.{bytes_eq}
use Rattle.std.proofs.lemmas.Bool.{and_parts, false_from_ne_true, true≢false}
use Rattle.plant_io.specs.Story.{Story, content, sent}
use Rattle.plant_io.specs.Stops.{StopsLeave}
use Rattle.plant_io.proofs.Moments.{goes_on, started, weaker}
use Rattle.disk_journal.specs.Attach.{AttachLeaves}
use Rattle.disk_journal.specs.Make.{MakeLeaves}
use Rattle.disk_journal.specs.Frames.{file_header}
use Rattle.disk_journal.specs.Walk.{has_header}
use Rattle.lease_log.proofs.LogSteps.{log_of_no_header}
use Rattle.aftr_base.specs.declared.told.Told.{Told}
use Rattle.cfg_text.specs.declared.config.Config.{Config}
use Rattle.recovery.specs.Closings.{recovered}
use Rattle.recovery.specs.Leaves.{RecoverLeaves}
use Rattle.xlate_core.specs.Valid.{IsStart}
use Rattle.egress_gate.specs.Logged.{Tells}
use Rattle.aftr_engine.specs.session.Stops.{AccountsFor, LeavesLog}

-- while rows are closed, a stop leaves what it may leave then
pub closes : (c : Config) (input : List ℕ) (first middle : Story) → StopsLeave first middle (RecoverLeaves first)
    → StopsLeave first middle (LeavesLog c input first)
closes c input first middle stops =
    weaker first middle (RecoverLeaves first) (LeavesLog c input first) (λ image bytes is. inl is) stops

-- while a log is read, what one before it might have left
pub read_leaves : (c : Config) (input : List ℕ) (first middle : Story) → StopsLeave first middle (AttachLeaves first)
    → StopsLeave first middle (LeavesLog c input first)
read_leaves c input first middle stops =
    weaker first middle (AttachLeaves first) (LeavesLog c input first)
    (λ image bytes is. inl (record { file = inl is.image_before; nothing_sent = is.nothing_sent })) stops

-- no byte is no log
no_header : has_header [] ≡ false
unfolding has_header
no_header =
    false_from_ne_true (has_header []) (λ h.
    absurd (true≢false (sym (and_parts (bytes_eq (take 16 []) file_header) (nat_lt 16 0) h).1)))

no_log : (told : Told) → Tells [] told → ⊥
no_log told tells = absurd (cc (sym (log_of_no_header [] no_header) ∙ tells.1))

-- while a log is made in a file that is a log already, what one before it might have left
pub make_leaves : (c : Config) (input : List ℕ) (first middle : Story) {was : Told} → Tells (content first) was
    → StopsLeave first middle (MakeLeaves first) → StopsLeave first middle (LeavesLog c input first)
make_leaves c input first middle {was} onto stops =
    weaker first middle (MakeLeaves first) (LeavesLog c input first)
    (λ image bytes is. elim is.file [
      | inl before ↦ inl (record { file = inl before; nothing_sent = is.nothing_sent })
      | inr none ↦ absurd (no_log was (subst (λ (file : List ℕ). Tells file was) none.0 onto))
    ]) stops

-- before anything was done, what one at the start might have left
pub leaves_start : (c : Config) (input : List ℕ) (story : Story) → StopsLeave story story (LeavesLog c input story)
leaves_start c input story =
    started story (LeavesLog c input story) (λ image is. inl (record { file = inl is; nothing_sent = refl }))

-- and behind a restart so it does, or the records account for it
pub then_runs : {c : Config} {input : List ℕ} {first middle last : Story} {was : Told} → sent middle ≡ sent first
    → Tells (content first) was → IsStart c (recovered was) → StopsLeave first middle (RecoverLeaves first)
    → StopsLeave middle last (AccountsFor c (recovered was) input (sent middle)) → StopsLeave first last (LeavesLog c input first)
then_runs {c} {input} {first} {middle} {last} {was} same onto begins closed ran =
    goes_on first middle last (LeavesLog c input first) (closes c input first middle closed)
    (weaker middle last (AccountsFor c (recovered was) input (sent middle)) (LeavesLog c input first)
    (λ image bytes is. inr (record {
      was = was;
      onto = onto;
      begins = begins;
      accounts = subst (λ (past : List ℕ). AccountsFor c (recovered was) input past image bytes) same is;
    })) ran)
