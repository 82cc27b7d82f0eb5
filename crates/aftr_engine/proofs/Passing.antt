-- How what a gate holds of a record becomes what the session makes of it.
use Rattle.std.proofs.Common.{◌≡◌, ℕ, List, Ok, sym, ap, ◌∙◌, subst}
use Rattle.aftr_base.specs.Telling.{in_message_order, told_after}
use Rattle.aftr_base.specs.declared.event.Event.{Event}
use Rattle.cfg_text.specs.declared.config.Config.{Config}
use Rattle.xlate_core.specs.State.{State}
use Rattle.xlate_core.specs.Step.{log_of, step}
use Rattle.xlate_core.proofs.ValidStates.{step_config}
use Rattle.egress_gate.specs.Held.{Held}
use Rattle.egress_gate.specs.Logged.{EndsAt, IsFollowing}
use Rattle.aftr_engine.specs.declared.session.Session.{Session}
use Rattle.aftr_engine.specs.session.Begun.{held_next, step_of, told_at, told_then}

-- a record leaves the configuration as it is, and so the log's limit
pub limit_stays : (s : State) (e : Event) {after : State} → after ≡ (step s e).state → after.config.log_limit ≡ s.config.log_limit
limit_stays s e reaches =
    ap (λ (x : State). x.config.log_limit) reaches ∙ ap (λ (x : Config). x.log_limit) (step_config s e)

-- what is held follows what the log tells
pub next_follows : (s : Session) (e : Event) {h : Held} {file : List ℕ} {tail : ℕ} → h ≡ held_next s e → EndsAt file (told_at s) tail
    → told_after (in_message_order (log_of (step_of s e))) (told_at s) ≡ Ok (told_then s e)
    → IsFollowing file h.log (told_at s) (told_then s e)
next_follows s e {h} {file} {tail} held tells follows =
    subst (λ (x : Held). IsFollowing file x.log (told_at s) (told_then s e)) (sym held)
    (record { tail = tail; log = tells; follows = follows })
