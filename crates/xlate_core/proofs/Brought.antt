-- What a record has done by what it brought.
use Rattle.std.proofs.Common.{◌≡◌, Bool, true, false, not, List, Option, Some, None, Result, refl, sym, ap, ◌∙◌, subst, append-nil}
use Rattle.std.proofs.lemmas.List.Elements.{All-nil}
use Rattle.std.specs.Prelude.{length, ◌≤◌, nat_lt, if◌then◌else◌}
use Rattle.aftr_base.specs.declared.event.DropCause.{DropCause}
use Rattle.aftr_base.specs.declared.event.DropCause.TheVariants.{Settling}
use Rattle.frag_reasm.specs.declared.pieces.PartialDatagram.{PartialDatagram}
use Rattle.ingress.specs.Arrival.{Arrival}
use Rattle.xlate_core.specs.declared.step_out.Item.{Item}
use Rattle.xlate_core.specs.declared.step_out.StepOut.{StepOut}
use Rattle.xlate_core.specs.State.{State, Step}
use Rattle.xlate_core.specs.Step.{dropped, quiet, treated, with_horizon}
use Rattle.xlate_core.specs.Stepped.{HasStepped}

is_late : (late : Bool) → false ≡ not late → late ≡ true
is_late true h = refl
is_late false h = cc

abbrev pub arrival_with : {A : Type 0} → List PartialDatagram → Result (Option A) DropCause → Arrival A
arrival_with kept brought = record { kept = kept; brought = brought }

module _ {A : Type 0} (arrival : State → Arrival A) (treat : State → A → Step) where
  -- of a record that doesn't settle, from what was known before it
  pub brought_so : (P : Step → Type 0) (was s : State) (kept : List PartialDatagram) (brought : Result (Option A) DropCause) → was ≡ s
      → false ≡ not (nat_lt s.floor s.clock) → arrival_with kept brought ≡ arrival was → P (treated was (arrival_with kept brought) treat)
      → P (if nat_lt s.floor s.clock then treated s (arrival s) treat else dropped s Settling)
  brought_so P was s kept brought view late tells h =
      let there = subst (λ (x : State). P (treated x (arrival_with kept brought) treat)) view h in
      let whole = subst (λ (a : Arrival A). P (treated s a treat)) (tells ∙ ap arrival view) there in
      subst (λ (b : Bool). P (if b then treated s (arrival s) treat else dropped s Settling)) (sym (is_late (nat_lt s.floor s.clock) late)) whole

-- nothing but the pieces that are held changed
pub quiet_so : (s : State) (out : StepOut) → HasStepped (with_horizon (quiet s)) out s out None
quiet_so s out = record {
  reaches = refl;
  packets = sym (append-nil out.items);
  logged = sym (append-nil out.log);
  refusal = refl;
  short = All-nil (λ (i : Item). length i.bytes ≤ 65535);
}

pub dropped_so : (s : State) (cause : DropCause) (out : StepOut) → HasStepped (with_horizon (dropped s cause)) out s out (Some cause)
dropped_so s cause out = record {
  reaches = refl;
  packets = sym (append-nil out.items);
  logged = sym (append-nil out.log);
  refusal = refl;
  short = All-nil (λ (i : Item). length i.bytes ≤ 65535);
}
