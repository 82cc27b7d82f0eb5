-- What one record gave, spelled.
use Rattle.std.proofs.Common.{◌≡◌, ℕ, List, [], ◌++◌, length, refl, ap, ◌∙◌}
use Rattle.std.specs.Prelude.{Option, option_to_list}
use Rattle.aftr_base.specs.declared.event.DropCause.{DropCause}
use Rattle.aftr_base.specs.declared.event.Event.{Event}
use Rattle.aftr_base.specs.declared.event.LogEvent.{LogEvent}
use Rattle.lease_log.specs.Batch.{Batch as LogOf, empty_batch}
use Rattle.xlate_core.specs.State.{State}
use Rattle.xlate_core.specs.Step.{step, log_of}
use Rattle.xlate_core.specs.Stepped.{HasStepped}
use Rattle.xlate_core.specs.declared.step_out.Item.{Item}
use Rattle.xlate_core.specs.declared.step_out.StepOut.{StepOut}
use Rattle.egress_gate.specs.Held.{Held, held_in, held_of}
use Rattle.egress_gate.specs.Output.{output}
use Rattle.egress_gate.specs.Spelled.{HasSpelled}
use Rattle.egress_gate.specs.declared.batch.Batch.{Batch}

-- the events that are added are the record's
pub its_events : (s : State) (e : Event) {after : State} {none out : StepOut} {cause : Option DropCause}
    → HasStepped (step s e) none after out cause → none.log ≡ [] → out.log ≡ log_of (step s e)
its_events s e done no_log = done.logged ∙ ap (λ (l : List LogEvent). l ++ log_of (step s e)) no_log

same_held : (h k : Held) → h.records ≡ k.records → h.items ≡ k.items → h.packets ≡ k.packets → h.drops ≡ k.drops
    → h.log.at ≡ k.log.at → h.log.count ≡ k.log.count → h.log.events ≡ k.log.events → h ≡ k
same_held h k records items packets drops at count events =
    ap (λ (n : ℕ). record h { records = n }) records
    ∙ ap (λ (n : ℕ). record h { records = k.records; items = n }) items
    ∙ ap (λ (l : List ℕ). record h { records = k.records; items = k.items; packets = l }) packets
    ∙ ap (λ (l : List DropCause). record h { records = k.records; items = k.items; packets = k.packets; drops = l }) drops
    ∙ ap (λ (n : ℕ). let b : LogOf = record { at = n; count = h.log.count; events = h.log.events } in record k { log = b }) at
    ∙ ap (λ (n : ℕ). let b : LogOf = record { at = k.log.at; count = n; events = h.log.events } in record k { log = b }) count
    ∙ ap (λ (l : List LogEvent). let b : LogOf = record { at = k.log.at; count = k.log.count; events = l } in record k { log = b }) events

pub spelled : (s : State) (e : Event) (before : ℕ) {after : State} {none out : StepOut} {log : LogOf} {packets : List ℕ}
    {cause : Option DropCause}
    → HasStepped (step s e) none after out cause → none.items ≡ [] → none.log ≡ []
    → log ≡ record (empty_batch after.clock before) { events = out.log } → packets ≡ output out.items
    → HasSpelled (step s e) before after (record { records = 1; out = out; cause = cause; log = log; packets = packets })
spelled s e before {after} {none} {out} {log} {packets} {cause} done no_items no_log put sent =
    let t = step s e in
    let items = done.packets ∙ ap (λ (l : List Item). l ++ t.items) no_items in
    let b : Batch = record { records = 1; out = out; cause = cause; log = log; packets = packets } in
    record {
      reaches = done.reaches;
      holds = same_held (held_in b) (held_of before t) refl (ap length items) (sent ∙ ap output items)
          (ap (λ (o : Option DropCause). option_to_list o) done.refusal)
          (ap (λ (l : LogOf). l.at) put ∙ ap (λ (x : State). x.clock) done.reaches)
          (ap (λ (l : LogOf). l.count) put)
          (ap (λ (l : LogOf). l.events) put ∙ its_events s e done no_log);
    }
