-- What is known of each state that a run of an accepted configuration comes to.
use Rattle.std.proofs.Common.{◌≡◌, ℕ, true, false, List, [], ◌∷◌, arith}
use Rattle.std.proofs.lemmas.List.Elements.{All-nil}
use Rattle.aftr_base.specs.declared.event.Event.{Event}
use Rattle.aftr_base.specs.Row.{is_open}
use Rattle.aftr_base.specs.Told.{nothing_told}
use Rattle.aftr_base.specs.declared.row.LeaseRow.{LeaseRow}
use Rattle.aftr_base.specs.declared.told.Told.{Told}
use Rattle.cfg_text.specs.declared.config.Config.{Config}
use Rattle.cfg_text.specs.Accepted.{is_accepted}
use Rattle.frag_reasm.specs.declared.pieces.PartialDatagram.{PartialDatagram}
use Rattle.xlate_core.specs.State.{State}
use Rattle.xlate_core.specs.Expiry.{at_moment}
use Rattle.xlate_core.specs.Step.{step}
use Rattle.xlate_core.specs.Run.{run, start}
use Rattle.xlate_core.specs.Valid.{AreDisjoint, IsOnWire, IsStart, is_lease_by}
pub use Rattle.xlate_core.specs.Valid.{IsReached}
use Rattle.xlate_core.proofs.ValidExpiry.{consistent_moment}
use Rattle.xlate_core.proofs.Treatments.{keeping}
use Rattle.xlate_core.proofs.ValidStates.{consistent_keeping, moment_accepted, step_accepted, consistent_start, consistent_step}
use Rattle.xlate_core.proofs.WirePlaces.{wire_moment, wire_step}

-- an empty log is such a start
pub start_nothing : (c : Config) → is_accepted c ≡ true → IsStart c nothing_told
start_nothing c ok = record {
  accepted = ok;
  leases = All-nil (λ l. is_lease_by 0 0 l ≡ true);
  ended = All-nil (λ (l : LeaseRow). is_open l ≡ false);
  wire = All-nil IsOnWire;
  moments = omega arith;
}

-- of which no two leases share a port
pub disjoint_nothing : AreDisjoint nothing_told.leases
disjoint_nothing i j d lt within = absurd (omega arith)

pub reached_start : {c : Config} {t : Told} → IsStart c t → IsReached (start c t)
reached_start h = record { accepted = h.accepted; consistent = consistent_start h; wire = h.wire }

pub reached_moment : (at : ℕ) (s : State) → IsReached s → IsReached (at_moment at s).state
reached_moment at s h = record {
  accepted = moment_accepted at s h.accepted;
  consistent = consistent_moment at s h.consistent;
  wire = wire_moment at s h.wire;
}

-- whatever pieces are held
pub reached_keeping : {s : State} (kept : List PartialDatagram) → IsReached s → IsReached (keeping s kept)
reached_keeping kept h = record { accepted = h.accepted; consistent = consistent_keeping kept h.consistent; wire = h.wire }

pub reached_step : (s : State) (e : Event) → IsReached s → IsReached (step s e).state
reached_step s e h = record {
  accepted = step_accepted s e h.accepted;
  consistent = consistent_step s e h.accepted h.consistent;
  wire = wire_step s e h.accepted h.wire;
}

pub reached_run : (s : State) (events : List Event) → IsReached s → IsReached (run s events).state
reached_run s [] h = h
reached_run s (e ∷ es) h = reached_run (step s e).state es (reached_step s e h)

pub reached_from : {c : Config} {t : Told} (events : List Event) → IsStart c t → IsReached (run (start c t) events).state
reached_from {c = c} {t = t} events h = reached_run (start c t) events (reached_start h)
