-- What a record's own treatment does to the leases: it opens one at most, at the clock's moment.
use Rattle.std.proofs.Common.{◌≡◌, ℕ, true, List, [], ◌++◌, map, Option, None, IfSome, refl, sym, ap, ◌∙◌, append-nil}
use Rattle.std.specs.Prelude.{option_to_list}
use Rattle.aftr_base.specs.declared.event.Event.{Event}
use Rattle.aftr_base.specs.declared.event.EventKind.{EventKind}
use Rattle.aftr_base.specs.declared.row.LeaseRow.{LeaseRow}
use Rattle.cfg_text.specs.Accepted.{is_accepted}
use Rattle.frag_reasm.specs.declared.pieces.PartialDatagram.{PartialDatagram}
use Rattle.xlate_core.specs.Expiry.{at_moment}
use Rattle.aftr_base.specs.Row.{block_event}
use Rattle.xlate_core.specs.State.{State, Step}
use Rattle.xlate_core.specs.Step.{treatment}
use Rattle.xlate_core.proofs.Treatments.{by_way, keeping}
use Rattle.xlate_core.proofs.ValidStates.{grant_out, moment_accepted}
pub use Rattle.xlate_core.proofs.Clock.{raised}
pub use Rattle.xlate_core.proofs.WirePlaces.{IsNew}
use Rattle.xlate_core.proofs.WirePlaces.{grant_new}

pub record Opens (s : State) (t : Step) : Type 0 where
  pub config : t.state.config ≡ s.config
  pub clock : t.state.clock ≡ s.clock
  pub closings : t.closings ≡ []
  pub lease : Option LeaseRow
  pub openings : t.openings ≡ map (block_event true s.clock) (option_to_list lease)
  pub leases : t.state.leases ≡ s.leases ++ option_to_list lease
  pub new : IfSome lease (IsNew s.clock)

opens_none : (s : State) (kept : List PartialDatagram) (t : Step) → t.state ≡ keeping s kept → t.closings ≡ [] → t.openings ≡ [] → Opens s t
opens_none s kept t same closings openings = record {
  config = ap (λ (x : State). x.config) same;
  clock = ap (λ (x : State). x.clock) same;
  closings = closings;
  lease = None;
  openings = openings;
  leases = ap (λ (x : State). x.leases) same ∙ sym (append-nil s.leases);
  new = tt;
}

pub opens_treated : (s : State) (bytes : List ℕ) (kind : EventKind) → is_accepted s.config ≡ true → Opens s (treatment s kind bytes)
opens_treated s bytes kind ok = by_way (Opens s) s bytes kind (λ kept. record {
  rests = opens_none s kept _ refl refl refl;
  drops = λ cause. opens_none s kept _ refl refl refl;
  answers = λ got cause e is. opens_none s kept _ refl refl refl;
  relays = λ sent is. record {
    config = refl;
    clock = refl;
    closings = refl;
    lease = None;
    openings = refl;
    leases = sym (append-nil s.leases);
    new = tt;
  };
  delivers = λ d row by. record {
    config = refl;
    clock = refl;
    closings = refl;
    lease = None;
    openings = refl;
    leases = sym (append-nil s.leases);
    new = tt;
  };
  forwards = λ got g by abroad. record {
    config = refl;
    clock = refl;
    closings = refl;
    lease = g.lease;
    openings = refl;
    leases = refl;
    new = grant_new (grant_out ok by);
  };
  turns = λ got g row by turned. record {
    config = refl;
    clock = refl;
    closings = refl;
    lease = g.lease;
    openings = refl;
    leases = refl;
    new = grant_new (grant_out ok by);
  };
  holds = λ got g cause by refuses. record {
    config = refl;
    clock = refl;
    closings = refl;
    lease = g.lease;
    openings = refl;
    leases = refl;
    new = grant_new (grant_out ok by);
  };
})

-- the state that a record is treated in, and its own treatment
abbrev pub before_of : State → Event → State
before_of s e = (at_moment e.at.0 s).state

abbrev pub own_of : State → Event → Step
own_of s e = treatment (before_of s e) e.kind e.bytes

-- what a step opens, after what it closes
pub opens_step : (s : State) (e : Event) → is_accepted s.config ≡ true → Opens (before_of s e) (own_of s e)
opens_step s e ok = opens_treated (before_of s e) e.bytes e.kind (moment_accepted e.at.0 s ok)
