use Rattle.std.proofs.Common.{◌≡◌, ◌++◌, List, ℕ, ap, ap₂, ◌∙◌, sym}
use Rattle.std.specs.Prelude.{map, if◌then◌else◌}
use Rattle.std.proofs.lemmas.Result.{on_ok_weaker}
use Rattle.aftr_base.specs.declared.value.Ip6.{Ip6}
use Rattle.aftr_base.specs.declared.value.Side.TheVariants.{Softwire as SoftwireSide}
use Rattle.aftr_base.specs.declared.value.Subscriber.{Subscriber}
use Rattle.fragment_ids.specs.Ids.{counted, next_id}
use Rattle.softwire.specs.Cut.{encapsulated, is_cut}
use Rattle.xlate_core.specs.State.{State, item}
use Rattle.xlate_core.proofs.translator.Core.pass_in.Goals as goal

pub returns-clause-items : goal.returns-clause-items
returns-clause-items c =
    let s = c.args.self.now in
    let p = c.args.passage in
    let inner = c.args.inner.now in
    let old = c.args.items.now in
    let of = item s SoftwireSide p.from in
    on_ok_weaker c.emit.result (λ added row softwire owner. added
    ∙ ap (λ (x : State). old ++ map (item x SoftwireSide p.from) c.in_ok-packets.packets) c.in_ok-packets.ensures.state
    ∙ ap (λ (l : List (List ℕ)). old ++ map of l) c.in_ok-packets.ensures.packets
    ∙ ap₂ (λ (at : Ip6) (to : Subscriber). old ++ map of (encapsulated s.config.aftr at p.class s.config.softwire_mtu (next_id to s.cuts) inner))
    (sym softwire) (sym owner)) c.emit.ensures

pub returns-clause-state : goal.returns-clause-state
returns-clause-state c =
    let s = c.args.self.now in
    let inner = c.args.inner.now in
    on_ok_weaker c.emit.result (λ added row owner. c.in_ok-packets.ensures.state
    ∙ ap (λ (to : Subscriber). let x : State = record s {
      cuts = if is_cut s.config.softwire_mtu inner then counted to s.cuts else s.cuts;
    } in x) (sym owner)) c.emit.ensures
