use Rattle.std.proofs.Common.{◌<◌, ◌++◌, Bool, true, sym, ap, ◌∙◌, arith}
use Rattle.std.proofs.lemmas.Bool.{lt-ltb}
use Rattle.cfg_text.proofs.Facts.{facts}
use Rattle.xlate_core.specs.State.{State}
use Rattle.xlate_core.specs.Step.{promise_by}
use Rattle.xlate_core.proofs.translator.Core.raise_horizon.Goals as goal

pub overflow_add-reach : goal.overflow_add-reach
overflow_add-reach c = omega (arith, c.self.invariant.1, (facts c.self.inside.config c.self.invariant.0).horizon_most)

pub returns-clause-log : goal.returns-clause-log
returns-clause-log c =
    let s = c.args.self.now in
    let log = c.args.log.now in
    let lt : s.horizon < s.clock =
    omega (arith, c.if-self.false, ap (λ (x : State). x.clock) c.self.view_is, ap (λ (x : State). x.horizon) c.self.view_is) in
    c.in_ok-push.ensures.ok ∙ ap (λ (x : State). log ++ promise_by true x) c.self.view_is
    ∙ ap (λ (b : Bool). log ++ promise_by b s) (sym (lt-ltb s.horizon s.clock lt))
