use Rattle.std.proofs.Common.{ap, ap₂, ◌∙◌, sym, arith, ℕ, List}
use Rattle.cfg_text.specs.declared.config.Config.{Config}
use Rattle.cfg_text.proofs.Facts.{facts}
use Rattle.wire_ip4.specs.Grammar.{Header}
use Rattle.xlate_core.specs.Errors.{error_about}
use Rattle.xlate_core.specs.State.{State}
use Rattle.xlate_core.proofs.Sending.{untold_so}
use Rattle.xlate_core.proofs.translator.Core.refuse.Goals as goal

pub answer-requires-clause-fits : goal.answer-requires-clause-fits
answer-requires-clause-fits c =
    let mtu = ap (λ (s : State). s.config.softwire_mtu) c.self.view_is in
    omega (arith, (facts c.self.inside.config c.self.invariant.0).softwire_least, mtu)

pub returns-in_default : goal.returns-in_default
returns-in_default c =
    let config = ap (λ (s : State). s.config) c.self.view_is in
    let packet = c.view.ensures.value in
    let same = ap₂ (λ (x : Config) (p : Header × List ℕ). error_about x p c.args.cause) config packet in
    untold_so c.args.self.now c.args.got.now c.args.cause c.args.out.now (sym c.in_default.is ∙ c.error_about.ensures.value ∙ same)
