use Rattle.std.proofs.Common.{◌≡◌, ℕ, List, Some, sym, ap, subst, ◌∙◌}
use Rattle.std.specs.Prelude.{option_map}
use Rattle.aftr_base.specs.Bytes.{IsBytes}
use Rattle.wire_ip4.proofs.GrammarLaws.{all_after}
use Rattle.wire_l4.specs.Grammar.{echo_bytes}
use Rattle.wire_l4.proofs.Replacing.{echo_again}
use Rattle.wire_icmp.specs.Quoted.{Report, report_of, SpellsReport, quoted_of, shown, shown_quoted}
use Rattle.wire_icmp.proofs.Reports.{report_spelled, report_accepted, report_shown}
use Rattle.wire_icmp.proofs.view.IcmpView.embedded.Goals as goal

pub returns-clause-value : goal.returns-clause-value
returns-clause-value c =
    let bytes : List ℕ = c.self.inside.bytes.now in
    let fits : IsBytes bytes = c.self.invariant.1 in
    let same : bytes ≡ echo_bytes c.args.self.now = echo_again bytes fits c.self.invariant.0 ∙ ap echo_bytes c.self.view_is in
    c.quoted_in.ensures
    ∙ ap (λ (l : List ℕ). option_map shown_quoted (quoted_of l)) (all_after 8 bytes)
    ∙ sym (report_shown bytes) ∙ ap (λ (l : List ℕ). option_map shown (report_of l)) same

pub returns-clause-spelled : goal.returns-clause-spelled
returns-clause-spelled c =
    let bytes : List ℕ = c.self.inside.bytes.now in
    let fits : IsBytes bytes = c.self.invariant.1 in
    let same : bytes ≡ echo_bytes c.args.self.now = echo_again bytes fits c.self.invariant.0 ∙ ap echo_bytes c.self.view_is in
    subst (λ (l : List ℕ). (r : Report) → report_of l ≡ Some r → SpellsReport l r) same
    (λ r. report_spelled bytes r fits c.self.invariant.0)

pub returns-clause-accepts : goal.returns-clause-accepts
returns-clause-accepts c = λ r. report_accepted (echo_bytes c.args.self.now) r
