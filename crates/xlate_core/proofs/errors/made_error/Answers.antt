use Rattle.std.proofs.Common.{ℕ, List, length, sym, ap, ◌∙◌, subst}
use Rattle.std.specs.Prelude.{◌≤◌, ◌++◌}
use Rattle.icmp_xlate.specs.Made.{made_error}
use Rattle.xlate_core.proofs.WholeErrors.{length_made, made_is}
use Rattle.xlate_core.proofs.errors.made_error.Goals as goal

pub make_error-requires : goal.make_error-requires
make_error-requires c = record { packet = (c.args.packet.now.0, c.args.packet.now.1, c.bytes.ensures.value, c.bytes.ensures.whole.plain) }

pub returns-clause-short : goal.returns-clause-short
returns-clause-short c =
    let h = c.args.packet.now.0 in
    let payload = c.args.packet.now.1 in
    let made = c.in_ok-make_error.ensures.ok h payload c.bytes.ensures.value c.bytes.ensures.whole.plain in
    let is = made ∙ ap (λ (l : List ℕ). l ++ made_error c.args.error h payload) c.new-made.ensures ∙ made_is c.args.error h payload c.requires in
    subst (λ (l : List ℕ). length l ≤ 56) (sym is) (length_made c.args.error h payload c.bytes.ensures.whole.plain)
