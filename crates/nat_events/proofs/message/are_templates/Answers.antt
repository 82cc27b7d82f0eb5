use Rattle.std.proofs.Common.{◌∙◌, ap, take, drop}
use Rattle.std.specs.Prelude.{bytes_eq}
use Rattle.nat_events.proofs.ViewLaws.{templates_behind}
use Rattle.nat_events.proofs.message.are_templates.Goals as goal

pub returns : goal.returns
returns c =
    c.eq.ensures ∙ ap (λ t. bytes_eq c.args.body.now (take 64 (drop 4 t))) c.template_set.ensures
    ∙ ap (bytes_eq c.args.body.now) templates_behind
