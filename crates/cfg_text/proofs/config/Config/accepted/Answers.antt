use Rattle.std.proofs.Common.{sym, ◌∙◌}
use Rattle.cfg_text.proofs.Facts.{facts}
use Rattle.cfg_text.proofs.config.Config.accepted.Goals as goal

pub returns-clause-facts : goal.returns-clause-facts
returns-clause-facts c = λ e. facts c.args.self.now (sym c.has_accepted_values.ensures ∙ e)
