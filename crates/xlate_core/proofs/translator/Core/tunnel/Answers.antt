use Rattle.cfg_text.proofs.Facts.{facts}
use Rattle.std.proofs.Common.{◌≡◌, true, subst}
use Rattle.cfg_text.specs.Accepted.{is_accepted}
use Rattle.xlate_core.specs.State.{State}
use Rattle.xlate_core.proofs.translator.Core.tunnel.Goals as goal

pub encap_cut-requires-clause-mtu : goal.encap_cut-requires-clause-mtu
encap_cut-requires-clause-mtu c = (facts c.self.inside.config c.self.invariant.0).softwire_least
