use Rattle.ingress.proofs.Arrivals.{public_brings_uncut, public_brings_whole, softwire_brings_uncut, softwire_brings_whole}
use Rattle.ingress.proofs.laws.arrivals_are_whole.Goals as goal

pub returns-clause-softwire_uncut : goal.returns-clause-softwire_uncut
returns-clause-softwire_uncut c = softwire_brings_uncut

pub returns-clause-softwire : goal.returns-clause-softwire
returns-clause-softwire c = softwire_brings_whole

pub returns-clause-public_uncut : goal.returns-clause-public_uncut
returns-clause-public_uncut c = public_brings_uncut

pub returns-clause-public : goal.returns-clause-public
returns-clause-public c = public_brings_whole
