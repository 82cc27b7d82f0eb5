use Rattle.xlate_core.proofs.Lasting.{each_refusal_leaves, each_use_lasts}
use Rattle.xlate_core.proofs.laws.quotas_refuse.Goals as goal

pub returns : goal.returns
returns c = record { lasting = each_use_lasts; refusal = each_refusal_leaves }
