use Rattle.recovery.proofs.Naming.{each_closing_is_believed, each_closing_keeps_names, recovered_keeps_names}
use Rattle.recovery.proofs.closings_keep_names.Goals as goal

pub returns-clause-believed : goal.returns-clause-believed
returns-clause-believed c = each_closing_is_believed

pub returns-clause-kept : goal.returns-clause-kept
returns-clause-kept c = each_closing_keeps_names

pub returns-clause-recovered : goal.returns-clause-recovered
returns-clause-recovered c = recovered_keeps_names
