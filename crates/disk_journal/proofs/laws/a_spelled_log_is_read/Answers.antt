use Rattle.disk_journal.proofs.Walks.{read_as_spelled}
use Rattle.disk_journal.proofs.laws.a_spelled_log_is_read.Goals as goal

pub returns : goal.returns
returns c = read_as_spelled
