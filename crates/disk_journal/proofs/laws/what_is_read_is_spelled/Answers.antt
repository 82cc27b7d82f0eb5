use Rattle.disk_journal.proofs.Walks.{spelled_as_read}
use Rattle.disk_journal.proofs.laws.what_is_read_is_spelled.Goals as goal

pub returns : goal.returns
returns c = spelled_as_read
