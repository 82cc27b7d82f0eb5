use Rattle.std.proofs.Common.{◌<◌, length, sym, arith}
use Rattle.std.proofs.lemmas.Bool.Decides.{nat_tests}
use Rattle.lease_log.proofs.BatchLaws.{set_size}
use Rattle.lease_log.proofs.batch.set_len.Goals as goal

pub returns-else-is_empty-clause-value : goal.returns-else-is_empty-clause-value
returns-else-is_empty-clause-value c id =
    let some : 0 < length c.args.records.now = grind (arith, nat_tests) in
    sym (set_size id c.args.records.now some)
