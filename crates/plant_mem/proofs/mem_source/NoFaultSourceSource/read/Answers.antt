use Rattle.std.proofs.Common.{◌≡◌, ◌+◌, ◌≤◌, length, take, drop, rules, arith}
use Rattle.std.proofs.lemmas.Grind.{common_steps}
use Rattle.plant_mem.proofs.SourceReads.{takes_next}
use Rattle.plant_mem.proofs.mem_source.NoFaultSourceSource.read.Goals as goal

pub returns-clause-bytes : goal.returns-clause-bytes
returns-clause-bytes c =
    let within : c.args.self.now.at + c.min-count.result ≤ length c.args.self.now.bytes = search rules in
    let copied : c.copy_from_slice.new.self ≡ take c.min-count.result (drop c.args.self.now.at c.args.self.now.bytes) = grind (arith, common_steps) in
    takes_next _ _ _ _ c.args.buf.now within copied (λ room more. search rules)
