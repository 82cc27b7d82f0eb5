use Rattle.std.proofs.Common.{◌+◌, arith}
use Rattle.std.specs.Vec.{vec_len}
use Rattle.nat_mapping.proofs.Marks.{none_at_first, none_marked}
use Rattle.nat_mapping.proofs.taken_ports.TakenPorts.begin.Goals as goal

pub returns-then-self-lt4294967295 : goal.returns-then-self-lt4294967295
returns-then-self-lt4294967295 c =
    let was = c.self.inside in
    none_marked was.generation (was.generation + 1) was.stamps.items (omega arith) c.self.invariant.1

pub returns-else-self-lt4294967295 : goal.returns-else-self-lt4294967295
returns-else-self-lt4294967295 c =
    none_at_first (vec_len c.self.inside.stamps) c.fill.new.self.items (c.fill.ensures.items (λ stamp is. is))
