use Rattle.std.proofs.Common.{◌≡◌, ◌++◌, ℕ, List, Vec, Global, map}
use Rattle.std.specs.Vec.Iter.{into_iter_items}
use Rattle.xlate_core.specs.State.{item}
use Rattle.xlate_core.proofs.translator.Core.emit.Given as goal

-- what was added and the packets that are left come to all of them
abbrev pub invariant-loop-bytes : goal.invariant-loop-bytes
invariant-loop-bytes l = record {
  added : (let of = item l.self l.side l.owner in
      l.items ++ map of (map (λ (v : Vec ℕ Global). v.items) (into_iter_items l.bytes-iterator)) ≡ l.fn.items ++ map of l.fn.packets);
}
