use Rattle.std.proofs.Common.{◌≡◌, length}
use Rattle.wire_ip6.specs.Chain.{chain_of}
use Rattle.wire_ip6.proofs.chain.follow.Given as goal

abbrev pub invariant-headers : goal.invariant-headers
invariant-headers l = chain_of l.last l.rest l.whole ≡ chain_of l.fn.next l.fn.bytes l.whole

abbrev pub decreases-headers : goal.decreases-headers
decreases-headers l = length l.rest
