use Rattle.std.proofs.Common.{◌≡◌, drop}
use Rattle.xlate_core.specs.Endpoints.{state_among}
use Rattle.xlate_core.proofs.endpoints.state_among.Given as goal

-- none was this endpoint so far
abbrev pub invariant-loop-peer : goal.invariant-loop-peer
invariant-loop-peer l = state_among l.proto l.remote (drop l.peer-index l.peers) ≡ state_among l.proto l.remote l.peers
