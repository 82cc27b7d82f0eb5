-- Limits for one subscriber (RFC 6888 3, REQ-4).
use Rattle.std.specs.Prelude.{Bool, nat_lt}
use Rattle.cfg_text.specs.declared.config.Config.{Config}
use Rattle.quota.specs.declared.Usage.{Usage}

-- one more mapping, peer or block is within the limit
abbrev pub may_map : Usage → Config → Bool
may_map u config = nat_lt u.mappings config.max_mappings

abbrev pub may_peer : Usage → Config → Bool
may_peer u config = nat_lt u.peers config.max_peers

abbrev pub may_block : Usage → Config → Bool
may_block u config = nat_lt u.blocks config.max_blocks
