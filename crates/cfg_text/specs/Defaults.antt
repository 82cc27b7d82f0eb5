-- What a configuration of no keys says.
use Rattle.std.specs.Prelude.{[], ◌∷◌}
use Rattle.aftr_base.specs.Value.{ip6}
use Rattle.aftr_base.specs.Plan.{prefix4, prefix6}
use Rattle.cfg_text.specs.declared.config.Config.{Config}
use Rattle.cfg_text.specs.declared.config.Filter.TheVariants.{Independent}

abbrev pub defaults : Config
defaults = record {
  aftr = ip6 0x20010db8000000000000000000000001;
  subscriber_len = 56;
  aggregates = prefix6 0x20010db8010000000000000000000000 40 ∷ [];
  pool = prefix4 0xc0000208 30 ∷ [];
  block_size = 512;
  ratio = 0;
  max_blocks = 8;
  max_mappings = 4096;
  max_peers = 16384;
  hold_ms = 120000;
  horizon_ms = 2000;
  filter = Independent;
  udp_ms = 300000;
  tcp_ms = 7440000;
  tcp_short_ms = 240000;
  icmp_ms = 60000;
  softwire_mtu = 1500;
  public_mtu = 1500;
  log_limit = 1073741824;
}
