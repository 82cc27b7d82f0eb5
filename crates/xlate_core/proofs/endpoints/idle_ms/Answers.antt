use Rattle.xlate_core.proofs.Settings.{is_set}
use Rattle.xlate_core.proofs.endpoints.idle_ms.Goals as goal

pub returns-in-Udp-clause-most : goal.returns-in-Udp-clause-most
returns-in-Udp-clause-most c = (is_set c.args.config.now c.requires).udp

pub returns-in-Icmp-clause-most : goal.returns-in-Icmp-clause-most
returns-in-Icmp-clause-most c = (is_set c.args.config.now c.requires).icmp

pub returns-then-short_idle-clause-most : goal.returns-then-short_idle-clause-most
returns-then-short_idle-clause-most c = (is_set c.args.config.now c.requires).tcp_short

pub returns-else-short_idle-clause-most : goal.returns-else-short_idle-clause-most
returns-else-short_idle-clause-most c = (is_set c.args.config.now c.requires).tcp
