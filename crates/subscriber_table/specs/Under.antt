-- The subscriber of a softwire: the prefix of the subscriber's length under one of the aggregates.
use Rattle.std.specs.Prelude.{Option, Some, None, if◌then◌else◌}
use Rattle.std.specs.List.{list_any}
use Rattle.aftr_base.specs.Value.{is_under6, prefix_of}
use Rattle.aftr_base.specs.declared.value.Ip6.{Ip6}
use Rattle.aftr_base.specs.declared.value.Subscriber.{Subscriber}
use Rattle.cfg_text.specs.declared.config.Config.{Config}

abbrev pub subscriber_of : Config → Ip6 → Option Subscriber
subscriber_of c softwire =
    if list_any (λ p. is_under6 p softwire) c.aggregates then Some record { 0 = prefix_of c.subscriber_len softwire } else None
