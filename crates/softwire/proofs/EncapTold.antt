-- What is told of a packet that is put into a softwire.
use Rattle.std.proofs.Common.{ℕ, ◌^◌, ◌≤◌, ◌<◌, List, length, arith}
use Rattle.aftr_base.specs.declared.value.Ip6.{Ip6}
use Rattle.softwire.specs.Cut.{room_of}
use Rattle.softwire.specs.Reading.{FitEnds, EncapTells}
use Rattle.softwire.proofs.FragmentReads.{fragments_arrive, fragments_show, carrier_shows, carrier_arrives}
use Rattle.softwire.proofs.Lengths.{carrier_alone, within_more, encapsulated_within}

pub told : (aftr softwire : Ip6) (class mtu id : ℕ) (inner : List ℕ) → FitEnds aftr softwire class → 56 ≤ mtu → mtu ≤ 65535 → id < 2 ^ 32
    → length inner ≤ 65535 → EncapTells aftr softwire class mtu id inner
told aftr softwire class mtu id inner fit room most numbered short =
    let n = room_of mtu 48 in
    let within = encapsulated_within aftr softwire class mtu id inner (omega arith) in
    record {
      fits = carrier_alone aftr softwire class mtu id inner;
      arrives = λ fits. carrier_arrives aftr softwire class inner fit short;
      whole = carrier_shows aftr softwire class inner fit.far;
      fragments_arrive = fragments_arrive aftr softwire class id n inner fit numbered short (omega arith) (omega arith);
      fragments = fragments_show aftr softwire class id n inner fit numbered short (omega arith);
      within = within;
      short = within_more mtu 65535 _ most within;
    }
