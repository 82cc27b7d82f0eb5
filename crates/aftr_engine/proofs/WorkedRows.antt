-- The definitions, computed on a worked packet: one datagram, its translation, its record, and what they tell.
use Rattle.std.proofs.Common.{◌≡◌, ℕ, List, [], ◌∷◌, ◌++◌, refl}
use Rattle.std.specs.Prelude.{Option, Some, flat_map, length, true}
use Rattle.std.specs.Int.{bytes_high_first}
use Rattle.aftr_base.specs.Bytes.{be16, be32, be64, be128}
use Rattle.aftr_base.specs.Plan.{prefix6}
use Rattle.aftr_base.specs.Told.{nothing_told}
use Rattle.aftr_base.specs.Value.{ip4, moment}
use Rattle.aftr_base.specs.declared.event.DropCause.TheVariants.{Settling, NoMapping}
use Rattle.aftr_base.specs.declared.event.LogEvent.TheVariants.{Block, Horizon}
use Rattle.aftr_base.specs.declared.row.LeaseRow.{LeaseRow}
use Rattle.aftr_base.specs.declared.value.Moment.{Moment}
use Rattle.aftr_base.specs.declared.value.Subscriber.{Subscriber}
use Rattle.cfg_text.specs.Defaults.{defaults}
use Rattle.ingress.specs.PublicSide.{public_arrival}
use Rattle.ingress.specs.SoftwireSide.{softwire_arrival}
use Rattle.wire_ip6.specs.Chain.{chain_within}
use Rattle.xlate_core.specs.Run.{Run, run, start}
use Rattle.xlate_core.specs.declared.step_out.Item.{Item}
use Rattle.link_records.specs.Frames.{BadAt, frames_of, record_bytes}
use Rattle.aftr_engine.specs.session.EndToEnd.{told_behind}
use Rattle.trace_query.specs.Names.{names_of}

-- this many bytes, written as one number
abbrev hex : ℕ → ℕ → List ℕ
hex len n = bytes_high_first len n

abbrev run_of : List ℕ → Run
run_of input = run (start defaults nothing_told) (frames_of input).events

abbrev sent : List ℕ → List ℕ
sent input = flat_map (λ (i : Item). record_bytes i.side i.at.0 i.bytes) (run_of input).items

-- ---- out

abbrev inner : List ℕ
inner = hex 32 0x450000200001000040117ec4c0000002cb00710513880035000c2b4a61626364

abbrev packet : List ℕ
packet = hex 40 0x600000000020044020010db801000000000000000000000220010db8000000000000000000000001 ++ inner

abbrev frame : List ℕ
frame = hex 13 0x000000510100000000000f4240 ++ packet

abbrev translated_frame : List ℕ
translated_frame = hex 13 0x000000290200000000000f4240 ++ hex 32 0x45000020000100003f117dbec0000208cb00710504000035000c38cc61626364

one_packet : sent frame ≡ translated_frame
unfolding be16 be32 be64 be128 chain_within softwire_arrival public_arrival
one_packet = refl

-- the horizon goes two seconds past the packet's moment, and the block opens
one_record : (run_of frame).log
    ≡ Horizon (moment 1000000) (moment 1002000)
    ∷ Block true record { 0 = prefix6 0x20010db8010000000000000000000000 56 } (ip4 0xc0000208) 1024 1535 (moment 1000000) ∷ []
unfolding be16 be32 be64 be128 chain_within softwire_arrival public_arrival
one_record = refl

-- a Destination Options header before the inner packet is passed over (RFC 8200 4.6)
with_options : sent (hex 13 0x000000590100000000000f4240
    ++ hex 40 0x6000000000283c4020010db801000000000000000000000220010db8000000000000000000000001 ++ hex 8 0x0400010400000000 ++ inner)
    ≡ translated_frame
unfolding be16 be32 be64 be128 chain_within softwire_arrival public_arrival
with_options = refl

-- a second packet of the same inner place goes out from the same external place, and opens nothing
abbrev other_remote : List ℕ
other_remote =
    frame ++ hex 13 0x000000510100000000000f4434
    ++ hex 40 0x600000000020044020010db801000000000000000000000220010db8000000000000000000000001
    ++ hex 32 0x450000200001000040117ec3c0000002cb00710613880035000c2b4961626364

same_place : sent other_remote
    ≡ translated_frame ++ hex 13 0x000000290200000000000f4434 ++ hex 32 0x45000020000100003f117dbdc0000208cb00710604000035000c38cb61626364
unfolding be16 be32 be64 be128 chain_within softwire_arrival public_arrival
same_place = refl

at_moment_zero : (run_of (hex 13 0x00000051010000000000000000 ++ packet)).drops ≡ Settling ∷ []
unfolding be16 be32 be64 be128 chain_within softwire_arrival public_arrival
at_moment_zero = refl

cut_short : (frames_of (frame ++ hex 20 0)).stop ≡ BadAt 85
unfolding be16 be32 be64 be128 chain_within softwire_arrival public_arrival
cut_short = refl

-- ---- the way back, and expiry

abbrev reply : ℕ → List ℕ
reply at = hex 5 0x0000002902 ++ hex 8 at ++ hex 32 0x450000200007000040117cb8cb007105c000020800350400000c38cc61626364

delivered : sent (frame ++ reply 1000400) ≡ translated_frame ++ (hex 13 0x000000510100000000000f43d0
    ++ hex 40 0x600000000020044020010db800000000000000000000000120010db8010000000000000000000002
    ++ hex 32 0x45000020000700003f117fbecb007105c000000200351388000c2b4a61626364)
unfolding be16 be32 be64 be128 chain_within softwire_arrival public_arrival
delivered = refl

in_time : (run_of (frame ++ reply 1299999)).drops ≡ []
unfolding be16 be32 be64 be128 chain_within softwire_arrival public_arrival
in_time = refl

-- at the deadline the mapping goes, and its lease closes
too_late : ((run_of (frame ++ reply 1300000)).drops ≡ NoMapping ∷ []) × (length (run_of (frame ++ reply 1300000)).log ≡ 3)
unfolding be16 be32 be64 be128 chain_within softwire_arrival public_arrival
too_late = (refl, refl)

-- ---- who it was

abbrev subscriber_a : Subscriber
subscriber_a = record { 0 = prefix6 0x20010db8010000000000000000000000 56 }

abbrev lease : Option Moment → LeaseRow
lease until = record { owner = subscriber_a; addr = ip4 0xc0000208; first = 1024; last = 1535; since = moment 1000000; until = until }

told : told_behind nothing_told (run_of (frame ++ reply 1300000))
    ≡ record { leases = lease (Some (moment 1300000)) ∷ []; plans = []; horizon = moment 1002000; count = 3 }
unfolding be16 be32 be64 be128 chain_within softwire_arrival public_arrival
told = refl

named : names_of (told_behind nothing_told (run_of frame)) (ip4 0xc0000208) 1024 1000000 ≡ subscriber_a ∷ []
unfolding be16 be32 be64 be128 chain_within softwire_arrival public_arrival
named = refl
