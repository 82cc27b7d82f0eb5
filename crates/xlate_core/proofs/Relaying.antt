-- Which mapping an error goes on by.
use Rattle.std.proofs.Common.{◌≡◌, true, false, Option, Some, None, Result, Ok, ok_or, ap}
use Rattle.aftr_base.specs.Attempt.{◌>>=◌}
use Rattle.aftr_base.specs.declared.event.DropCause.{DropCause}
use Rattle.aftr_base.specs.declared.event.DropCause.TheVariants.{NoMapping}
use Rattle.aftr_base.specs.declared.value.Ext.{Ext}
use Rattle.aftr_base.specs.declared.value.Subscriber.{Subscriber}
use Rattle.icmp_xlate.specs.Errors.{ErrorPacket, error_place, error_proto, forwarded_error, turned_error}
use Rattle.nat_mapping.specs.Rows.{Mapping}
use Rattle.wire_icmp.specs.Quoted.{report_bytes}
use Rattle.xlate_core.specs.Datagram.{inner_place}
use Rattle.xlate_core.specs.Errors.{error_from_public, error_in, quoted_row}
use Rattle.xlate_core.specs.Rows.{find_in}
use Rattle.xlate_core.specs.Sending.{Sending, to_public}
use Rattle.xlate_core.specs.State.{State}

-- the one at the place that it quotes
pub goes_in : (s : State) (e : ErrorPacket) (row : Mapping) → find_in (error_proto e) (error_place false e) s.rows ≡ Some row
    → error_from_public s e ≡ Ok (error_in s None row (forwarded_error false (inner_place row.key) e))
goes_in s e row finds =
    ap (λ (o : Option Mapping). ok_or o NoMapping >>= (λ (r : Mapping). Ok (error_in s None r (forwarded_error false (inner_place r.key) e)))) finds

-- back from an external place, as an error of this subscriber
abbrev pub back_from : State → Subscriber → Ext → ErrorPacket → Result Sending DropCause
back_from s owner src e =
    quoted_row s e (error_place false (forwarded_error true src e))
    >>= (λ (to : Mapping). Ok (error_in s (Some owner) to (turned_error src (inner_place to.key) e)))

pub turns_back : (s : State) (owner : Subscriber) (src : Ext) (e : ErrorPacket) (to : Mapping)
    → find_in (error_proto e) (error_place false (forwarded_error true src e)) s.rows ≡ Some to
    → back_from s owner src e ≡ Ok (error_in s (Some owner) to (turned_error src (inner_place to.key) e))
turns_back s owner src e to finds =
    ap (λ (o : Option Mapping). ok_or o NoMapping >>= (λ (r : Mapping). Ok (error_in s (Some owner) r (turned_error src (inner_place r.key) e)))) finds

-- and out from it
abbrev pub out_from : State → Subscriber → Ext → ErrorPacket → Sending
out_from s owner src e = let sent = forwarded_error true src e in to_public s owner sent.header (report_bytes sent.report)
