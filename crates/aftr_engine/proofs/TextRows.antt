-- The words of a command and the lines of an answer, computed.
use Rattle.std.proofs.Common.{◌≡◌, List, [], ◌∷◌, ◌++◌, refl}
use Rattle.std.specs.Prelude.{Option, Some, None, codes}
use Rattle.std.specs.Fmt.{digits}
use Rattle.aftr_base.specs.Plan.{prefix6}
use Rattle.aftr_base.specs.Value.{ip4, moment}
use Rattle.aftr_base.specs.declared.row.LeaseRow.{LeaseRow}
use Rattle.aftr_base.specs.declared.told.Told.{Told}
use Rattle.aftr_base.specs.declared.value.Moment.{Moment}
use Rattle.aftr_engine.specs.declared.words.Command.TheVariants.{Trace}
use Rattle.aftr_engine.specs.report.Lines.{trace_line, told_text}
use Rattle.trace_query.specs.Names.{name_of}
use Rattle.aftr_engine.specs.words.Words.{command_for, address_of}

abbrev lease : Option Moment → LeaseRow
lease until = record {
  owner = record { 0 = prefix6 0x20010db8010000000000000000000000 56 };
  addr = ip4 0xc0000208;
  first = 1024;
  last = 1535;
  since = moment 1000000;
  until = until;
}

abbrev told : List LeaseRow → Told
told leases = record { leases = leases; plans = []; horizon = moment 1002000; count = 3 }

traced : trace_line (name_of (told (lease None ∷ [])) (ip4 0xc0000208) 1024 1002000)
    ≡ codes "named 2001:0db8:0100:0000:0000:0000:0000:0000/56\n"
unfolding digits
traced = refl

not_held : trace_line (name_of (told (lease None ∷ [])) (ip4 0xc0000208) 1536 1000000) ≡ codes "unheld\n"
not_held = refl

past_horizon : trace_line (name_of (told (lease None ∷ [])) (ip4 0xc0000208) 1024 1002001) ≡ codes "beyond 1002000\n"
unfolding digits
past_horizon = refl

listed : told_text (told (lease (Some (moment 1300000)) ∷ lease None ∷ []))
    ≡ codes "lease 192.0.2.8 1024 1535 1000000 1300000 2001:0db8:0100:0000:0000:0000:0000:0000/56\n"
    ++ codes "lease 192.0.2.8 1024 1535 1000000 open 2001:0db8:0100:0000:0000:0000:0000:0000/56\n"
    ++ codes "horizon 1002000\n"
unfolding digits
listed = refl

asked : command_for (codes "trace" ∷ codes "log" ∷ codes "192.0.2.8" ∷ codes "01024" ∷ codes "1000000" ∷ [])
    ≡ Some (Trace (ip4 0xc0000208) 1024 (moment 1000000))
asked = refl

no_port : command_for (codes "trace" ∷ codes "log" ∷ codes "192.0.2.8" ∷ codes "65536" ∷ codes "0" ∷ []) ≡ None
no_port = refl

no_address : address_of (codes "192.0.02.8") ≡ None
no_address = refl
