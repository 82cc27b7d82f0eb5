-- A worked log: a subscriber's block after its first packet, and a horizon.
use Rattle.std.proofs.Common.{◌≡◌, ℕ, true, List, [], ◌∷◌, Ok, refl, sym, ap, ◌∙◌}
use Rattle.aftr_base.specs.Bytes.{be16, be32, be64, be128}
use Rattle.aftr_base.specs.Plan.{prefix6}
use Rattle.aftr_base.specs.Telling.{told_after, in_message_order, lease_told}
use Rattle.aftr_base.specs.Told.{nothing_told}
use Rattle.aftr_base.specs.Value.{ip4, moment}
use Rattle.aftr_base.specs.declared.told.Told.{Told}
use Rattle.aftr_base.specs.declared.event.LogEvent.{LogEvent}
use Rattle.aftr_base.specs.declared.event.LogEvent.TheVariants.{Block, Horizon}
use Rattle.aftr_base.specs.declared.value.Subscriber.{Subscriber}
use Rattle.disk_journal.specs.Frames.{file_header, empty_log}
use Rattle.disk_journal.specs.Walk.{walk_of, walk_from, walk_within, has_header, is_whole}
use Rattle.ipfix_writer.specs.Grammar.{sets_within, message_of}
use Rattle.lease_log.specs.Batch.{CanAppend}
use Rattle.lease_log.specs.Log.{Log, log_of}
use Rattle.lease_log.proofs.LogSteps.{log_inj}

abbrev pub subscriber : Subscriber
subscriber = record { 0 = prefix6 0x20010db8010000000000000000000000 56 }

-- the horizon, and the block of ports 1024 to 1535 of 192.0.2.8
abbrev pub events : List LogEvent
events = Horizon (moment 1000000) (moment 1002000) ∷ Block true subscriber (ip4 0xc0000208) 1024 1535 (moment 1000000) ∷ []

abbrev pub file : List ℕ
file =
    65 ∷ 70 ∷ 84 ∷ 82 ∷ 76 ∷ 79 ∷ 71 ∷ 1 ∷ 0 ∷ 0 ∷ 0 ∷ 0 ∷ 0 ∷ 0 ∷ 0 ∷ 0 ∷ 1 ∷ 0 ∷ 0 ∷ 0 ∷ 142 ∷ 0 ∷ 10 ∷ 0 ∷
    142 ∷ 0 ∷ 0 ∷ 3 ∷ 232 ∷ 0 ∷ 0 ∷ 0 ∷ 0 ∷ 0 ∷ 0 ∷ 0 ∷ 1 ∷ 0 ∷ 2 ∷ 0 ∷ 68 ∷ 1 ∷ 0 ∷ 0 ∷ 7 ∷ 1 ∷ 67 ∷ 0 ∷
    8 ∷ 0 ∷ 230 ∷ 0 ∷ 1 ∷ 0 ∷ 27 ∷ 0 ∷ 16 ∷ 0 ∷ 29 ∷ 0 ∷ 1 ∷ 0 ∷ 225 ∷ 0 ∷ 4 ∷ 1 ∷ 105 ∷ 0 ∷ 2 ∷ 1 ∷ 106 ∷ 0 ∷
    2 ∷ 1 ∷ 1 ∷ 0 ∷ 2 ∷ 1 ∷ 67 ∷ 0 ∷ 8 ∷ 128 ∷ 1 ∷ 0 ∷ 8 ∷ 0 ∷ 0 ∷ 126 ∷ 217 ∷ 1 ∷ 2 ∷ 0 ∷ 2 ∷ 1 ∷ 67 ∷ 0 ∷
    8 ∷ 128 ∷ 2 ∷ 255 ∷ 255 ∷ 0 ∷ 0 ∷ 126 ∷ 217 ∷ 1 ∷ 1 ∷ 0 ∷ 20 ∷ 0 ∷ 0 ∷ 0 ∷ 0 ∷ 0 ∷ 15 ∷ 66 ∷ 64 ∷ 0 ∷ 0 ∷ 0 ∷
    0 ∷ 0 ∷ 15 ∷ 74 ∷ 16 ∷ 1 ∷ 0 ∷ 0 ∷ 38 ∷ 0 ∷ 0 ∷ 0 ∷ 0 ∷ 0 ∷ 15 ∷ 66 ∷ 64 ∷ 16 ∷ 32 ∷ 1 ∷ 13 ∷ 184 ∷ 1 ∷ 0 ∷
    0 ∷ 0 ∷ 0 ∷ 0 ∷ 0 ∷ 0 ∷ 0 ∷ 0 ∷ 0 ∷ 0 ∷ 56 ∷ 192 ∷ 0 ∷ 2 ∷ 8 ∷ 4 ∷ 0 ∷ 5 ∷ 255 ∷ 0 ∷ []

abbrev pub told : Told
told = record { leases = lease_told subscriber (ip4 0xc0000208) 1024 1535 (moment 1000000) ∷ []; plans = []; horizon = moment 1002000; count = 2 }

pub tells : log_of file ≡ Ok record { told = told; tail = 164 }
unfolding file_header be16 be32 be64 be128 walk_of walk_from walk_within has_header is_whole sets_within message_of
tells = refl

pub empty_tells : log_of empty_log ≡ Ok record { told = nothing_told; tail = 17 }
unfolding file_header walk_of walk_from walk_within has_header
empty_tells = refl

-- ---- what may be appended

empty_told : (bytes : List ℕ) (t : Told) (tail : ℕ) → bytes ≡ empty_log → log_of bytes ≡ Ok record { told = t; tail = tail } → t ≡ nothing_told
empty_told bytes t tail empty is =
    ap (λ (l : Log). l.told) (log_inj record { told = t; tail = tail } record { told = nothing_told; tail = 17 } (sym is ∙ ap log_of empty ∙ empty_tells))

pub first_batch : (bytes : List ℕ) (t : Told) (tail : ℕ) → bytes ≡ empty_log → log_of bytes ≡ Ok record { told = t; tail = tail }
    → CanAppend bytes tail record { at = 1000000; count = t.count; events = events }
first_batch bytes t tail empty is =
    let none = empty_told bytes t tail empty is in
    record { told = t; next = told; log = is; count = refl; follows = ap (told_after (in_message_order events)) none }

worked_told : (bytes : List ℕ) (t : Told) (tail : ℕ) → bytes ≡ file → log_of bytes ≡ Ok record { told = t; tail = tail } → t ≡ told
worked_told bytes t tail worked is =
    ap (λ (l : Log). l.told) (log_inj record { told = t; tail = tail } record { told = told; tail = 164 } (sym is ∙ ap log_of worked ∙ tells))

-- a later horizon
abbrev pub later : List LogEvent
later = Horizon (moment 1002001) (moment 1004001) ∷ []

pub second_batch : (bytes : List ℕ) (t : Told) (tail : ℕ) → bytes ≡ file → log_of bytes ≡ Ok record { told = t; tail = tail }
    → CanAppend bytes tail record { at = 1002001; count = t.count; events = later }
second_batch bytes t tail worked is =
    let same = worked_told bytes t tail worked is in
    record {
      told = t;
      next = record told { horizon = moment 1004001; count = 3 };
      log = is;
      count = refl;
      follows = ap (told_after (in_message_order later)) same;
    }
