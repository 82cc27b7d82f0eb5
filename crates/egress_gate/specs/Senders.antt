-- Whose packets they are, by what a log tells (RFC 6888 4).
use Rattle.std.specs.Prelude.{◌≡◌, ◌≤◌, List, [], ◌∷◌, All, IfSome}
use Rattle.aftr_base.specs.declared.told.Told.{Told}
use Rattle.aftr_base.specs.declared.value.Subscriber.{Subscriber}
use Rattle.xlate_core.specs.Sources.{sender_of, source_of}
use Rattle.xlate_core.specs.declared.step_out.Item.{Item}
use Rattle.trace_query.specs.Names.{names_of}

-- The one name of the source address and port of a packet that goes out, at its moment, is its subscriber's, and the horizon
-- reaches that moment.
abbrev pub IsNamed : Told → Item → Type 0
IsNamed told i = IfSome (sender_of i) (λ (owner : Subscriber).
    (names_of told (source_of i).addr (source_of i).port i.at.0 ≡ owner ∷ []) × (i.at.0 ≤ told.horizon.0))

-- so it is for each packet
abbrev pub NamesEachSender : Told → List Item → Type 0
NamesEachSender told items = All (IsNamed told) items
