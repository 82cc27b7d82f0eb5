-- What is sent.
use Rattle.std.specs.Prelude.{ℕ, List, flat_map}
use Rattle.xlate_core.specs.declared.step_out.Item.{Item}
use Rattle.link_records.specs.Frames.{record_bytes}

-- an item as it stands in the output
abbrev pub item_bytes : Item → List ℕ
item_bytes i = record_bytes i.side i.at.0 i.bytes

abbrev pub output : List Item → List ℕ
output items = flat_map item_bytes items
