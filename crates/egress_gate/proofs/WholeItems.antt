-- A packet that left whole is one of those whose records were sent.
use Rattle.std.proofs.Common.{◌≡◌, ℕ, zero, suc, ◌+◌, ◌≤◌, ◌<◌, List, [], ◌∷◌, ◌++◌, length, get_or, take, Option, Some, IfSome}
use Rattle.std.proofs.Common.{sym, ap, ◌∙◌, subst, arith, length-append, length-take}
use Rattle.std.specs.Prelude.{slice_get}
use Rattle.std.proofs.lemmas.List.{get_or_append_left}
use Rattle.std.proofs.lemmas.Option.{slice_get-get_or}
use Rattle.aftr_base.specs.Bytes.{be32, be64}
use Rattle.aftr_base.specs.declared.told.Told.{Told}
use Rattle.aftr_base.specs.declared.value.Subscriber.{Subscriber}
use Rattle.aftr_base.proofs.Founds.{some_inj}
use Rattle.xlate_core.specs.declared.step_out.Item.{Item}
use Rattle.trace_query.specs.Names.{names_of}
use Rattle.link_records.specs.Frames.{number_of}
use Rattle.egress_gate.specs.Answered.{IsWholeIn}
use Rattle.egress_gate.specs.Output.{item_bytes, output}
use Rattle.egress_gate.specs.Senders.{IsNamed}
use Rattle.xlate_core.specs.Sources.{sender_of, source_of}

some_record : (i : Item) → 1 ≤ length (item_bytes i)
some_record i =
    omega (arith, length-append (be32 (9 + length i.bytes)) (number_of i.side ∷ (be64 i.at.0 ++ i.bytes)))

some_bytes : (i : Item) (items : List Item) → 1 ≤ length (output (i ∷ items))
some_bytes i items = omega (arith, some_record i, length-append (item_bytes i) (output items))

none_less : (n : ℕ) → 1 ≤ n → n ≤ 0 → ⊥
none_less n some none = absurd (omega (arith, some, none))

within_front : (front rest : List Item) (k : ℕ) → k < length (front ++ rest)
    → length (output (take (suc k) (front ++ rest))) ≤ length (output front) → k < length front
within_front [] [] k place le = absurd (omega (arith, place))
within_front [] (i ∷ rest) k place le = absurd (none_less (length (output (i ∷ take k rest))) (some_bytes i (take k rest)) le)
within_front (i ∷ front) rest zero place le = omega arith
within_front (i ∷ front) rest (suc k) place le =
    let longer : length (item_bytes i ++ output (take (suc k) (front ++ rest))) ≤ length (item_bytes i ++ output front) = le in
    let shorter = within_front front rest k (omega (arith, place))
    (omega (
      arith,
      longer,
      length-append (item_bytes i) (output (take (suc k) (front ++ rest))),
      length-append (item_bytes i) (output front),
    )) in
    omega (arith, shorter)

-- nothing left whole where nothing was sent
pub none_whole : (past : List ℕ) (items : List Item) (k : ℕ) → IsWholeIn past past items k → ⊥
none_whole past items k is = absurd (omega (arith, within_front [] items k is.place (omega (arith, is.size, is.whole))))

-- the item is one of the first, where a part of what these give was sent
pub front_item : (past bytes : List ℕ) (front rest : List Item) (count k : ℕ) (i : Item) → bytes ≡ past ++ take count (output front)
    → IsWholeIn past bytes (front ++ rest) k → slice_get (front ++ rest) k ≡ Some i → (k < length front) × (i ≡ get_or front k i)
front_item past bytes front rest count k i is whole item =
    let most : whole.more ≤ length (output front) =
    omega (arith, whole.size, ap length is, length-append past (take count (output front)), length-take count (output front)) in
    let place = within_front front rest k whole.place (omega (arith, whole.whole, most)) in
    let here = some_inj i (get_or (front ++ rest) k i) (sym item ∙ slice_get-get_or (front ++ rest) k i whole.place) in
    (place, here ∙ get_or_append_left front rest i k place)

-- ---- so it is named

pub named_one : (told : Told) (i j : Item) (owner : Subscriber) → i ≡ j → IsNamed told j → sender_of i ≡ Some owner
    → (names_of told (source_of i).addr (source_of i).port i.at.0 ≡ owner ∷ []) × (i.at.0 ≤ told.horizon.0)
named_one told i j owner same named is =
    subst (λ (o : Option Subscriber). IfSome o (λ (s : Subscriber).
    (names_of told (source_of i).addr (source_of i).port i.at.0 ≡ s ∷ []) × (i.at.0 ≤ told.horizon.0))) is
    (subst (IsNamed told) (sym same) named)
