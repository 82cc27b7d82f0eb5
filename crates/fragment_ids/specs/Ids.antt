-- The identifications of packets that are cut, so that none comes again soon (RFC 8200 4.5).
use Rattle.std.specs.Prelude.{◌≡◌, ℕ, ◌+◌, ◌%◌, ◌^◌, Bool, ◌||◌, nat_lt, List, [], ◌∷◌, count_by, if◌then◌else◌}
use Rattle.std.specs.List.{list_any}
use Rattle.aftr_base.specs.Value.{subscriber_eq}
use Rattle.aftr_base.specs.declared.value.Subscriber.{Subscriber}
use Rattle.fragment_ids.specs.declared.Count.{Count}

-- the counts in order of first use, and for how many more subscribers there is room
pub record Counts : Type 0 where
  pub counts : List Count
  pub spare : ℕ

abbrev pub is_for : Subscriber → Count → Bool
is_for to c = subscriber_eq to c.to

-- The identification of the next packet to a subscriber that is cut: how many were cut before, modulo 2^32.
abbrev pub next_id : Subscriber → List Count → ℕ
next_id to [] = 0
next_id to (c ∷ counts) = if is_for to c then c.cuts else next_id to counts

-- one more packet to it was cut; a subscriber that had none stands behind the others
abbrev pub counted : Subscriber → List Count → List Count
counted to [] = record { to = to; cuts = 1 } ∷ []
counted to (c ∷ counts) =
    if is_for to c then record c { cuts = (c.cuts + 1) % 2 ^ 32 } ∷ counts else c ∷ counted to counts

-- one more packet to each of these in turn
abbrev pub counted_all : List Subscriber → List Count → List Count
counted_all [] counts = counts
counted_all (to ∷ tos) counts = counted_all tos (counted to counts)

-- from here on each subscriber's identifications count the packets to it
abbrev pub CountsEach : List Count → Type 0
CountsEach counts =
    (s : Subscriber) (tos : List Subscriber) → next_id s (counted_all tos counts) ≡ count_by (subscriber_eq s) tos % 2 ^ 32

-- it is counted already, or there is room for it
abbrev pub has_room : Subscriber → Counts → Bool
has_room to c = list_any (is_for to) c.counts || nat_lt 0 c.spare
