-- The counts of drops by cause.
use Rattle.std.proofs.Common.{◌≡◌, ℕ, zero, suc, ◌+◌, ◌<◌, ◌≤◌, ◌^◌, Bool, true, false, cond, List, [], ◌∷◌, ◌++◌, map, length, get_or, set}
use Rattle.std.proofs.Common.{bytes_eq, EachIndex, slice_index, refl, sym, ap, ◌∙◌, add-zero, arith}
use Rattle.std.proofs.lemmas.List.Sums.{sum_by_push, count_by-le-length}
use Rattle.aftr_base.specs.declared.event.DropCause.{DropCause}
use Rattle.aftr_base.specs.declared.event.DropCause.TheVariants.{Settling, Snapped, BadPacket, NotUs, NotTunnel, UnknownSubscriber}
use Rattle.aftr_base.specs.declared.event.DropCause.TheVariants.{PieceTooMany, PieceTooLong, PieceOverlap, Options, NoRoute, NoProtocol}
use Rattle.aftr_base.specs.declared.event.DropCause.TheVariants.{TtlSpent, TooBig, QuotaMappings, QuotaPeers, QuotaBlocks, AddressFull}
use Rattle.aftr_base.specs.declared.event.DropCause.TheVariants.{PoolEmpty, NoMapping, Filtered, BadChange, Lost}
use Rattle.aftr_base.specs.contracts.event.DropCause.{the_type}
use Rattle.aftr_base.specs.Drops.{name_of, causes, drop_count, drop_counts}
use denote.Enum.Declared.{tag_of}

-- one more where the test says so
abbrev raised : List ℕ → List Bool → List ℕ
raised [] bs = []
raised (n ∷ ns) [] = n ∷ ns
raised (n ∷ ns) (b ∷ bs) = cond b (n + 1) n ∷ raised ns bs

abbrev same_name : DropCause → DropCause → Bool
same_name cause c = bytes_eq (name_of cause) (name_of c)

one_more : (n : ℕ) (b : Bool) → n + cond b 1 0 ≡ cond b (n + 1) n
one_more n true = refl
one_more n false = add-zero n

counts_after : (drops : List DropCause) (cause : DropCause) (cs : List DropCause)
    → map (drop_count (drops ++ cause ∷ [])) cs ≡ raised (map (drop_count drops) cs) (map (same_name cause) cs)
counts_after drops cause [] = refl
counts_after drops cause (c ∷ cs) =
    let here : drop_count (drops ++ cause ∷ []) c ≡ cond (same_name cause c) (drop_count drops c + 1) (drop_count drops c) =
    sum_by_push (λ d. cond (same_name d c) 1 0) drops cause ∙ one_more (drop_count drops c) (same_name cause c) in
    cc (counts_after drops cause cs)

raised_at : (drops : List DropCause) (cause : DropCause)
    → set (drop_counts drops) (tag_of the_type cause) (get_or (drop_counts drops) (tag_of the_type cause) 0 + 1)
    ≡ raised (drop_counts drops) (map (same_name cause) causes)
unfolding drop_counts
raised_at drops Settling = refl
raised_at drops Snapped = refl
raised_at drops BadPacket = refl
raised_at drops NotUs = refl
raised_at drops NotTunnel = refl
raised_at drops UnknownSubscriber = refl
raised_at drops PieceTooMany = refl
raised_at drops PieceTooLong = refl
raised_at drops PieceOverlap = refl
raised_at drops Options = refl
raised_at drops NoRoute = refl
raised_at drops NoProtocol = refl
raised_at drops TtlSpent = refl
raised_at drops TooBig = refl
raised_at drops QuotaMappings = refl
raised_at drops QuotaPeers = refl
raised_at drops QuotaBlocks = refl
raised_at drops AddressFull = refl
raised_at drops PoolEmpty = refl
raised_at drops NoMapping = refl
raised_at drops Filtered = refl
raised_at drops BadChange = refl
raised_at drops Lost = refl

-- one more drop raises the count at its cause's place
pub counts_push : (counts : List ℕ) (drops : List DropCause) (cause : DropCause) → counts ≡ drop_counts drops
    → set counts (tag_of the_type cause) (get_or counts (tag_of the_type cause) 0 + 1) ≡ drop_counts (drops ++ cause ∷ [])
unfolding drop_counts
counts_push counts drops cause e =
    ap (λ (ns : List ℕ). set ns (tag_of the_type cause) (get_or ns (tag_of the_type cause) 0 + 1)) e
    ∙ raised_at drops cause
    ∙ sym (counts_after drops cause causes)

-- no cause has more drops than there are
counts_le : (drops cs : List DropCause) (k : ℕ) → get_or (map (drop_count drops) cs) k 0 ≤ length drops
counts_le drops [] k = omega arith
counts_le drops (c ∷ cs) zero = count_by-le-length (λ d. same_name d c) drops
counts_le drops (c ∷ cs) (suc k) = counts_le drops cs k

pub counts_fit : (counts : List ℕ) (drops : List DropCause) → counts ≡ drop_counts drops → length drops < 2 ^ 63
    → EachIndex counts (λ k. slice_index counts k < 2 ^ 63)
unfolding drop_counts
counts_fit counts drops e few = λ k lt.
    let here : get_or counts k 0 ≡ get_or (drop_counts drops) k 0 = ap (λ (ns : List ℕ). get_or ns k 0) e in
    omega (arith, here, counts_le drops causes k, few)
