-- The causes of drops: their order, their names and their counts.
use Rattle.std.specs.Prelude.{ℕ, List, [], ◌∷◌, map, count_by, bytes_eq, codes}
use Rattle.aftr_base.specs.declared.event.DropCause.{DropCause}
use Rattle.aftr_base.specs.declared.event.DropCause.TheVariants.{Settling, Snapped, BadPacket, NotUs, NotTunnel, UnknownSubscriber}
use Rattle.aftr_base.specs.declared.event.DropCause.TheVariants.{PieceTooMany, PieceTooLong, PieceOverlap, Options, NoRoute, NoProtocol}
use Rattle.aftr_base.specs.declared.event.DropCause.TheVariants.{TtlSpent, TooBig, QuotaMappings, QuotaPeers, QuotaBlocks, AddressFull}
use Rattle.aftr_base.specs.declared.event.DropCause.TheVariants.{PoolEmpty, NoMapping, Filtered, BadChange, Lost}

-- the name that a report prints
abbrev pub name_of : DropCause → List ℕ
name_of Settling = codes "Settling"
name_of Snapped = codes "Snapped"
name_of BadPacket = codes "BadPacket"
name_of NotUs = codes "NotUs"
name_of NotTunnel = codes "NotTunnel"
name_of UnknownSubscriber = codes "UnknownSubscriber"
name_of PieceTooMany = codes "PieceTooMany"
name_of PieceTooLong = codes "PieceTooLong"
name_of PieceOverlap = codes "PieceOverlap"
name_of Options = codes "Options"
name_of NoRoute = codes "NoRoute"
name_of NoProtocol = codes "NoProtocol"
name_of TtlSpent = codes "TtlSpent"
name_of TooBig = codes "TooBig"
name_of QuotaMappings = codes "QuotaMappings"
name_of QuotaPeers = codes "QuotaPeers"
name_of QuotaBlocks = codes "QuotaBlocks"
name_of AddressFull = codes "AddressFull"
name_of PoolEmpty = codes "PoolEmpty"
name_of NoMapping = codes "NoMapping"
name_of Filtered = codes "Filtered"
name_of BadChange = codes "BadChange"
name_of Lost = codes "Lost"

abbrev pub causes : List DropCause
causes =
    Settling ∷ Snapped ∷ BadPacket ∷ NotUs ∷ NotTunnel ∷ UnknownSubscriber ∷ PieceTooMany ∷ PieceTooLong ∷ PieceOverlap ∷ Options ∷ NoRoute ∷ NoProtocol
    ∷ TtlSpent ∷ TooBig ∷ QuotaMappings ∷ QuotaPeers ∷ QuotaBlocks ∷ AddressFull ∷ PoolEmpty ∷ NoMapping ∷ Filtered ∷ BadChange ∷ Lost ∷ []

-- how many of the drops have this cause, and all counts in order
abbrev pub drop_count : List DropCause → DropCause → ℕ
drop_count drops cause = count_by (λ d. bytes_eq (name_of d) (name_of cause)) drops

unfoldable pub drop_counts : List DropCause → List ℕ
drop_counts drops = map (drop_count drops) causes
