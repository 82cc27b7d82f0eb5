-- Which pieces belong to one datagram, and whose limits it counts against.
use Rattle.std.specs.Prelude.{ℕ, Bool, true, false, ◌&&◌, ◌==◌, Option, Some, None, if◌then◌else◌}
use Rattle.aftr_base.specs.Value.{ip4_eq, ip6_eq, subscriber_eq}
use Rattle.aftr_base.specs.declared.value.Subscriber.{Subscriber}
use Rattle.frag_reasm.specs.declared.key.PieceKey.{PieceKey}
use Rattle.frag_reasm.specs.declared.key.PieceKey.TheVariants.{Six, Inner, Public}

-- the same datagram: the same family, and addresses, protocol and identification alike (RFC 791 3.2, RFC 8200 4.5)
abbrev pub key_eq : PieceKey → PieceKey → Bool
key_eq (Six s a b i) (Six t c d j) = subscriber_eq s t && ip6_eq a c && ip6_eq b d && i == j
key_eq (Inner s w a b i p) (Inner t v c d j q) = subscriber_eq s t && ip6_eq w v && ip4_eq a c && ip4_eq b d && i == j && p == q
key_eq (Public a b i p) (Public c d j q) = ip4_eq a c && ip4_eq b d && i == j && p == q
key_eq (Six s a b i) k = false
key_eq (Inner s w a b i p) k = false
key_eq (Public a b i p) k = false

abbrev pub is_six : PieceKey → Bool
is_six (Six s a b i) = true
is_six (Inner s w a b i p) = false
is_six (Public a b i p) = false

-- whose limit a datagram counts against: a subscriber's, for both families together, or the public side's
abbrev pub holder_of : PieceKey → Option Subscriber
holder_of (Six s a b i) = Some s
holder_of (Inner s w a b i p) = Some s
holder_of (Public a b i p) = None

abbrev pub holder_eq : Option Subscriber → Option Subscriber → Bool
holder_eq (Some s) (Some t) = subscriber_eq s t
holder_eq None None = true
holder_eq (Some s) None = false
holder_eq None (Some t) = false

abbrev pub same_holder : PieceKey → PieceKey → Bool
same_holder k l = holder_eq (holder_of k) (holder_of l)

-- how many datagrams a subscriber, or the public side, may have in pieces
abbrev pub key_limit : PieceKey → ℕ
key_limit (Six s a b i) = 8
key_limit (Inner s w a b i p) = 8
key_limit (Public a b i p) = 1024

-- where the bytes of the longest datagram end: with its header of 20 bytes an IPv4 one has 65,535 (RFC 791 3.1)
abbrev pub end_limit : PieceKey → ℕ
end_limit k = if is_six k then 65535 else 65515
