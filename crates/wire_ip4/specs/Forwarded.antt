-- A header as it goes on after a router replaced one address (RFC 791 3.2, RFC 3022 4.1, RFC 1624).
use Rattle.std.specs.Prelude.{ℕ, ◌+◌, ◌-◌, ◌*◌, Bool, true, false, List, ◌∷◌, if◌then◌else◌}
use Rattle.aftr_base.specs.Checksum.{adjusted, address_words}
use Rattle.aftr_base.specs.declared.value.Ip4.{Ip4}
use Rattle.wire_ip4.specs.Grammar.{Header}

-- the source address of a header, or its destination
abbrev pub address_on : Bool → Header → Ip4
address_on source h = if source then h.fields.src else h.fields.dst

-- the same header with that address replaced
abbrev pub with_address : Bool → Ip4 → Header → Header
with_address source addr h = record h {
  fields = record h.fields {
    src = if source then addr else h.fields.src;
    dst = if source then h.fields.dst else addr;
  };
}

-- the same header with a TTL one lower
abbrev pub one_hop_on : Header → Header
one_hop_on h = record h { fields = record h.fields { ttl = h.fields.ttl - 1 } }

-- the 16-bit word of TTL and protocol
abbrev pub ttl_word : Header → ℕ
ttl_word h = 256 * h.fields.ttl + h.fields.proto

-- the words that change under way
abbrev pub changing_words : Bool → Header → List ℕ
changing_words source h = ttl_word h ∷ address_words (address_on source h).0

-- The header as it goes on: one address replaced, the TTL one lower, the checksum updated for these
-- words alone.
abbrev pub forwarded : Bool → Ip4 → Header → Header
forwarded source addr h =
    let moved = one_hop_on (with_address source addr h) in
    record moved { sum = adjusted h.sum (changing_words source h) (changing_words source moved) }

-- The header with one address replaced, and the checksum updated for that alone.
abbrev pub readdressed : Bool → Ip4 → Header → Header
readdressed source addr h = record (with_address source addr h) {
  sum = adjusted h.sum (address_words (address_on source h).0) (address_words addr.0);
}

-- The header as it turns back to the side that it came from (RFC 4787 6): one hop on from one address, and then to another.
abbrev pub hairpinned : Ip4 → Ip4 → Header → Header
hairpinned src dst h = readdressed false dst (forwarded true src h)
