-- An ICMP error whose quoted packet is translated with it (RFC 5508 4, RFC 3022 4.3).
use Rattle.std.specs.Prelude.{◌≡◌, ℕ, Bool, not, List, [], ◌∷◌, ◌++◌, Option, Some, option_map, option_to_list, if◌then◌else◌}
use Rattle.aftr_base.specs.Checksum.{adjusted}
use Rattle.aftr_base.specs.declared.value.Ext.{Ext}
use Rattle.aftr_base.specs.declared.value.Proto.TheVariants.{Tcp}
use Rattle.wire_ip4.specs.Grammar.{Header, IsHeader, header_bytes}
pub use Rattle.wire_ip4.specs.Forwarded.{readdressed}
use Rattle.wire_l4.specs.Grammar.{Segment, Transport, Ports, Query}
use Rattle.wire_l4.specs.Places.{place_words, replaced, segment_sum}
use Rattle.wire_icmp.specs.Quoted.{Quoted, Report, SpellsReport, quoted_place, report_bytes}

-- a TCP segment after the place on one side became another
abbrev pub segment_with : Bool → Ext → Ext → Segment → Segment
segment_with source old new s = record s {
  src = if source then new.port else s.src;
  dst = if source then s.dst else new.port;
  sum = option_map (segment_sum Tcp old new) s.sum;
}

-- the quoted packet after the place on one side became another
abbrev pub quoted_with : Bool → Ext → Quoted → Quoted
quoted_with source new q =
    record { header = readdressed source new.addr q.header; front = replaced source (quoted_place source q) new q.front }

-- the checksum of a transport, where it is there
abbrev pub sum_in : Transport → Option ℕ
sum_in (Ports p s) = s.sum
sum_in (Query e) = Some e.sum

-- the words of a quoted packet that a new place may change, where this is its place, checksums among them
abbrev pub words_with : Ext → Quoted → List ℕ
words_with place q = q.header.sum ∷ (place_words place ++ option_to_list (sum_in q.front))

abbrev pub quoted_words : Bool → Quoted → List ℕ
quoted_words source q = words_with (quoted_place source q) q

-- The error after the place on one side of the packet that it quotes became another: its checksum follows
-- all the words that may have changed (RFC 1624).
abbrev pub translated : Bool → Ext → Report → Report
translated source new r =
    let q = quoted_with source new r.quoted in
    record r { quoted = q; sum = adjusted r.sum (quoted_words source r.quoted) (quoted_words source q) }

-- ---- whole packets

-- The bytes are a header without options and an error that quotes a packet.
pub record SpellsError (packet : List ℕ) (h : Header) (r : Report) : Type 0 where
  pub header : IsHeader h
  pub plain : h.options ≡ []
  pub reports : SpellsReport (report_bytes r) r
  pub spelled : packet ≡ header_bytes h ++ report_bytes r

-- The packet's address on one side became another, and the place on the other side of what it quotes.
abbrev pub error_with : Bool → Ext → Header → Report → List ℕ
error_with source new h r =
    header_bytes (readdressed source new.addr h) ++ report_bytes (translated (not source) new r)
