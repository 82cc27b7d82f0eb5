-- A fragment in the bytes that it is made of.
use Rattle.std.proofs.Common.{◌≡◌, ℕ, ◌+◌, List, [], ◌++◌, length, refl, sym, ap, ◌∙◌, arith, append_assoc}
use Rattle.aftr_base.specs.Bytes.{be16, be32, be128}
use Rattle.aftr_base.specs.declared.value.Ip6.{Ip6}
use Rattle.wire_ip6.specs.declared.fields.Ip6Fields.{Ip6Fields}
use Rattle.wire_ip6.specs.declared.fields.FragHead.{FragHead}
use Rattle.wire_ip6.specs.Grammar.{header_bytes, frag_bytes}
use Rattle.softwire.specs.Tunnel.{tunnel_fields, tunnel_packet}

pub header_long : (f : Ip6Fields) → length (header_bytes f) ≡ 40
unfolding be16 be32 be128
header_long f = refl

pub behind_long : (h : FragHead) (part : List ℕ) → length (frag_bytes h ++ part) ≡ 8 + length part
unfolding be16 be32
behind_long h part = omega arith

pub fragment_made : (aftr softwire : Ip6) (class : ℕ) (h : FragHead) (part none head front bytes all : List ℕ) → none ≡ []
    → head ≡ none ++ header_bytes (tunnel_fields aftr softwire class 44 (8 + length part))
    → front ≡ head ++ frag_bytes h → bytes ≡ front → all ≡ bytes ++ part
    → all ≡ tunnel_packet aftr softwire class 44 (frag_bytes h ++ part)
fragment_made aftr softwire class h part none head front bytes all empty first second third last =
    let header = header_bytes (tunnel_fields aftr softwire class 44 (8 + length part)) in
    last ∙ ap (λ (l : List ℕ). l ++ part) (third ∙ second ∙ ap (λ (l : List ℕ). l ++ frag_bytes h) (first
    ∙ ap (λ (l : List ℕ). l ++ header) empty))
    ∙ append_assoc header (frag_bytes h) part
    ∙ ap (λ (n : ℕ). header_bytes (tunnel_fields aftr softwire class 44 n) ++ (frag_bytes h ++ part)) (sym (behind_long h part))
