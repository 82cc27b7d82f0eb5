use Rattle.std.proofs.Common.{◌≡◌, Bool, true, false, not, length, Some, refl, sym, ap, ◌∙◌, rules}
use Rattle.std.specs.Prelude.{option_map, ◌==◌}
use Rattle.std.proofs.lemmas.Bool.{eqb-true}
use Rattle.aftr_base.specs.Value.{place}
use Rattle.wire_ip4.specs.declared.fields.Ip4Fields.{Ip4Fields}
use Rattle.wire_ip4.specs.Grammar.{Header}
use Rattle.wire_icmp.specs.Quoted.{ends_of, quoted_transport}
use Rattle.wire_icmp.proofs.Reports.{quoted_shown}
use Rattle.wire_icmp.proofs.quoted.quoted_in.Goals as goal

passed : (b : Bool) → not b ≡ false → b ≡ true
passed true e = refl
passed false e = absurd cc

pub returns : goal.returns
returns c =
    let h : Header = c.in-Ok.packet.0 in
    let value = c.fields-fields.ensures.value in
    let rest = c.payload-rest.ensures in
    let plain : length h.options ≡ 0 =
    eqb-true (length h.options) 0 (passed (length h.options == 0) (sym c.has_options.ensures ∙ c.if-has_options.false)) in
    let first : h.fields.offset ≡ 0 = ap (λ (f : Ip4Fields). f.offset) (sym value) ∙ c.if-fields-ne0.false in
    let ends : option_map ends_of (quoted_transport h.fields.proto c.in-Ok.packet.1)
    ≡ Some (c.in_ok-proto.proto, c.in_ok-proto.src, c.in_ok-proto.dst) =
    (λ i. option_map ends_of (quoted_transport (sym value i).proto (sym rest i))) ∙ sym c.ends.ensures ∙ c.in_ok-proto.was in
    (λ i. Some record {
      fields = value i;
      proto = c.in_ok-proto.proto;
      src = place (value i).src c.in_ok-proto.src;
      dst = place (value i).dst c.in_ok-proto.dst;
      rest = rest i;
    })
    ∙ sym (quoted_shown c.args.bytes.now h c.in-Ok.packet.1 (c.in_ok-proto.proto, c.in_ok-proto.src, c.in_ok-proto.dst) (search rules)
    (sym c.in-Ok.ensures.value) plain first ends)
