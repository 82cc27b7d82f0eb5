use Rattle.std.proofs.Common.{rules, ◌≡◌, ◌∙◌, ap}
use Rattle.std.specs.Prelude.{if◌then◌else◌}
use Rattle.aftr_base.specs.Bytes.{u16_at, u32_at}
use Rattle.aftr_base.specs.Checksum.{adjusted, address_words}
use Rattle.icmp_xlate.proofs.Headers.{readdressed_bytes}
use Rattle.icmp_xlate.proofs.quote.readdress.Goals as goal
use Rattle.icmp_xlate.proofs.quote.readdress.Goals.{then-source, else-source}

pub returns : goal.returns
returns c =
    let at : c.if-source.at ≡ (if c.args.source then 12 else 16) =
    elim c.if-source.branch [ then-source w ↦ search rules | else-source w ↦ search rules ] in
    let old = c.words-old.ensures ∙ ap address_words c.u32_in.ensures in
    let summed : c.adjust-sum.result
    ≡ adjusted (u16_at 10 c.args.bytes.now) (address_words (u32_at c.if-source.at c.args.bytes.now)) (address_words c.args.addr.0) =
    c.adjust-sum.ensures.field ∙ (λ i. adjusted (c.u16_in.ensures i) (old i) (c.words.ensures i)) in
    record {
      value = λ h rest is bare spelled.
          readdressed_bytes c.args.source c.if-source.at c.adjust-sum.result c.args.addr h rest c.args.bytes.now c.set_u16.new.bytes
          c.set_u32.new.bytes is spelled at summed c.set_u16.ensures c.set_u32.ensures;
    }
