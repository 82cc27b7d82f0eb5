use Rattle.std.proofs.Common.{rules, ◌≡◌, ◌∙◌}
use Rattle.std.specs.Prelude.{if◌then◌else◌}
use Rattle.aftr_base.specs.Bytes.{u16_at, IsBytes}
use Rattle.aftr_base.specs.Checksum.{adjusted}
use Rattle.aftr_base.specs.declared.value.Proto.TheVariants.{Tcp}
use Rattle.wire_l4.specs.Places.{segment_sum}
use Rattle.icmp_xlate.proofs.Fronts.{short_set, whole_set}
use Rattle.icmp_xlate.proofs.quote.set_segment.Goals as goal
use Rattle.icmp_xlate.proofs.quote.set_segment.Goals.{then-source, else-source}

pub returns-then-front-lt-TCP_SUM_END : goal.returns-then-front-lt-TCP_SUM_END
returns-then-front-lt-TCP_SUM_END c =
    let fits : IsBytes c.args.front.now = search rules in
    let at : c.if-source.at ≡ (if c.args.source then 0 else 2) =
    elim c.if-source.branch [ then-source w ↦ search rules | else-source w ↦ search rules ] in
    record {
      value = c.set_u16.ensures
          ∙ short_set c.args.front.now fits c.requires.some c.args.source c.if-source.at c.args.old c.args.new
          c.if-front-lt-TCP_SUM_END.true at;
    }

pub returns-else-front-lt-TCP_SUM_END : goal.returns-else-front-lt-TCP_SUM_END
returns-else-front-lt-TCP_SUM_END c =
    let fits : IsBytes c.args.front.now = search rules in
    let at : c.if-source.at ≡ (if c.args.source then 0 else 2) =
    elim c.if-source.branch [ then-source w ↦ search rules | else-source w ↦ search rules ] in
    let summed : c.adjust-sum.result ≡ segment_sum Tcp c.args.old c.args.new (u16_at 16 c.args.front.now) =
    c.adjust-sum.ensures.field
    ∙ (λ i. adjusted (c.u16_in.ensures i) (c.words_of.ensures i) (c.words_of-else-front-lt-TCP_SUM_END.ensures i)) in
    record {
      value = c.set_u16-else-front-lt-TCP_SUM_END-2.ensures
          ∙ whole_set c.args.front.now fits c.requires.some c.args.source c.if-source.at c.adjust-sum.result c.args.old c.args.new
          c.set_u16-else-front-lt-TCP_SUM_END.new.bytes c.if-front-lt-TCP_SUM_END.false at summed
          c.set_u16-else-front-lt-TCP_SUM_END.ensures;
    }
