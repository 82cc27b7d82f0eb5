use Rattle.std.proofs.Common.{rules, ◌≤◌, List, ℕ, length, sym, ap, ◌∙◌, arith}
use Rattle.aftr_base.specs.Checksum.{adjusted}
use Rattle.icmp_xlate.proofs.Fronts.{words_count}
use Rattle.icmp_xlate.proofs.Messages.{part_spelled, part_again, message_written}
use Rattle.icmp_xlate.proofs.translate.set_in_message.Goals as goal

pub set_places-requires-clause-quotes : goal.set_places-requires-clause-quotes
set_places-requires-clause-quotes c =
    let (r, s, there) = c.requires.quotes in
    (r.quoted, part_spelled c.args.message.now r s, there)

pub adjust-sum-requires-clause-lengths : goal.adjust-sum-requires-clause-lengths
adjust-sum-requires-clause-lengths c =
    let (r, s, there) = c.requires.quotes in
    let message : List ℕ = c.args.message.now in
    let long : 8 ≤ length message = omega (arith, c.requires.header) in
    let part = part_spelled message r s in
    let again = part_again c.args.source c.args.old c.args.new message r s there c.set_places.new.quoted long
    (c.set_places.ensures.value r.quoted part there) (search rules) (search rules) in
    ap length (c.as_slice.ensures.value ∙ c.changing_words-before.ensures.value r.quoted part)
    ∙ sym (words_count c.args.source c.args.new c.args.new c.args.old r.quoted)
    ∙ sym (ap length (c.as_slice-2.ensures.value ∙ c.changing_words-after.ensures.value _ again))

pub returns : goal.returns
returns c =
    let message : List ℕ = c.args.message.now in
    let long : 8 ≤ length message = omega (arith, c.requires.header) in
    record {
      value = λ r s there.
          let part = part_spelled message r s in
          let made = c.set_places.ensures.value r.quoted part there in
          let again = part_again c.args.source c.args.old c.args.new message r s there c.set_places.new.quoted long made
          (search rules) (search rules) in
          c.set_u16.ensures
          ∙ message_written c.args.source c.args.old c.args.new message r s there c.set_places.new.quoted long made
          c.adjust-sum.result c.as_slice.result.now c.as_slice-2.result.now
          (c.as_slice.ensures.value ∙ c.changing_words-before.ensures.value r.quoted part)
          (c.as_slice-2.ensures.value ∙ c.changing_words-after.ensures.value _ again)
          (c.adjust-sum.ensures.field ∙ ap (λ (n : ℕ). adjusted n c.as_slice.result.now c.as_slice-2.result.now) c.u16_in.ensures);
    }
