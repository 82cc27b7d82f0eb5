use Rattle.std.proofs.Common.{rules, ap, subst, ◌∙◌, arith}
use Rattle.aftr_base.specs.Checksum.{sum16}
use Rattle.wire_ip4.specs.Grammar.{AreFields}
use Rattle.wire_ip4.proofs.SumLaws.{sound_hairpinned}
use Rattle.wire_ip4.proofs.ViewHeaders.{plain_header}
use Rattle.wire_ip4.proofs.view.Ip4View.write_hairpinned.Goals as goal

pub returns-clause-bytes : goal.returns-clause-bytes
returns-clause-bytes c = search rules

pub returns-clause-sound : goal.returns-clause-sound
returns-clause-sound c = λ sound.
    let h = c.args.self.now.0 in
    let fields : AreFields c.fields-old.result = record {
      tos = omega (arith, c.fields-old.type_inv);
      total = omega (arith, c.fields-old.type_inv);
      id = omega (arith, c.fields-old.type_inv);
      offset = c.fields-old.ensures.offset;
      ttl = omega (arith, c.fields-old.type_inv);
      proto = omega (arith, c.fields-old.type_inv);
      src = omega (arith, c.fields-old.type_inv);
      dst = omega (arith, c.fields-old.type_inv);
    } in
    let is = plain_header h (subst AreFields c.fields-old.ensures.value fields) (omega (arith, c.sum.ensures, c.sum.type_inv))
    c.requires.plain in
    ap sum16 (returns-clause-bytes c) ∙ sound_hairpinned c.args.src c.args.dst h is (omega arith) (omega arith) sound
