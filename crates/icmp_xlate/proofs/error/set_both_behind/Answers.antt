use Rattle.std.proofs.Common.{◌++◌, false, true, ℕ, List, take, ap, ◌∙◌}
use Rattle.wire_icmp.specs.Quoted.{report_bytes}
use Rattle.icmp_xlate.specs.Translated.{translated}
use Rattle.icmp_xlate.proofs.ErrorPackets.{front_taken}
use Rattle.icmp_xlate.proofs.error.set_both_behind.Goals as goal

pub set_behind-requires-2-clause-quotes : goal.set_behind-requires-2-clause-quotes
set_behind-requires-2-clause-quotes c =
    let (r, s, there, back) = c.requires.quotes in
    (translated false c.args.src r, c.set_behind.ensures.reads_back r s there, back)

pub returns : goal.returns
returns c = record {
  value = λ r s there back.
      let bytes : List ℕ = c.args.bytes.now in
      let out = translated false c.args.src r in
      let in_all = translated true c.args.dst out in
      c.set_behind-2.ensures.value out (c.set_behind.ensures.reads_back r s there) back
      ∙ ap (λ (l : List ℕ). take 20 l ++ report_bytes in_all) (c.set_behind.ensures.value r s there)
      ∙ ap (λ (l : List ℕ). l ++ report_bytes in_all) (front_taken 20 bytes (report_bytes out) c.requires.header);
}
