use Rattle.std.proofs.Common.{rules, List, ℕ, ◌++◌, ap}
use Rattle.wire_ip4.specs.Grammar.{header_with}
use Rattle.wire_ip4.proofs.GrammarLaws.{packet_accepts}
use Rattle.wire_ip4.proofs.SumLaws.{is_header_with, sound_with}
use Rattle.wire_ip4.proofs.write.write_header.Goals as goal

pub returns-clause-bytes : goal.returns-clause-bytes
returns-clause-bytes c = search rules

pub returns-clause-reads_back : goal.returns-clause-reads_back
returns-clause-reads_back c = λ payload beyond total.
    packet_accepts (c.from.result.items ++ payload ++ beyond) (header_with c.args.f.now) payload (record {
      header = is_header_with c.args.f.now c.header_octets.ensures.fit;
      spelled = (beyond, ap (λ (l : List ℕ). l ++ payload ++ beyond) (returns-clause-bytes c));
      total = total;
      sound = sound_with c.args.f.now c.header_octets.ensures.fit;
    })
