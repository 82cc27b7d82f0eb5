use Rattle.std.proofs.Common.{rules, ap, List}
use Rattle.std.specs.Prelude.{nat_lt}
use Rattle.std.proofs.lemmas.Fn.{filter_same}
use Rattle.nat_mapping.specs.declared.row.Peer.{Peer}
use Rattle.nat_mapping.specs.Rows.{mapping_of}
use Rattle.nat_mapping.proofs.row.Row.expire.Goals as goal

pub returns-clause-row : goal.returns-clause-row
returns-clause-row c =
    ap (λ (ps : List Peer). record (mapping_of c.args.self.now) { peers = ps })
    (filter_same _ (λ (p : Peer). nat_lt c.args.now.0 p.deadline.0) _ (λ x b f' k. search rules) _ _ c.retain.ensures.filtered)
