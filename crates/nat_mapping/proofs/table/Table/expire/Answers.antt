use Rattle.std.proofs.Common.{◌≡◌, All, rules, ap, sym, ◌∙◌, map, subst}
use Rattle.nat_mapping.specs.Rows.{Mappings, are_apart, expired, is_used, live_peers, mapping_of}
use Rattle.nat_mapping.proofs.Apart.{apart_left}
use Rattle.nat_mapping.proofs.Deadlines.{AreFrom, lasts_left, mapped_from, none_goes}
use Rattle.nat_mapping.proofs.Kept.{kept_of_changed}
use Rattle.nat_mapping.proofs.table.Table.expire.Goals as goal

pub returns-then-now-self-clause-rows : goal.returns-then-now-self-clause-rows
returns-then-now-self-clause-rows c =
    let now = c.args.now.0 in
    subst (λ (t : Mappings). t.rows ≡ expired now t.rows) c.self.view_is
    (sym (none_goes now c.self.inside.earliest.0 (map mapping_of c.self.inside.rows.items) c.if-now-self.true c.self.invariant.1))

kept : (c : goal.After-len) → map mapping_of c.retain_mut.new.self.items ≡ expired c.args.now.0 (map mapping_of c.self.inside.rows.items)
kept c = kept_of_changed mapping_of _ is_used (live_peers c.args.now.0) _ (λ x b f' y k. search rules) _ _ c.retain_mut.ensures.filtered

pub invariant_of-self : goal.invariant_of-self
invariant_of-self c =
    let rows = map mapping_of c.self.inside.rows.items in
    let e = c.earliest_of-self-inside.result.0 in
    let each = mapped_from e c.retain_mut.new.self.items (subst (All (AreFrom e)) c.deref.ensures.value c.earliest_of-self-inside.ensures) in (
      ap are_apart (kept c) ∙ apart_left c.args.now.0 rows c.self.invariant.0,
      lasts_left c.args.now.0 e rows (map mapping_of c.retain_mut.new.self.items) (kept c) each,
    )

pub returns-clause-rows : goal.returns-clause-rows
returns-clause-rows c = kept c ∙ ap (λ (t : Mappings). expired c.args.now.0 t.rows) c.self.view_is
