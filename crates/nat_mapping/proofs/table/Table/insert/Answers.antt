use Rattle.std.proofs.Common.{All, ◌≡◌, ap, sym, subst, ◌∙◌, List, ◌∷◌, ◌++◌, [], map, ◌<◌, length, get_or, arith}
use Rattle.std.proofs.lemmas.List.{length-map, map-append}
use Rattle.nat_mapping.specs.declared.row.Row.{Row}
use Rattle.nat_mapping.specs.Rows.{LastsUntil, Mappings, are_apart, has_key, has_place, mapping_of, room_of, spare_at}
use Rattle.nat_mapping.proofs.Apart.{apart_behind}
use Rattle.nat_mapping.specs.declared.row.Peer.{Peer}
use Rattle.std.proofs.lemmas.List.Elements.{All-cons, All-nil}
use Rattle.nat_mapping.proofs.Deadlines.{IsFrom, earlier, lasts_pushed}
use Rattle.nat_mapping.proofs.Touched.{still_room}
use Rattle.nat_mapping.proofs.table.Table.insert.Goals as goal

pub invariant_of-self-2 : goal.invariant_of-self-2
invariant_of-self-2 c =
    let row : Row = record { key = c.args.key; owner = c.args.owner; ext = c.args.ext; peers = c.push.new.self } in
    let rows = map mapping_of c.self.inside.rows.items in
    let same : c.args.self.now.rows ≡ rows = sym (ap (λ (t : Mappings). t.rows) c.self.view_is) in
    let e = c.min.result in
    let put = ap (map mapping_of) c.in_ok-push-2.ensures.items ∙ map-append mapping_of c.self.inside.rows.items (row ∷ []) in
    let before = earlier c.self.inside.earliest.0 e rows (omega (arith, c.min.ensures)) c.self.invariant.1 in
    let peers : c.push.new.self.items ≡ c.args.peer ∷ [] = c.in_ok-push.ensures.items ∙ ap (λ (ps : List Peer). ps ++ c.args.peer ∷ []) c.new-peers.ensures.items in
    let from : IsFrom e c.args.peer = omega (arith, c.min.ensures) in
    let each = subst (All (IsFrom e)) (sym peers) (All-cons (IsFrom e) c.args.peer [] from (All-nil (IsFrom e))) in
    let some : 0 < length c.push.new.self.items = omega (arith, ap (λ (ps : List Peer). length ps) peers) in (
      ap are_apart put
          ∙ apart_behind rows (mapping_of row) c.self.invariant.0
          (ap (has_key c.args.key) (sym same) ∙ c.requires.key_unused)
          (ap (has_place c.args.key.proto c.args.ext) (sym same) ∙ c.requires.place_unused),
      subst (All (LastsUntil e)) (sym put) (lasts_pushed e rows (mapping_of row) before some each),
    )

pub returns-clause-others : goal.returns-clause-others
returns-clause-others c = λ k lt.
    let row : Row = record { key = c.args.key; owner = c.args.owner; ext = c.args.ext; peers = c.push.new.self } in
    let rows = c.self.inside.rows.items in
    let within : k < length rows = omega (arith, lt, length-map rows mapping_of, ap (λ (t : Mappings). length t.rows) c.self.view_is) in
    ap (λ (rs : List Row). get_or (map room_of rs) k 0) c.in_ok-push-2.ensures.items ∙ still_room rows row k within
    ∙ ap (spare_at k) c.self.view_is
