use Rattle.std.proofs.Common.{All, ◌≡◌, ◌-◌, ap, sym, subst, ◌∙◌, List, map, set, arith, ℕ}
use Rattle.std.specs.Prelude.{Result, Ok, Err, OnErr}
use Rattle.std.specs.Vec.{vec_capacity, vec_len}
use Rattle.nat_mapping.specs.declared.row.Row.{Row}
use Rattle.nat_mapping.specs.declared.row.Peer.{Peer}
use Rattle.nat_mapping.specs.Rows.{LastsUntil, Mapping, Mappings, are_apart, mapping_of, mappings, room_of, spare_at}
use Rattle.nat_mapping.proofs.Touched.{StandsAt, its_room, other_rooms, same_rooms, same_rows, stands}
use Rattle.nat_mapping.proofs.table.Table.reserve.Goals as goal

-- ---- where there was no memory

on_err_any : {T E P : Type 0} (r : Result T E) → P → OnErr r P
on_err_any (Ok x) p = tt
on_err_any (Err e) p = p

both : {rows rows' : List Mapping} {spares spares' : List ℕ} → rows ≡ rows' → spares ≡ spares'
    → mappings rows spares ≡ mappings rows' spares'
both {rows} {rows'} {spares} {spares'} p q = ap (λ (l : List Mapping). mappings l spares) p ∙ ap (mappings rows') q

failed : (c : goal.After-from_residual) → StandsAt c.self.inside.rows.items c.args.id.0 c.index_mut-row.result.now
failed c =
    stands c.self.inside.rows.items c.args.self.now.rows c.args.id.0 c.index_mut-row.result.now
    (ap (λ (t : Mappings). t.rows) c.self.view_is) c.requires c.index_mut-row.ensures.value

kept_rows : (c : goal.After-from_residual)
    → map mapping_of (set c.self.inside.rows.items c.args.id.0 (record c.index_mut-row.result.now { peers = c.reserve.new.self }))
    ≡ map mapping_of c.self.inside.rows.items
kept_rows c =
    same_rows c.self.inside.rows.items c.args.id.0 c.index_mut-row.result.now (record c.index_mut-row.result.now { peers = c.reserve.new.self })
    (failed c) (ap (λ (ps : List Peer). record (mapping_of c.index_mut-row.result.now) { peers = ps }) c.reserve.ensures.items)

pub invariant_of-self : goal.invariant_of-self
invariant_of-self c = (
  ap are_apart (kept_rows c) ∙ c.self.invariant.0,
  subst (All (LastsUntil c.self.inside.earliest.0)) (sym (kept_rows c)) c.self.invariant.1,
)

pub returns-in_err-reserve-clause-rows : goal.returns-in_err-reserve-clause-rows
returns-in_err-reserve-clause-rows c = kept_rows c ∙ ap (λ (t : Mappings). t.rows) c.self.view_is

pub returns-in_err-reserve-clause-others : goal.returns-in_err-reserve-clause-others
returns-in_err-reserve-clause-others c =
    λ k other. other_rooms c.self.inside.rows.items c.args.id.0 (record c.index_mut-row.result.now { peers = c.reserve.new.self }) k other
    ∙ ap (spare_at k) c.self.view_is

pub returns-in_err-reserve-clause-err : goal.returns-in_err-reserve-clause-err
returns-in_err-reserve-clause-err c =
    let there = c.index_mut-row.result.now in
    let row : Row = record there { peers = c.reserve.new.self } in
    let room : room_of row ≡ room_of there =
    ap (λ n. n - vec_len c.reserve.new.self) c.in_err-reserve.ensures.err ∙ ap (λ n. vec_capacity there.peers - n) c.reserve.ensures.len in
    on_err_any c.from_residual.result
    (both (kept_rows c) (same_rooms c.self.inside.rows.items c.args.id.0 there row (failed c) room) ∙ c.self.view_is)

-- ---- where there was

done : (c : goal.In_ok-reserve) → StandsAt c.self.inside.rows.items c.args.id.0 c.index_mut-row.result.now
done c =
    stands c.self.inside.rows.items c.args.self.now.rows c.args.id.0 c.index_mut-row.result.now
    (ap (λ (t : Mappings). t.rows) c.self.view_is) c.requires c.index_mut-row.ensures.value

still_rows : (c : goal.In_ok-reserve)
    → map mapping_of (set c.self.inside.rows.items c.args.id.0 (record c.index_mut-row.result.now { peers = c.reserve.new.self }))
    ≡ map mapping_of c.self.inside.rows.items
still_rows c =
    same_rows c.self.inside.rows.items c.args.id.0 c.index_mut-row.result.now (record c.index_mut-row.result.now { peers = c.reserve.new.self })
    (done c) (ap (λ (ps : List Peer). record (mapping_of c.index_mut-row.result.now) { peers = ps }) c.reserve.ensures.items)

pub invariant_of-self-2 : goal.invariant_of-self-2
invariant_of-self-2 c = (
  ap are_apart (still_rows c) ∙ c.self.invariant.0,
  subst (All (LastsUntil c.self.inside.earliest.0)) (sym (still_rows c)) c.self.invariant.1,
)

pub returns-clause-rows : goal.returns-clause-rows
returns-clause-rows c = still_rows c ∙ ap (λ (t : Mappings). t.rows) c.self.view_is

pub returns-clause-ok : goal.returns-clause-ok
returns-clause-ok c =
    let row : Row = record c.index_mut-row.result.now { peers = c.reserve.new.self } in
    omega (arith, its_room c.self.inside.rows.items c.args.id.0 c.index_mut-row.result.now row (done c), c.in_ok-reserve.ensures.ok)

pub returns-clause-others : goal.returns-clause-others
returns-clause-others c =
    λ k other. other_rooms c.self.inside.rows.items c.args.id.0 (record c.index_mut-row.result.now { peers = c.reserve.new.self }) k other
    ∙ ap (spare_at k) c.self.view_is
