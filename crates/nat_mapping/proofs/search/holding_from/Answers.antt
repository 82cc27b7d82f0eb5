use Rattle.std.proofs.Common.{◌≡◌, ◌-◌, ◌+◌, ◌<◌, ℕ, List, drop, take, length, min, ap, ◌∙◌, arith}
use Rattle.std.proofs.lemmas.List.{take_all, length-drop}
use Rattle.std.specs.List.{sum_by}
use Rattle.nat_mapping.proofs.Usages.{count_next, counted_all, counts, most, peers_in, rows_in}
use Rattle.nat_mapping.proofs.search.holding_from.Goals as goal

pub loop-row-init : goal.loop-row-init
loop-row-init c =
    let from = c.args.from.0 in
    let rows = c.args.rows.now in
    let was = counts {owner = c.args.owner} {rows = rows} {at = from} c.requires.before in
    let none : from ≡ from + 0 = omega arith in
    record {
      rows = was.rows_are ∙ ap (λ (n : ℕ). min (sum_by (rows_in c.args.owner) (take n rows)) most) none;
      peers = was.peers_are ∙ ap (λ (n : ℕ). min (sum_by (peers_in c.args.owner) (take n rows)) most) none;
    }

pub loop-row-preserved : goal.loop-row-preserved
loop-row-preserved c =
    let from = c.args.from.0 in
    let i = c.loop-row.row-index in
    let rows = c.args.rows.now in
    let part = take (length rows - from) (drop from rows) in
    let same = take_all (length rows - from) (drop from rows) (omega (arith, length-drop from rows)) in
    let lt : i < length part = c.loop-row-test.true in
    record {
      rows = count_next (rows_in c.args.owner) rows part from i c.row-item.result c.loop-row.holding.rows
          c.holding_with-holding.result.rows same lt c.row-item.is c.loop-row.invariant.rows c.holding_with-holding.ensures.rows;
      peers = count_next (peers_in c.args.owner) rows part from i c.row-item.result c.loop-row.holding.peers
          c.holding_with-holding.result.peers same lt c.row-item.is c.loop-row.invariant.peers c.holding_with-holding.ensures.peers;
    }

pub returns : goal.returns
returns c =
    let from = c.args.from.0 in
    let rows = c.args.rows.now in
    let part = take (length rows - from) (drop from rows) in
    let same = take_all (length rows - from) (drop from rows) (omega (arith, length-drop from rows)) in
    let len : length part ≡ length rows - from = ap (λ (l : List _). length l) same ∙ length-drop from rows in
    counted_all {owner = c.args.owner} {rows = rows} {at = from + c.loop-row.row-index}
    (omega (arith, c.loop-row-test.false, len))
    (record { rows_are = c.loop-row.invariant.rows; peers_are = c.loop-row.invariant.peers })
