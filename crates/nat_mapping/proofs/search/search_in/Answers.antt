use Rattle.std.proofs.Common.{◌≡◌, ◌<◌, get_or, length, sym, ap, ◌∙◌, arith}
use Rattle.nat_mapping.specs.declared.row.Row.{Row}
use Rattle.nat_mapping.specs.Rows.{is_of, mapping_of}
use Rattle.nat_mapping.proofs.Marks.{marked_all, marked_more}
use Rattle.nat_mapping.proofs.Usages.{count_more, counted, counted_all, missed_more, peers_in, row_hit, row_missed, rows_in}
use Rattle.nat_mapping.proofs.search.search_in.Goals as goal

pub returns-then-is_of-clause-row : goal.returns-then-is_of-clause-row
returns-then-is_of-clause-row c =
    let rows = c.args.rows.now in
    let key = c.args.key.now in
    let at = c.loop-at.at in
    let row = c.index-rows-at.result in
    let there : get_or rows at row ≡ row = sym c.index-rows-at.is in
    row_hit key rows at row (omega (arith, c.loop-at-test.true)) c.loop-at.invariant.missed
    (ap (λ (r : Row). is_of key (mapping_of r)) there ∙ sym c.is_of.ensures ∙ c.if-is_of.true)

pub returns-then-is_of-clause-before : goal.returns-then-is_of-clause-before
returns-then-is_of-clause-before c =
    counted {owner = c.args.owner} {rows = c.args.rows.now} {at = c.loop-at.at}
    (record { rows_are = c.loop-at.invariant.rows; peers_are = c.loop-at.invariant.peers })

pub returns-clause-row : goal.returns-clause-row
returns-clause-row c =
    row_missed c.args.key.now c.args.rows.now c.loop-at.at (omega (arith, c.loop-at-test.false, c.loop-at.auto.at-end))
    c.loop-at.invariant.missed

pub returns-clause-before : goal.returns-clause-before
returns-clause-before c =
    counted_all {owner = c.args.owner} {rows = c.args.rows.now} {at = c.loop-at.at}
    (omega (arith, c.loop-at-test.false, c.loop-at.auto.at-end))
    (record { rows_are = c.loop-at.invariant.rows; peers_are = c.loop-at.invariant.peers })

pub returns-clause-marks : goal.returns-clause-marks
returns-clause-marks c =
    marked_all c.loop-at.taken c.args.key.now.proto c.args.rows.now c.loop-at.at c.args.addr
    (omega (arith, c.loop-at-test.false, c.loop-at.auto.at-end)) c.loop-at.invariant.marks

pub loop-at-preserved : goal.loop-at-preserved
loop-at-preserved c =
    let rows = c.args.rows.now in
    let at = c.loop-at.at in
    let row = c.index-rows-at.result in
    let was = c.loop-at.invariant in
    let now = c.holding_with-before.result in
    let lt : at < length rows = omega (arith, c.loop-at-test.true, c.loop-at.auto.at-end) in
    record {
      rows = count_more (rows_in c.args.owner) rows at c.loop-at.before.rows now.rows row lt c.index-rows-at.is was.rows
          c.holding_with-before.ensures.rows;
      peers = count_more (peers_in c.args.owner) rows at c.loop-at.before.peers now.peers row lt c.index-rows-at.is was.peers
          c.holding_with-before.ensures.peers;
      missed = missed_more c.args.key.now rows at row lt c.index-rows-at.is was.missed (sym c.is_of.ensures ∙ c.if-is_of.false);
      marks = marked_more c.loop-at.taken c.mark_port.new.taken c.args.key.now.proto rows at row c.args.addr lt c.index-rows-at.is was.marks
          c.mark_port.ensures;
    }
