use Rattle.std.proofs.Common.{sym, ◌∙◌}
use Rattle.aftr_base.specs.Plan.{prefix4}
use Rattle.port_blocks.specs.Free.{block_at, addresses_in}
use Rattle.aftr_base.proofs.Searches.{first_of_flat_passed, first_of_flat_stops}
use Rattle.port_blocks.proofs.blocks.Blocks.block_anywhere.Goals as goal

pub returns-in-Some-clause-block : goal.returns-in-Some-clause-block
returns-in-Some-clause-block c =
    let pool = c.as_slice-prefix-items.result.now in
    let hit = rw c.as_slice-prefix-items.ensures at
    (first_of_flat_stops
    (block_at c.args.config.now c.args.self.now.rows c.args.owner c.args.now.0) addresses_in pool c.loop-prefix.prefix-index
    (prefix4 0 0) c.in-Some.block c.loop-prefix-test.true (sym c.in-Some.ensures.block)) in
    sym hit ∙ c.loop-prefix.invariant

pub loop-prefix-preserved : goal.loop-prefix-preserved
loop-prefix-preserved c =
    let pool = c.as_slice-prefix-items.result.now in
    let passed = rw c.as_slice-prefix-items.ensures at
    (first_of_flat_passed
    (block_at c.args.config.now c.args.self.now.rows c.args.owner c.args.now.0) addresses_in pool c.loop-prefix.prefix-index
    (prefix4 0 0) c.loop-prefix-test.true (sym c.in_default.ensures.block)) in
    sym passed ∙ c.loop-prefix.invariant
