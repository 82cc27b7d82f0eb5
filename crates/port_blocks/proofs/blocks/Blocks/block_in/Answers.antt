use Rattle.std.proofs.Common.{sym, ap, ◌∙◌, ◌+◌, ◌<◌, ℕ, arith}
use Rattle.std.specs.Prelude.{option_map}
use Rattle.aftr_base.specs.Plan.{size4}
use Rattle.aftr_base.specs.Value.{ip4}
use Rattle.port_blocks.specs.Free.{block_at}
use Rattle.aftr_base.proofs.Searches.{first_of_mapped_passed, first_of_mapped_stops}
use Rattle.port_blocks.proofs.blocks.Blocks.block_in.Goals as goal

pub returns-in-Some-clause-block : goal.returns-in-Some-clause-block
returns-in-Some-clause-block c =
    let lt : c.loop-at.at < c.args.prefix.bits.0 + size4 c.args.prefix = omega arith in
    sym (first_of_mapped_stops (block_at c.args.config.now c.args.self.now.rows c.args.owner c.args.now.0) ip4 c.loop-at.at
    (c.args.prefix.bits.0 + size4 c.args.prefix) (ip4 c.loop-at.at, c.in-Some.first) lt
    (ap (option_map (λ (first : ℕ). (ip4 c.loop-at.at, first))) (sym c.in-Some.ensures.block)))
    ∙ c.loop-at.invariant

pub loop-at-preserved : goal.loop-at-preserved
loop-at-preserved c =
    let lt : c.loop-at.at < c.args.prefix.bits.0 + size4 c.args.prefix = omega arith in
    sym (first_of_mapped_passed (block_at c.args.config.now c.args.self.now.rows c.args.owner c.args.now.0) ip4 c.loop-at.at
    (c.args.prefix.bits.0 + size4 c.args.prefix) lt
    (ap (option_map (λ (first : ℕ). (ip4 c.loop-at.at, first))) (sym c.in_default.ensures.block)))
    ∙ c.loop-at.invariant
