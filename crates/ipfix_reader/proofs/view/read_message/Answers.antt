use Rattle.std.proofs.Common.{◌-◌, ℕ, inl, List, length, refl, rules, arith}
use Rattle.std.specs.Prelude.{IsTrue}
use Rattle.std.proofs.lemmas.List.{take_rest}
use Rattle.ipfix_reader.specs.Reading.{HasHeader, IsFirstBad}
use Rattle.ipfix_reader.proofs.ReadingLaws.{header_there, header_read, reached_start, reached_more, reached_all, reached_bad, shorter}
use Rattle.ipfix_reader.proofs.ReadingLaws.{accepted, refused}
use Rattle.ipfix_reader.proofs.view.read_message.Goals as goal
use Rattle.ipfix_reader.proofs.view.read_message.Goals.{Then-not-has_header, In-None}

no_header : (c : Then-not-has_header) → IsFirstBad c.args.bytes.now 0
no_header c = inl (refl, none)
  where
    none : ¬ HasHeader c.args.bytes.now
    none header =
        let has : IsTrue c.has_header.result = c.has_header.ensures.1 (header_read c.args.bytes.now header) in
        search rules

pub returns-then-not-has_header-clause-accepts : goal.returns-then-not-has_header-clause-accepts
returns-then-not-has_header-clause-accepts c = refused c.args.bytes.now 0 (no_header c)

pub returns-then-not-has_header-clause-bad : goal.returns-then-not-has_header-clause-bad
returns-then-not-has_header-clause-bad c = no_header c

pub loop-rest-init : goal.loop-rest-init
loop-rest-init c = reached_start c.args.bytes.now _ (search rules) (take_rest c.args.bytes.now 16)

pub loop-rest-smaller : goal.loop-rest-smaller
loop-rest-smaller c = shorter c.loop-rest.rest.now _ c.in-Some.first.behind.now c.in-Some.ensures.found

pub loop-rest-preserved : goal.loop-rest-preserved
loop-rest-preserved c =
    reached_more c.args.bytes.now c.loop-rest.rest.now _ c.in-Some.first.behind.now c.loop-rest.invariant c.in-Some.ensures.found

no_set : (c : In-None) → IsFirstBad c.args.bytes.now (length c.args.bytes.now - length c.loop-rest.rest.now)
no_set c =
    let bytes : List ℕ = c.args.bytes.now in
    let has : IsTrue c.has_header.result = search rules in
    let parts = c.has_header.ensures.0 has in
    reached_bad bytes c.loop-rest.rest.now (header_there bytes (λ k. omega (arith, c.type_inv.bytes k)) parts.0 parts.1 parts.2)
    c.loop-rest.invariant (search rules) c.in-None.ensures.none

pub returns-in-None-clause-accepts : goal.returns-in-None-clause-accepts
returns-in-None-clause-accepts c = refused c.args.bytes.now _ (no_set c)

pub returns-in-None-clause-bad : goal.returns-in-None-clause-bad
returns-in-None-clause-bad c = no_set c

pub invariant_of-result : goal.invariant_of-result
invariant_of-result c =
    let bytes : List ℕ = c.args.bytes.now in
    let has : IsTrue c.has_header.result = search rules in
    let parts = c.has_header.ensures.0 has in
    reached_all bytes c.loop-rest.rest.now (header_there bytes (λ k. omega (arith, c.type_inv.bytes k)) parts.0 parts.1 parts.2)
    c.loop-rest.invariant (search rules)

pub returns-clause-spelled : goal.returns-clause-spelled
returns-clause-spelled c = invariant_of-result c

pub returns-clause-accepts : goal.returns-clause-accepts
returns-clause-accepts c = accepted c.args.bytes.now
