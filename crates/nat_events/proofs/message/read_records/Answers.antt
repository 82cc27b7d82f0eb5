use Rattle.std.proofs.Common.{◌≡◌, ◌∙◌, ap, sym, true, false, arith}
use Rattle.nat_events.specs.Reading.{is_padding, shortest_of}
use Rattle.nat_events.proofs.RecordsLaws.{record_step, records_told}
use Rattle.nat_events.proofs.message.read_records.Goals as goal

pub records-preserved : goal.records-preserved
records-preserved c =
    let more : is_padding (shortest_of c.args.set) c.records.rest.now ≡ false =
    sym (c.is_padding.ensures ∙ ap (λ n. is_padding n c.records.rest.now) c.shortest_of.ensures) ∙ c.records-test.true in
    record_step c.args.set c.args.most c.records.left c.args.body.now c.records.rest.now c.args.out.now c.records.out
    c.push.new.self c.in_ok-event.event c.in_ok-event.len c.records.invariant more (omega arith) c.in_ok-event.ensures.value
    c.in_ok-push.ensures.ok

pub returns-clause-ok : goal.returns-clause-ok
returns-clause-ok c =
    let (events, is, so_far) = c.records.invariant in
    let end : is_padding (shortest_of c.args.set) c.records.rest.now ≡ true =
    sym (c.is_padding.ensures ∙ ap (λ n. is_padding n c.records.rest.now) c.shortest_of.ensures) ∙ c.records-test.false in
    records_told c.args.set c.args.most c.records.left c.args.body.now c.records.rest.now c.args.out.now c.records.out events is
    so_far end
