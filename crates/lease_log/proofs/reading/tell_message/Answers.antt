use Rattle.std.proofs.Common.{ap, arith, Err}
use Rattle.lease_log.proofs.MessageSteps.{message_read, message_follows, message_sound, message_count, message_rows, message_refused}
use Rattle.lease_log.proofs.reading.tell_message.Goals as goal

pub tell_all-requires : goal.tell_all-requires
tell_all-requires c =
    let is = message_read c.args.told.now.count c.args.message.now c.read_events.new.out c.count.ensures
    c.messages_are_spelled.ensures.spelled (λ i. omega (arith, c.type_inv.message i)) c.new-events.ensures c.in-Ok.ensures.ok in
    omega (arith, is.short)

pub returns-in-Ok-clause-told : goal.returns-in-Ok-clause-told
returns-in-Ok-clause-told c =
    let is = message_read c.args.told.now.count c.args.message.now c.read_events.new.out c.count.ensures
    c.messages_are_spelled.ensures.spelled (λ i. omega (arith, c.type_inv.message i)) c.new-events.ensures c.in-Ok.ensures.ok in
    message_follows c.args.told.now c.tell_all.new.told c.args.message.now c.read_events.new.out c.tell_all.result is c.tell_all.ensures

pub returns-in-Ok-clause-sound : goal.returns-in-Ok-clause-sound
returns-in-Ok-clause-sound c =
    let is = message_read c.args.told.now.count c.args.message.now c.read_events.new.out c.count.ensures
    c.messages_are_spelled.ensures.spelled (λ i. omega (arith, c.type_inv.message i)) c.new-events.ensures c.in-Ok.ensures.ok in
    message_sound c.args.told.now c.tell_all.new.told c.args.message.now c.read_events.new.out c.tell_all.result is
    c.requires.sound c.tell_all.ensures

pub returns-in-Ok-clause-count : goal.returns-in-Ok-clause-count
returns-in-Ok-clause-count c =
    let is = message_read c.args.told.now.count c.args.message.now c.read_events.new.out c.count.ensures
    c.messages_are_spelled.ensures.spelled (λ i. omega (arith, c.type_inv.message i)) c.new-events.ensures c.in-Ok.ensures.ok in
    message_count c.args.told.now c.tell_all.new.told c.read_events.new.out c.tell_all.result is c.tell_all.ensures

pub returns-in-Ok-clause-rows : goal.returns-in-Ok-clause-rows
returns-in-Ok-clause-rows c = message_rows c.args.told.now c.tell_all.new.told c.read_events.new.out c.tell_all.result c.tell_all.ensures

pub returns-in-Err-NotOurs-clause-told : goal.returns-in-Err-NotOurs-clause-told
returns-in-Err-NotOurs-clause-told c =
    message_refused c.args.told.now c.args.message.now c.count.ensures
    (c.in-Err-NotOurs.ensures.not_ours (ap Err c.in-Err-NotOurs.field-0-is))
