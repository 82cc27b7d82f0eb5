-- What a gate holds: what records gave and waits for the log.
use Rattle.std.specs.Prelude.{ℕ, List, length, option_to_list}
use Rattle.aftr_base.specs.declared.event.DropCause.{DropCause}
use Rattle.lease_log.specs.Batch.{Batch as LogBatch, batch_body}
use Rattle.xlate_core.specs.State.{Step}
use Rattle.xlate_core.specs.Step.{log_of}
use Rattle.egress_gate.specs.declared.batch.Batch.{Batch}
use Rattle.egress_gate.specs.declared.tally.Tally.{Tally}
use Rattle.egress_gate.specs.Output.{output}

-- nothing of it was logged, sent or counted
pub record Held : Type 0 where
  pub records : ℕ
  -- how many packets, and their bytes as they stand in the output
  pub items : ℕ
  pub packets : List ℕ
  pub drops : List DropCause
  -- the log's events in one message
  pub log : LogBatch

-- a gate: what passed it, how many data records the log has, and what it holds
pub record Gated : Type 0 where
  pub tally : Tally
  pub count : ℕ
  pub held : Held

-- a batch of one record, or of none
abbrev pub held_in : Batch → Held
held_in b = record {
  records = b.records;
  items = length b.out.items;
  packets = b.packets;
  drops = option_to_list b.cause;
  log = b.log;
}

-- what one record gives to a gate whose log has so many data records: its packets and events, and its drop if it is one
abbrev pub held_of : ℕ → Step → Held
held_of count t = record {
  records = 1;
  items = length t.items;
  packets = output t.items;
  drops = option_to_list t.drop;
  log = record { at = t.state.clock; count = count; events = log_of t };
}

-- what the log gets of it: one message, at the clock
abbrev pub body_for : ℕ → Step → List ℕ
body_for count t = batch_body (held_of count t).log
