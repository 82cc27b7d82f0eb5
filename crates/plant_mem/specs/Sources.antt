-- What contracts see of the sources and the sink in memory.
use Rattle.std.specs.Prelude.{ℕ, List, take, drop}
use Rattle.plant_mem.specs.declared.mem_source.MemSource.{MemSource}
use Rattle.plant_mem.specs.declared.mem_source.NoFaultSource.{NoFaultSource}
use Rattle.plant_mem.specs.declared.mem_sink.MemSink.{MemSink}

-- the bytes that were taken, and those that are left
abbrev pub source_taken : MemSource → List ℕ
source_taken source = take source.at source.bytes

abbrev pub source_rest : MemSource → List ℕ
source_rest source = drop source.at source.bytes

-- how many bytes a read gives at most
abbrev pub source_piece : MemSource → ℕ
source_piece source = source.piece

-- the numbers of the calls that fail, the number of the next call, and how many have failed
abbrev pub source_fail_at : MemSource → List ℕ
source_fail_at source = source.fail_at

abbrev pub source_calls : MemSource → ℕ
source_calls source = source.calls

abbrev pub source_faults : MemSource → ℕ
source_faults source = source.failures

abbrev pub no_fault_taken : NoFaultSource → List ℕ
no_fault_taken source = take source.at source.bytes

abbrev pub no_fault_rest : NoFaultSource → List ℕ
no_fault_rest source = drop source.at source.bytes

abbrev pub sink_written : MemSink → List ℕ
sink_written sink = sink.bytes

abbrev pub sink_fail_at : MemSink → List ℕ
sink_fail_at sink = sink.fail_at

abbrev pub sink_calls : MemSink → ℕ
sink_calls sink = sink.calls

abbrev pub sink_faults : MemSink → ℕ
sink_faults sink = sink.failures
