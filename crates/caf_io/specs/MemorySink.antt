-- What a sink in memory shows.
use Rattle.std.specs.Prelude.{ℕ, List, Option}
use Rattle.std.specs.Ordering.{nat_cmp}
use Rattle.std.specs.BTreeMap.{get}
use Rattle.caf_io.specs.declared.memory_sink.MemorySink.{MemorySink}

-- all bytes that were written
abbrev pub bytes_in : MemorySink → List ℕ
bytes_in sink = sink.bytes.items

-- how many calls failed
abbrev pub fault_count : MemorySink → ℕ
fault_count sink = sink.faults

-- how many calls there were
abbrev pub call_count : MemorySink → ℕ
call_count sink = sink.calls

-- how many bytes the call of this number keeps, where it is to fail
abbrev pub kept_at : MemorySink → (call : ℕ) → Option ℕ
kept_at sink call = get nat_cmp sink.failing call
