-- What a device in memory shows.
use Rattle.std.specs.Prelude.{ℕ, List}
use Rattle.canary_client_records.specs.declared.memory.MemoryDevice.{MemoryDevice}

abbrev pub memory_bytes : MemoryDevice → List ℕ
memory_bytes m = m.bytes.items
