-- What a buffer holds.
use Rattle.std.specs.Prelude.{ℕ, List, slice_range}
use Rattle.canary_wire.specs.declared.buffer.Buffer.{Buffer}

abbrev pub bytes_held : Buffer → List ℕ
bytes_held b = slice_range b.bytes.items b.start b.end
