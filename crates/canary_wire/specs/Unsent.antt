-- What is still to be written.
use Rattle.std.specs.Prelude.{ℕ, ◌+◌, ◌≤◌, List, drop, vec_len, vec_capacity}
use Rattle.canary_wire.specs.declared.write_buffer.WriteBuffer.{WriteBuffer}

abbrev pub bytes_unsent : WriteBuffer → List ℕ
bytes_unsent o = drop o.sent o.bytes.items

-- the reply to a request that is new finds memory
abbrev pub HasRoom : WriteBuffer → Type 0
HasRoom o = vec_len o.bytes + 1024 ≤ vec_capacity o.bytes
