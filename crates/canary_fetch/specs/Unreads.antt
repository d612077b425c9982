-- The bytes that came and were not read yet.
use Rattle.std.specs.Prelude.{ℕ, List, drop}
use Rattle.canary_fetch.specs.declared.unread.Unread.{Unread}

abbrev pub bytes_unread : Unread → List ℕ
bytes_unread u = drop u.start u.bytes.items
