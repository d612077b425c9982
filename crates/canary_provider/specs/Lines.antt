-- The lines of a message's head (RFC 9112, section 2.1), each without its end.
use Rattle.std.specs.Prelude.{ℕ, Bool, not, ◌&&◌, ◌||◌, ◌==◌, nat_le, nat_lt, List, length}
use Rattle.std.specs.List.{list_all}

-- no control but a tab: so neither end of a line
abbrev pub is_line_byte : ℕ → Bool
is_line_byte byte = (nat_le 32 byte && not (byte == 127)) || byte == 9

abbrev pub is_line : List ℕ → Bool
is_line bytes = nat_lt 0 (length bytes) && list_all is_line_byte bytes
