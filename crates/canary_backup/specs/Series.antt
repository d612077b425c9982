-- What the name of a copy of a series is made of.
use Rattle.std.specs.Prelude.{ℕ, ◌==◌, nat_le, ◌&&◌, Bool, if◌then◌else◌, List, codes}
use Rattle.std.specs.Cmp.Lexicographic.{pointwise}

-- where the shape has `0`, a digit; elsewhere the same byte
abbrev pub fits : ℕ → ℕ → Bool
fits shape byte = if shape == 48 then nat_le 48 byte && nat_le byte 57 else shape == byte

-- `desk-`, a moment of UTC as a day, `T`, a time and `Z`, and `.db`
abbrev pub is_copy_name : List ℕ → Bool
is_copy_name = pointwise fits (codes "desk-00000000T000000Z.db")
