-- A text as HTML has it (HTML Living Standard, "Escaping a string"): no byte of it begins a tag,
-- ends the value of an attribute, or is a control, which no text of HTML may have.
use Rattle.std.specs.Prelude.{ℕ, ◌==◌, nat_le, ◌||◌, Bool, not, if◌then◌else◌, List, [], ◌∷◌, flat_map, codes}

-- a byte below the space, or DEL
abbrev pub is_control : ℕ → Bool
is_control byte = nat_le byte 31 || byte == 127

-- how a byte of a text stands in a page: a reference for each of & < > " ', U+FFFD for a control,
-- and any other byte for itself
abbrev pub escaped_byte : ℕ → List ℕ
escaped_byte byte =
    if byte == 38 then codes "&amp;"
    else (if byte == 60 then codes "&lt;"
    else (if byte == 62 then codes "&gt;"
    else (if byte == 34 then codes "&quot;"
    else (if byte == 39 then codes "&#39;"
    else (if is_control byte then 239 ∷ 191 ∷ 189 ∷ [] else byte ∷ [])))))

-- a text as a page has it
abbrev pub escaped : List ℕ → List ℕ
escaped text = flat_map escaped_byte text

-- a byte that neither begins nor ends a tag, ends no value, and is no control
abbrev pub is_harmless : ℕ → Bool
is_harmless byte =
    not (byte == 60 || byte == 62 || byte == 34 || byte == 39 || is_control byte)
