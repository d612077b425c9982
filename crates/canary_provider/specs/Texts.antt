-- Texts of others, as a terminal shows them.
use Rattle.std.specs.Prelude.{◌≡◌, ℕ, true, List, encode_utf8_all}
use Rattle.std.specs.List.{list_all}
use Rattle.canary_shown.specs.Showing.{is_plain}

-- no character of the text is a mark, which a terminal takes for more than a character
abbrev pub IsShown : List ℕ → Type 0
IsShown text =
    (characters : List ℕ) × (text ≡ encode_utf8_all characters)
    × (list_all is_plain characters ≡ true)
