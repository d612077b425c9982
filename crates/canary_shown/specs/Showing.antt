-- A text of others as a terminal shows it: no character of it is a mark, which a terminal takes for
-- more than a character.
use Rattle.std.specs.Prelude.{◌≡◌, ℕ, ◌+◌, ◌/◌, ◌%◌, ◌==◌, nat_le, nat_lt, ◌&&◌, ◌||◌, Bool, true, false, not, if◌then◌else◌, List, [], ◌∷◌, flat_map, chars, encode_utf8_all}
use Rattle.std.specs.List.{list_all}
use Rattle.canary_shown.specs.declared.text.TextKind.{TextKind}
use Rattle.canary_shown.specs.declared.text.TextKind.TheVariants.{Line, Json}

abbrev pub is_between : ℕ → ℕ → ℕ → Bool
is_between code first last = nat_le first code && nat_le code last

-- C0, DEL and C1; the Arabic letter mark, the marks from left to right and from right to left; the
-- ends of a line and of a paragraph, embeddings and overrides; isolates (UAX #9)
abbrev pub is_mark : ℕ → Bool
is_mark code =
    nat_le code 31
    || is_between code 127 159
    || code == 1564
    || is_between code 8206 8207
    || is_between code 8232 8238
    || is_between code 8294 8297

abbrev pub is_plain : ℕ → Bool
is_plain code = not (is_mark code)

-- white space of JSON that is a mark: a tab, and the ends of a line
abbrev pub is_json_space : ℕ → Bool
is_json_space code = code == 9 || code == 10 || code == 13

-- 0 to 9, a to f
abbrev pub hex_digit : ℕ → ℕ
hex_digit digit = if nat_lt digit 10 then 48 + digit else 87 + digit

-- \u and four digits
abbrev pub escape : ℕ → List ℕ
escape code =
    92 ∷ 117 ∷ hex_digit (code / 4096 % 16) ∷ hex_digit (code / 256 % 16)
    ∷ hex_digit (code / 16 % 16) ∷ hex_digit (code % 16) ∷ []

abbrev pub is_space_in : TextKind → ℕ → Bool
is_space_in Line code = false
is_space_in Json code = is_json_space code

-- the characters that stand for one
abbrev pub shown_char : TextKind → ℕ → List ℕ
shown_char form code =
    if not (is_mark code) then code ∷ []
    else (if is_space_in form code then 32 ∷ [] else escape code)

abbrev pub shown_chars : TextKind → List ℕ → List ℕ
shown_chars form cs = flat_map (shown_char form) cs

-- a text as it is shown
abbrev pub shown : TextKind → List ℕ → List ℕ
shown form text = encode_utf8_all (shown_chars form (chars text))

-- the laws: no character that is shown is a mark, and one that is not a mark is itself
abbrev pub NoneIsAMark : Type 0
NoneIsAMark = (form : TextKind) (cs : List ℕ) → list_all is_plain (shown_chars form cs) ≡ true

abbrev pub PlainIsItself : Type 0
PlainIsItself = (form : TextKind) (cs : List ℕ) → list_all is_plain cs ≡ true → shown_chars form cs
    ≡ cs
