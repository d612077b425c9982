-- The tokens of a condition of Argo Rollouts.
use Rattle.std.specs.Prelude.{◌≡◌, ◌==◌, ◌^◌, ◌+◌, ◌-◌, ◌*◌, nat_lt, nat_le, ◌&&◌, ◌||◌, ℕ, suc, Bool, true, false, not, if◌then◌else◌, List, [], ◌∷◌, ◌++◌, take, drop, Option, Some, None, codes, option_map}
use Rattle.std.specs.Char.{is_ascii_alphanumeric, is_ascii_digit}
use Rattle.std.specs.List.{before_first, position_or_len, flat_map}
use Rattle.std.specs.Str.{bytes_eq}
use Rattle.std.specs.Int.RustNames.{unsigned_abs}
use Rattle.canary_condition.specs.declared.condition.Comparison.TheVariants.{Equal, NotEqual, Less, AtMost, Greater, AtLeast}
use Rattle.canary_decimal.specs.declared.decimal.ShortDecimal.{ShortDecimal}
use Rattle.canary_decimal.specs.Exactness.{Fraction, signed}
use Rattle.canary_decimal.specs.Short.{short_of}
use Rattle.canary_decimal.specs.Reader.{spelled}
use Rattle.canary_argo.specs.declared.condition.ArgoToken.{ArgoToken}
use Rattle.canary_argo.specs.declared.condition.ArgoToken.TheVariants.{Compares, OrSign, AndSign, NotSign, Open, Close, OpenItem, CloseItem, ResultWord, AsFloatWord, AsIntWord, DefaultWord, LenWord, NaNWord, InfWord, Comma, Number}

-- a space, a tab, LF or CR
abbrev pub is_blank : ℕ → Bool
is_blank b = b == 32 || b == 9 || b == 10 || b == 13

-- the text from its first byte on that is no blank
abbrev pub unblanked : List ℕ → List ℕ
unblanked [] = []
unblanked (b ∷ text) = if is_blank b then unblanked text else b ∷ text

-- a letter, a digit, `_` or a point
abbrev pub is_word_byte : ℕ → Bool
is_word_byte b = is_ascii_alphanumeric b || b == 95 || b == 46

abbrev pub ends_word : ℕ → Bool
ends_word b = not (is_word_byte b)

-- the word that a text begins with, the longest run of such bytes, and what follows it
abbrev pub front_word : List ℕ → List ℕ
front_word text = before_first ends_word text

abbrev pub after_word : List ℕ → List ℕ
after_word text = drop (position_or_len ends_word text) text

-- ---- numbers, as expr-lang has them:
--     number := ["-"] ("0x" or "0X" and hexadecimal digits, or a decimal)
-- A decimal is one of canary_decimal's grammar, of which the digits before the point may be left
-- out. Between digits may be `_`, which says nothing.

-- whether a number goes on with a byte after another one: a sign stands after an `e` alone
abbrev pub goes_on : ℕ → ℕ → Bool
goes_on previous b =
    is_word_byte b || ((previous == 101 || previous == 69) && (b == 43 || b == 45))

-- how many bytes of a text are a number, after this byte
abbrev pub number_len : ℕ → List ℕ → ℕ
number_len previous [] = 0
number_len previous (b ∷ text) = if goes_on previous b then suc (number_len b text) else 0

-- the number that a text begins with, and what follows it
abbrev pub front_number : List ℕ → List ℕ
front_number text = take (number_len 0 text) text

abbrev pub after_number : List ℕ → List ℕ
after_number text = drop (number_len 0 text) text

-- the same of a text that begins with a sign
abbrev pub signed_number : List ℕ → List ℕ
signed_number [] = []
signed_number (sign ∷ text) = sign ∷ front_number text

abbrev pub after_signed : List ℕ → List ℕ
after_signed [] = []
after_signed (sign ∷ text) = after_number text

-- a number of at most 15 digits, at most 17 of them after the point
abbrev pub is_held : ShortDecimal → Bool
is_held d = nat_lt (unsigned_abs d.whole) (10 ^ 15) && nat_lt d.places 18

abbrev pub held : Option ShortDecimal → Option ShortDecimal
held None = None
held (Some d) = if is_held d then Some d else None

abbrev pub held_of : Option Fraction → Option ShortDecimal
held_of None = None
held_of (Some x) = held (short_of x)

-- a byte of a decimal, without `_`
abbrev pub kept : ℕ → List ℕ
kept b = if b == 95 then [] else b ∷ []

-- the sign, and a `0` before a point that stands first
abbrev pub begun : Bool → Bool → List ℕ
begun true true = codes "-0"
begun true false = codes "-"
begun false true = codes "0"
begun false false = []

-- whether a digit stands first; whether a point does, and a digit after it
abbrev pub has_digit : List ℕ → Bool
has_digit [] = false
has_digit (b ∷ word) = is_ascii_digit b

abbrev pub has_point : List ℕ → Bool
has_point [] = false
has_point (b ∷ word) = b == 46 && has_digit word

-- a decimal as canary_decimal's grammar has it
abbrev pub written : Bool → List ℕ → List ℕ
written minus word = begun minus (has_point word) ++ flat_map kept word

-- the decimal that a word without a sign spells
abbrev pub decimal_of : Bool → List ℕ → Option ShortDecimal
decimal_of minus word =
    if has_digit word || has_point word then held_of (spelled (written minus word)) else None

abbrev pub hex_digit : ℕ → Option ℕ
hex_digit b =
    if nat_le 48 b && nat_le b 57 then Some (b - 48)
    else (if nat_le 97 b && nat_le b 102 then Some (b - 97 + 10)
    else (if nat_le 65 b && nat_le b 70 then Some (b - 65 + 10) else None))

-- a number with one more hexadecimal digit, if it has at most 15 digits
abbrev pub with_digit : ℕ → Option ℕ → Option ℕ
with_digit n None = None
with_digit n (Some digit) = if nat_lt n (10 ^ 15) then Some (n * 16 + digit) else None

abbrev pub with_hex : Option ℕ → ℕ → Option ℕ
with_hex None b = None
with_hex (Some n) b = if b == 95 then Some n else with_digit n (hex_digit b)

-- the number of hexadecimal digits after others
abbrev pub hex_after : Option ℕ → List ℕ → Option ℕ
hex_after n [] = n
hex_after n (b ∷ digits) = hex_after (with_hex n b) digits

abbrev pub hex_of : List ℕ → Option ℕ
hex_of [] = None
hex_of (b ∷ digits) = hex_after (hex_digit b) digits

abbrev pub whole_number : Bool → Option ℕ → Option ShortDecimal
whole_number minus None = None
whole_number minus (Some n) =
    if nat_lt n (10 ^ 15) then Some (record { whole = signed minus n; places = 0 }) else None

-- the number that a word without a sign spells
abbrev pub unsigned_number : Bool → List ℕ → Option ShortDecimal
unsigned_number minus [] = decimal_of minus []
unsigned_number minus (a ∷ []) = decimal_of minus (a ∷ [])
unsigned_number minus (a ∷ b ∷ digits) =
    if a == 48 && (b == 120 || b == 88) then whole_number minus (hex_of digits)
    else decimal_of minus (a ∷ b ∷ digits)

-- the number that a word spells
abbrev pub number_of : List ℕ → Option ShortDecimal
number_of [] = unsigned_number false []
number_of (b ∷ word) =
    if b == 45 then unsigned_number true word else unsigned_number false (b ∷ word)

abbrev pub number_token : List ℕ → Option ArgoToken
number_token word = option_map (λ (d : ShortDecimal). Number d) (number_of word)

-- the token of a word that is no number
abbrev pub keyword_token : List ℕ → Option ArgoToken
keyword_token word =
    if bytes_eq word (codes "result") then Some ResultWord
    else (if bytes_eq word (codes "and") then Some AndSign
    else (if bytes_eq word (codes "or") then Some OrSign
    else (if bytes_eq word (codes "not") then Some NotSign
    else (if bytes_eq word (codes "asFloat") then Some AsFloatWord
    else (if bytes_eq word (codes "asInt") then Some AsIntWord
    else (if bytes_eq word (codes "len") then Some LenWord
    else (if bytes_eq word (codes "isNaN") then Some NaNWord
    else (if bytes_eq word (codes "isInf") then Some InfWord
    else (if bytes_eq word (codes "default") then Some DefaultWord else None)))))))))

-- the symbol of two bytes
abbrev pub long_symbol : ℕ → ℕ → Option ArgoToken
long_symbol a b =
    if a == 61 && b == 61 then Some (Compares Equal)
    else (if a == 33 && b == 61 then Some (Compares NotEqual)
    else (if a == 60 && b == 61 then Some (Compares AtMost)
    else (if a == 62 && b == 61 then Some (Compares AtLeast)
    else (if a == 38 && b == 38 then Some AndSign
    else (if a == 124 && b == 124 then Some OrSign else None)))))

-- the symbol of one byte
abbrev pub short_symbol : ℕ → Option ArgoToken
short_symbol a =
    if a == 60 then Some (Compares Less)
    else (if a == 62 then Some (Compares Greater)
    else (if a == 33 then Some NotSign
    else (if a == 40 then Some Open
    else (if a == 41 then Some Close
    else (if a == 91 then Some OpenItem
    else (if a == 93 then Some CloseItem
    else (if a == 44 then Some Comma else None)))))))

-- a token, with the text that follows it
abbrev pub before : List ℕ → Option ArgoToken → Option (ArgoToken × List ℕ)
before rest token = option_map (λ (t : ArgoToken). (t, rest)) token

abbrev pub or_else : Option (ArgoToken × List ℕ) → Option (ArgoToken × List ℕ)
    → Option (ArgoToken × List ℕ)
or_else None second = second
or_else (Some first) second = Some first

-- the symbol at the front, the longest first
abbrev pub front_symbol : List ℕ → Option (ArgoToken × List ℕ)
front_symbol [] = None
front_symbol (a ∷ []) = before [] (short_symbol a)
front_symbol (a ∷ b ∷ text) =
    or_else (before text (long_symbol a b)) (before (b ∷ text) (short_symbol a))

-- The token at the front of a text that begins with no blank, and what follows it. A `-` belongs
-- to the number that follows it directly.
abbrev pub front_token : List ℕ → Option (ArgoToken × List ℕ)
front_token [] = None
front_token (b ∷ text) =
    if is_ascii_digit b || b == 46
    then before (after_number (b ∷ text)) (number_token (front_number (b ∷ text)))
    else (if b == 45
    then before (after_signed (b ∷ text)) (number_token (signed_number (b ∷ text)))
    else (if is_word_byte b
    then before (after_word (b ∷ text)) (keyword_token (front_word (b ∷ text)))
    else front_symbol (b ∷ text)))

abbrev pub IsFront : List ℕ → ArgoToken → List ℕ → Type 0
IsFront text t rest = front_token text ≡ Some (t, rest)

-- a text that begins with no blank is these tokens, with blanks between them and after them
abbrev pub HasTokens : List ℕ → List ArgoToken → Type 0
HasTokens text [] = text ≡ []
HasTokens text (t ∷ ts) =
    (rest : List ℕ) × IsFront text t rest × HasTokens (unblanked rest) ts

-- the text is these tokens
abbrev pub IsMadeOf : List ℕ → List ArgoToken → Type 0
IsMadeOf text ts = HasTokens (unblanked text) ts
