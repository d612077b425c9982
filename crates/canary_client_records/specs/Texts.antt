-- A file of texts. Each text has a gate before it, `+`, and an LF after it. A closed gate, `-`,
-- stands after the last one, and what stands after that does not count. So a text counts once its
-- gate is opened, by a write of its own after the text is on the disk.
use Rattle.std.specs.Prelude.{◌≡◌, ◌≢◌, ℕ, ◌==◌, nat_le, ◌||◌, List, [], ◌∷◌, ◌++◌, length, drop, Bool, true, false, if◌then◌else◌, Option, Some, None, option_map}
use Rattle.std.specs.Str.{is_utf8}
use Rattle.std.specs.List.{AllByRecursion, before_first}

abbrev pub if_utf8 : List ℕ → Option (List (List ℕ)) → Option (List (List ℕ))
if_utf8 text more = if is_utf8 text then option_map (λ texts. text ∷ texts) more else None

-- no text more after a closed gate; there is no third gate
abbrev pub if_closed : ℕ → Option (List (List ℕ))
if_closed gate = if gate == 45 then Some [] else None

abbrev mutual
  -- the texts from a gate on; a file that ends before a gate is cut short
  pub from_gate : List ℕ → Option (List (List ℕ))
  from_gate [] = None
  from_gate (gate ∷ rest) = if gate == 43 then from_text [] rest else if_closed gate

  -- the texts from within one on, of which this was read
  pub from_text : List ℕ → List ℕ → Option (List (List ℕ))
  from_text text [] = None
  from_text text (byte ∷ rest) =
      if byte == 10 then if_utf8 text (from_gate rest) else from_text (text ++ byte ∷ []) rest

-- its first gate is open, or it has no more bytes than adding a first text may leave: a gate, a
-- text of 107 bytes at most, an LF and a gate
abbrev pub begins : List ℕ → Bool
begins [] = true
begins (gate ∷ rest) = (gate == 43) || nat_le (length (gate ∷ rest)) 110

-- the texts of a file, if it is one and is whole; one without a byte, or with one, has no text yet
abbrev pub texts_of : List ℕ → Option (List (List ℕ))
texts_of [] = Some []
texts_of (gate ∷ []) = Some []
texts_of (gate ∷ byte ∷ rest) =
    if begins (gate ∷ byte ∷ rest) then from_gate (gate ∷ byte ∷ rest) else None

abbrev pub text_of : List ℕ → Option (List ℕ)
text_of bytes = if is_utf8 bytes then Some bytes else None

-- the text up to the first LF, if there is one and it is UTF-8, and what stands after that
abbrev pub line_before : List ℕ → List ℕ → Option (List ℕ × List ℕ)
line_before line [] = None
line_before line (end ∷ after) = option_map (λ text. (text, after)) (text_of line)

abbrev pub is_lf : ℕ → Bool
is_lf byte = byte == 10

abbrev pub up_to_lf : List ℕ → List ℕ
up_to_lf bytes = before_first is_lf bytes

abbrev pub first_line : List ℕ → Option (List ℕ × List ℕ)
first_line bytes = line_before (up_to_lf bytes) (drop (length (up_to_lf bytes)) bytes)

-- the text after an open gate, and what stands after that
abbrev pub first_record : List ℕ → Option (List ℕ × List ℕ)
first_record [] = None
first_record (gate ∷ rest) = if gate == 43 then first_line rest else None

-- a closed gate stands first
abbrev pub is_closed : List ℕ → Bool
is_closed [] = false
is_closed (gate ∷ rest) = gate == 45

-- open gates, each with its text
abbrev pub records : List (List ℕ) → List ℕ
records [] = []
records (text ∷ texts) = 43 ∷ (text ++ 10 ∷ records texts)

abbrev pub HasNoLf : List ℕ → Type 0
HasNoLf text = AllByRecursion (λ byte. byte ≢ 10) text

-- it is UTF-8, and has no LF
pub record IsLine (text : List ℕ) : Type 0 where
  pub utf8 : is_utf8 text ≡ true
  pub one : HasNoLf text
