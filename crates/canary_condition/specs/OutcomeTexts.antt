-- How an outcome is written where it is kept: a result by its text, a failure by `!` and its text;
-- and what a text says, read back.
use Rattle.std.specs.Prelude.{Bool, ℕ, ℤ, pos, negsuc, ◌-◌, ◌^◌, ◌==◌, nat_le, nat_lt, ◌&&◌, if◌then◌else◌, List, ◌∷◌, length, take, drop, map, slice_index, Option, Some, None, option_map}
use Rattle.std.specs.Str.{bytes_eq}
use Rattle.std.specs.Str.Parse.{signed_digits_value}
use Rattle.std.specs.List.{slice_split, list_all}
use Rattle.canary_condition.specs.declared.outcome.Value.{Value}
use Rattle.canary_condition.specs.declared.outcome.Value.TheVariants.{Whole, List as ListResult}
use Rattle.canary_condition.specs.declared.outcome.Outcome.{Outcome}
use Rattle.canary_condition.specs.declared.outcome.Outcome.TheVariants.{Result as Brought, Failure}
use Rattle.canary_condition.specs.Results.{words_of}

abbrev pub outcome_text : Outcome → List ℕ
outcome_text (Brought value) = words_of value
outcome_text (Failure text) = 33 ∷ text

-- a word of 64 bits with a sign holds it
abbrev pub is_signed_word : ℤ → Bool
is_signed_word (pos n) = nat_lt n (2 ^ 63)
is_signed_word (negsuc n) = nat_lt n (2 ^ 63)

-- the limits of a result: numbers of 64 bits, in a list 1 to 16 of them
abbrev pub is_result : Value → Bool
is_result (Whole z) = is_signed_word z
is_result (ListResult values) =
    nat_le 1 (length values) && (nat_le (length values) 16 && list_all is_signed_word values)

-- the numbers between semicolons, after the first byte and before the last
abbrev pub spelled_list : List ℕ → List ℤ
spelled_list text =
    map (signed_digits_value 10) (slice_split (λ b. b == 59) (take (length text - 2) (drop 1 text)))

-- what a text spells if it is a result's: a list after a `[`, a number otherwise
abbrev pub spelled : List ℕ → Value
spelled text =
    if slice_index text 0 == 91 then ListResult (spelled_list text)
    else Whole (signed_digits_value 10 text)

-- The result with this text. What the text spells is the only result that can have it, and has it
-- if it is written so: no zeros lead, no `+` or `-0` stands there, and nothing else.
unfoldable pub value_in : List ℕ → Option Value
value_in text =
    let value = spelled text in if is_result value && bytes_eq (words_of value) text then Some value
    else None

-- a failure's text has 1 to 200 bytes
abbrev pub failure_with : List ℕ → Option Outcome
failure_with text =
    if nat_le 1 (length text) && nat_le (length text) 200 then Some (Failure text) else None

-- the outcome with this text
unfoldable pub outcome_in : List ℕ → Option Outcome
outcome_in text =
    if slice_index text 0 == 33 then failure_with (drop 1 text)
    else option_map Brought (value_in text)
