-- The rows of a measurement file: how they are written, and the request that each is.
use Rattle.std.specs.Prelude.{ℕ, pos, ◌==◌, ◌&&◌, nat_le, not, Bool, if◌then◌else◌, List, [], ◌∷◌, length, codes, Option, Some, None, Result, Ok, Err, option_map, option_and_then, unwrap_or}
use Rattle.std.specs.Option.{option_flatten}
use Rattle.std.specs.Str.{is_utf8, bytes_eq}
use Rattle.csv.specs.Records.{field_at}
use Rattle.canary_base.specs.Names.{is_name, is_label}
use Rattle.canary_condition.specs.declared.outcome.Value.{Value}
use Rattle.canary_condition.specs.declared.outcome.Value.TheVariants.{Whole}
use Rattle.canary_condition.specs.declared.outcome.Outcome.{Outcome}
use Rattle.canary_condition.specs.declared.outcome.Outcome.TheVariants.{Result as Brought, Failure}
use Rattle.canary_condition.specs.OutcomeTexts.{value_in}
use Rattle.canary_plan.specs.declared.report.Entry.{Entry}
use Rattle.canary_plan.specs.declared.report.Report.{Report}
use Rattle.canary_canonical.specs.Forms.{◌⊛◌, some_if, up_to}
use Rattle.canary_canonical.specs.Readings.{entry_of, report_with}
use Rattle.canary_files.specs.declared.row.RowRefusal.{RowRefusal}
use Rattle.canary_files.specs.declared.row.RowRefusal.TheVariants.{Unreadable, BadName, BadNumber}
use Rattle.canary_files.specs.declared.row.Row.{Row}

-- the first record of a file
unfoldable pub header : List (List ℕ)
header =
    codes "caller" ∷ codes "number" ∷ codes "service" ∷ codes "run" ∷ codes "metric"
    ∷ codes "ordinal" ∷ codes "taken" ∷ codes "result"
    ∷ codes "failure" ∷ []

-- the field at a place, from 0
abbrev pub field : List (List ℕ) → ℕ → List ℕ
field fields place = unwrap_or (field_at fields place) []

-- a field is this text
abbrev pub is_at : List (List ℕ) → ℕ → List ℕ → Bool
is_at fields place text = bytes_eq (field fields place) text

-- a record is the first one of a file, field by field
unfoldable pub says_who : List (List ℕ) → Bool
says_who fields =
    is_at fields 0 (codes "caller")
    && (is_at fields 1 (codes "number") && is_at fields 2 (codes "service"))

unfoldable pub says_where : List (List ℕ) → Bool
says_where fields =
    is_at fields 3 (codes "run")
    && (is_at fields 4 (codes "metric") && is_at fields 5 (codes "ordinal"))

unfoldable pub says_what : List (List ℕ) → Bool
says_what fields =
    is_at fields 6 (codes "taken")
    && (is_at fields 7 (codes "result") && is_at fields 8 (codes "failure"))

unfoldable pub is_header : List (List ℕ) → Bool
is_header fields =
    (length fields == 9) && (says_who fields && (says_where fields && says_what fields))

-- ---- fields

-- a result in the form in which it is kept
abbrev pub result_in : List ℕ → Option Value
result_in text = if is_utf8 text then value_in text else None

abbrev pub whole_of : Value → Option ℕ
whole_of (Whole (pos n)) = Some n
whole_of value = None

-- a number from 0 on, in decimal, without leading zeros
abbrev pub whole_in : List ℕ → Option ℕ
whole_in text = option_and_then whole_of (result_in text)

-- a number of 32 bits
abbrev pub word_in : List ℕ → Option ℕ
word_in text = option_and_then (up_to 4294967295) (whole_in text)

-- a moment, in seconds
abbrev pub moment_in : List ℕ → Option ℕ
moment_in text = option_and_then (up_to 253370764799) (whole_in text)

abbrev pub if_number : ℕ → Option ℕ
if_number n = if nat_le 1 n && nat_le n 1000000000 then Some n else None

-- the number of a request
abbrev pub number_in : List ℕ → Option ℕ
number_in text = option_and_then if_number (word_in text)

-- text of 1 to 200 bytes
abbrev pub failure_in : List ℕ → Option Outcome
failure_in text =
    if is_utf8 text && (nat_le 1 (length text) && nat_le (length text) 200) then Some (Failure text)
    else None

-- one of the two is empty, and the other one says what was measured
abbrev pub outcome_in : List ℕ → List ℕ → Option Outcome
outcome_in result failure =
    if length failure == 0 then option_map Brought (result_in result)
    else (if length result == 0 then failure_in failure else None)

-- ---- rows

abbrev pub entry_in : List (List ℕ) → Option Entry
entry_in fields = option_flatten (Some entry_of
    ⊛ some_if is_label (field fields 4)
    ⊛ word_in (field fields 5)
    ⊛ moment_in (field fields 6)
    ⊛ outcome_in (field fields 7) (field fields 8))

abbrev pub only : Entry → List Entry
only entry = entry ∷ []

abbrev pub entries_in : List (List ℕ) → Option (List Entry)
entries_in fields = option_map only (entry_in fields)

-- a report with one entry
unfoldable pub report_of : List (List ℕ) → Option Report
report_of fields = option_flatten (Some report_with
    ⊛ some_if is_name (field fields 2)
    ⊛ word_in (field fields 3)
    ⊛ entries_in fields)

abbrev pub row_with : List ℕ → Option ℕ → Option Report → Result Row RowRefusal
row_with caller None report = Err BadNumber
row_with caller (Some number) None = Err Unreadable
row_with caller (Some number) (Some report) =
    Ok (record { caller = caller; number = number; report = report })

-- the request that a row is, or the first reason to refuse it
abbrev pub row_of : List (List ℕ) → Result Row RowRefusal
row_of fields =
    if not (length fields == 9) then Err Unreadable
    else (if not (is_name (field fields 0)) then Err BadName
    else row_with (field fields 0) (number_in (field fields 1)) (report_of fields))
