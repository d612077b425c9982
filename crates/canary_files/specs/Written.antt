-- Measurement files: their header, and the row of a measurement.
use Rattle.std.specs.Prelude.{ℕ, suc, List, [], ◌∷◌, ◌++◌, decimal}
use Rattle.csv.specs.Writing.{default_writer, row_text}
use Rattle.canary_condition.specs.Results.{words_of}
use Rattle.canary_condition.specs.declared.outcome.Outcome.{Outcome}
use Rattle.canary_condition.specs.declared.outcome.Outcome.TheVariants.{Result as Brought, Failure}
use Rattle.canary_release.specs.declared.effect.Recorded.{Recorded}
use Rattle.canary_files.specs.Rows.{header}

-- the text of a result, or no byte
abbrev pub result_field : Outcome → List ℕ
result_field (Brought value) = words_of value
result_field (Failure text) = []

-- the text of a failure, or no byte
abbrev pub failure_field : Outcome → List ℕ
failure_field (Brought value) = []
failure_field (Failure text) = text

-- the row of a measurement, by its caller, its number, its service and its metric's name
abbrev pub row_fields : List ℕ → ℕ → List ℕ → Recorded → List ℕ → List (List ℕ)
row_fields caller number service x metric =
    caller ∷ decimal number ∷ service ∷ decimal x.run ∷ metric ∷ decimal x.ordinal ∷ decimal x.taken
    ∷ result_field x.outcome ∷ failure_field x.outcome ∷ []

-- a record as `csv` writes it
abbrev pub record_text : List (List ℕ) → List ℕ
record_text fields = row_text default_writer fields

-- the rows of measurements in order, after so many others
abbrev pub rows_text : List ℕ → List ℕ → (Recorded → List ℕ) → ℕ → List Recorded → List ℕ
rows_text caller service name n [] = []
rows_text caller service name n (x ∷ xs) =
    record_text (row_fields caller (suc n) service x (name x))
    ++ rows_text caller service name (suc n) xs

-- the file of a list of measurements, whose metrics have these names: the header, and their rows,
-- numbered from 1
abbrev pub file_of : List ℕ → List ℕ → (Recorded → List ℕ) → List Recorded → List ℕ
file_of caller service name xs = record_text header ++ rows_text caller service name 0 xs
