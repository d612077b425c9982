-- What reading a row answers.
use Rattle.std.specs.Prelude.{◌≡◌, Result, Ok, Err}
use Rattle.canary_files.specs.declared.row.RowRefusal.{RowRefusal}
use Rattle.canary_files.specs.declared.row.Row.{Row}
use Rattle.canary_files.specs.declared.row.CsvFault.{CsvFault}
use Rattle.canary_files.specs.declared.row.CsvFault.TheVariants.{Refused, Memory}

-- the row, or why it is refused, or that memory ran out
abbrev pub IsRowRead : Result Row RowRefusal → Result Row CsvFault → Type 0
IsRowRead reading (Ok row) = reading ≡ Ok row
IsRowRead reading (Err (Refused refusal)) = reading ≡ Err refusal
IsRowRead reading (Err Memory) = Unit {0}
