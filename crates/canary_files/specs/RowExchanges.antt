-- A row, and what comes of it.
use Rattle.std.specs.Prelude.{◌≡◌, ℕ, ◌+◌, List, [], ◌∷◌, ◌++◌, Ok, Err}
use Rattle.canary_plan.specs.declared.command.Command.TheVariants.{Report}
use Rattle.canary_once.specs.declared.event.Event.TheVariants as event
use Rattle.canary_once.specs.Single.{request_of}
use Rattle.canary_once.specs.Messages.{Disposition, rejected, no_memory, answered, Exchange, messages_of}
use Rattle.canary_files.specs.declared.row.RowRefusal.{RowRefusal}
use Rattle.canary_files.specs.declared.row.Row.{Row}
use Rattle.canary_files.specs.declared.answer.RowReply.{RowReply}
use Rattle.canary_files.specs.declared.answer.RowReply.TheVariants.{Refused, NoMemory, Answered}
use Rattle.canary_files.specs.Rows.{row_of}
use Rattle.canary_files.specs.Lines.{told_status, told_body, line_of}

-- ---- what comes of a row

abbrev pub RowDisposition : Type 0
RowDisposition = Disposition RowRefusal

-- what its line says
abbrev pub told_of : RowDisposition → RowReply
told_of (rejected refusal) = Refused refusal
told_of no_memory = NoMemory
told_of (answered event answer) = Answered answer

-- what comes of these fields at a moment: the first refusal that holds, or the request that they
-- are
abbrev pub IsDisposition : List (List ℕ) → ℕ → RowDisposition → Type 0
IsDisposition fields moment (rejected refusal) = row_of fields ≡ Err refusal
IsDisposition fields moment no_memory = Unit {0}
IsDisposition fields moment (answered (event.Request request) answer) =
    (row : Row) × (row_of fields ≡ Ok row)
    × (request ≡ request_of moment row.caller row.number (Report row.report))
IsDisposition fields moment (answered (event.Query at query) answer) = ⊥

-- ---- exchanges

-- the fields of a row, the moment that the clock gave for it, and what came of it
abbrev pub RowExchange : Type 0
RowExchange = Exchange (List (List ℕ)) RowRefusal

abbrev pub IsExchange : RowExchange → Type 0
IsExchange x = IsDisposition x.message x.moment x.disposition

abbrev pub rows_of : List RowExchange → List (List (List ℕ))
rows_of xs = messages_of xs

-- the line that reports it, under the row's number
abbrev pub told_line : ℕ → RowDisposition → List ℕ
told_line number d = line_of number (told_status (told_of d)) (told_body (told_of d))

-- the lines of rows that are numbered from one on
abbrev pub lines_from : ℕ → List RowExchange → List ℕ
lines_from number [] = []
lines_from number (x ∷ xs) = told_line number x.disposition ++ lines_from (number + 1) xs

-- the lines of a file's rows
abbrev pub lines : List RowExchange → List ℕ
lines xs = lines_from 1 xs
