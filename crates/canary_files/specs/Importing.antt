-- What importing a measurement file does.
use Rattle.std.specs.Prelude.{◌≡◌, ◌≢◌, ◌⊎◌, ℕ, ◌+◌, ◌<◌, List, [], ◌∷◌, ◌++◌, length, Result, Ok, Err}
use Rattle.std.specs.Io.KnownBytes.{Appends}
use Rattle.canary_once.specs.Contents.{KeepsReceipts}
use Rattle.canary_once.specs.Sound.{AreSoundContents}
use Rattle.canary_once.specs.BookCalls.{BookState, StaysInMemory}
use Rattle.canary_files.specs.declared.import.ImportFault.{ImportFault}
use Rattle.canary_files.specs.declared.import.ImportFault.TheVariants as fault
use Rattle.canary_files.specs.declared.reading.FileReader.{FileReader}
use Rattle.canary_base.specs.Writes.{Known}
use Rattle.canary_files.specs.Rows.{header}
use Rattle.canary_once.specs.Messages.{DeskState, AnsweredInOrder, HandledAll}
use Rattle.canary_files.specs.RowExchanges.{RowExchange, IsExchange, rows_of, lines, told_line}
use Rattle.canary_files.specs.Taking.{Fields, BeginsWith, HasRecords, HasTaken, taken_of}

-- the first record is the header, and the others are the rows; without any record there are no rows
abbrev pub AreDataRows : List Fields → List Fields → Type 0
AreDataRows [] rows = rows ≡ []
AreDataRows (first ∷ rest) rows = (first ≡ header) × (rows ≡ rest)

-- ---- what an import does

-- (here `w` is what the writer holds)
-- these rows were answered, one after another, and their lines were written
pub record Answers (w new_w : Known) (old new : DeskState) (rows : List Fields) : Type 0 where
  pub exchanges : List RowExchange
  pub are : rows ≡ rows_of exchanges
  pub holds : AnsweredInOrder IsExchange old new exchanges
  pub written : Appends w new_w (lines exchanges)

-- so were all rows of a file
abbrev pub ImportsAll : Known → Known → Known → DeskState → DeskState → ℕ → Type 0
ImportsAll file w new_w old new count =
    (records : List Fields) × (rows : List Fields)
    × HasRecords file records × AreDataRows records rows
    × (count ≡ length rows) × Answers w new_w old new rows

-- so were the first rows of a file of which so many records were taken: all these
abbrev pub ImportsSome : Known → ℕ → Known → Known → DeskState → DeskState → Type 0
ImportsSome file taken w new_w old new =
    (records : List Fields) × (rows : List Fields)
    × BeginsWith file records × AreDataRows records rows × Answers w new_w old new rows
    × (taken ≡ length records)

-- so were the first rows of a file, but that the writer failed in the midst of the last one's line
pub record ImportsUntil (file w new_w : Known) (old new : DeskState) : Type 0 where
  pub exchanges : List RowExchange
  pub last : RowExchange
  pub front : List ℕ
  pub back : List ℕ
  pub begins : BeginsWith file (header ∷ rows_of (exchanges ++ last ∷ []))
  pub holds : AnsweredInOrder IsExchange old new (exchanges ++ last ∷ [])
  pub line : told_line (length exchanges + 1) last.disposition ≡ front ++ back
  pub short : 0 < length back
  pub written : Appends w new_w (lines exchanges ++ front)

-- the first record of a file is not the header, and nothing was done
abbrev pub HasNoHeader : Known → Known → Known → DeskState → DeskState → Type 0
HasNoHeader file w new_w old new =
    (first : Fields) × BeginsWith file (first ∷ []) × (first ≢ header) × Answers w new_w old new []

-- 1,000,000 rows of a file were answered, and it has one more
abbrev pub ImportsTooMany : Known → Known → Known → DeskState → DeskState → Type 0
ImportsTooMany file w new_w old new =
    (rows : List Fields) × (more : Fields) × BeginsWith file (header ∷ rows ++ more ∷ [])
    × (length rows ≡ 1000000) × Answers w new_w old new rows

-- what it did, by how it ended, how many records were taken, and how many more bytes are asked for
-- at most: the reader failed if there are some, and the most bytes were read if there are none
abbrev pub ImportsTo : Known → ℕ → ℕ → Known → Known → DeskState → DeskState → Result ℕ ImportFault
    → Type 0
ImportsTo file taken spare w new_w old new (Ok count) =
    (all : ImportsAll file w new_w old new count) × (taken ≡ length all.0)
ImportsTo file taken spare w new_w old new (Err fault.Read) =
    (0 < spare) × ImportsSome file taken w new_w old new
ImportsTo file taken spare w new_w old new (Err fault.Write) =
    (until : ImportsUntil file w new_w old new) × (taken ≡ length until.exchanges + 2)
ImportsTo file taken spare w new_w old new (Err fault.Memory) =
    ImportsSome file taken w new_w old new
ImportsTo file taken spare w new_w old new (Err fault.Header) =
    HasNoHeader file w new_w old new × (taken ≡ 1)
ImportsTo file taken spare w new_w old new (Err fault.RowsSpent) =
    (ImportsTooMany file w new_w old new × (taken ≡ 1000002))
    ⊎ ((spare ≡ 0) × ImportsSome file taken w new_w old new)

-- what an import leaves of a book, however it ended
pub record KeepsBook (old new : BookState) : Type 0 where
  pub honest : new.is_honest → old.is_honest
  pub in_memory : StaysInMemory old new
  pub sure : new.is_sure ≡ old.is_sure
  pub sound : new.is_honest → AreSoundContents old.contents → AreSoundContents new.contents
  pub receipts : new.is_honest → KeepsReceipts old.contents new.contents

-- ---- step by step

-- since a file was at its header these rows were answered, and they are all that were taken
pub record IsSoFar {S : Type 0} (left : S → Known) (first now : FileReader S) (w now_w : Known)
    (old new : DeskState) (count : ℕ) : Type 0 where
  pub exchanges : List RowExchange
  pub many : length exchanges ≡ count
  pub taken : taken_of now ≡ count + 1
  pub stands : (file : Known) → HasTaken left file first (header ∷ [])
      → HasTaken left file now (header ∷ rows_of exchanges)
  pub went : HandledAll IsExchange old new exchanges
  pub written : Appends w now_w (lines exchanges)
