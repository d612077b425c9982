-- The records of a file, and how they are taken of it one after another.
use Rattle.std.specs.Prelude.{◌≡◌, ℕ, ◌<◌, Bool, true, false, List, [], ◌∷◌, ◌++◌, length, Some, None, Result, Ok, Err}
use Rattle.csv.specs.declared.reader.Reader.{Reader}
use Rattle.csv.specs.declared.reader.Trim.TheVariants as trim
use Rattle.csv.specs.declared.parser.State.{State}
use Rattle.csv.specs.declared.parser.State.TheVariants as st
use Rattle.csv.specs.Reading.{default_config, strip_bom, source_of, reader_config, reader_source, reader_state, reader_trim, Ready, Reached, AreRecords}
use Rattle.canary_files.specs.declared.bounded.Bounded.{Bounded}
use Rattle.canary_files.specs.declared.import.ImportFault.{ImportFault}
use Rattle.canary_files.specs.declared.import.ImportFault.TheVariants as fault
use Rattle.canary_files.specs.declared.reading.FileReader.{FileReader}
use Rattle.canary_base.specs.Writes.{Known}

abbrev pub Fields : Type 0
Fields = List (List ℕ)

-- a file, if its bytes are known, begins with these records
abbrev pub BeginsWith : Known → List Fields → Type 0
BeginsWith None records = Unit {0}
BeginsWith (Some bytes) records =
    (state : State) × (rest : List ℕ)
    × Reached default_config st.StartRecord (strip_bom bytes) records state rest

-- and has no others
abbrev pub HasRecords : Known → List Fields → Type 0
HasRecords None records = Unit {0}
HasRecords (Some bytes) records = AreRecords default_config st.StartRecord (strip_bom bytes) records

-- a reader of a file stands after these records
pub record StandsBehind {S : Type 0} (left : S → Known) (file : Known) (reader : Reader S)
    (records : List Fields) : Type 0 where
  pub config : reader_config reader ≡ default_config
  pub trim : reader_trim reader ≡ trim.None
  pub ready : Ready reader
  pub known : (bytes : List ℕ) → file ≡ Some bytes
      → (rest : List ℕ) × (source_of left reader ≡ Some rest)
      × Reached default_config st.StartRecord (strip_bom bytes) records
      (reader_state reader) rest

-- ---- how many were taken

abbrev pub taken_of : {S : Type 0} → FileReader S → ℕ
taken_of r = r.taken

-- how many more bytes are asked for at most, of a reader and of a file
abbrev pub left_of : {R : Type 0} → Bounded R → ℕ
left_of b = b.left

abbrev pub spare_of : {S : Type 0} → (S → ℕ) → FileReader S → ℕ
spare_of spare r = spare (reader_source r.reader)

-- just these records were taken of a file, which are its first ones
pub record HasTaken {S : Type 0} (left : S → Known) (file : Known) (r : FileReader S)
    (records : List Fields) : Type 0 where
  pub stands : StandsBehind left file r.reader records
  pub many : taken_of r ≡ length records

-- why the bytes ended early: no more are asked for, or the reader failed
abbrev pub IsEnd : ℕ → ImportFault → Type 0
IsEnd spare fault.RowsSpent = spare ≡ 0
IsEnd spare fault.Read = 0 < spare
IsEnd spare fault.Write = ⊥
IsEnd spare fault.Memory = ⊥
IsEnd spare fault.Header = ⊥

-- the next record of a file was taken; or it has no more; or no more was taken, since the reader
-- failed, or memory ran out, or no more bytes are asked for
abbrev pub TakesNext : {S : Type 0} → (S → Known) → (S → ℕ) → Known → FileReader S → List Fields
    → Fields → Result Bool ImportFault → Type 0
TakesNext left spare file new records fields (Ok true) =
    HasTaken left file new (records ++ fields ∷ [])
TakesNext left spare file new records fields (Ok false) =
    HasRecords file records × (taken_of new ≡ length records)
TakesNext left spare file new records fields (Err fault.Memory) = taken_of new ≡ length records
TakesNext left spare file new records fields (Err fault.Read) =
    (0 < spare_of spare new) × (taken_of new ≡ length records)
TakesNext left spare file new records fields (Err fault.RowsSpent) =
    (spare_of spare new ≡ 0) × (taken_of new ≡ length records)
TakesNext left spare file new records fields (Err _) = ⊥
