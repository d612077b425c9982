-- Rows that were written are read back.
use Rattle.std.specs.Prelude.{◌≡◌, ℕ, suc, ◌≤◌, ◌<◌, IsTrue, List, [], ◌∷◌, length, slice_get, Some, Ok}
use Rattle.std.specs.Str.{is_utf8}
use Rattle.canary_base.specs.Names.{is_name, is_label}
use Rattle.canary_condition.specs.Results.{words_of}
use Rattle.canary_condition.specs.OutcomeTexts.{value_in}
use Rattle.canary_condition.specs.declared.outcome.Outcome.{Outcome}
use Rattle.canary_condition.specs.declared.outcome.Outcome.TheVariants.{Result as Brought, Failure}
use Rattle.canary_plan.specs.declared.report.Entry.{Entry}
use Rattle.canary_plan.specs.declared.report.Report.{Report}
use Rattle.canary_plan.specs.Limits.{is_ordinal, are_report_limits}
use Rattle.canary_release.specs.declared.effect.Recorded.{Recorded}
use Rattle.canary_once.specs.Contents.{Contents}
use Rattle.canary_once.specs.Records.{past_of}
use Rattle.canary_once.specs.Sound.{AreContents}
use Rattle.canary_files.specs.Rows.{header, row_of}
use Rattle.canary_files.specs.Written.{row_fields, file_of}
use Rattle.canary_files.specs.Taking.{Fields, HasRecords}
use Rattle.canary_files.specs.Exporting.{name_of, recorded_of}

-- an outcome as there are: a result whose text is read back, as that of any is, or a failure of 1
-- to 200 bytes of text
abbrev pub IsKept : Outcome → Type 0
IsKept (Brought value) =
    IsTrue (is_utf8 (words_of value)) × (value_in (words_of value) ≡ Some value)
IsKept (Failure text) = IsTrue (is_utf8 text) × (1 ≤ length text) × (length text ≤ 200)

-- a measurement that a report can bring
pub record IsReportable (x : Recorded) : Type 0 where
  pub run : IsTrue (are_report_limits x.run 1)
  pub ordinal : IsTrue (is_ordinal x.ordinal)
  pub taken : x.taken ≤ 253370764799
  pub outcome : IsKept x.outcome

abbrev pub entry_for : List ℕ → (x : Recorded) → IsReportable x → Entry
entry_for metric x is =
    record {
      metric = metric;
      ordinal = x.ordinal;
      taken = x.taken;
      outcome = x.outcome;
      within = is.ordinal;
    }

-- the report of this measurement alone
abbrev pub report_for : List ℕ → List ℕ → (x : Recorded) → IsReportable x → Report
report_for service metric x is =
    record { service = service; run = x.run; entries = entry_for metric x is ∷ []; within = is.run }

-- the law: the row of a measurement is read as the request that reports it
abbrev pub AreReadBack : Type 0
AreReadBack =
    (caller service metric : List ℕ) (number : ℕ) (x : Recorded) (is : IsReportable x)
    → IsTrue (is_name caller) → IsTrue (is_name service) → IsTrue (is_label metric)
    → IsTrue (is_ordinal number)
    → row_of (row_fields caller number service x metric)
    ≡ Ok (record { caller = caller; number = number; report = report_for service metric x is })

-- its moment and its outcome keep the limits of their types, as those of each value do
pub record HasLimits (x : Recorded) : Type 0 where
  pub taken : x.taken ≤ 253370764799
  pub outcome : IsKept x.outcome

-- a report can bring this measurement, and its row is read as the request with that report
pub record IsReadBack (caller service metric : List ℕ) (number : ℕ) (x : Recorded) : Type 0 where
  pub is : IsReportable x
  pub reads : row_of (row_fields caller number service x metric)
      ≡ Ok (record { caller = caller; number = number; report = report_for service metric x is })

-- the law: so it is of each of the first 1,000,000,000 measurements of a service, which contents in
-- order have; its row is that of the file which is exported
abbrev pub AreExportsReadBack : Type 0
AreExportsReadBack =
    (c : Contents) (caller service : List ℕ) (place : ℕ) (x : Recorded) → AreContents c
    → slice_get (recorded_of c service) place ≡ Some x → place < 1000000000 → HasLimits x
    → IsTrue (is_name caller) → IsTrue (is_name service)
    → IsTrue (is_label (name_of (past_of c service) x))
    → IsReadBack caller service (name_of (past_of c service) x) (suc place) x

-- the fields of the rows of measurements in order, after so many others
abbrev pub rows_fields : List ℕ → List ℕ → (Recorded → List ℕ) → ℕ → List Recorded → List Fields
rows_fields caller service name n [] = []
rows_fields caller service name n (x ∷ xs) =
    row_fields caller (suc n) service x (name x) ∷ rows_fields caller service name (suc n) xs

-- the law: the records that are read of the file of a list of measurements are the header and
-- their rows
abbrev pub AreFilesReadBack : Type 0
AreFilesReadBack =
    (caller service : List ℕ) (name : Recorded → List ℕ) (xs : List Recorded)
    → HasRecords (Some (file_of caller service name xs))
    (header ∷ rows_fields caller service name 0 xs)
