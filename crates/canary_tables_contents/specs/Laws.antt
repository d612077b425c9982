-- Laws of tables and contents.
use Rattle.std.specs.Prelude.{◌≡◌, ◌≤◌, ℕ, List, length, map, filter, take, drop, Option, Some, None, IsPermutation}
use Rattle.canary_canonical.specs.Readings.{IsCanonical}
use Rattle.canary_plan.specs.declared.bound.BoundParts.{BoundParts}
use Rattle.canary_plan.specs.declared.strategy.CheckedStrategy.{CheckedStrategy}
use Rattle.canary_release.specs.Desks.{revisions_of, newest}
use Rattle.canary_release.specs.Order.{at_revision}
use Rattle.canary_release.specs.Stored.{stored_service}
use Rattle.canary_once.specs.declared.book.Settlement.{Settlement}
use Rattle.canary_once.specs.Contents.{Contents, no_contents, count_of, receipt_at, IsSettling, with_settlement}
use Rattle.canary_once.specs.Records.{run_of, history_of, measurements_of}
use Rattle.canary_once.specs.Sound.{AreContents}
use Rattle.canary_tables_rows.specs.declared.rows.KeptRow.{KeptRow}
use Rattle.canary_tables_rows.specs.declared.rows.RevisionRow.{RevisionRow}
use Rattle.canary_tables_rows.specs.declared.rows.RunRow.{RunRow}
use Rattle.canary_tables_rows.specs.declared.rows.TallyRow.{TallyRow}
use Rattle.canary_tables_rows.specs.Tables.{Tables, no_tables, is_caller, is_kept, is_revision, is_revision_of, is_service, is_binding, is_run, is_open_run_of, is_tally, is_measurement_of, is_line_of}
use Rattle.canary_tables_contents.specs.Values.{receipt_of_row, revision_of_row, measurement_of_row, line_of_row}
use Rattle.canary_tables_contents.specs.Tables.{AreRows, IsReadable}
use Rattle.canary_tables_contents.specs.Reading.{contents_of, first_row, known_in, HoldsContents}
use Rattle.canary_tables_contents.specs.Ordered.{AscendByMetric, AscendByNumber}
use Rattle.canary_tables_rows.specs.Tables.{is_tally_of}
use Rattle.canary_tables_rows.specs.Newest.{IsNewest}
use Rattle.canary_tables_contents.specs.Finding.{IsFound, AreRead, settled_by, tallies_of, strategy_by, analysis_by, record_of_row, open_run_of, open_runs_by, parts_of_row}
use Rattle.canary_tables_contents.specs.Settling.{request_settled, RequestAsks, IsReadableSettlement}

-- tables with the rows of contents are read as these
abbrev pub ReadsBack : Type 0
ReadsBack =
    (t : Tables) (c : Contents) → AreRows t c → IsReadable c → AreContents c → contents_of t ≡ c

-- no rows are those of no contents
pub record EmptyHoldsNothing : Type 0 where
  pub none : contents_of no_tables ≡ no_contents
  pub holds : HoldsContents no_tables

-- the statements of a request find what they ask for
abbrev pub RequestsFind : Type 0
RequestsFind =
    (s : Settlement) (t : Tables) → HoldsContents t → IsSettling (contents_of t) s → RequestAsks s t

-- after them the tables hold the contents with the request
pub record Settles (s : Settlement) (t : Tables) : Type 0 where
  pub contents : contents_of (request_settled s t) ≡ with_settlement (contents_of t) s
  pub holds : HoldsContents (request_settled s t)

abbrev pub RequestsSettle : Type 0
RequestsSettle =
    (s : Settlement) (t : Tables) → s.number ≤ 1000000000 → HoldsContents t
    → IsSettling (contents_of t) s → IsReadableSettlement s → Settles s t

-- What is found in tables that hold contents.

-- under each key stands one row at most
pub record HaveKeys (t : Tables) : Type 0 where
  pub callers : (name : List ℕ) → length (filter (is_caller name) t.callers) ≤ 1
  pub kept : (caller : List ℕ) (number : ℕ) → length (filter (is_kept caller number) t.kept) ≤ 1
  pub revisions : (name : List ℕ) (number : ℕ)
      → length (filter (is_revision name number) t.revisions) ≤ 1
  pub services : (name : List ℕ) → length (filter (is_service name) t.services) ≤ 1
  pub bindings : (name : List ℕ) (number : ℕ) (template : List ℕ)
      → length (filter (is_binding name number template) t.bindings) ≤ 1
  pub runs : (name : List ℕ) (number : ℕ) → length (filter (is_run name number) t.runs) ≤ 1
  pub tallies : (name : List ℕ) (number metric : ℕ)
      → length (filter (is_tally name number metric) t.tallies) ≤ 1

abbrev pub KeysAreUnique : Type 0
KeysAreUnique = (t : Tables) → HoldsContents t → HaveKeys t

-- a caller's row says how many of its requests are settled
abbrev pub CountsAreFound : Type 0
CountsAreFound =
    (t : Tables) → HoldsContents t → (name : List ℕ)
    → settled_by (first_row (filter (is_caller name) t.callers)) ≡ count_of (contents_of t) name

-- a kept row is a receipt; numbers count from 1
abbrev pub ReceiptsAreFound : Type 0
ReceiptsAreFound =
    (t : Tables) → HoldsContents t → (caller : List ℕ) (number : ℕ) → 1 ≤ number
    → IsFound receipt_of_row (first_row (filter (is_kept caller number) t.kept))
    (receipt_at (contents_of t) caller number)

-- its text is canonical
abbrev pub KeptTextsAreCanonical : Type 0
KeptTextsAreCanonical =
    (t : Tables) → HoldsContents t → (caller : List ℕ) (number : ℕ) (row : KeptRow)
    → first_row (filter (is_kept caller number) t.kept) ≡ Some row → IsCanonical row.command

-- a row of a revision is a template; numbers count from 1
abbrev pub RevisionsAreFound : Type 0
RevisionsAreFound =
    (t : Tables) → HoldsContents t → (name : List ℕ) (number : ℕ)
    → IsFound revision_of_row (first_row (filter (is_revision name number) t.revisions))
    (at_revision (revisions_of (contents_of t).desk.templates name) (Some number))

-- the row with the greatest number is the newest revision
abbrev pub NewestAreFound : Type 0
NewestAreFound =
    (t : Tables) → HoldsContents t → (name : List ℕ) (row : Option RevisionRow)
    → IsNewest (filter (is_revision_of name) t.revisions) row
    → IsFound revision_of_row row (newest (contents_of t).desk.templates name)

abbrev pub HistoriesAreFound : Type 0
HistoriesAreFound =
    (t : Tables) → HoldsContents t → (name : List ℕ)
    → AreRead line_of_row (filter (is_line_of name) t.history) (history_of (contents_of t) name)

-- the rows of a page are its measurements
abbrev pub MeasurementsAreFound : Type 0
MeasurementsAreFound =
    (t : Tables) → HoldsContents t → (name : List ℕ) (from most : ℕ)
    → AreRead measurement_of_row
    (take most (drop from (filter (is_measurement_of name) t.measurements)))
    (measurements_of (contents_of t) name from most)

-- the tallies of a run stand in order of its metrics
abbrev pub TalliesAreFound : Type 0
TalliesAreFound =
    (t : Tables) → HoldsContents t → (name : List ℕ) (run : ℕ) (rows : List TallyRow)
    → IsPermutation (filter (is_tally_of name run) t.tallies) rows → AscendByMetric rows
    → map (λ (row : TallyRow). row.counts) rows ≡ tallies_of (contents_of t) name run

-- a run's row, with its analysis and its tallies, if its service has this strategy
abbrev pub RunsAreFound : Type 0
RunsAreFound =
    (t : Tables) → HoldsContents t → (name : List ℕ) (number : ℕ) (strategy : CheckedStrategy)
    → strategy_by (first_row (filter (is_service name) t.services)) ≡ Some strategy
    → IsFound
    (λ (row : RunRow). record_of_row (analysis_by t strategy row)
    (tallies_of (contents_of t) name number) row)
    (first_row (filter (is_run name number) t.runs)) (run_of (contents_of t) name number)

-- without a service there is no run of it
abbrev pub RunsHaveServices : Type 0
RunsHaveServices =
    (t : Tables) → HoldsContents t → (name : List ℕ) (number : ℕ)
    → first_row (filter (is_service name) t.services) ≡ None
    → run_of (contents_of t) name number ≡ None

-- the open runs of a service stand in order of their numbers, each of the analysis that is bound at
-- its step
abbrev pub OpenRunsAreFound : Type 0
OpenRunsAreFound =
    (t : Tables) → HoldsContents t → (name : List ℕ) (bound : BoundParts)
    (rows : List RunRow)
    → IsPermutation (filter (is_open_run_of name) t.runs) rows → AscendByNumber rows
    → map (open_run_of bound (contents_of t) name) rows
    ≡ open_runs_by (contents_of t) name bound

-- a service's row, with the templates of its present attempt, and its open runs by what it is bound
-- to
abbrev pub ServicesAreFound : Type 0
ServicesAreFound =
    (t : Tables) → HoldsContents t → (name : List ℕ)
    → IsFound
    (parts_of_row (known_in t name 0) (open_runs_by (contents_of t) name))
    (first_row (filter (is_service name) t.services)) (stored_service (contents_of t).desk name)
