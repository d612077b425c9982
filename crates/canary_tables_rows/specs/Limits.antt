-- The rows that a program can hold: names and labels are such, numbers fit 32 bits, moments are
-- before the end of the year 9998, counts agree, texts are UTF-8.
use Rattle.std.specs.Prelude.{◌≤◌, ◌<◌, ◌^◌, ℕ, IsTrue, IfSome, IsUtf8}
use Rattle.std.specs.List.{AllByRecursion}
use Rattle.canary_base.specs.Names.{is_name, is_label}
use Rattle.canary_metric.specs.Counts.{AreConsistent}
use Rattle.canary_tables_rows.specs.declared.rows.CallerRow.{CallerRow}
use Rattle.canary_tables_rows.specs.declared.rows.KeptRow.{KeptRow}
use Rattle.canary_tables_rows.specs.declared.rows.RevisionRow.{RevisionRow}
use Rattle.canary_tables_rows.specs.declared.rows.BindingRow.{BindingRow}
use Rattle.canary_tables_rows.specs.declared.rows.ServiceRow.{ServiceRow}
use Rattle.canary_tables_rows.specs.declared.rows.RunRow.{RunRow}
use Rattle.canary_tables_rows.specs.declared.rows.TallyRow.{TallyRow}
use Rattle.canary_tables_rows.specs.declared.rows.MeasurementRow.{MeasurementRow}
use Rattle.canary_tables_rows.specs.declared.rows.HistoryRow.{HistoryRow}
use Rattle.canary_tables_rows.specs.Tables.{Tables}

abbrev pub FitsNumber : ℕ → Type 0
FitsNumber n = n < 2 ^ 32

abbrev pub FitsMoment : ℕ → Type 0
FitsMoment n = n ≤ 253370764799

pub record IsCallerWithin (row : CallerRow) : Type 0 where
  pub name : IsTrue (is_name row.name)
  pub settled : FitsNumber row.settled

pub record IsKeptWithin (row : KeptRow) : Type 0 where
  pub caller : IsTrue (is_name row.caller)
  pub number : FitsNumber row.number
  pub command : IsUtf8 row.command
  pub status : FitsNumber row.status
  pub body : IsUtf8 row.body

pub record IsRevisionWithin (row : RevisionRow) : Type 0 where
  pub name : IsTrue (is_name row.name)
  pub revision : FitsNumber row.revision
  pub spec : IsUtf8 row.spec

pub record IsServiceWithin (row : ServiceRow) : Type 0 where
  pub name : IsTrue (is_name row.name)
  pub spec : IsUtf8 row.spec
  pub stable : IsTrue (is_label row.standing.stable)
  pub version : IsTrue (is_label row.standing.version)
  pub state : FitsNumber row.standing.state
  pub step : FitsNumber row.standing.step
  pub entered : FitsMoment row.standing.entered
  pub hold : FitsNumber row.standing.hold
  pub background : FitsNumber row.standing.background
  pub runs : FitsNumber row.standing.runs
  pub last : FitsMoment row.standing.last

pub record IsBindingWithin (row : BindingRow) : Type 0 where
  pub service : IsTrue (is_name row.service)
  pub run : FitsNumber row.run
  pub template : IsTrue (is_name row.template)
  pub revision : FitsNumber row.revision

pub record IsRunWithin (row : RunRow) : Type 0 where
  pub service : IsTrue (is_name row.service)
  pub number : FitsNumber row.number
  pub step : IfSome row.step FitsNumber
  pub started : FitsMoment row.started
  pub closed : IfSome row.ending.closed FitsMoment
  pub outside : FitsNumber row.ending.outside
  pub verdict : FitsNumber row.ending.verdict

pub record IsTallyWithin (row : TallyRow) : Type 0 where
  pub service : IsTrue (is_name row.service)
  pub run : FitsNumber row.run
  pub metric : FitsNumber row.metric
  pub counts : AreConsistent row.counts
  pub last : IfSome row.counts.last FitsMoment

pub record IsMeasurementWithin (row : MeasurementRow) : Type 0 where
  pub service : IsTrue (is_name row.service)
  pub run : FitsNumber row.run
  pub metric : FitsNumber row.metric
  pub ordinal : FitsNumber row.ordinal
  pub taken : FitsMoment row.taken
  pub phase : FitsNumber row.phase
  pub outcome : IsUtf8 row.outcome

pub record IsLineWithin (row : HistoryRow) : Type 0 where
  pub service : IsTrue (is_name row.service)
  pub moment : FitsMoment row.moment
  pub line : IsUtf8 row.line

-- a program can hold each row of the tables
pub record AreWithin (t : Tables) : Type 0 where
  pub callers : AllByRecursion IsCallerWithin t.callers
  pub kept : AllByRecursion IsKeptWithin t.kept
  pub revisions : AllByRecursion IsRevisionWithin t.revisions
  pub services : AllByRecursion IsServiceWithin t.services
  pub bindings : AllByRecursion IsBindingWithin t.bindings
  pub runs : AllByRecursion IsRunWithin t.runs
  pub tallies : AllByRecursion IsTallyWithin t.tallies
  pub measurements : AllByRecursion IsMeasurementWithin t.measurements
  pub history : AllByRecursion IsLineWithin t.history
