-- The file of a service's measurements, and what a call writes of it.
use Rattle.std.specs.Prelude.{◌≡◌, ℕ, ◌<◌, ◌≤◌, Bool, true, false, List, [], ◌++◌, length, slice_get, Option, Some, None, option_map, option_and_then, unwrap_or, Result, IfOk, OnOk}
use Rattle.std.specs.List.{AllByRecursion}
use Rattle.std.specs.FinMap.{get}
use Rattle.std.specs.Io.KnownBytes.{Appends}
use Rattle.canary_metric.specs.Metrics.{MetricValue}
use Rattle.canary_plan.specs.declared.analysis_parts.AnalysisParts.{AnalysisParts}
use Rattle.canary_release.specs.declared.effect.Recorded.{Recorded}
use Rattle.canary_release.specs.Pasts.{Past}
use Rattle.canary_once.specs.declared.book.BookFault.{BookFault}
use Rattle.canary_once.specs.declared.book.BookFault.TheVariants.{Memory as Out, Storage as Failed}
use Rattle.canary_once.specs.declared.record.RunRecord.{RunRecord}
use Rattle.canary_once.specs.Records.{past_of, record_numbered}
use Rattle.canary_once.specs.Contents.{Contents}
use Rattle.canary_once.specs.BookCalls.{BookState, Stays}
use Rattle.canary_files.specs.declared.export.ExportFault.{ExportFault}
use Rattle.canary_files.specs.declared.export.ExportFault.TheVariants.{Memory, Storage, Write, TooMany, UnknownService}
use Rattle.canary_files.specs.declared.export.RunAnalysis.{RunAnalysis}
use Rattle.canary_base.specs.Writes.{Known}
use Rattle.canary_files.specs.Written.{file_of}

-- Names of metrics.

-- the name of the metric at a place of an analysis
abbrev pub name_at : AnalysisParts → ℕ → Option (List ℕ)
name_at a place = option_map (λ (m : MetricValue). m.name) (slice_get a.metrics place)

abbrev pub name_in : Option RunRecord → ℕ → Option (List ℕ)
name_in run place = option_and_then (λ (r : RunRecord). name_at r.analysis place) run

-- the name of the metric of a measurement, by the analysis of its run
abbrev pub name_of : Past → Recorded → List ℕ
name_of p x = unwrap_or (name_in (record_numbered p x.run) x.metric) []

-- the analysis of a run
abbrev pub analysis_in : Contents → List ℕ → ℕ → Option AnalysisParts
analysis_in c service run =
    option_map (λ (r : RunRecord). r.analysis) (record_numbered (past_of c service) run)

-- the measurements of a service, in the order in which they were recorded
abbrev pub recorded_of : Contents → List ℕ → List Recorded
recorded_of c service = (past_of c service).measurements

-- the file of a service's measurements, under that caller
abbrev pub file_in : Contents → List ℕ → List ℕ → List ℕ
file_in c service caller =
    file_of caller service (name_of (past_of c service)) (recorded_of c service)

-- What a call does.

-- the first bytes of a text went out, and all of them if the call succeeded
pub record Puts {A E : Type 0} (old new : Known) (text : List ℕ)
    (result : Result A E) : Type 0 where
  pub front : List ℕ
  pub back : List ℕ
  pub parts : text ≡ front ++ back
  pub written : Appends old new front
  pub all : OnOk result (back ≡ [])

-- a call finds this in the contents of the book, or fails; it changes nothing
pub record Reads {A : Type 0} (told : Contents → A) (old new : BookState)
    (found : Result A ExportFault) : Type 0 where
  pub stays : Stays old new
  pub value : new.is_honest → IfOk found (λ x. x ≡ told old.contents)

-- what is kept of a run is what the book says of it
abbrev pub IsLatest : BookState → List ℕ → Option RunAnalysis → Type 0
IsLatest now service None = Unit {0}
IsLatest now service (Some p) =
    now.is_honest → analysis_in now.contents service p.run ≡ Some p.analysis

-- why no more was written of so many rows
abbrev pub TellsPage : ℕ → ExportFault → Type 0
TellsPage rows Memory = Unit {0}
TellsPage rows Storage = Unit {0}
TellsPage rows Write = Unit {0}
TellsPage rows TooMany = 1000000000 < rows
TellsPage rows UnknownService = ⊥

-- why no more was written of a service's file
abbrev pub Tells : Contents → List ℕ → ExportFault → Type 0
Tells c service UnknownService = get c.desk.services service ≡ None
Tells c service Memory = Unit {0}
Tells c service Storage = Unit {0}
Tells c service Write = Unit {0}
Tells c service TooMany = 1000000000 < length (recorded_of c service)

-- only over a book that is not sure an export answers Storage
abbrev pub IsExportFault : Bool → ExportFault → Type 0
IsExportFault sure Memory = Unit {0}
IsExportFault sure Write = Unit {0}
IsExportFault sure TooMany = Unit {0}
IsExportFault sure UnknownService = Unit {0}
IsExportFault true Storage = ⊥
IsExportFault false Storage = Unit {0}

abbrev pub fault_of : BookFault → ExportFault
fault_of Out = Memory
fault_of Failed = Storage

-- Where each measurement has its run and its metric.

-- a run of a past is there
pub record HasRun (p : Past) (number : ℕ) : Type 0 where
  pub low : 1 ≤ number
  pub high : number ≤ 1000000000
  pub kept : RunRecord
  pub found : record_numbered p number ≡ Some kept

-- a measurement is of a run that is there, and of a metric of it
pub record IsPlaced (p : Past) (x : Recorded) : Type 0 where
  pub run : HasRun p x.run
  pub name : List ℕ
  pub named : name_at run.kept.analysis x.metric ≡ Some name

abbrev pub ArePlaced : Past → List Recorded → Type 0
ArePlaced p xs = AllByRecursion (IsPlaced p) xs
