-- Refusals: their codes, and the first of several that holds.
use Rattle.std.specs.Prelude.{ℕ, Bool, if◌then◌else◌, List, [], ◌∷◌, Option, Some, None, codes}
use Rattle.canary_plan.specs.declared.refusal.Refusal.{Refusal}
use Rattle.canary_plan.specs.declared.refusal.Refusal.TheVariants.{UnknownService, ServiceExists, BadCondition, IntervalNeeded, DuplicateMetric, BadDryRun, UnknownTemplate, EndlessMetric, BadStrategy, InProgress, AlreadyStable, NotInProgress, NotPaused, NotAborted, RunsSpent, UnknownRun, RunClosed, UnknownMetric, RepeatedMetric, MetricClosed, AlreadyRecorded, OutOfTurn, Spent, Future, TooEarly, RevisionsSpent}

abbrev pub code_of : Refusal → List ℕ
code_of UnknownService = codes "unknown-service"
code_of ServiceExists = codes "service-exists"
code_of BadCondition = codes "bad-condition"
code_of IntervalNeeded = codes "interval-needed"
code_of DuplicateMetric = codes "duplicate-metric"
code_of BadDryRun = codes "bad-dry-run"
code_of UnknownTemplate = codes "unknown-template"
code_of EndlessMetric = codes "endless-metric"
code_of BadStrategy = codes "bad-strategy"
code_of InProgress = codes "in-progress"
code_of AlreadyStable = codes "already-stable"
code_of NotInProgress = codes "not-in-progress"
code_of NotPaused = codes "not-paused"
code_of NotAborted = codes "not-aborted"
code_of RunsSpent = codes "runs-spent"
code_of UnknownRun = codes "unknown-run"
code_of RunClosed = codes "run-closed"
code_of (UnknownMetric at) = codes "unknown-metric"
code_of (RepeatedMetric at) = codes "repeated-metric"
code_of (MetricClosed at) = codes "metric-closed"
code_of (AlreadyRecorded at) = codes "recorded"
code_of (OutOfTurn at expected) = codes "out-of-turn"
code_of (Spent at) = codes "spent"
code_of (Future at) = codes "future"
code_of (TooEarly at due) = codes "too-early"
code_of RevisionsSpent = codes "revisions-spent"

-- the first refusal of a table whose test holds
abbrev pub first_that_holds : List (Bool × Refusal) → Option Refusal
first_that_holds [] = None
first_that_holds (row ∷ rows) = if row.0 then Some row.1 else first_that_holds rows

-- the first refusal, or else the second
abbrev pub or_refusal : Option Refusal → Option Refusal → Option Refusal
or_refusal None second = second
or_refusal (Some first) second = Some first
