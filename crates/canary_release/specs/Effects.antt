-- Which effects may happen to a service, and that commands and time bring such alone: a change
-- shows all that a store writes.
use Rattle.std.specs.Prelude.{◌≡◌, ℕ, ◌+◌, ◌≤◌, true, List, [], ◌∷◌, length, find, Option, Some, None, slice_get}
use Rattle.std.specs.FinMap.{get}
use Rattle.std.specs.List.{AllByRecursion}
use Rattle.canary_condition.specs.Phases.{phase_of}
use Rattle.canary_metric.specs.Metrics.{MetricValue}
use Rattle.canary_metric.specs.Counts.{Counts, size}
use Rattle.canary_metric.specs.MetricPhases.{is_completed}
use Rattle.canary_plan.specs.declared.bound.BoundParts.{BoundParts}
use Rattle.canary_plan.specs.declared.command.Command.{Command}
use Rattle.canary_plan.specs.declared.command.Command.TheVariants as command
use Rattle.canary_plan.specs.declared.strategy.CheckedStrategy.{CheckedStrategy}
use Rattle.canary_plan.specs.Plans.{Templates, bound_of, unbound, analysis_at}
use Rattle.canary_plan.specs.Commands.{subject_of}
use Rattle.canary_release.specs.declared.effect.Opening.{Opening}
use Rattle.canary_release.specs.declared.effect.Recorded.{Recorded}
use Rattle.canary_release.specs.declared.effect.Closing.{Closing}
use Rattle.canary_release.specs.declared.effect.Effect.{Effect}
use Rattle.canary_release.specs.declared.effect.Effect.TheVariants.{LineAdded, RunOpened, MeasurementRecorded, RunClosed}
use Rattle.canary_release.specs.declared.runs.OpenRun.{OpenRun}
use Rattle.canary_release.specs.declared.runs.Runs.{Runs}
use Rattle.canary_release.specs.declared.service.ServiceParts.{ServiceParts}
use Rattle.canary_release.specs.declared.decide.DeskChange.{DeskChange}
use Rattle.canary_release.specs.declared.decide.DeskChange.TheVariants as change
use Rattle.canary_release.specs.Pasts.{tracked}
use Rattle.canary_release.specs.Watching.{effect_applied}
use Rattle.canary_release.specs.Evolutions.{has_number, run_verdict}
use Rattle.canary_release.specs.Rules.Passing.{pass}
use Rattle.canary_release.specs.Desks.{ModelService, RevisionMap, Desk, revisions_of, newest, before, model_evolution, ruling_on}
use Rattle.canary_release.specs.Order.{known_by, AreInOrder}
use Rattle.canary_release.specs.Stored.{change_of}

-- a run that is opened has the next number, and is of an analysis of the strategy, bound to
-- revisions that there are
pub record Opens (templates : RevisionMap) (st : CheckedStrategy) (w : Runs)
    (x : Opening) : Type 0 where
  pub number : x.run ≡ w.count + 1
  pub binding : List ℕ → Option ℕ
  pub analysis : analysis_at (bound_of (known_by templates binding) st) x.step ≡ Some x.analysis

-- a measurement is of an open run and of a metric of it, and the next of that metric
pub record Measures (w : Runs) (x : Recorded) : Type 0 where
  pub run : OpenRun
  pub found : find (has_number x.run) w.open_runs ≡ Some run
  pub metric : MetricValue
  pub is_metric : slice_get run.analysis.metrics x.metric ≡ Some metric
  pub tally : Counts
  pub is_tally : slice_get run.tallies x.metric ≡ Some tally
  pub next : x.ordinal ≡ size tally + 1
  pub room : size tally + 1 ≤ 1000000
  pub judged : x.phase ≡ phase_of metric.success metric.failure x.outcome

-- a run that is closed is open, and is closed at its verdict, a completed phase, with its last
-- tallies
pub record Closes (w : Runs) (x : Closing) (tallies : List Counts) : Type 0 where
  pub run : OpenRun
  pub found : find (has_number x.run) w.open_runs ≡ Some run
  pub verdict : x.verdict ≡ run_verdict x.outside run
  pub completed : is_completed x.verdict ≡ true
  pub last : tallies ≡ run.tallies

-- an effect may happen to a service of this strategy, of which this is tracked, if these are the
-- templates; one command may end an attempt and begin another, so its effects are not all of one
-- binding
abbrev pub Allowed : RevisionMap → CheckedStrategy → Runs → Effect → Type 0
Allowed templates st w (LineAdded line) = Unit {0}
Allowed templates st w (RunOpened x) = Opens templates st w x
Allowed templates st w (MeasurementRecorded x) = Measures w x
Allowed templates st w (RunClosed x tallies) = Closes w x tallies

-- each of them may, one after another
abbrev pub AreAllowed : RevisionMap → CheckedStrategy → Runs → List Effect → Type 0
AreAllowed templates st w [] = Unit {0}
AreAllowed templates st w (x ∷ xs) =
    Allowed templates st w x × AreAllowed templates st (effect_applied w x) xs

-- what a service with this strategy was bound to; a new one was bound to nothing
abbrev pub bound_before : Option ModelService → CheckedStrategy → BoundParts
bound_before None st = unbound st
bound_before (Some m) st = m.service.bound

-- what it is bound to after a command: a Start and a Retry bind it to the templates that are known,
-- and no other command binds it
abbrev pub bound_after : Templates → Command → Option ModelService → CheckedStrategy → BoundParts
bound_after known (command.Start service version) found st = bound_of known st
bound_after known (command.Retry service) found st = bound_of known st
bound_after known other found st = bound_before found st

-- a service as it was found, or a new one, becomes this one by a command: under the name that the
-- command has, with the strategy that it had, bound as the command binds it, and what happens may
-- happen
pub record Changes (templates : RevisionMap) (found : Option ModelService) (by : Command)
    (s : ServiceParts) (effects : List Effect) : Type 0 where
  pub named : s.service.name ≡ subject_of by
  pub strategy : s.service.strategy ≡ (before found s.service).service.strategy
  pub bound : s.service.bound ≡ bound_after (newest templates) by found s.service.strategy
  pub allowed : AreAllowed templates s.service.strategy
      (tracked (before found s.service).past) effects

-- a change by a command: a template has the name that the command has, and is its next revision; a
-- service becomes another by it
abbrev pub IsChange : Desk → Command → DeskChange → Type 0
IsChange desk by change.Nothing = Unit {0}
IsChange desk by (change.Template t) =
    (t.spec.name ≡ subject_of by)
    × (t.revision ≡ length (revisions_of desk.templates (subject_of by)) + 1)
IsChange desk by (change.Service s effects) =
    Changes desk.templates (get desk.services (subject_of by)) by s effects

-- the law: what a command changes of a desk in order is such a change
abbrev pub CommandsChange : Type 0
CommandsChange =
    (desk : Desk) (now : ℕ) (command : Command) → AreInOrder desk
    → IsChange desk command (change_of (ruling_on desk now command).change)

-- no measurement is recorded
abbrev pub IsQuiet : Effect → Type 0
IsQuiet (MeasurementRecorded x) = ⊥
IsQuiet (LineAdded line) = Unit {0}
IsQuiet (RunOpened x) = Unit {0}
IsQuiet (RunClosed x tallies) = Unit {0}

-- the law: as time passes no measurement is recorded
abbrev pub TimeMeasuresNothing : Type 0
TimeMeasuresNothing =
    (m : ModelService) (t : ℕ) → AllByRecursion IsQuiet (pass (model_evolution m) t).effects
