-- A service as it changes: how it stands, the effects so far, and its view of runs.
use Rattle.std.specs.Prelude.{ℕ, ◌+◌, ◌==◌, Bool, true, List, [], ◌∷◌, ◌++◌, find, Option}
use Rattle.std.specs.List.{zip}
use Rattle.canary_condition.specs.declared.outcome.Phase.{Phase}
use Rattle.canary_metric.specs.Verdicts.{verdict_of_counts}
use Rattle.canary_plan.specs.declared.line.LineEvent.{LineEvent}
use Rattle.canary_plan.specs.declared.line.LineEvent.TheVariants.{Ended}
use Rattle.canary_plan.specs.Plans.{analysis_or_none}
use Rattle.canary_release.specs.declared.effect.Effect.{Effect}
use Rattle.canary_release.specs.declared.effect.Effect.TheVariants.{LineAdded, RunOpened, RunClosed}
use Rattle.canary_release.specs.declared.state.ServiceState.{ServiceState}
use Rattle.canary_release.specs.declared.runs.OpenRun.{OpenRun}
use Rattle.canary_release.specs.declared.runs.Runs.{Runs}

-- what is tracked of a service's runs, after the effects of an evolution
abbrev pub RunView : Type 0
RunView = List Effect → Runs

pub record Evolution : Type 0 where
  pub service : ServiceState
  pub effects : List Effect  -- what happened so far, in order
  pub watch : RunView

-- a service with nothing changed
abbrev pub evolution_from : ServiceState → RunView → Evolution
evolution_from s w = record { service = s; effects = []; watch = w }

abbrev pub with_service_state : Evolution → ServiceState → Evolution
with_service_state c s = record c { service = s }

-- one thing more happens
abbrev pub apply_effect : Evolution → Effect → Evolution
apply_effect c x = record c { effects = c.effects ++ x ∷ [] }

-- a line is added to the history
abbrev pub tell : Evolution → ℕ → LineEvent → Evolution
tell c at event = apply_effect c (LineAdded (record { moment = at; event = event }))

-- its runs, as they are now
abbrev pub runs_now : Evolution → Runs
runs_now c = c.watch c.effects

abbrev pub has_number : ℕ → OpenRun → Bool
has_number number r = r.number == number

-- the open run of that number, if there is one
abbrev pub open_run_now : Evolution → ℕ → Option OpenRun
open_run_now c number = find (has_number number) (runs_now c).open_runs

-- the verdict of an open run, ended from outside or not
abbrev pub run_verdict : Bool → OpenRun → Phase
run_verdict outside r = verdict_of_counts outside (zip r.analysis.metrics r.tallies)

-- the number of the next run
abbrev pub next_run : Evolution → ℕ
next_run c = (runs_now c).count + 1

-- the next run is opened, of the analysis that is bound at a step or behind it
abbrev pub open_run : Evolution → Option ℕ → ℕ → Evolution
open_run c step at =
    apply_effect c (RunOpened
    (record {
      run = next_run c;
      step = step;
      analysis = analysis_or_none c.service.bound step;
      started = at;
    }))

-- a run is closed at its verdict, with its last tallies
abbrev pub close_run : Evolution → OpenRun → ℕ → Bool → Evolution
close_run c r at outside =
    apply_effect c (RunClosed
    (record {
      run = r.number;
      at = at;
      outside = outside;
      verdict = run_verdict outside r;
    }) r.tallies)

-- a run is ended from outside
abbrev pub end_run : ℕ → Evolution → OpenRun → Evolution
end_run at c r =
    tell (close_run c r at true) at (Ended r.number (run_verdict true r))

abbrev pub end_runs : ℕ → Evolution → List OpenRun → Evolution
end_runs at c [] = c
end_runs at c (r ∷ rs) = end_runs at (end_run at c r) rs

-- the open runs are ended from outside, in the order of their numbers
abbrev pub end_open_runs : Evolution → ℕ → Evolution
end_open_runs c at = end_runs at c (runs_now c).open_runs
