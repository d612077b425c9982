-- Which parts make no service.
use Rattle.std.specs.Prelude.{◌≡◌, ℕ, ◌+◌, ◌-◌, ◌==◌, nat_lt, ◌&&◌, ◌||◌, not, Bool, true, false, if◌then◌else◌, List, [], ◌∷◌, length, map, filter, Option, Some, None, is_some, is_none, Result, Ok, Err}
use Rattle.std.specs.List.{list_any, list_all}
use Rattle.std.specs.Cmp.Lexicographic.{pointwise}
use Rattle.canary_metric.specs.Metrics.{MetricValue}
use Rattle.canary_metric.specs.MetricPhases.{is_completed}
use Rattle.std.specs.Str.{bytes_eq}
use Rattle.canary_plan.specs.declared.step.Step.{Step}
use Rattle.canary_plan.specs.declared.step.Step.TheVariants.{SetWeight, Pause, Analysis}
use Rattle.canary_plan.specs.declared.service.Background.{Background}
use Rattle.canary_plan.specs.declared.analysis_parts.Revision.{Revision}
use Rattle.canary_plan.specs.declared.analysis_parts.AnalysisParts.{AnalysisParts}
use Rattle.canary_plan.specs.declared.bound.BoundParts.{BoundParts}
use Rattle.canary_plan.specs.Plans.{analysis_at}
use Rattle.canary_plan.specs.PlanRefusals.{has_duplicate, is_without_end}
use Rattle.canary_plan.specs.Commands.{same_names}
use Rattle.canary_release.specs.declared.state.ServiceState.{ServiceState}
use Rattle.canary_release.specs.declared.runs.OpenRun.{OpenRun}
use Rattle.canary_release.specs.declared.service.ServiceParts.{ServiceParts}
use Rattle.canary_release.specs.declared.parts.PartsFault.{PartsFault}
use Rattle.canary_release.specs.declared.parts.PartsFault.TheVariants.{Broken}
use Rattle.canary_release.specs.Services.{is_in_progress, is_done, is_held}
use Rattle.canary_release.specs.Evolutions.{has_number, run_verdict}
use Rattle.canary_release.specs.Rules.Passing.{next_move, is_by}

abbrev pub one_if : Bool → ℕ
one_if b = if b then 1 else 0

abbrev pub is_background_run : OpenRun → Bool
is_background_run r = is_none r.step

abbrev pub is_step_run : OpenRun → Bool
is_step_run r = is_some r.step

abbrev pub has_background_run : ServiceParts → Bool
has_background_run s = list_any is_background_run s.runs.open_runs

-- one if the background run wasn't started in this attempt, and a spare one if it wasn't, is open
-- or is held
abbrev pub background_wanted : ServiceParts → ℕ
background_wanted s =
    one_if (not s.service.background)
    + one_if (not s.service.background || (has_background_run s || s.service.background_hold))

-- the run numbers that the present attempt may still take: one for each step after the present one,
-- and those of the background
abbrev pub runs_wanted : ServiceParts → ℕ
runs_wanted s =
    (length s.service.strategy.steps - (s.service.step + 1))
    + (if is_some s.service.strategy.background then background_wanted s else 0)

-- the step is above the end, or at the end in another state than done, or below it in done
abbrev pub is_misplaced : ServiceState → Bool
is_misplaced s =
    let n = length s.strategy.steps in nat_lt n s.step
    || (if s.step == n then not (is_done s.state) else is_done s.state)

abbrev pub is_misnumbered : ℕ → OpenRun → Bool
is_misnumbered count r = r.number == 0 || nat_lt count r.number

abbrev pub repeats_number : List OpenRun → Bool
repeats_number [] = false
repeats_number (r ∷ rs) = list_any (has_number r.number) rs || repeats_number rs

-- its tallies aren't one for each metric
abbrev pub has_wrong_tallies : OpenRun → Bool
has_wrong_tallies r = not (length r.analysis.metrics == length r.tallies)

-- What a service is bound to.

abbrev pub same_revision : Revision → Revision → Bool
same_revision a b = bytes_eq a.template b.template && a.number == b.number

abbrev pub is_bound_otherwise : Option AnalysisParts → AnalysisParts → Bool
is_bound_otherwise None a = true
is_bound_otherwise (Some b) a = not (pointwise same_revision b.revisions a.revisions)

-- its revisions aren't those to which the present attempt is bound
abbrev pub has_other_revisions : ServiceState → OpenRun → Bool
has_other_revisions s r = is_bound_otherwise (analysis_at s.bound r.step) r.analysis

abbrev pub names_of_revisions : AnalysisParts → List (List ℕ)
names_of_revisions a = map (λ (r : Revision). r.template) a.revisions

-- an analysis of these names is bound, to revisions of just these templates
abbrev pub is_bound_to : List (List ℕ) → Option AnalysisParts → Bool
is_bound_to names None = false
is_bound_to names (Some a) = same_names names (names_of_revisions a)

abbrev pub is_step_bound : Step → Option AnalysisParts → Bool
is_step_bound (Analysis names) a = is_bound_to names a
is_step_bound (SetWeight percent) a = is_none a
is_step_bound (Pause seconds) a = is_none a

abbrev pub is_background_bound : Option Background → Option AnalysisParts → Bool
is_background_bound None a = is_none a
is_background_bound (Some b) a = is_bound_to b.templates a

-- each analysis of the strategy is bound, to its own templates
abbrev pub is_bound : ServiceState → Bool
is_bound s =
    pointwise is_step_bound s.strategy.steps s.bound.steps
    && is_background_bound s.strategy.background s.bound.background

-- no analysis is
abbrev pub is_unbound : ServiceState → Bool
is_unbound s =
    length s.bound.steps == length s.strategy.steps
    && (list_all (λ (a : Option AnalysisParts). is_none a) s.bound.steps
    && is_none s.bound.background)

abbrev pub metrics_if : Option AnalysisParts → List MetricValue
metrics_if None = []
metrics_if (Some a) = a.metrics

-- two metrics of an analysis have one name
abbrev pub repeats_metric_in : Option AnalysisParts → Bool
repeats_metric_in a = has_duplicate (map (λ (m : MetricValue). m.name) (metrics_if a))

abbrev pub has_endless : Option AnalysisParts → Bool
has_endless a = list_any is_without_end (metrics_if a)

-- no strategy is bound to such: two metrics of one name, or a metric without end in a step's run
abbrev pub is_refused : BoundParts → Bool
is_refused b =
    list_any repeats_metric_in b.steps
    || (repeats_metric_in b.background || list_any has_endless b.steps)

-- it is bound to other templates than its strategy's, or to none once a release was begun, or to
-- what no strategy is bound to
abbrev pub is_misbound : ServiceState → Bool
is_misbound s = not (is_bound s || (is_done s.state && is_unbound s)) || is_refused s.bound

abbrev pub is_elsewhere : ServiceState → Option ℕ → Bool
is_elsewhere s None = false
is_elsewhere s (Some i) =
    not (i == s.step) || (is_none (analysis_at s.bound (Some i)) || is_held s)

-- a step run elsewhere than at its own analysis step, or while held
abbrev pub is_astray : ServiceState → OpenRun → Bool
is_astray s r = is_elsewhere s r.step

-- its verdict isn't Running
abbrev pub is_judged : OpenRun → Bool
is_judged r = is_completed (run_verdict false r)

-- the parts make no service: some cause holds
abbrev pub is_broken : ServiceParts → Bool
is_broken s =
    let service = s.service in
    let going = is_in_progress service.state in
    let runs = s.runs.open_runs in
    list_any (λ (b : Bool). b) (
    is_misplaced service
    ∷ nat_lt service.last service.entered
    ∷ nat_lt 1000000 s.runs.count
    ∷ (going && nat_lt (1000000 - s.runs.count) (runs_wanted s))
    ∷ list_any (is_misnumbered s.runs.count) runs
    ∷ repeats_number runs
    ∷ list_any has_wrong_tallies runs
    ∷ (not going && nat_lt 0 (length runs))
    ∷ nat_lt 1 (length (filter is_background_run runs))
    ∷ nat_lt 1 (length (filter is_step_run runs))
    ∷ list_any (is_astray service) runs
    ∷ (has_background_run s && (not service.background || service.background_hold))
    ∷ (is_held service && not going)
    ∷ (service.background && is_none service.strategy.background)
    ∷ (service.background_hold && not service.background)
    ∷ list_any is_judged runs
    ∷ is_by service.last (next_move service)
    ∷ is_misbound service
    ∷ list_any (has_other_revisions service) runs
    ∷ []
    )

-- parts are a service exactly if no cause holds
abbrev pub IsAccepted : ServiceParts → Result ServiceParts PartsFault → Type 0
IsAccepted parts (Ok service) = (is_broken parts ≡ false) × (service ≡ parts)
IsAccepted parts (Err Broken) = is_broken parts ≡ true
