-- Worked rows on parts: for each cause parts that are broken by it alone, and parts next to them that are accepted.
use Rattle.std.proofs.Common.{◌≡◌, ℕ, ◌+◌, List, [], ◌∷◌, refl}
use Rattle.std.specs.Prelude.{codes, true, false, Option, Some, None}
use Rattle.canary_metric.specs.Counts.{Counts}
use Rattle.canary_plan.specs.declared.step.Step.TheVariants.{SetWeight, Pause, Analysis}
use Rattle.canary_plan.specs.declared.service.Background.{Background}
use Rattle.canary_plan.specs.declared.service.ServiceSpec.{ServiceSpec}
use Rattle.canary_plan.specs.declared.template_spec.MetricSpec.{MetricSpec}
use Rattle.canary_plan.specs.Plans.{Templates, template_of, strategy_of, bound_of, unbound, revisions_named, metrics_named}
use Rattle.canary_release.specs.declared.state.ReleaseState.{ReleaseState}
use Rattle.canary_release.specs.declared.state.ReleaseState.TheVariants.{InProgress, Aborted, Done}
use Rattle.canary_release.specs.declared.state.ServiceState.{ServiceState}
use Rattle.canary_release.specs.declared.runs.OpenRun.{OpenRun}
use Rattle.canary_release.specs.declared.service.ServiceParts.{ServiceParts}
use Rattle.canary_release.specs.Desks.{new_service_state}
use Rattle.canary_release.specs.Parts.{is_broken}
use Rattle.canary_release.proofs.Stories.{b, web, v1, v2, m, background, metric, every}

-- What the rows are made of.

-- every analysis has one metric, which is measured three times
abbrev three_times : Templates
three_times name = Some (template_of (record { name = codes "t"; metrics = record (every (metric m) 60) { count = Some 3; within = refl } ∷ []; dry_run = []; within = refl }) 1)

-- five steps: a weight, two analyses, a pause without end, and a pause of 300 seconds
abbrev five_steps : Option Background → ServiceSpec
five_steps background = record { name = web; version = v1; steps = SetWeight 20 ∷ Analysis (codes "t" ∷ []) ∷ Analysis (codes "t" ∷ []) ∷ Pause None ∷ Pause (Some 300) ∷ []; background = background }

abbrev stands : Option Background → ReleaseState → ℕ → ServiceState
stands background state i = record (new_service_state (five_steps background) b) { bound = bound_of three_times (strategy_of (five_steps background)); version = v2; state = state; step = i }

-- it has a background analysis, which wasn't begun
abbrev unbegun : ReleaseState → ℕ → ServiceState
unbegun state i = stands (background (codes "t") 0) state i

-- the background analysis was begun
abbrev at_step : ReleaseState → ℕ → ServiceState
at_step state i = record (unbegun state i) { background = true }

abbrev step_held : ServiceState → ServiceState
step_held s = record s { step_hold = true }

abbrev background_held : ServiceState → ServiceState
background_held s = record s { background_hold = true }

-- it was entered and was judged last so many seconds after the first moment
abbrev in_time : ℕ → ℕ → ServiceState → ServiceState
in_time entered last s = record s { entered = b + entered; last = b + last }

-- so many runs were made, and these are open
abbrev parts : ServiceState → ℕ → List OpenRun → ServiceParts
parts s n runs = record { service = s; runs = record { count = n; open_runs = runs } }

-- so many successful measurements
abbrev tally : ℕ → Counts
tally n = record { counted = n; failed = 0; inconclusive = 0; errors = 0; consecutive = 0; passes = n; last = None }

abbrev with_tallies : ℕ → Option ℕ → List Counts → OpenRun
with_tallies number step tallies = record { number = number; step = step; analysis = record { revisions = revisions_named three_times (codes "t" ∷ []); metrics = metrics_named three_times (codes "t" ∷ []) }; started = b; tallies = tallies }

-- an open run with no measurement
abbrev run : ℕ → Option ℕ → OpenRun
run number step = with_tallies number step (tally 0 ∷ [])

-- The step: above the end; at the end, but not done; below the end, but done.

above_the_end : is_broken (parts (at_step Aborted 6) 1 []) ≡ true
above_the_end = refl

aborted_at_the_end : is_broken (parts (at_step Aborted 5) 1 []) ≡ true
aborted_at_the_end = refl

aborted_below_the_end : is_broken (parts (at_step Aborted 4) 1 []) ≡ false
aborted_below_the_end = refl

in_progress_at_the_end : is_broken (parts (at_step InProgress 5) 1 []) ≡ true
in_progress_at_the_end = refl

in_progress_below_the_end : is_broken (parts (at_step InProgress 4) 1 []) ≡ false
in_progress_below_the_end = refl

done_above_the_end : is_broken (parts (at_step Done 6) 1 []) ≡ true
done_above_the_end = refl

done_at_the_end : is_broken (parts (at_step Done 5) 1 []) ≡ false
done_at_the_end = refl

done_below_the_end : is_broken (parts (at_step Done 4) 1 []) ≡ true
done_below_the_end = refl

-- The step was entered after the last moment.

entered_after_last : is_broken (parts (in_time 8 7 (at_step InProgress 3)) 1 []) ≡ true
entered_after_last = refl

entered_at_last : is_broken (parts (in_time 7 7 (at_step InProgress 3)) 1 []) ≡ false
entered_at_last = refl

-- More than 1,000,000 runs.

a_run_too_many : is_broken (parts (at_step Done 5) 1000001 []) ≡ true
a_run_too_many = refl

all_runs_made : is_broken (parts (at_step Done 5) 1000000 []) ≡ false
all_runs_made = refl

-- Too few run numbers are left: one for the step that is to come, two more if the background analysis wasn't begun, and one more if its run is open or held.

unbegun_is_spent : is_broken (parts (unbegun InProgress 3) 999998 []) ≡ true
unbegun_is_spent = refl

unbegun_has_three : is_broken (parts (unbegun InProgress 3) 999997 []) ≡ false
unbegun_has_three = refl

open_is_spent : is_broken (parts (at_step InProgress 3) 999999 (run 1 None ∷ [])) ≡ true
open_is_spent = refl

open_has_two : is_broken (parts (at_step InProgress 3) 999998 (run 1 None ∷ [])) ≡ false
open_has_two = refl

held_is_spent : is_broken (parts (background_held (at_step InProgress 3)) 999999 []) ≡ true
held_is_spent = refl

held_has_two : is_broken (parts (background_held (at_step InProgress 3)) 999998 []) ≡ false
held_has_two = refl

closed_is_spent : is_broken (parts (at_step InProgress 3) 1000000 []) ≡ true
closed_is_spent = refl

closed_has_one : is_broken (parts (at_step InProgress 3) 999999 []) ≡ false
closed_has_one = refl

without_background_is_spent : is_broken (parts (stands None InProgress 3) 1000000 []) ≡ true
without_background_is_spent = refl

without_background_has_one : is_broken (parts (stands None InProgress 3) 999999 []) ≡ false
without_background_has_one = refl

last_step_wants_none : is_broken (parts (at_step InProgress 4) 1000000 []) ≡ false
last_step_wants_none = refl

aborted_wants_none : is_broken (parts (unbegun Aborted 3) 1000000 []) ≡ false
aborted_wants_none = refl

-- A run's number is 0, or above the count.

run_zero : is_broken (parts (at_step InProgress 3) 1 (run 0 None ∷ [])) ≡ true
run_zero = refl

run_one : is_broken (parts (at_step InProgress 3) 1 (run 1 None ∷ [])) ≡ false
run_one = refl

run_above_the_count : is_broken (parts (at_step InProgress 3) 1 (run 2 None ∷ [])) ≡ true
run_above_the_count = refl

run_at_the_count : is_broken (parts (at_step InProgress 3) 2 (run 2 None ∷ [])) ≡ false
run_at_the_count = refl

-- Two runs of one number.

one_number_twice : is_broken (parts (at_step InProgress 1) 2 (run 1 None ∷ run 1 (Some 1) ∷ [])) ≡ true
one_number_twice = refl

two_numbers : is_broken (parts (at_step InProgress 1) 2 (run 1 None ∷ run 2 (Some 1) ∷ [])) ≡ false
two_numbers = refl

-- A tally too many.

a_tally_too_many : is_broken (parts (at_step InProgress 3) 1 (with_tallies 1 None (tally 0 ∷ tally 0 ∷ []) ∷ [])) ≡ true
a_tally_too_many = refl

a_tally_too_many_at_a_step : is_broken (parts (at_step InProgress 1) 2 (with_tallies 2 (Some 1) (tally 0 ∷ tally 0 ∷ []) ∷ [])) ≡ true
a_tally_too_many_at_a_step = refl

a_tally_for_each_metric : is_broken (parts (at_step InProgress 1) 2 (with_tallies 2 (Some 1) (tally 0 ∷ []) ∷ [])) ≡ false
a_tally_for_each_metric = refl

-- A run is open out of progress.

open_when_aborted : is_broken (parts (at_step Aborted 3) 1 (run 1 None ∷ [])) ≡ true
open_when_aborted = refl

closed_when_aborted : is_broken (parts (at_step Aborted 3) 1 []) ≡ false
closed_when_aborted = refl

open_when_done : is_broken (parts (at_step Done 5) 1 (run 1 None ∷ [])) ≡ true
open_when_done = refl

closed_when_done : is_broken (parts (at_step Done 5) 1 []) ≡ false
closed_when_done = refl

-- Two background runs, and two step runs.

two_background_runs : is_broken (parts (at_step InProgress 3) 2 (run 1 None ∷ run 2 None ∷ [])) ≡ true
two_background_runs = refl

one_background_run : is_broken (parts (at_step InProgress 3) 2 (run 2 None ∷ [])) ≡ false
one_background_run = refl

two_step_runs : is_broken (parts (at_step InProgress 1) 2 (run 1 (Some 1) ∷ run 2 (Some 1) ∷ [])) ≡ true
two_step_runs = refl

one_step_run : is_broken (parts (at_step InProgress 1) 2 (run 2 (Some 1) ∷ [])) ≡ false
one_step_run = refl

-- A step run elsewhere than at its step, or while held.

run_of_the_next_step : is_broken (parts (at_step InProgress 1) 2 (run 2 (Some 2) ∷ [])) ≡ true
run_of_the_next_step = refl

run_of_the_step_before : is_broken (parts (at_step InProgress 2) 2 (run 2 (Some 1) ∷ [])) ≡ true
run_of_the_step_before = refl

run_of_the_step : is_broken (parts (at_step InProgress 2) 2 (run 2 (Some 2) ∷ [])) ≡ false
run_of_the_step = refl

step_run_under_its_hold : is_broken (parts (step_held (at_step InProgress 1)) 2 (run 2 (Some 1) ∷ [])) ≡ true
step_run_under_its_hold = refl

step_run_under_the_background_hold : is_broken (parts (background_held (at_step InProgress 1)) 2 (run 2 (Some 1) ∷ [])) ≡ true
step_run_under_the_background_hold = refl

both_holds : is_broken (parts (step_held (background_held (at_step InProgress 1))) 2 []) ≡ false
both_holds = refl

-- A background run without the mark, or under its hold.

background_run_unmarked : is_broken (parts (unbegun InProgress 3) 1 (run 1 None ∷ [])) ≡ true
background_run_unmarked = refl

background_run_marked : is_broken (parts (at_step InProgress 3) 1 (run 1 None ∷ [])) ≡ false
background_run_marked = refl

background_run_under_its_hold : is_broken (parts (background_held (at_step InProgress 1)) 1 (run 1 None ∷ [])) ≡ true
background_run_under_its_hold = refl

background_run_under_the_step_hold : is_broken (parts (step_held (at_step InProgress 1)) 1 (run 1 None ∷ [])) ≡ false
background_run_under_the_step_hold = refl

-- A hold out of progress.

step_held_when_aborted : is_broken (parts (step_held (at_step Aborted 1)) 1 []) ≡ true
step_held_when_aborted = refl

background_held_when_aborted : is_broken (parts (background_held (at_step Aborted 1)) 1 []) ≡ true
background_held_when_aborted = refl

background_held_when_done : is_broken (parts (background_held (at_step Done 5)) 1 []) ≡ true
background_held_when_done = refl

aborted_unheld : is_broken (parts (at_step Aborted 1) 1 []) ≡ false
aborted_unheld = refl

step_held_in_progress : is_broken (parts (step_held (at_step InProgress 1)) 1 []) ≡ false
step_held_in_progress = refl

background_held_in_progress : is_broken (parts (background_held (at_step InProgress 1)) 1 []) ≡ false
background_held_in_progress = refl

-- The mark without a background analysis, and the background hold without the mark.

marked_without_background : is_broken (parts (record (stands None InProgress 3) { background = true }) 1 []) ≡ true
marked_without_background = refl

unmarked_without_background : is_broken (parts (stands None InProgress 3) 1 []) ≡ false
unmarked_without_background = refl

background_held_unmarked : is_broken (parts (background_held (unbegun InProgress 3)) 1 []) ≡ true
background_held_unmarked = refl

background_held_marked : is_broken (parts (background_held (at_step InProgress 3)) 1 []) ≡ false
background_held_marked = refl

-- An open run has a verdict.

judged_successful : is_broken (parts (at_step InProgress 3) 1 (with_tallies 1 None (tally 3 ∷ []) ∷ [])) ≡ true
judged_successful = refl

judged_failed : is_broken (parts (at_step InProgress 1) 1 (with_tallies 1 (Some 1) (record (tally 1) { failed = 1 } ∷ []) ∷ [])) ≡ true
judged_failed = refl

unjudged : is_broken (parts (at_step InProgress 3) 1 (with_tallies 1 None (tally 2 ∷ []) ∷ [])) ≡ false
unjudged = refl

unjudged_at_a_step : is_broken (parts (at_step InProgress 1) 1 (with_tallies 1 (Some 1) (tally 2 ∷ []) ∷ [])) ≡ false
unjudged_at_a_step = refl

-- A move is still possible at the last moment.

at_a_weight : is_broken (parts (at_step InProgress 0) 1 []) ≡ true
at_a_weight = refl

aborted_at_a_weight : is_broken (parts (at_step Aborted 0) 1 []) ≡ false
aborted_at_a_weight = refl

held_at_a_weight : is_broken (parts (background_held (at_step InProgress 0)) 1 []) ≡ false
held_at_a_weight = refl

pause_is_over : is_broken (parts (in_time 7 307 (at_step InProgress 4)) 1 []) ≡ true
pause_is_over = refl

pause_lasts : is_broken (parts (in_time 7 306 (at_step InProgress 4)) 1 []) ≡ false
pause_lasts = refl

held_pause_stays : is_broken (parts (background_held (in_time 7 307 (at_step InProgress 4))) 1 []) ≡ false
held_pause_stays = refl

-- What it is bound to: nothing, in another state than done; another analysis; another revision than
-- an open run's.

abbrev not_bound : ReleaseState → ℕ → ServiceState
not_bound state i = record (unbegun state i) { bound = unbound (strategy_of (five_steps (background (codes "t") 0))) }

unbound_when_done : is_broken (parts (not_bound Done 5) 1 []) ≡ false
unbound_when_done = refl

unbound_when_aborted : is_broken (parts (not_bound Aborted 4) 1 []) ≡ true
unbound_when_aborted = refl

bound_when_aborted : is_broken (parts (unbegun Aborted 4) 1 []) ≡ false
bound_when_aborted = refl

without_its_background : is_broken (parts (record (unbegun Aborted 4) { bound = bound_of three_times (strategy_of (five_steps None)) }) 1 []) ≡ true
without_its_background = refl

run_of_another_revision : is_broken (parts (at_step InProgress 3) 1 (record (run 1 None) { analysis = record (run 1 None).analysis { revisions = record { template = codes "t"; number = 2 } ∷ [] } } ∷ [])) ≡ true
run_of_another_revision = refl

run_of_its_revision : is_broken (parts (at_step InProgress 3) 1 (record (run 1 None) { analysis = record (run 1 None).analysis { revisions = record { template = codes "t"; number = 1 } ∷ [] } } ∷ [])) ≡ false
run_of_its_revision = refl

-- What no strategy is bound to: two metrics of one name in an analysis; a metric without end in a
-- step's.

-- a release of one analysis step that was aborted, bound to these templates
abbrev bound_to : Templates → List (List ℕ) → Option Background → ServiceParts
bound_to known names background =
    let spec : ServiceSpec = record { name = web; version = v1; steps = Analysis names ∷ []; background = background } in
    parts (record (new_service_state spec b) { bound = bound_of known (strategy_of spec); version = v2; state = Aborted; step = 0 }) 1 []

abbrev both : List (List ℕ)
both = codes "t" ∷ codes "u" ∷ []

-- each template has one metric, of its own name
abbrev own_names : Templates
own_names name = Some (template_of (record { name = name; metrics = metric name ∷ []; dry_run = []; within = refl }) 1)

-- each template has that metric
abbrev each_has : MetricSpec → Templates
each_has x name = Some (template_of (record { name = name; metrics = x ∷ []; dry_run = []; within = refl }) 1)

abbrev endless : MetricSpec
endless = every (metric m) 60

one_name_twice : is_broken (bound_to three_times both None) ≡ true
one_name_twice = refl

two_names : is_broken (bound_to own_names both None) ≡ false
two_names = refl

one_name_twice_behind : is_broken (bound_to three_times (codes "t" ∷ []) (Some (record { templates = both; starting_step = 0 }))) ≡ true
one_name_twice_behind = refl

two_names_behind : is_broken (bound_to own_names (codes "t" ∷ []) (Some (record { templates = both; starting_step = 0 }))) ≡ false
two_names_behind = refl

without_end : is_broken (bound_to (each_has endless) (codes "t" ∷ []) None) ≡ true
without_end = refl

ended_by_successes : is_broken (bound_to (each_has (record endless { pass_after = Some 2; within = refl })) (codes "t" ∷ []) None) ≡ false
ended_by_successes = refl

without_end_behind : is_broken (parts (record (unbegun Aborted 4) { bound = record { steps = (bound_of three_times (strategy_of (five_steps None))).steps; background = (bound_of (each_has endless) (strategy_of (five_steps (background (codes "t") 0)))).background } }) 1 []) ≡ false
without_end_behind = refl
