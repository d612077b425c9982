-- Worked rows on analyses: the replies and lines are these bytes.
use Rattle.std.proofs.Common.{◌≡◌, ℕ, ◌+◌, List, [], ◌∷◌, ◌++◌, refl}
use Rattle.std.specs.Prelude.{codes, Some, pos}
use Rattle.std.specs.Fmt.{digits}
use Rattle.canary_base.specs.Moments.{moment_text}
use Rattle.canary_condition.specs.declared.outcome.Value.TheVariants.{List as ListResult}
use Rattle.canary_condition.specs.declared.outcome.Outcome.TheVariants.{Result as Brought}
use Rattle.canary_plan.specs.declared.step.Step.TheVariants.{Analysis}
use Rattle.canary_plan.specs.declared.template_spec.MetricSpec.{MetricSpec}
use Rattle.canary_plan.specs.declared.command.Command.{Command}
use Rattle.canary_plan.specs.declared.command.Command.TheVariants.{Start, Promote, PromoteFull, Retry}
use Rattle.canary_release.specs.Desks.{machine, no_desk}
use Rattle.canary_release.proofs.Stories.{replies_after, service_after, lines_of, tallies_of, b, ok, no, web, v2, m, add, metric, with_success, with_failure, every, above_ten, zero_is_good, template, result, failure, report_on, report, background_setup_with, background_setup, step_setup}
use Rattle.canary_release.proofs.Worlds.{replies_from_nothing, replies_then, service_then}

-- A release at a pause, with a background run.

background_setup_replies : (machine no_desk background_setup).replies ≡
    ok (codes "{\"code\":\"ok\",\"revision\":1,\"template\":\"errs\"}")
    ∷ ok (codes "{\"code\":\"ok\",\"service\":\"web\",\"status\":\"Healthy\",\"step\":2,\"weight\":100}")
    ∷ ok (codes "{\"code\":\"ok\",\"service\":\"web\",\"status\":\"Paused\",\"step\":1,\"weight\":20}")
    ∷ []
unfolding digits
background_setup_replies = replies_from_nothing background_setup _ refl

-- A release at an analysis of its second step.

abbrev step_setup_plain : List (ℕ × Command)
step_setup_plain = step_setup (metric m ∷ []) [] refl

step_setup_replies : (machine no_desk step_setup_plain).replies ≡
    ok (codes "{\"code\":\"ok\",\"revision\":1,\"template\":\"t\"}")
    ∷ ok (codes "{\"code\":\"ok\",\"service\":\"web\",\"status\":\"Healthy\",\"step\":4,\"weight\":100}")
    ∷ ok (codes "{\"code\":\"ok\",\"service\":\"web\",\"status\":\"Progressing\",\"step\":1,\"weight\":10}")
    ∷ []
unfolding digits
step_setup_replies = replies_from_nothing step_setup_plain _ refl

-- Five errors one after another abort.

abbrev five_errors_requests : List (ℕ × Command)
five_errors_requests =
    (b, report (failure m 1 b refl))
    ∷ (b + 60, report (failure m 2 (b + 60) refl))
    ∷ (b + 120, report (failure m 3 (b + 120) refl))
    ∷ (b + 180, report (failure m 4 (b + 180) refl))
    ∷ (b + 240, report (failure m 5 (b + 240) refl))
    ∷ []

five_errors : replies_after background_setup five_errors_requests ≡
    ok (codes "{\"code\":\"ok\",\"phases\":[\"Error\"],\"run\":1,\"service\":\"web\",\"status\":\"Paused\",\"step\":1,\"verdict\":\"Running\",\"weight\":20}")
    ∷ ok (codes "{\"code\":\"ok\",\"phases\":[\"Error\"],\"run\":1,\"service\":\"web\",\"status\":\"Paused\",\"step\":1,\"verdict\":\"Running\",\"weight\":20}")
    ∷ ok (codes "{\"code\":\"ok\",\"phases\":[\"Error\"],\"run\":1,\"service\":\"web\",\"status\":\"Paused\",\"step\":1,\"verdict\":\"Running\",\"weight\":20}")
    ∷ ok (codes "{\"code\":\"ok\",\"phases\":[\"Error\"],\"run\":1,\"service\":\"web\",\"status\":\"Paused\",\"step\":1,\"verdict\":\"Running\",\"weight\":20}")
    ∷ ok (codes "{\"code\":\"ok\",\"phases\":[\"Error\"],\"run\":1,\"service\":\"web\",\"status\":\"Degraded\",\"step\":1,\"verdict\":\"Error\",\"weight\":0}")
    ∷ []
unfolding digits
five_errors = replies_then background_setup five_errors_requests _ refl

-- Four errors, a result, and four errors do not.

abbrev errors_apart_requests : List (ℕ × Command)
errors_apart_requests =
    (b, report (failure m 1 b refl))
    ∷ (b + 60, report (failure m 2 (b + 60) refl))
    ∷ (b + 120, report (failure m 3 (b + 120) refl))
    ∷ (b + 180, report (failure m 4 (b + 180) refl))
    ∷ (b + 240, report (result m 5 (b + 240) 1 refl))
    ∷ (b + 300, report (failure m 6 (b + 300) refl))
    ∷ (b + 360, report (failure m 7 (b + 360) refl))
    ∷ (b + 420, report (failure m 8 (b + 420) refl))
    ∷ (b + 480, report (failure m 9 (b + 480) refl))
    ∷ []

errors_apart : replies_after background_setup errors_apart_requests ≡
    ok (codes "{\"code\":\"ok\",\"phases\":[\"Error\"],\"run\":1,\"service\":\"web\",\"status\":\"Paused\",\"step\":1,\"verdict\":\"Running\",\"weight\":20}")
    ∷ ok (codes "{\"code\":\"ok\",\"phases\":[\"Error\"],\"run\":1,\"service\":\"web\",\"status\":\"Paused\",\"step\":1,\"verdict\":\"Running\",\"weight\":20}")
    ∷ ok (codes "{\"code\":\"ok\",\"phases\":[\"Error\"],\"run\":1,\"service\":\"web\",\"status\":\"Paused\",\"step\":1,\"verdict\":\"Running\",\"weight\":20}")
    ∷ ok (codes "{\"code\":\"ok\",\"phases\":[\"Error\"],\"run\":1,\"service\":\"web\",\"status\":\"Paused\",\"step\":1,\"verdict\":\"Running\",\"weight\":20}")
    ∷ ok (codes "{\"code\":\"ok\",\"phases\":[\"Successful\"],\"run\":1,\"service\":\"web\",\"status\":\"Paused\",\"step\":1,\"verdict\":\"Running\",\"weight\":20}")
    ∷ ok (codes "{\"code\":\"ok\",\"phases\":[\"Error\"],\"run\":1,\"service\":\"web\",\"status\":\"Paused\",\"step\":1,\"verdict\":\"Running\",\"weight\":20}")
    ∷ ok (codes "{\"code\":\"ok\",\"phases\":[\"Error\"],\"run\":1,\"service\":\"web\",\"status\":\"Paused\",\"step\":1,\"verdict\":\"Running\",\"weight\":20}")
    ∷ ok (codes "{\"code\":\"ok\",\"phases\":[\"Error\"],\"run\":1,\"service\":\"web\",\"status\":\"Paused\",\"step\":1,\"verdict\":\"Running\",\"weight\":20}")
    ∷ ok (codes "{\"code\":\"ok\",\"phases\":[\"Error\"],\"run\":1,\"service\":\"web\",\"status\":\"Paused\",\"step\":1,\"verdict\":\"Running\",\"weight\":20}")
    ∷ []
unfolding digits
errors_apart = replies_then background_setup errors_apart_requests _ refl

-- The tally of these.

errors_apart_tally : tallies_of (service_after (background_setup ++ errors_apart_requests) web) ≡ (record { counted = 1; failed = 0; inconclusive = 0; errors = 8; consecutive = 4; passes = 0; last = Some (b + 480) } ∷ []) ∷ []
errors_apart_tally = service_then tallies_of (background_setup ++ errors_apart_requests) web _ refl

-- Two successes in a row complete a metric that asks for so many, though one failed before.

abbrev passed_by_two : MetricSpec
passed_by_two = record (zero_is_good m) { interval = Some 60; failure_limit = 1; pass_after = Some 2; within = refl }

abbrev passing_setup : List (ℕ × Command)
passing_setup = background_setup_with passed_by_two

abbrev passing_requests : List (ℕ × Command)
passing_requests =
    (b, report (result m 1 b 0 refl))
    ∷ (b + 60, report (result m 2 (b + 60) 1 refl))
    ∷ (b + 120, report (result m 3 (b + 120) 0 refl))
    ∷ (b + 180, report (result m 4 (b + 180) 0 refl))
    ∷ (b + 240, report (result m 5 (b + 240) 0 refl))
    ∷ []

passing : replies_after passing_setup passing_requests ≡
    ok (codes "{\"code\":\"ok\",\"phases\":[\"Successful\"],\"run\":1,\"service\":\"web\",\"status\":\"Paused\",\"step\":1,\"verdict\":\"Running\",\"weight\":20}")
    ∷ ok (codes "{\"code\":\"ok\",\"phases\":[\"Failed\"],\"run\":1,\"service\":\"web\",\"status\":\"Paused\",\"step\":1,\"verdict\":\"Running\",\"weight\":20}")
    ∷ ok (codes "{\"code\":\"ok\",\"phases\":[\"Successful\"],\"run\":1,\"service\":\"web\",\"status\":\"Paused\",\"step\":1,\"verdict\":\"Running\",\"weight\":20}")
    ∷ ok (codes "{\"code\":\"ok\",\"phases\":[\"Successful\"],\"run\":1,\"service\":\"web\",\"status\":\"Paused\",\"step\":1,\"verdict\":\"Successful\",\"weight\":20}")
    ∷ no (codes "{\"code\":\"run-closed\"}")
    ∷ []
unfolding digits
passing = replies_then passing_setup passing_requests _ refl

-- An error between two successes starts their number anew.

abbrev error_between_requests : List (ℕ × Command)
error_between_requests =
    (b, report (result m 1 b 0 refl))
    ∷ (b + 60, report (failure m 2 (b + 60) refl))
    ∷ (b + 120, report (result m 3 (b + 120) 0 refl))
    ∷ []

error_between : replies_after passing_setup error_between_requests ≡
    ok (codes "{\"code\":\"ok\",\"phases\":[\"Successful\"],\"run\":1,\"service\":\"web\",\"status\":\"Paused\",\"step\":1,\"verdict\":\"Running\",\"weight\":20}")
    ∷ ok (codes "{\"code\":\"ok\",\"phases\":[\"Error\"],\"run\":1,\"service\":\"web\",\"status\":\"Paused\",\"step\":1,\"verdict\":\"Running\",\"weight\":20}")
    ∷ ok (codes "{\"code\":\"ok\",\"phases\":[\"Successful\"],\"run\":1,\"service\":\"web\",\"status\":\"Paused\",\"step\":1,\"verdict\":\"Running\",\"weight\":20}")
    ∷ []
unfolding digits
error_between = replies_then passing_setup error_between_requests _ refl

error_between_tally : tallies_of (service_after (passing_setup ++ error_between_requests) web) ≡ (record { counted = 2; failed = 0; inconclusive = 0; errors = 1; consecutive = 0; passes = 1; last = Some (b + 120) } ∷ []) ∷ []
error_between_tally = service_then tallies_of (passing_setup ++ error_between_requests) web _ refl

-- An inconclusive step run holds the release, and a promotion leads to the next step.

abbrev inconclusive_step_requests : List (ℕ × Command)
inconclusive_step_requests =
    (b, report (result m 1 b 7 refl))
    ∷ (b + 1, Promote web)
    ∷ []

inconclusive_step : replies_after (step_setup (above_ten m ∷ []) [] refl) inconclusive_step_requests ≡
    ok (codes "{\"code\":\"ok\",\"phases\":[\"Inconclusive\"],\"run\":1,\"service\":\"web\",\"status\":\"Paused\",\"step\":1,\"verdict\":\"Inconclusive\",\"weight\":10}")
    ∷ ok (codes "{\"code\":\"ok\",\"service\":\"web\",\"status\":\"Paused\",\"step\":3,\"weight\":60}")
    ∷ []
unfolding digits
inconclusive_step = replies_then (step_setup (above_ten m ∷ []) [] refl) inconclusive_step_requests _ refl

inconclusive_step_history : lines_of (service_after ((step_setup (above_ten m ∷ []) [] refl) ++ inconclusive_step_requests) web) ≡
    codes "2026-01-01T00:00:00Z created v1"
    ∷ codes "2026-01-01T00:00:00Z start v2"
    ∷ codes "2026-01-01T00:00:00Z step 0 setWeight 10"
    ∷ codes "2026-01-01T00:00:00Z step 1 analysis run 1"
    ∷ codes "2026-01-01T00:00:00Z run 1 Inconclusive"
    ∷ codes "2026-01-01T00:00:00Z hold step 1"
    ∷ codes "2026-01-01T00:00:01Z promote"
    ∷ codes "2026-01-01T00:00:01Z step 2 setWeight 60"
    ∷ codes "2026-01-01T00:00:01Z step 3 pause"
    ∷ []
unfolding digits moment_text
inconclusive_step_history = service_then lines_of ((step_setup (above_ten m ∷ []) [] refl) ++ inconclusive_step_requests) web _ refl

-- If both conditions are true the measurement is failed, and a retry opens run 2.

abbrev both_conditions_true_requests : List (ℕ × Command)
both_conditions_true_requests =
    (b, report (result m 1 b 5 refl))
    ∷ (b + 1, Retry web)
    ∷ []

both_conditions_true : replies_after (step_setup ((with_failure (with_success (metric m) (codes "result > 1") refl) (codes "result < 9") refl) ∷ []) [] refl) both_conditions_true_requests ≡
    ok (codes "{\"code\":\"ok\",\"phases\":[\"Failed\"],\"run\":1,\"service\":\"web\",\"status\":\"Degraded\",\"step\":1,\"verdict\":\"Failed\",\"weight\":0}")
    ∷ ok (codes "{\"code\":\"ok\",\"service\":\"web\",\"status\":\"Progressing\",\"step\":1,\"weight\":10}")
    ∷ []
unfolding digits
both_conditions_true = replies_then (step_setup ((with_failure (with_success (metric m) (codes "result > 1") refl) (codes "result < 9") refl) ∷ []) [] refl) both_conditions_true_requests _ refl

both_conditions_true_history : lines_of (service_after ((step_setup ((with_failure (with_success (metric m) (codes "result > 1") refl) (codes "result < 9") refl) ∷ []) [] refl) ++ both_conditions_true_requests) web) ≡
    codes "2026-01-01T00:00:00Z created v1"
    ∷ codes "2026-01-01T00:00:00Z start v2"
    ∷ codes "2026-01-01T00:00:00Z step 0 setWeight 10"
    ∷ codes "2026-01-01T00:00:00Z step 1 analysis run 1"
    ∷ codes "2026-01-01T00:00:00Z run 1 Failed"
    ∷ codes "2026-01-01T00:00:00Z abort run 1"
    ∷ codes "2026-01-01T00:00:01Z retry v2"
    ∷ codes "2026-01-01T00:00:01Z step 0 setWeight 10"
    ∷ codes "2026-01-01T00:00:01Z step 1 analysis run 2"
    ∷ []
unfolding digits moment_text
both_conditions_true_history = service_then lines_of ((step_setup ((with_failure (with_success (metric m) (codes "result > 1") refl) (codes "result < 9") refl) ∷ []) [] refl) ++ both_conditions_true_requests) web _ refl

-- One failure is within the limit of one.

abbrev one_failure_of_three_requests : List (ℕ × Command)
one_failure_of_three_requests =
    (b, report (result m 1 b 0 refl))
    ∷ (b + 10, report (result m 2 (b + 10) 1 refl))
    ∷ (b + 20, report (result m 3 (b + 20) 0 refl))
    ∷ []

one_failure_of_three : replies_after (step_setup (record (every (zero_is_good m) 10) { count = Some 3; failure_limit = 1; within = refl } ∷ []) [] refl) one_failure_of_three_requests ≡
    ok (codes "{\"code\":\"ok\",\"phases\":[\"Successful\"],\"run\":1,\"service\":\"web\",\"status\":\"Progressing\",\"step\":1,\"verdict\":\"Running\",\"weight\":10}")
    ∷ ok (codes "{\"code\":\"ok\",\"phases\":[\"Failed\"],\"run\":1,\"service\":\"web\",\"status\":\"Progressing\",\"step\":1,\"verdict\":\"Running\",\"weight\":10}")
    ∷ ok (codes "{\"code\":\"ok\",\"phases\":[\"Successful\"],\"run\":1,\"service\":\"web\",\"status\":\"Paused\",\"step\":3,\"verdict\":\"Successful\",\"weight\":60}")
    ∷ []
unfolding digits
one_failure_of_three = replies_then (step_setup (record (every (zero_is_good m) 10) { count = Some 3; failure_limit = 1; within = refl } ∷ []) [] refl) one_failure_of_three_requests _ refl

-- Two failures are above it.

abbrev two_failures_of_three_requests : List (ℕ × Command)
two_failures_of_three_requests =
    (b, report (result m 1 b 1 refl))
    ∷ (b + 10, report (result m 2 (b + 10) 1 refl))
    ∷ []

two_failures_of_three : replies_after (step_setup (record (every (zero_is_good m) 10) { count = Some 3; failure_limit = 1; within = refl } ∷ []) [] refl) two_failures_of_three_requests ≡
    ok (codes "{\"code\":\"ok\",\"phases\":[\"Failed\"],\"run\":1,\"service\":\"web\",\"status\":\"Progressing\",\"step\":1,\"verdict\":\"Running\",\"weight\":10}")
    ∷ ok (codes "{\"code\":\"ok\",\"phases\":[\"Failed\"],\"run\":1,\"service\":\"web\",\"status\":\"Degraded\",\"step\":1,\"verdict\":\"Failed\",\"weight\":0}")
    ∷ []
unfolding digits
two_failures_of_three = replies_then (step_setup (record (every (zero_is_good m) 10) { count = Some 3; failure_limit = 1; within = refl } ∷ []) [] refl) two_failures_of_three_requests _ refl

-- The verdict of a run is the worst phase of its metrics.

abbrev worst_of_a_report_requests : List (ℕ × Command)
worst_of_a_report_requests =
    (b, report_on 1 (result (codes "a") 1 b 7 refl ∷ result (codes "b") 1 b 1 refl ∷ []) refl)
    ∷ []

worst_of_a_report : replies_after (step_setup (above_ten (codes "a") ∷ zero_is_good (codes "b") ∷ []) [] refl) worst_of_a_report_requests ≡
    ok (codes "{\"code\":\"ok\",\"phases\":[\"Inconclusive\",\"Failed\"],\"run\":1,\"service\":\"web\",\"status\":\"Degraded\",\"step\":1,\"verdict\":\"Failed\",\"weight\":0}")
    ∷ []
unfolding digits
worst_of_a_report = replies_then (step_setup (above_ten (codes "a") ∷ zero_is_good (codes "b") ∷ []) [] refl) worst_of_a_report_requests _ refl

worst_of_a_report_history : lines_of (service_after ((step_setup (above_ten (codes "a") ∷ zero_is_good (codes "b") ∷ []) [] refl) ++ worst_of_a_report_requests) web) ≡
    codes "2026-01-01T00:00:00Z created v1"
    ∷ codes "2026-01-01T00:00:00Z start v2"
    ∷ codes "2026-01-01T00:00:00Z step 0 setWeight 10"
    ∷ codes "2026-01-01T00:00:00Z step 1 analysis run 1"
    ∷ codes "2026-01-01T00:00:00Z run 1 Failed"
    ∷ codes "2026-01-01T00:00:00Z abort run 1"
    ∷ []
unfolding digits moment_text
worst_of_a_report_history = service_then lines_of ((step_setup (above_ten (codes "a") ∷ zero_is_good (codes "b") ∷ []) [] refl) ++ worst_of_a_report_requests) web _ refl

-- A bad second entry leaves none recorded: the same first entry is taken afterwards.

abbrev bad_second_entry_requests : List (ℕ × Command)
bad_second_entry_requests =
    (b, report_on 1 (result (codes "a") 1 b 7 refl ∷ result (codes "c") 1 b 1 refl ∷ []) refl)
    ∷ (b, report_on 1 (result (codes "a") 1 b 7 refl ∷ result (codes "b") 1 b 1 refl ∷ []) refl)
    ∷ []

bad_second_entry : replies_after (step_setup (above_ten (codes "a") ∷ zero_is_good (codes "b") ∷ []) [] refl) bad_second_entry_requests ≡
    no (codes "{\"at\":1,\"code\":\"unknown-metric\"}")
    ∷ ok (codes "{\"code\":\"ok\",\"phases\":[\"Inconclusive\",\"Failed\"],\"run\":1,\"service\":\"web\",\"status\":\"Degraded\",\"step\":1,\"verdict\":\"Failed\",\"weight\":0}")
    ∷ []
unfolding digits
bad_second_entry = replies_then (step_setup (above_ten (codes "a") ∷ zero_is_good (codes "b") ∷ []) [] refl) bad_second_entry_requests _ refl

-- A metric that is marked as dry-run fails, and the run is successful.

abbrev dry_run_fails_requests : List (ℕ × Command)
dry_run_fails_requests =
    (b, report_on 1 (result (codes "d") 1 b 1 refl ∷ result (codes "e") 1 b 1 refl ∷ []) refl)
    ∷ []

dry_run_fails : replies_after (step_setup (zero_is_good (codes "d") ∷ metric (codes "e") ∷ []) (codes "d" ∷ []) refl) dry_run_fails_requests ≡
    ok (codes "{\"code\":\"ok\",\"phases\":[\"Failed\",\"Successful\"],\"run\":1,\"service\":\"web\",\"status\":\"Paused\",\"step\":3,\"verdict\":\"Successful\",\"weight\":60}")
    ∷ []
unfolding digits
dry_run_fails = replies_then (step_setup (zero_is_good (codes "d") ∷ metric (codes "e") ∷ []) (codes "d" ∷ []) refl) dry_run_fails_requests _ refl

-- So too if it is alone.

abbrev dry_run_alone_requests : List (ℕ × Command)
dry_run_alone_requests =
    (b, report_on 1 (result (codes "d") 1 b 1 refl ∷ []) refl)
    ∷ []

dry_run_alone : replies_after (step_setup (zero_is_good (codes "d") ∷ []) (codes "d" ∷ []) refl) dry_run_alone_requests ≡
    ok (codes "{\"code\":\"ok\",\"phases\":[\"Failed\"],\"run\":1,\"service\":\"web\",\"status\":\"Paused\",\"step\":3,\"verdict\":\"Successful\",\"weight\":60}")
    ∷ []
unfolding digits
dry_run_alone = replies_then (step_setup (zero_is_good (codes "d") ∷ []) (codes "d" ∷ []) refl) dry_run_alone_requests _ refl

-- And if all metrics are marked.

abbrev dry_run_all_requests : List (ℕ × Command)
dry_run_all_requests =
    (b, report_on 1 (result (codes "d") 1 b 1 refl ∷ []) refl)
    ∷ []

dry_run_all : replies_after (step_setup (zero_is_good (codes "d") ∷ []) (codes ".*" ∷ []) refl) dry_run_all_requests ≡
    ok (codes "{\"code\":\"ok\",\"phases\":[\"Failed\"],\"run\":1,\"service\":\"web\",\"status\":\"Paused\",\"step\":3,\"verdict\":\"Successful\",\"weight\":60}")
    ∷ []
unfolding digits
dry_run_all = replies_then (step_setup (zero_is_good (codes "d") ∷ []) (codes ".*" ∷ []) refl) dry_run_all_requests _ refl

-- Ordinals in their turn, and moments in time.

abbrev turns_and_moments_requests : List (ℕ × Command)
turns_and_moments_requests =
    (b, report (result m 1 b 5 refl))
    ∷ (b, report (result m 3 b 5 refl))
    ∷ (b, report (failure m 1 b refl))
    ∷ (b + 59, report (result m 2 (b + 59) 5 refl))
    ∷ (b + 60, report (result m 2 (b + 61) 5 refl))
    ∷ (b + 60, report (result m 2 (b + 60) 5 refl))
    ∷ []

turns_and_moments : replies_after background_setup turns_and_moments_requests ≡
    ok (codes "{\"code\":\"ok\",\"phases\":[\"Successful\"],\"run\":1,\"service\":\"web\",\"status\":\"Paused\",\"step\":1,\"verdict\":\"Running\",\"weight\":20}")
    ∷ no (codes "{\"at\":0,\"code\":\"out-of-turn\",\"expected\":2}")
    ∷ no (codes "{\"at\":0,\"code\":\"recorded\"}")
    ∷ no (codes "{\"at\":0,\"code\":\"too-early\",\"due\":1767225660}")
    ∷ no (codes "{\"at\":0,\"code\":\"future\"}")
    ∷ ok (codes "{\"code\":\"ok\",\"phases\":[\"Successful\"],\"run\":1,\"service\":\"web\",\"status\":\"Paused\",\"step\":1,\"verdict\":\"Running\",\"weight\":20}")
    ∷ []
unfolding digits
turns_and_moments = replies_then background_setup turns_and_moments_requests _ refl

-- The first measurement is due after the initial delay, and the next after an error in 10 seconds, if there is no interval.

abbrev initial_delay_requests : List (ℕ × Command)
initial_delay_requests =
    (b + 29, report (result m 1 (b + 29) 5 refl))
    ∷ (b + 30, report (failure m 1 (b + 30) refl))
    ∷ (b + 39, report (result m 2 (b + 39) 5 refl))
    ∷ (b + 40, report (result m 2 (b + 40) 5 refl))
    ∷ []

initial_delay : replies_after (step_setup (record (metric m) { initial_delay = 30 } ∷ []) [] refl) initial_delay_requests ≡
    no (codes "{\"at\":0,\"code\":\"too-early\",\"due\":1767225630}")
    ∷ ok (codes "{\"code\":\"ok\",\"phases\":[\"Error\"],\"run\":1,\"service\":\"web\",\"status\":\"Progressing\",\"step\":1,\"verdict\":\"Running\",\"weight\":10}")
    ∷ no (codes "{\"at\":0,\"code\":\"too-early\",\"due\":1767225640}")
    ∷ ok (codes "{\"code\":\"ok\",\"phases\":[\"Successful\"],\"run\":1,\"service\":\"web\",\"status\":\"Paused\",\"step\":3,\"verdict\":\"Successful\",\"weight\":60}")
    ∷ []
unfolding digits
initial_delay = replies_then (step_setup (record (metric m) { initial_delay = 30 } ∷ []) [] refl) initial_delay_requests _ refl

-- The templates of one analysis give their metrics together.

abbrev templates_together_requests : List (ℕ × Command)
templates_together_requests =
    (b, template (codes "t") (metric (codes "a") ∷ []) [] refl)
    ∷ (b, template web (zero_is_good (codes "b") ∷ []) (codes "b" ∷ []) refl)
    ∷ (b, add web (Analysis (codes "t" ∷ web ∷ []) ∷ []))
    ∷ (b, Start web v2)
    ∷ (b + 1, report_on 1 (result (codes "b") 1 (b + 1) 1 refl ∷ []) refl)
    ∷ (b + 2, report_on 1 (failure (codes "a") 1 (b + 2) refl ∷ []) refl)
    ∷ (b + 12, report_on 1 (result (codes "a") 2 (b + 12) 1 refl ∷ []) refl)
    ∷ []

templates_together : (machine no_desk templates_together_requests).replies ≡
    ok (codes "{\"code\":\"ok\",\"revision\":1,\"template\":\"t\"}")
    ∷ ok (codes "{\"code\":\"ok\",\"revision\":1,\"template\":\"web\"}")
    ∷ ok (codes "{\"code\":\"ok\",\"service\":\"web\",\"status\":\"Healthy\",\"step\":1,\"weight\":100}")
    ∷ ok (codes "{\"code\":\"ok\",\"service\":\"web\",\"status\":\"Progressing\",\"step\":0,\"weight\":0}")
    ∷ ok (codes "{\"code\":\"ok\",\"phases\":[\"Failed\"],\"run\":1,\"service\":\"web\",\"status\":\"Progressing\",\"step\":0,\"verdict\":\"Running\",\"weight\":0}")
    ∷ ok (codes "{\"code\":\"ok\",\"phases\":[\"Error\"],\"run\":1,\"service\":\"web\",\"status\":\"Progressing\",\"step\":0,\"verdict\":\"Running\",\"weight\":0}")
    ∷ ok (codes "{\"code\":\"ok\",\"phases\":[\"Successful\"],\"run\":1,\"service\":\"web\",\"status\":\"Healthy\",\"step\":1,\"verdict\":\"Successful\",\"weight\":100}")
    ∷ []
unfolding digits
templates_together = replies_from_nothing templates_together_requests _ refl

-- A condition that looks past the end of a list faults.

abbrev index_out_of_range_requests : List (ℕ × Command)
index_out_of_range_requests =
    (b, report (record { metric = m; ordinal = 1; taken = b; outcome = Brought (ListResult (pos 7 ∷ pos 8 ∷ [])); within = refl }))
    ∷ []

index_out_of_range : replies_after (step_setup (with_success (metric m) (codes "result[2] > 0") refl ∷ []) [] refl) index_out_of_range_requests ≡
    ok (codes "{\"code\":\"ok\",\"phases\":[\"Error\"],\"run\":1,\"service\":\"web\",\"status\":\"Progressing\",\"step\":1,\"verdict\":\"Running\",\"weight\":10}")
    ∷ []
unfolding digits
index_out_of_range = replies_then (step_setup (with_success (metric m) (codes "result[2] > 0") refl ∷ []) [] refl) index_out_of_range_requests _ refl

-- It does not if the first operand decides.

abbrev second_operand_unread_requests : List (ℕ × Command)
second_operand_unread_requests =
    (b, report (record { metric = m; ordinal = 1; taken = b; outcome = Brought (ListResult (pos 1 ∷ [])); within = refl }))
    ∷ []

second_operand_unread : replies_after (step_setup (with_success (metric m) (codes "result[0] > 0 || result[9] > 0") refl ∷ []) [] refl) second_operand_unread_requests ≡
    ok (codes "{\"code\":\"ok\",\"phases\":[\"Successful\"],\"run\":1,\"service\":\"web\",\"status\":\"Paused\",\"step\":3,\"verdict\":\"Successful\",\"weight\":60}")
    ∷ []
unfolding digits
second_operand_unread = replies_then (step_setup (with_success (metric m) (codes "result[0] > 0 || result[9] > 0") refl ∷ []) [] refl) second_operand_unread_requests _ refl

-- It does if the first operand faults.

abbrev first_operand_faults_requests : List (ℕ × Command)
first_operand_faults_requests =
    (b, report (record { metric = m; ordinal = 1; taken = b; outcome = Brought (ListResult (pos 1 ∷ [])); within = refl }))
    ∷ []

first_operand_faults : replies_after (step_setup (with_success (metric m) (codes "result[9] > 0 || result[0] > 0") refl ∷ []) [] refl) first_operand_faults_requests ≡
    ok (codes "{\"code\":\"ok\",\"phases\":[\"Error\"],\"run\":1,\"service\":\"web\",\"status\":\"Progressing\",\"step\":1,\"verdict\":\"Running\",\"weight\":10}")
    ∷ []
unfolding digits
first_operand_faults = replies_then (step_setup (with_success (metric m) (codes "result[9] > 0 || result[0] > 0") refl ∷ []) [] refl) first_operand_faults_requests _ refl

-- An inconclusive background run holds the release; a promotion enters the same step, and the next one the next.

abbrev inconclusive_background_requests : List (ℕ × Command)
inconclusive_background_requests =
    (b, report (result m 1 b 7 refl))
    ∷ (b + 1, Promote web)
    ∷ (b + 2, Promote web)
    ∷ []

inconclusive_background : replies_after (background_setup_with (every (above_ten m) 60)) inconclusive_background_requests ≡
    ok (codes "{\"code\":\"ok\",\"phases\":[\"Inconclusive\"],\"run\":1,\"service\":\"web\",\"status\":\"Paused\",\"step\":1,\"verdict\":\"Inconclusive\",\"weight\":20}")
    ∷ ok (codes "{\"code\":\"ok\",\"service\":\"web\",\"status\":\"Paused\",\"step\":1,\"weight\":20}")
    ∷ ok (codes "{\"code\":\"ok\",\"service\":\"web\",\"status\":\"Healthy\",\"step\":2,\"weight\":100}")
    ∷ []
unfolding digits
inconclusive_background = replies_then (background_setup_with (every (above_ten m) 60)) inconclusive_background_requests _ refl

inconclusive_background_history : lines_of (service_after ((background_setup_with (every (above_ten m) 60)) ++ inconclusive_background_requests) web) ≡
    codes "2026-01-01T00:00:00Z created v1"
    ∷ codes "2026-01-01T00:00:00Z start v2"
    ∷ codes "2026-01-01T00:00:00Z background run 1"
    ∷ codes "2026-01-01T00:00:00Z step 0 setWeight 20"
    ∷ codes "2026-01-01T00:00:00Z step 1 pause"
    ∷ codes "2026-01-01T00:00:00Z run 1 Inconclusive"
    ∷ codes "2026-01-01T00:00:00Z hold background"
    ∷ codes "2026-01-01T00:00:01Z promote"
    ∷ codes "2026-01-01T00:00:01Z step 1 pause"
    ∷ codes "2026-01-01T00:00:02Z promote"
    ∷ codes "2026-01-01T00:00:02Z done v2"
    ∷ []
unfolding digits moment_text
inconclusive_background_history = service_then lines_of ((background_setup_with (every (above_ten m) 60)) ++ inconclusive_background_requests) web _ refl

-- At an analysis a release isn't paused; a promotion to the end ends its run, which is closed.

abbrev at_an_analysis_requests : List (ℕ × Command)
at_an_analysis_requests =
    (b + 1, Promote web)
    ∷ (b + 2, PromoteFull web)
    ∷ (b + 3, report (result m 1 b 7 refl))
    ∷ (b + 3, report_on 2 (result m 1 b 7 refl ∷ []) refl)
    ∷ []

at_an_analysis : replies_after (step_setup (above_ten m ∷ []) [] refl) at_an_analysis_requests ≡
    no (codes "{\"code\":\"not-paused\"}")
    ∷ ok (codes "{\"code\":\"ok\",\"service\":\"web\",\"status\":\"Healthy\",\"step\":4,\"weight\":100}")
    ∷ no (codes "{\"code\":\"run-closed\"}")
    ∷ no (codes "{\"code\":\"unknown-run\"}")
    ∷ []
unfolding digits
at_an_analysis = replies_then (step_setup (above_ten m ∷ []) [] refl) at_an_analysis_requests _ refl

at_an_analysis_history : lines_of (service_after ((step_setup (above_ten m ∷ []) [] refl) ++ at_an_analysis_requests) web) ≡
    codes "2026-01-01T00:00:00Z created v1"
    ∷ codes "2026-01-01T00:00:00Z start v2"
    ∷ codes "2026-01-01T00:00:00Z step 0 setWeight 10"
    ∷ codes "2026-01-01T00:00:00Z step 1 analysis run 1"
    ∷ codes "2026-01-01T00:00:02Z promote full"
    ∷ codes "2026-01-01T00:00:02Z run 1 Successful ended"
    ∷ codes "2026-01-01T00:00:02Z done v2"
    ∷ []
unfolding digits moment_text
at_an_analysis_history = service_then lines_of ((step_setup (above_ten m ∷ []) [] refl) ++ at_an_analysis_requests) web _ refl
