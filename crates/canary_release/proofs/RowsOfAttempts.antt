-- Worked rows on holds, on runs that end together and on attempts: the replies and lines are these bytes.
use Rattle.std.proofs.Common.{◌≡◌, ℕ, ◌+◌, List, [], ◌∷◌, ◌++◌, refl}
use Rattle.std.specs.Prelude.{codes, true, false, Some, None, replicate}
use Rattle.std.specs.Fmt.{digits}
use Rattle.canary_base.specs.Moments.{moment_text}
use Rattle.canary_plan.specs.declared.step.Step.TheVariants.{SetWeight, Pause, Analysis}
use Rattle.canary_plan.specs.declared.command.Command.{Command}
use Rattle.canary_plan.specs.declared.command.Command.TheVariants.{Start, Promote, PromoteFull, Abort, Retry, Tick}
use Rattle.canary_release.specs.Desks.{machine, no_desk}
use Rattle.canary_release.proofs.Stories.{replies_after, service_after, lines_of, holds_of, b, ok, no, web, v2, m, service, background, metric, every, above_ten, template, result, report_on, report, step_setup}
use Rattle.canary_release.proofs.Worlds.{replies_from_nothing, replies_then, service_then}

-- A release that is held at a timed pause, since its background run was inconclusive.

abbrev held : List (ℕ × Command)
held =
    (b, template (codes "errs") (every (above_ten m) 60 ∷ []) [] refl)
    ∷ (b, service web (Pause (Some 300) ∷ Pause None ∷ []) (background (codes "errs") 0))
    ∷ (b, Start web v2)
    ∷ (b, report (result m 1 b 7 refl))
    ∷ []

-- No time passes for a held release, and a promotion enters the same pause anew.

abbrev held_at_a_pause_requests : List (ℕ × Command)
held_at_a_pause_requests =
    (b + 400, Tick web)
    ∷ (b + 500, Promote web)
    ∷ (b + 799, Tick web)
    ∷ (b + 800, Tick web)
    ∷ []

held_at_a_pause : replies_after held held_at_a_pause_requests ≡
    ok (codes "{\"code\":\"ok\",\"service\":\"web\",\"status\":\"Paused\",\"step\":0,\"weight\":0}")
    ∷ ok (codes "{\"code\":\"ok\",\"service\":\"web\",\"status\":\"Paused\",\"step\":0,\"weight\":0}")
    ∷ ok (codes "{\"code\":\"ok\",\"service\":\"web\",\"status\":\"Paused\",\"step\":0,\"weight\":0}")
    ∷ ok (codes "{\"code\":\"ok\",\"service\":\"web\",\"status\":\"Paused\",\"step\":1,\"weight\":0}")
    ∷ []
unfolding digits
held_at_a_pause = replies_then held held_at_a_pause_requests _ refl

-- It has the background hold.

background_hold : holds_of (service_after held web) ≡ (false, true) ∷ []
background_hold = service_then holds_of held web _ refl

-- It has none after an abort.

abbrev no_hold_aborted_requests : List (ℕ × Command)
no_hold_aborted_requests =
    (b + 1, Abort web)
    ∷ []

no_hold_aborted : holds_of (service_after (held ++ no_hold_aborted_requests) web) ≡ (false, false) ∷ []
no_hold_aborted = service_then holds_of (held ++ no_hold_aborted_requests) web _ refl

-- It has none after its end.

abbrev no_hold_done_requests : List (ℕ × Command)
no_hold_done_requests =
    (b + 1, PromoteFull web)
    ∷ []

no_hold_done : holds_of (service_after (held ++ no_hold_done_requests) web) ≡ (false, false) ∷ []
no_hold_done = service_then holds_of (held ++ no_hold_done_requests) web _ refl

-- It has none after a promotion.

abbrev no_hold_promoted_requests : List (ℕ × Command)
no_hold_promoted_requests =
    (b + 1, Promote web)
    ∷ []

no_hold_promoted : holds_of (service_after (held ++ no_hold_promoted_requests) web) ≡ (false, false) ∷ []
no_hold_promoted = service_then holds_of (held ++ no_hold_promoted_requests) web _ refl

-- A new attempt has none.

abbrev no_hold_retried_requests : List (ℕ × Command)
no_hold_retried_requests =
    (b + 1, Abort web)
    ∷ (b + 2, Retry web)
    ∷ []

no_hold_retried : holds_of (service_after (held ++ no_hold_retried_requests) web) ≡ (false, false) ∷ []
no_hold_retried = service_then holds_of (held ++ no_hold_retried_requests) web _ refl

-- A release that is held, since the run of its step was inconclusive.

abbrev step_held : List (ℕ × Command)
step_held = (step_setup (above_ten m ∷ []) [] refl) ++ ((b, report (result m 1 b 7 refl)) ∷ [])

-- It has the step hold.

step_hold : holds_of (service_after step_held web) ≡ (true, false) ∷ []
step_hold = service_then holds_of step_held web _ refl

-- It has none after an abort.

abbrev no_step_hold_aborted_requests : List (ℕ × Command)
no_step_hold_aborted_requests =
    (b + 1, Abort web)
    ∷ []

no_step_hold_aborted : holds_of (service_after (step_held ++ no_step_hold_aborted_requests) web) ≡ (false, false) ∷ []
no_step_hold_aborted = service_then holds_of (step_held ++ no_step_hold_aborted_requests) web _ refl

-- An abort ends the open run.

abbrev abort_ends_run_requests : List (ℕ × Command)
abort_ends_run_requests =
    (b + 1, Abort web)
    ∷ (b + 1, report (result m 1 (b + 1) 7 refl))
    ∷ []

abort_ends_run : replies_after (step_setup (above_ten m ∷ []) [] refl) abort_ends_run_requests ≡
    ok (codes "{\"code\":\"ok\",\"service\":\"web\",\"status\":\"Degraded\",\"step\":1,\"weight\":0}")
    ∷ no (codes "{\"code\":\"run-closed\"}")
    ∷ []
unfolding digits
abort_ends_run = replies_then (step_setup (above_ten m ∷ []) [] refl) abort_ends_run_requests _ refl

abort_ends_run_history : lines_of (service_after ((step_setup (above_ten m ∷ []) [] refl) ++ abort_ends_run_requests) web) ≡
    codes "2026-01-01T00:00:00Z created v1"
    ∷ codes "2026-01-01T00:00:00Z start v2"
    ∷ codes "2026-01-01T00:00:00Z step 0 setWeight 10"
    ∷ codes "2026-01-01T00:00:00Z step 1 analysis run 1"
    ∷ codes "2026-01-01T00:00:01Z abort"
    ∷ codes "2026-01-01T00:00:01Z run 1 Successful ended"
    ∷ []
unfolding digits moment_text
abort_ends_run_history = service_then lines_of ((step_setup (above_ten m ∷ []) [] refl) ++ abort_ends_run_requests) web _ refl

-- A release with both runs open: the background's is 1, the step's 2.

abbrev both_open : List (ℕ × Command)
both_open =
    (b, template (codes "t") (metric m ∷ []) [] refl)
    ∷ (b, template (codes "bg") (every (above_ten (codes "g")) 60 ∷ []) [] refl)
    ∷ (b, service web (Analysis (codes "t" ∷ []) ∷ []) (background (codes "bg") 0))
    ∷ (b, Start web v2)
    ∷ []

-- A background run that fails ends the step's run, and a retry begins both anew.

abbrev background_fails_requests : List (ℕ × Command)
background_fails_requests =
    (b + 1, report (result (codes "g") 1 b 3 refl))
    ∷ (b + 2, Retry web)
    ∷ []

background_fails : replies_after both_open background_fails_requests ≡
    ok (codes "{\"code\":\"ok\",\"phases\":[\"Failed\"],\"run\":1,\"service\":\"web\",\"status\":\"Degraded\",\"step\":0,\"verdict\":\"Failed\",\"weight\":0}")
    ∷ ok (codes "{\"code\":\"ok\",\"service\":\"web\",\"status\":\"Progressing\",\"step\":0,\"weight\":0}")
    ∷ []
unfolding digits
background_fails = replies_then both_open background_fails_requests _ refl

background_fails_history : lines_of (service_after (both_open ++ background_fails_requests) web) ≡
    codes "2026-01-01T00:00:00Z created v1"
    ∷ codes "2026-01-01T00:00:00Z start v2"
    ∷ codes "2026-01-01T00:00:00Z background run 1"
    ∷ codes "2026-01-01T00:00:00Z step 0 analysis run 2"
    ∷ codes "2026-01-01T00:00:01Z run 1 Failed"
    ∷ codes "2026-01-01T00:00:01Z abort run 1"
    ∷ codes "2026-01-01T00:00:01Z run 2 Successful ended"
    ∷ codes "2026-01-01T00:00:02Z retry v2"
    ∷ codes "2026-01-01T00:00:02Z background run 3"
    ∷ codes "2026-01-01T00:00:02Z step 0 analysis run 4"
    ∷ []
unfolding digits moment_text
background_fails_history = service_then lines_of (both_open ++ background_fails_requests) web _ refl

-- The end of the last step's run ends the background's.

abbrev step_run_ends_both_requests : List (ℕ × Command)
step_run_ends_both_requests =
    (b + 1, report_on 2 (result m 1 b 1 refl ∷ []) refl)
    ∷ []

step_run_ends_both : replies_after both_open step_run_ends_both_requests ≡
    ok (codes "{\"code\":\"ok\",\"phases\":[\"Successful\"],\"run\":2,\"service\":\"web\",\"status\":\"Healthy\",\"step\":1,\"verdict\":\"Successful\",\"weight\":100}")
    ∷ []
unfolding digits
step_run_ends_both = replies_then both_open step_run_ends_both_requests _ refl

step_run_ends_both_history : lines_of (service_after (both_open ++ step_run_ends_both_requests) web) ≡
    codes "2026-01-01T00:00:00Z created v1"
    ∷ codes "2026-01-01T00:00:00Z start v2"
    ∷ codes "2026-01-01T00:00:00Z background run 1"
    ∷ codes "2026-01-01T00:00:00Z step 0 analysis run 2"
    ∷ codes "2026-01-01T00:00:01Z run 2 Successful"
    ∷ codes "2026-01-01T00:00:01Z run 1 Successful ended"
    ∷ codes "2026-01-01T00:00:01Z done v2"
    ∷ []
unfolding digits moment_text
step_run_ends_both_history = service_then lines_of (both_open ++ step_run_ends_both_requests) web _ refl

-- Runs that end together stand in the order of their numbers.

abbrev both_ended_requests : List (ℕ × Command)
both_ended_requests =
    (b + 1, PromoteFull web)
    ∷ []

both_ended : replies_after both_open both_ended_requests ≡
    ok (codes "{\"code\":\"ok\",\"service\":\"web\",\"status\":\"Healthy\",\"step\":1,\"weight\":100}")
    ∷ []
unfolding digits
both_ended = replies_then both_open both_ended_requests _ refl

both_ended_history : lines_of (service_after (both_open ++ both_ended_requests) web) ≡
    codes "2026-01-01T00:00:00Z created v1"
    ∷ codes "2026-01-01T00:00:00Z start v2"
    ∷ codes "2026-01-01T00:00:00Z background run 1"
    ∷ codes "2026-01-01T00:00:00Z step 0 analysis run 2"
    ∷ codes "2026-01-01T00:00:01Z promote full"
    ∷ codes "2026-01-01T00:00:01Z run 1 Successful ended"
    ∷ codes "2026-01-01T00:00:01Z run 2 Successful ended"
    ∷ codes "2026-01-01T00:00:01Z done v2"
    ∷ []
unfolding digits moment_text
both_ended_history = service_then lines_of (both_open ++ both_ended_requests) web _ refl

-- A background hold ends the step's run, and a promotion opens another.

abbrev background_hold_ends_run_requests : List (ℕ × Command)
background_hold_ends_run_requests =
    (b + 1, report (result (codes "g") 1 b 7 refl))
    ∷ (b + 2, Promote web)
    ∷ []

background_hold_ends_run : replies_after both_open background_hold_ends_run_requests ≡
    ok (codes "{\"code\":\"ok\",\"phases\":[\"Inconclusive\"],\"run\":1,\"service\":\"web\",\"status\":\"Paused\",\"step\":0,\"verdict\":\"Inconclusive\",\"weight\":0}")
    ∷ ok (codes "{\"code\":\"ok\",\"service\":\"web\",\"status\":\"Progressing\",\"step\":0,\"weight\":0}")
    ∷ []
unfolding digits
background_hold_ends_run = replies_then both_open background_hold_ends_run_requests _ refl

background_hold_ends_run_history : lines_of (service_after (both_open ++ background_hold_ends_run_requests) web) ≡
    codes "2026-01-01T00:00:00Z created v1"
    ∷ codes "2026-01-01T00:00:00Z start v2"
    ∷ codes "2026-01-01T00:00:00Z background run 1"
    ∷ codes "2026-01-01T00:00:00Z step 0 analysis run 2"
    ∷ codes "2026-01-01T00:00:01Z run 1 Inconclusive"
    ∷ codes "2026-01-01T00:00:01Z hold background"
    ∷ codes "2026-01-01T00:00:01Z run 2 Successful ended"
    ∷ codes "2026-01-01T00:00:02Z promote"
    ∷ codes "2026-01-01T00:00:02Z step 0 analysis run 3"
    ∷ []
unfolding digits moment_text
background_hold_ends_run_history = service_then lines_of (both_open ++ background_hold_ends_run_requests) web _ refl

-- A background analysis from a later step.

abbrev later_start_requests : List (ℕ × Command)
later_start_requests =
    (b, template (codes "bg") (every (above_ten (codes "g")) 60 ∷ []) [] refl)
    ∷ (b, service web (SetWeight 20 ∷ Pause None ∷ []) (background (codes "bg") 1))
    ∷ (b, Start web v2)
    ∷ []

later_start : (machine no_desk later_start_requests).replies ≡
    ok (codes "{\"code\":\"ok\",\"revision\":1,\"template\":\"bg\"}")
    ∷ ok (codes "{\"code\":\"ok\",\"service\":\"web\",\"status\":\"Healthy\",\"step\":2,\"weight\":100}")
    ∷ ok (codes "{\"code\":\"ok\",\"service\":\"web\",\"status\":\"Paused\",\"step\":1,\"weight\":20}")
    ∷ []
unfolding digits
later_start = replies_from_nothing later_start_requests _ refl

later_start_history : lines_of (service_after later_start_requests web) ≡
    codes "2026-01-01T00:00:00Z created v1"
    ∷ codes "2026-01-01T00:00:00Z start v2"
    ∷ codes "2026-01-01T00:00:00Z step 0 setWeight 20"
    ∷ codes "2026-01-01T00:00:00Z background run 1"
    ∷ codes "2026-01-01T00:00:00Z step 1 pause"
    ∷ []
unfolding digits moment_text
later_start_history = service_then lines_of later_start_requests web _ refl

-- An attempt that opens 66 runs: one for each of 64 steps, one in the background, and one anew after the background hold.

abbrev sixty_four_analyses : List (ℕ × Command)
sixty_four_analyses =
    (b, template (codes "t") (metric m ∷ []) [] refl)
    ∷ (b, template (codes "bg") (every (above_ten (codes "g")) 60 ∷ []) [] refl)
    ∷ (b, service web (replicate 64 (Analysis (codes "t" ∷ []))) (background (codes "bg") 0))
    ∷ (b, Start web v2)
    ∷ (b, report (result (codes "g") 1 b 7 refl))
    ∷ (b, Promote web)
    ∷ []

abbrev sixty_three_reports : List (ℕ × Command)
sixty_three_reports =
    (b, report_on 3 (result m 1 b 1 refl ∷ []) refl)
    ∷ (b, report_on 4 (result m 1 b 1 refl ∷ []) refl)
    ∷ (b, report_on 5 (result m 1 b 1 refl ∷ []) refl)
    ∷ (b, report_on 6 (result m 1 b 1 refl ∷ []) refl)
    ∷ (b, report_on 7 (result m 1 b 1 refl ∷ []) refl)
    ∷ (b, report_on 8 (result m 1 b 1 refl ∷ []) refl)
    ∷ (b, report_on 9 (result m 1 b 1 refl ∷ []) refl)
    ∷ (b, report_on 10 (result m 1 b 1 refl ∷ []) refl)
    ∷ (b, report_on 11 (result m 1 b 1 refl ∷ []) refl)
    ∷ (b, report_on 12 (result m 1 b 1 refl ∷ []) refl)
    ∷ (b, report_on 13 (result m 1 b 1 refl ∷ []) refl)
    ∷ (b, report_on 14 (result m 1 b 1 refl ∷ []) refl)
    ∷ (b, report_on 15 (result m 1 b 1 refl ∷ []) refl)
    ∷ (b, report_on 16 (result m 1 b 1 refl ∷ []) refl)
    ∷ (b, report_on 17 (result m 1 b 1 refl ∷ []) refl)
    ∷ (b, report_on 18 (result m 1 b 1 refl ∷ []) refl)
    ∷ (b, report_on 19 (result m 1 b 1 refl ∷ []) refl)
    ∷ (b, report_on 20 (result m 1 b 1 refl ∷ []) refl)
    ∷ (b, report_on 21 (result m 1 b 1 refl ∷ []) refl)
    ∷ (b, report_on 22 (result m 1 b 1 refl ∷ []) refl)
    ∷ (b, report_on 23 (result m 1 b 1 refl ∷ []) refl)
    ∷ (b, report_on 24 (result m 1 b 1 refl ∷ []) refl)
    ∷ (b, report_on 25 (result m 1 b 1 refl ∷ []) refl)
    ∷ (b, report_on 26 (result m 1 b 1 refl ∷ []) refl)
    ∷ (b, report_on 27 (result m 1 b 1 refl ∷ []) refl)
    ∷ (b, report_on 28 (result m 1 b 1 refl ∷ []) refl)
    ∷ (b, report_on 29 (result m 1 b 1 refl ∷ []) refl)
    ∷ (b, report_on 30 (result m 1 b 1 refl ∷ []) refl)
    ∷ (b, report_on 31 (result m 1 b 1 refl ∷ []) refl)
    ∷ (b, report_on 32 (result m 1 b 1 refl ∷ []) refl)
    ∷ (b, report_on 33 (result m 1 b 1 refl ∷ []) refl)
    ∷ (b, report_on 34 (result m 1 b 1 refl ∷ []) refl)
    ∷ (b, report_on 35 (result m 1 b 1 refl ∷ []) refl)
    ∷ (b, report_on 36 (result m 1 b 1 refl ∷ []) refl)
    ∷ (b, report_on 37 (result m 1 b 1 refl ∷ []) refl)
    ∷ (b, report_on 38 (result m 1 b 1 refl ∷ []) refl)
    ∷ (b, report_on 39 (result m 1 b 1 refl ∷ []) refl)
    ∷ (b, report_on 40 (result m 1 b 1 refl ∷ []) refl)
    ∷ (b, report_on 41 (result m 1 b 1 refl ∷ []) refl)
    ∷ (b, report_on 42 (result m 1 b 1 refl ∷ []) refl)
    ∷ (b, report_on 43 (result m 1 b 1 refl ∷ []) refl)
    ∷ (b, report_on 44 (result m 1 b 1 refl ∷ []) refl)
    ∷ (b, report_on 45 (result m 1 b 1 refl ∷ []) refl)
    ∷ (b, report_on 46 (result m 1 b 1 refl ∷ []) refl)
    ∷ (b, report_on 47 (result m 1 b 1 refl ∷ []) refl)
    ∷ (b, report_on 48 (result m 1 b 1 refl ∷ []) refl)
    ∷ (b, report_on 49 (result m 1 b 1 refl ∷ []) refl)
    ∷ (b, report_on 50 (result m 1 b 1 refl ∷ []) refl)
    ∷ (b, report_on 51 (result m 1 b 1 refl ∷ []) refl)
    ∷ (b, report_on 52 (result m 1 b 1 refl ∷ []) refl)
    ∷ (b, report_on 53 (result m 1 b 1 refl ∷ []) refl)
    ∷ (b, report_on 54 (result m 1 b 1 refl ∷ []) refl)
    ∷ (b, report_on 55 (result m 1 b 1 refl ∷ []) refl)
    ∷ (b, report_on 56 (result m 1 b 1 refl ∷ []) refl)
    ∷ (b, report_on 57 (result m 1 b 1 refl ∷ []) refl)
    ∷ (b, report_on 58 (result m 1 b 1 refl ∷ []) refl)
    ∷ (b, report_on 59 (result m 1 b 1 refl ∷ []) refl)
    ∷ (b, report_on 60 (result m 1 b 1 refl ∷ []) refl)
    ∷ (b, report_on 61 (result m 1 b 1 refl ∷ []) refl)
    ∷ (b, report_on 62 (result m 1 b 1 refl ∷ []) refl)
    ∷ (b, report_on 63 (result m 1 b 1 refl ∷ []) refl)
    ∷ (b, report_on 64 (result m 1 b 1 refl ∷ []) refl)
    ∷ (b, report_on 65 (result m 1 b 1 refl ∷ []) refl)
    ∷ []

abbrev last_reports : List (ℕ × Command)
last_reports =
    (b, report_on 66 (result m 1 b 1 refl ∷ []) refl)
    ∷ (b, report_on 67 (result m 1 b 1 refl ∷ []) refl)
    ∷ []

sixty_six_runs : replies_after (sixty_four_analyses ++ sixty_three_reports) last_reports ≡
    ok (codes "{\"code\":\"ok\",\"phases\":[\"Successful\"],\"run\":66,\"service\":\"web\",\"status\":\"Healthy\",\"step\":64,\"verdict\":\"Successful\",\"weight\":100}")
    ∷ no (codes "{\"code\":\"unknown-run\"}")
    ∷ []
unfolding digits
sixty_six_runs = replies_then (sixty_four_analyses ++ sixty_three_reports) last_reports _ refl
