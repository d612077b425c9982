-- Worked rows on both holds, on runs beside one another, on short pauses, and on what is looked at first: the replies and lines are these bytes.
use Rattle.std.proofs.Common.{◌≡◌, ℕ, ◌+◌, List, [], ◌∷◌, ◌++◌, refl}
use Rattle.std.specs.Prelude.{codes, true, false, Some, None}
use Rattle.std.specs.Fmt.{digits}
use Rattle.canary_base.specs.Moments.{moment_text}
use Rattle.canary_plan.specs.declared.step.Step.TheVariants.{SetWeight, Pause, Analysis}
use Rattle.canary_plan.specs.declared.service.ServiceSpec.{ServiceSpec}
use Rattle.canary_plan.specs.declared.command.Command.{Command}
use Rattle.canary_plan.specs.declared.command.Command.TheVariants.{Start, Promote, Abort, Retry, Tick}
use Rattle.canary_plan.specs.Plans.{no_templates}
use Rattle.canary_release.specs.declared.reply.Reply.{Reply}
use Rattle.canary_release.specs.declared.state.ReleaseState.TheVariants.{Aborted}
use Rattle.canary_release.specs.declared.service.ServiceParts.{ServiceParts}
use Rattle.canary_release.specs.Desks.{machine, no_desk, new_service_state, model_decision}
use Rattle.canary_release.specs.Stored.{stored_evolution}
use Rattle.canary_release.proofs.Stories.{replies_after, service_after, lines_of, tallies_of, holds_of, b, ok, no, web, v1, v2, m, service, add, background, two_pauses, metric, every, above_ten, template, result, failure, report_on, report, step_setup}
use Rattle.canary_release.proofs.Worlds.{replies_from_nothing, replies_then, service_then}

-- A release at an analysis of its second step, with both runs open: the background's is 1, the step's 2.

abbrev both_open : List (ℕ × Command)
both_open =
    (b, template (codes "t") (above_ten m ∷ []) [] refl)
    ∷ (b, template (codes "bg") (every (above_ten (codes "g")) 60 ∷ []) [] refl)
    ∷ (b, service web (SetWeight 10 ∷ Analysis (codes "t" ∷ []) ∷ SetWeight 60 ∷ Pause None ∷ []) (background (codes "bg") 0))
    ∷ (b, Start web v2)
    ∷ []

both_open_replies : (machine no_desk both_open).replies ≡
    ok (codes "{\"code\":\"ok\",\"revision\":1,\"template\":\"t\"}")
    ∷ ok (codes "{\"code\":\"ok\",\"revision\":1,\"template\":\"bg\"}")
    ∷ ok (codes "{\"code\":\"ok\",\"service\":\"web\",\"status\":\"Healthy\",\"step\":4,\"weight\":100}")
    ∷ ok (codes "{\"code\":\"ok\",\"service\":\"web\",\"status\":\"Progressing\",\"step\":1,\"weight\":10}")
    ∷ []
unfolding digits
both_open_replies = replies_from_nothing both_open _ refl

-- An inconclusive step run leaves the background run open: a report on that one still counts.

abbrev step_inconclusive : List (ℕ × Command)
step_inconclusive =
    (b + 1, report_on 2 (result m 1 b 7 refl ∷ []) refl)
    ∷ (b + 2, report_on 1 (result (codes "g") 1 (b + 2) 11 refl ∷ []) refl)
    ∷ []

background_stays_open : replies_after both_open step_inconclusive ≡
    ok (codes "{\"code\":\"ok\",\"phases\":[\"Inconclusive\"],\"run\":2,\"service\":\"web\",\"status\":\"Paused\",\"step\":1,\"verdict\":\"Inconclusive\",\"weight\":10}")
    ∷ ok (codes "{\"code\":\"ok\",\"phases\":[\"Successful\"],\"run\":1,\"service\":\"web\",\"status\":\"Paused\",\"step\":1,\"verdict\":\"Running\",\"weight\":10}")
    ∷ []
unfolding digits
background_stays_open = replies_then both_open step_inconclusive _ refl

background_is_counted : tallies_of (service_after (both_open ++ step_inconclusive) web) ≡ (record { counted = 1; failed = 0; inconclusive = 0; errors = 0; consecutive = 0; passes = 1; last = Some (b + 2) } ∷ []) ∷ []
background_is_counted = service_then tallies_of (both_open ++ step_inconclusive) web _ refl

step_hold_alone : holds_of (service_after (both_open ++ step_inconclusive) web) ≡ (true, false) ∷ []
step_hold_alone = service_then holds_of (both_open ++ step_inconclusive) web _ refl

-- Then the background run is inconclusive, too: the release has both holds.

abbrev both_held : List (ℕ × Command)
both_held =
    (b + 62, report_on 1 (result (codes "g") 2 (b + 62) 7 refl ∷ []) refl)
    ∷ []

background_inconclusive_too : replies_after (both_open ++ step_inconclusive) both_held ≡
    ok (codes "{\"code\":\"ok\",\"phases\":[\"Inconclusive\"],\"run\":1,\"service\":\"web\",\"status\":\"Paused\",\"step\":1,\"verdict\":\"Inconclusive\",\"weight\":10}")
    ∷ []
unfolding digits
background_inconclusive_too = replies_then (both_open ++ step_inconclusive) both_held _ refl

both_holds : holds_of (service_after (both_open ++ step_inconclusive ++ both_held) web) ≡ (true, true) ∷ []
both_holds = service_then holds_of (both_open ++ step_inconclusive ++ both_held) web _ refl

-- One promotion clears both, and the next step is entered.

abbrev both_promoted : List (ℕ × Command)
both_promoted =
    (b + 63, Promote web)
    ∷ []

promoted_from_both : replies_after (both_open ++ step_inconclusive ++ both_held) both_promoted ≡
    ok (codes "{\"code\":\"ok\",\"service\":\"web\",\"status\":\"Paused\",\"step\":3,\"weight\":60}")
    ∷ []
unfolding digits
promoted_from_both = replies_then (both_open ++ step_inconclusive ++ both_held) both_promoted _ refl

no_hold_is_left : holds_of (service_after (both_open ++ step_inconclusive ++ both_held ++ both_promoted) web) ≡ (false, false) ∷ []
no_hold_is_left = service_then holds_of (both_open ++ step_inconclusive ++ both_held ++ both_promoted) web _ refl

both_holds_history : lines_of (service_after (both_open ++ step_inconclusive ++ both_held ++ both_promoted) web) ≡
    codes "2026-01-01T00:00:00Z created v1"
    ∷ codes "2026-01-01T00:00:00Z start v2"
    ∷ codes "2026-01-01T00:00:00Z background run 1"
    ∷ codes "2026-01-01T00:00:00Z step 0 setWeight 10"
    ∷ codes "2026-01-01T00:00:00Z step 1 analysis run 2"
    ∷ codes "2026-01-01T00:00:01Z run 2 Inconclusive"
    ∷ codes "2026-01-01T00:00:01Z hold step 1"
    ∷ codes "2026-01-01T00:01:02Z run 1 Inconclusive"
    ∷ codes "2026-01-01T00:01:02Z hold background"
    ∷ codes "2026-01-01T00:01:03Z promote"
    ∷ codes "2026-01-01T00:01:03Z step 2 setWeight 60"
    ∷ codes "2026-01-01T00:01:03Z step 3 pause"
    ∷ []
unfolding digits moment_text
both_holds_history = service_then lines_of (both_open ++ step_inconclusive ++ both_held ++ both_promoted) web _ refl

-- A step run that fails ends the background run.

abbrev step_fails : List (ℕ × Command)
step_fails =
    (b + 1, report_on 2 (result m 1 b 3 refl ∷ []) refl)
    ∷ (b + 1, report_on 1 (result (codes "g") 1 (b + 1) 11 refl ∷ []) refl)
    ∷ []

step_fails_replies : replies_after both_open step_fails ≡
    ok (codes "{\"code\":\"ok\",\"phases\":[\"Failed\"],\"run\":2,\"service\":\"web\",\"status\":\"Degraded\",\"step\":1,\"verdict\":\"Failed\",\"weight\":0}")
    ∷ no (codes "{\"code\":\"run-closed\"}")
    ∷ []
unfolding digits
step_fails_replies = replies_then both_open step_fails _ refl

step_fails_history : lines_of (service_after (both_open ++ step_fails) web) ≡
    codes "2026-01-01T00:00:00Z created v1"
    ∷ codes "2026-01-01T00:00:00Z start v2"
    ∷ codes "2026-01-01T00:00:00Z background run 1"
    ∷ codes "2026-01-01T00:00:00Z step 0 setWeight 10"
    ∷ codes "2026-01-01T00:00:00Z step 1 analysis run 2"
    ∷ codes "2026-01-01T00:00:01Z run 2 Failed"
    ∷ codes "2026-01-01T00:00:01Z abort run 2"
    ∷ codes "2026-01-01T00:00:01Z run 1 Successful ended"
    ∷ []
unfolding digits moment_text
step_fails_history = service_then lines_of (both_open ++ step_fails) web _ refl

-- A step run with one error more than its limit aborts.

abbrev one_error : List (ℕ × Command)
one_error =
    (b + 1, report (failure m 1 b refl))
    ∷ []

error_aborts : replies_after (step_setup (record (metric m) { consecutive_error_limit = 0; within = refl } ∷ []) [] refl) one_error ≡
    ok (codes "{\"code\":\"ok\",\"phases\":[\"Error\"],\"run\":1,\"service\":\"web\",\"status\":\"Degraded\",\"step\":1,\"verdict\":\"Error\",\"weight\":0}")
    ∷ []
unfolding digits
error_aborts = replies_then (step_setup (record (metric m) { consecutive_error_limit = 0; within = refl } ∷ []) [] refl) one_error _ refl

error_aborts_history : lines_of (service_after ((step_setup (record (metric m) { consecutive_error_limit = 0; within = refl } ∷ []) [] refl) ++ one_error) web) ≡
    codes "2026-01-01T00:00:00Z created v1"
    ∷ codes "2026-01-01T00:00:00Z start v2"
    ∷ codes "2026-01-01T00:00:00Z step 0 setWeight 10"
    ∷ codes "2026-01-01T00:00:00Z step 1 analysis run 1"
    ∷ codes "2026-01-01T00:00:01Z run 1 Error"
    ∷ codes "2026-01-01T00:00:01Z abort run 1"
    ∷ []
unfolding digits moment_text
error_aborts_history = service_then lines_of ((step_setup (record (metric m) { consecutive_error_limit = 0; within = refl } ∷ []) [] refl) ++ one_error) web _ refl

-- A successful background run changes nothing, and isn't started again in the attempt; a retry starts the next.

abbrev measured_once : List (ℕ × Command)
measured_once =
    (b, template (codes "bg") (above_ten (codes "g") ∷ []) [] refl)
    ∷ (b, service web (Pause None ∷ Pause None ∷ []) (background (codes "bg") 0))
    ∷ (b, Start web v2)
    ∷ []

abbrev background_succeeds : List (ℕ × Command)
background_succeeds =
    (b + 1, report (result (codes "g") 1 (b + 1) 11 refl))
    ∷ (b + 2, Promote web)
    ∷ (b + 2, report_on 2 (result (codes "g") 1 (b + 2) 11 refl ∷ []) refl)
    ∷ (b + 3, Abort web)
    ∷ (b + 4, Retry web)
    ∷ []

background_succeeds_replies : replies_after measured_once background_succeeds ≡
    ok (codes "{\"code\":\"ok\",\"phases\":[\"Successful\"],\"run\":1,\"service\":\"web\",\"status\":\"Paused\",\"step\":0,\"verdict\":\"Successful\",\"weight\":0}")
    ∷ ok (codes "{\"code\":\"ok\",\"service\":\"web\",\"status\":\"Paused\",\"step\":1,\"weight\":0}")
    ∷ no (codes "{\"code\":\"unknown-run\"}")
    ∷ ok (codes "{\"code\":\"ok\",\"service\":\"web\",\"status\":\"Degraded\",\"step\":1,\"weight\":0}")
    ∷ ok (codes "{\"code\":\"ok\",\"service\":\"web\",\"status\":\"Paused\",\"step\":0,\"weight\":0}")
    ∷ []
unfolding digits
background_succeeds_replies = replies_then measured_once background_succeeds _ refl

background_succeeds_history : lines_of (service_after (measured_once ++ background_succeeds) web) ≡
    codes "2026-01-01T00:00:00Z created v1"
    ∷ codes "2026-01-01T00:00:00Z start v2"
    ∷ codes "2026-01-01T00:00:00Z background run 1"
    ∷ codes "2026-01-01T00:00:00Z step 0 pause"
    ∷ codes "2026-01-01T00:00:01Z run 1 Successful"
    ∷ codes "2026-01-01T00:00:02Z promote"
    ∷ codes "2026-01-01T00:00:02Z step 1 pause"
    ∷ codes "2026-01-01T00:00:03Z abort"
    ∷ codes "2026-01-01T00:00:04Z retry v2"
    ∷ codes "2026-01-01T00:00:04Z background run 2"
    ∷ codes "2026-01-01T00:00:04Z step 0 pause"
    ∷ []
unfolding digits moment_text
background_succeeds_history = service_then lines_of (measured_once ++ background_succeeds) web _ refl

-- A pause of 0 seconds ends at its entry.

abbrev short_pauses : List (ℕ × Command)
short_pauses =
    (b, add web (Pause (Some 0) ∷ SetWeight 20 ∷ Pause (Some 0) ∷ Pause None ∷ Pause (Some 0) ∷ []))
    ∷ (b + 5, Start web v2)
    ∷ (b + 6, Promote web)
    ∷ []

short_pauses_replies : (machine no_desk short_pauses).replies ≡
    ok (codes "{\"code\":\"ok\",\"service\":\"web\",\"status\":\"Healthy\",\"step\":5,\"weight\":100}")
    ∷ ok (codes "{\"code\":\"ok\",\"service\":\"web\",\"status\":\"Paused\",\"step\":3,\"weight\":20}")
    ∷ ok (codes "{\"code\":\"ok\",\"service\":\"web\",\"status\":\"Healthy\",\"step\":5,\"weight\":100}")
    ∷ []
unfolding digits
short_pauses_replies = replies_from_nothing short_pauses _ refl

short_pauses_history : lines_of (service_after short_pauses web) ≡
    codes "2026-01-01T00:00:00Z created v1"
    ∷ codes "2026-01-01T00:00:05Z start v2"
    ∷ codes "2026-01-01T00:00:05Z step 0 pause 0s"
    ∷ codes "2026-01-01T00:00:05Z step 1 setWeight 20"
    ∷ codes "2026-01-01T00:00:05Z step 2 pause 0s"
    ∷ codes "2026-01-01T00:00:05Z step 3 pause"
    ∷ codes "2026-01-01T00:00:06Z promote"
    ∷ codes "2026-01-01T00:00:06Z step 4 pause 0s"
    ∷ codes "2026-01-01T00:00:06Z done v2"
    ∷ []
unfolding digits moment_text
short_pauses_history = service_then lines_of short_pauses web _ refl

-- A promotion is judged on the step that the release has passed to by then.

abbrev long_pause : List (ℕ × Command)
long_pause =
    (b, add web (Pause (Some 300) ∷ SetWeight 20 ∷ Pause None ∷ SetWeight 50 ∷ Pause None ∷ []))
    ∷ (b, Start web v2)
    ∷ []

abbrev before_its_end : List (ℕ × Command)
before_its_end =
    (b + 299, Promote web)
    ∷ []

promoted_before_its_end : replies_after long_pause before_its_end ≡
    ok (codes "{\"code\":\"ok\",\"service\":\"web\",\"status\":\"Paused\",\"step\":2,\"weight\":20}")
    ∷ []
unfolding digits
promoted_before_its_end = replies_then long_pause before_its_end _ refl

abbrev at_its_end : List (ℕ × Command)
at_its_end =
    (b + 300, Promote web)
    ∷ []

promoted_at_its_end : replies_after long_pause at_its_end ≡
    ok (codes "{\"code\":\"ok\",\"service\":\"web\",\"status\":\"Paused\",\"step\":4,\"weight\":50}")
    ∷ []
unfolding digits
promoted_at_its_end = replies_then long_pause at_its_end _ refl

abbrev after_its_end : List (ℕ × Command)
after_its_end =
    (b + 301, Promote web)
    ∷ []

promoted_after_its_end : replies_after long_pause after_its_end ≡
    ok (codes "{\"code\":\"ok\",\"service\":\"web\",\"status\":\"Paused\",\"step\":4,\"weight\":50}")
    ∷ []
unfolding digits
promoted_after_its_end = replies_then long_pause after_its_end _ refl

promoted_after_its_end_history : lines_of (service_after (long_pause ++ after_its_end) web) ≡
    codes "2026-01-01T00:00:00Z created v1"
    ∷ codes "2026-01-01T00:00:00Z start v2"
    ∷ codes "2026-01-01T00:00:00Z step 0 pause 300s"
    ∷ codes "2026-01-01T00:05:00Z step 1 setWeight 20"
    ∷ codes "2026-01-01T00:05:00Z step 2 pause"
    ∷ codes "2026-01-01T00:05:01Z promote"
    ∷ codes "2026-01-01T00:05:01Z step 3 setWeight 50"
    ∷ codes "2026-01-01T00:05:01Z step 4 pause"
    ∷ []
unfolding digits moment_text
promoted_after_its_end_history = service_then lines_of (long_pause ++ after_its_end) web _ refl

-- So it is refused if the pause has led to an analysis, which leaves the passing undone, or to the end.

abbrev to_an_analysis : List (ℕ × Command)
to_an_analysis =
    (b, template (codes "t") (above_ten m ∷ []) [] refl)
    ∷ (b, add web (Pause (Some 300) ∷ Analysis (codes "t" ∷ []) ∷ []))
    ∷ (b, Start web v2)
    ∷ (b + 300, Promote web)
    ∷ (b + 299, Tick web)
    ∷ (b + 299, Promote web)
    ∷ []

to_an_analysis_replies : (machine no_desk to_an_analysis).replies ≡
    ok (codes "{\"code\":\"ok\",\"revision\":1,\"template\":\"t\"}")
    ∷ ok (codes "{\"code\":\"ok\",\"service\":\"web\",\"status\":\"Healthy\",\"step\":2,\"weight\":100}")
    ∷ ok (codes "{\"code\":\"ok\",\"service\":\"web\",\"status\":\"Paused\",\"step\":0,\"weight\":0}")
    ∷ no (codes "{\"code\":\"not-paused\"}")
    ∷ ok (codes "{\"code\":\"ok\",\"service\":\"web\",\"status\":\"Paused\",\"step\":0,\"weight\":0}")
    ∷ ok (codes "{\"code\":\"ok\",\"service\":\"web\",\"status\":\"Progressing\",\"step\":1,\"weight\":0}")
    ∷ []
unfolding digits
to_an_analysis_replies = replies_from_nothing to_an_analysis _ refl

abbrev to_the_end : List (ℕ × Command)
to_the_end =
    (b, add web (Pause (Some 300) ∷ []))
    ∷ (b, Start web v2)
    ∷ (b + 300, Promote web)
    ∷ (b + 299, Promote web)
    ∷ []

to_the_end_replies : (machine no_desk to_the_end).replies ≡
    ok (codes "{\"code\":\"ok\",\"service\":\"web\",\"status\":\"Healthy\",\"step\":1,\"weight\":100}")
    ∷ ok (codes "{\"code\":\"ok\",\"service\":\"web\",\"status\":\"Paused\",\"step\":0,\"weight\":0}")
    ∷ no (codes "{\"code\":\"not-in-progress\"}")
    ∷ ok (codes "{\"code\":\"ok\",\"service\":\"web\",\"status\":\"Healthy\",\"step\":1,\"weight\":100}")
    ∷ []
unfolding digits
to_the_end_replies = replies_from_nothing to_the_end _ refl

-- The templates of a background analysis: more than 8 of them; and as an attempt begins, two
-- metrics of one name, and more than 32 metrics.

abbrev wide_backgrounds : List (ℕ × Command)
wide_backgrounds =
    (b, template (codes "t1") (metric (codes "m1") ∷ []) [] refl)
    ∷ (b, template (codes "t2") (metric (codes "m2") ∷ []) [] refl)
    ∷ (b, template (codes "t3") (metric (codes "m3") ∷ []) [] refl)
    ∷ (b, template (codes "t4") (metric (codes "m4") ∷ []) [] refl)
    ∷ (b, template (codes "t5") (metric (codes "m5") ∷ []) [] refl)
    ∷ (b, template (codes "t6") (metric (codes "m6") ∷ []) [] refl)
    ∷ (b, template (codes "t7") (metric (codes "m7") ∷ []) [] refl)
    ∷ (b, template (codes "t8") (metric (codes "m8") ∷ []) [] refl)
    ∷ (b, template (codes "t9") (metric (codes "m9") ∷ []) [] refl)
    ∷ (b, template (codes "again") (metric (codes "m1") ∷ []) [] refl)
    ∷ (b, template (codes "all") (metric (codes "a1") ∷ metric (codes "a2") ∷ metric (codes "a3") ∷ metric (codes "a4") ∷ metric (codes "a5") ∷ metric (codes "a6") ∷ metric (codes "a7") ∷ metric (codes "a8") ∷ metric (codes "a9") ∷ metric (codes "a10") ∷ metric (codes "a11") ∷ metric (codes "a12") ∷ metric (codes "a13") ∷ metric (codes "a14") ∷ metric (codes "a15") ∷ metric (codes "a16") ∷ metric (codes "a17") ∷ metric (codes "a18") ∷ metric (codes "a19") ∷ metric (codes "a20") ∷ metric (codes "a21") ∷ metric (codes "a22") ∷ metric (codes "a23") ∷ metric (codes "a24") ∷ metric (codes "a25") ∷ metric (codes "a26") ∷ metric (codes "a27") ∷ metric (codes "a28") ∷ metric (codes "a29") ∷ metric (codes "a30") ∷ metric (codes "a31") ∷ metric (codes "a32") ∷ []) [] refl)
    ∷ (b, service (codes "dup") [] (Some (record { templates = codes "t1" ∷ codes "again" ∷ []; starting_step = 0 })))
    ∷ (b, Start (codes "dup") v2)
    ∷ (b, service web [] (Some (record { templates = codes "t1" ∷ codes "again" ∷ codes "nope" ∷ []; starting_step = 0 })))
    ∷ (b, service web [] (Some (record { templates = codes "t1" ∷ codes "t2" ∷ codes "t3" ∷ codes "t4" ∷ codes "t5" ∷ codes "t6" ∷ codes "t7" ∷ codes "t8" ∷ codes "t9" ∷ []; starting_step = 0 })))
    ∷ (b, service (codes "big") [] (Some (record { templates = codes "all" ∷ codes "t1" ∷ []; starting_step = 0 })))
    ∷ (b, Start (codes "big") v2)
    ∷ (b, service web [] (Some (record { templates = codes "t1" ∷ codes "t2" ∷ codes "t3" ∷ codes "t4" ∷ codes "t5" ∷ codes "t6" ∷ codes "t7" ∷ codes "t8" ∷ []; starting_step = 0 })))
    ∷ (b, service (codes "api") [] (Some (record { templates = codes "all" ∷ []; starting_step = 0 })))
    ∷ []

wide_backgrounds_replies : (machine no_desk wide_backgrounds).replies ≡
    ok (codes "{\"code\":\"ok\",\"revision\":1,\"template\":\"t1\"}")
    ∷ ok (codes "{\"code\":\"ok\",\"revision\":1,\"template\":\"t2\"}")
    ∷ ok (codes "{\"code\":\"ok\",\"revision\":1,\"template\":\"t3\"}")
    ∷ ok (codes "{\"code\":\"ok\",\"revision\":1,\"template\":\"t4\"}")
    ∷ ok (codes "{\"code\":\"ok\",\"revision\":1,\"template\":\"t5\"}")
    ∷ ok (codes "{\"code\":\"ok\",\"revision\":1,\"template\":\"t6\"}")
    ∷ ok (codes "{\"code\":\"ok\",\"revision\":1,\"template\":\"t7\"}")
    ∷ ok (codes "{\"code\":\"ok\",\"revision\":1,\"template\":\"t8\"}")
    ∷ ok (codes "{\"code\":\"ok\",\"revision\":1,\"template\":\"t9\"}")
    ∷ ok (codes "{\"code\":\"ok\",\"revision\":1,\"template\":\"again\"}")
    ∷ ok (codes "{\"code\":\"ok\",\"revision\":1,\"template\":\"all\"}")
    ∷ ok (codes "{\"code\":\"ok\",\"service\":\"dup\",\"status\":\"Healthy\",\"step\":0,\"weight\":100}")
    ∷ no (codes "{\"code\":\"duplicate-metric\"}")
    ∷ no (codes "{\"code\":\"unknown-template\"}")
    ∷ no (codes "{\"code\":\"bad-strategy\"}")
    ∷ ok (codes "{\"code\":\"ok\",\"service\":\"big\",\"status\":\"Healthy\",\"step\":0,\"weight\":100}")
    ∷ no (codes "{\"code\":\"bad-strategy\"}")
    ∷ ok (codes "{\"code\":\"ok\",\"service\":\"web\",\"status\":\"Healthy\",\"step\":0,\"weight\":100}")
    ∷ ok (codes "{\"code\":\"ok\",\"service\":\"api\",\"status\":\"Healthy\",\"step\":0,\"weight\":100}")
    ∷ []
unfolding digits
wide_backgrounds_replies = replies_from_nothing wide_backgrounds _ refl

-- The stable version is started after an abort, which leads to the end: it is refused, too, if fewer than 66 numbers of runs are left.

abbrev spec_of_web : ServiceSpec
spec_of_web = record { name = web; version = v1; steps = two_pauses; background = None }

-- it was aborted at the first pause, after so many runs
abbrev aborted_after : ℕ → ServiceParts
aborted_after n =
    record {
      service = record (new_service_state spec_of_web b) { version = v2; state = Aborted; step = 1; entered = b + 1; last = b + 2 };
      runs = record { count = n; open_runs = [] };
    }

abbrev back_to_stable : ℕ → Reply
back_to_stable n = (model_decision no_templates (Some (stored_evolution (aborted_after n))) (b + 3) (Start web v1)).reply

stable_is_spent : back_to_stable 999935 ≡ no (codes "{\"code\":\"runs-spent\"}")
unfolding digits
stable_is_spent = refl

stable_is_entered : back_to_stable 999934 ≡ ok (codes "{\"code\":\"ok\",\"service\":\"web\",\"status\":\"Healthy\",\"step\":4,\"weight\":100}")
unfolding digits
stable_is_entered = refl
