-- Worked rows on releases without analyses: the replies and lines are these bytes.
use Rattle.std.proofs.Common.{◌≡◌, ℕ, ◌+◌, List, [], ◌∷◌, ◌++◌, refl}
use Rattle.std.specs.Prelude.{codes, Some, None}
use Rattle.std.specs.Fmt.{digits}
use Rattle.canary_base.specs.Moments.{moment_text}
use Rattle.canary_plan.specs.declared.step.Step.TheVariants.{SetWeight, Pause}
use Rattle.canary_plan.specs.declared.command.Command.{Command}
use Rattle.canary_plan.specs.declared.command.Command.TheVariants.{Start, Promote, PromoteFull, Abort, Retry, Tick}
use Rattle.canary_release.specs.Desks.{machine, no_desk}
use Rattle.canary_release.proofs.Stories.{replies_after, service_after, lines_of, b, ok, no, web, v1, v2, v3, add, two_pauses}
use Rattle.canary_release.proofs.Worlds.{replies_from_nothing, replies_then, service_then}

-- A release from its first pause to its second.

abbrev to_second_pause_requests : List (ℕ × Command)
to_second_pause_requests =
    (b, add web two_pauses)
    ∷ (b + 1, Start web v2)
    ∷ (b + 2, Promote web)
    ∷ []

to_second_pause : (machine no_desk to_second_pause_requests).replies ≡
    ok (codes "{\"code\":\"ok\",\"service\":\"web\",\"status\":\"Healthy\",\"step\":4,\"weight\":100}")
    ∷ ok (codes "{\"code\":\"ok\",\"service\":\"web\",\"status\":\"Paused\",\"step\":1,\"weight\":20}")
    ∷ ok (codes "{\"code\":\"ok\",\"service\":\"web\",\"status\":\"Paused\",\"step\":3,\"weight\":50}")
    ∷ []
unfolding digits
to_second_pause = replies_from_nothing to_second_pause_requests _ refl

to_second_pause_history : lines_of (service_after to_second_pause_requests web) ≡
    codes "2026-01-01T00:00:00Z created v1"
    ∷ codes "2026-01-01T00:00:01Z start v2"
    ∷ codes "2026-01-01T00:00:01Z step 0 setWeight 20"
    ∷ codes "2026-01-01T00:00:01Z step 1 pause"
    ∷ codes "2026-01-01T00:00:02Z promote"
    ∷ codes "2026-01-01T00:00:02Z step 2 setWeight 50"
    ∷ codes "2026-01-01T00:00:02Z step 3 pause"
    ∷ []
unfolding digits moment_text
to_second_pause_history = service_then lines_of to_second_pause_requests web _ refl

-- To its end, and a promotion too many.

abbrev to_its_end_requests : List (ℕ × Command)
to_its_end_requests =
    (b + 4, Tick web)
    ∷ (b + 5, Promote web)
    ∷ (b + 6, Promote web)
    ∷ []

to_its_end : replies_after to_second_pause_requests to_its_end_requests ≡
    ok (codes "{\"code\":\"ok\",\"service\":\"web\",\"status\":\"Paused\",\"step\":3,\"weight\":50}")
    ∷ ok (codes "{\"code\":\"ok\",\"service\":\"web\",\"status\":\"Healthy\",\"step\":4,\"weight\":100}")
    ∷ no (codes "{\"code\":\"not-in-progress\"}")
    ∷ []
unfolding digits
to_its_end = replies_then to_second_pause_requests to_its_end_requests _ refl

-- A pause of 5 minutes, 299 seconds later: it goes on.

abbrev pause_until_299_requests : List (ℕ × Command)
pause_until_299_requests =
    (b, add web (Pause (Some 300) ∷ Pause None ∷ []))
    ∷ (b, Start web v2)
    ∷ (b + 299, Tick web)
    ∷ []

pause_until_299 : (machine no_desk pause_until_299_requests).replies ≡
    ok (codes "{\"code\":\"ok\",\"service\":\"web\",\"status\":\"Healthy\",\"step\":2,\"weight\":100}")
    ∷ ok (codes "{\"code\":\"ok\",\"service\":\"web\",\"status\":\"Paused\",\"step\":0,\"weight\":0}")
    ∷ ok (codes "{\"code\":\"ok\",\"service\":\"web\",\"status\":\"Paused\",\"step\":0,\"weight\":0}")
    ∷ []
unfolding digits
pause_until_299 = replies_from_nothing pause_until_299_requests _ refl

pause_until_299_history : lines_of (service_after pause_until_299_requests web) ≡
    codes "2026-01-01T00:00:00Z created v1"
    ∷ codes "2026-01-01T00:00:00Z start v2"
    ∷ codes "2026-01-01T00:00:00Z step 0 pause 300s"
    ∷ []
unfolding digits moment_text
pause_until_299_history = service_then lines_of pause_until_299_requests web _ refl

-- A pause of 5 minutes, 300 seconds later: the line says when it ended.

abbrev pause_until_300_requests : List (ℕ × Command)
pause_until_300_requests =
    (b, add web (Pause (Some 300) ∷ Pause None ∷ []))
    ∷ (b, Start web v2)
    ∷ (b + 300, Tick web)
    ∷ []

pause_until_300 : (machine no_desk pause_until_300_requests).replies ≡
    ok (codes "{\"code\":\"ok\",\"service\":\"web\",\"status\":\"Healthy\",\"step\":2,\"weight\":100}")
    ∷ ok (codes "{\"code\":\"ok\",\"service\":\"web\",\"status\":\"Paused\",\"step\":0,\"weight\":0}")
    ∷ ok (codes "{\"code\":\"ok\",\"service\":\"web\",\"status\":\"Paused\",\"step\":1,\"weight\":0}")
    ∷ []
unfolding digits
pause_until_300 = replies_from_nothing pause_until_300_requests _ refl

pause_until_300_history : lines_of (service_after pause_until_300_requests web) ≡
    codes "2026-01-01T00:00:00Z created v1"
    ∷ codes "2026-01-01T00:00:00Z start v2"
    ∷ codes "2026-01-01T00:00:00Z step 0 pause 300s"
    ∷ codes "2026-01-01T00:05:00Z step 1 pause"
    ∷ []
unfolding digits moment_text
pause_until_300_history = service_then lines_of pause_until_300_requests web _ refl

-- A pause of 5 minutes, 301 seconds later: the line says when it ended.

abbrev pause_until_301_requests : List (ℕ × Command)
pause_until_301_requests =
    (b, add web (Pause (Some 300) ∷ Pause None ∷ []))
    ∷ (b, Start web v2)
    ∷ (b + 301, Tick web)
    ∷ []

pause_until_301 : (machine no_desk pause_until_301_requests).replies ≡
    ok (codes "{\"code\":\"ok\",\"service\":\"web\",\"status\":\"Healthy\",\"step\":2,\"weight\":100}")
    ∷ ok (codes "{\"code\":\"ok\",\"service\":\"web\",\"status\":\"Paused\",\"step\":0,\"weight\":0}")
    ∷ ok (codes "{\"code\":\"ok\",\"service\":\"web\",\"status\":\"Paused\",\"step\":1,\"weight\":0}")
    ∷ []
unfolding digits
pause_until_301 = replies_from_nothing pause_until_301_requests _ refl

pause_until_301_history : lines_of (service_after pause_until_301_requests web) ≡
    codes "2026-01-01T00:00:00Z created v1"
    ∷ codes "2026-01-01T00:00:00Z start v2"
    ∷ codes "2026-01-01T00:00:00Z step 0 pause 300s"
    ∷ codes "2026-01-01T00:05:00Z step 1 pause"
    ∷ []
unfolding digits moment_text
pause_until_301_history = service_then lines_of pause_until_301_requests web _ refl

-- A release that has begun, as the rows below find it.

abbrev release_begun : List (ℕ × Command)
release_begun =
    (b, add web two_pauses)
    ∷ (b + 1, Start web v2)
    ∷ []

-- Starts, aborts and retries.

abbrev aborts_and_retries_requests : List (ℕ × Command)
aborts_and_retries_requests =
    (b + 2, Start web v3)
    ∷ (b + 3, Abort web)
    ∷ (b + 4, Abort web)
    ∷ (b + 5, Retry web)
    ∷ (b + 6, Retry web)
    ∷ (b + 7, Abort web)
    ∷ (b + 8, Start web v1)
    ∷ (b + 9, Start web v1)
    ∷ []

aborts_and_retries : replies_after release_begun aborts_and_retries_requests ≡
    no (codes "{\"code\":\"in-progress\"}")
    ∷ ok (codes "{\"code\":\"ok\",\"service\":\"web\",\"status\":\"Degraded\",\"step\":1,\"weight\":0}")
    ∷ no (codes "{\"code\":\"not-in-progress\"}")
    ∷ ok (codes "{\"code\":\"ok\",\"service\":\"web\",\"status\":\"Paused\",\"step\":1,\"weight\":20}")
    ∷ no (codes "{\"code\":\"not-aborted\"}")
    ∷ ok (codes "{\"code\":\"ok\",\"service\":\"web\",\"status\":\"Degraded\",\"step\":1,\"weight\":0}")
    ∷ ok (codes "{\"code\":\"ok\",\"service\":\"web\",\"status\":\"Healthy\",\"step\":4,\"weight\":100}")
    ∷ no (codes "{\"code\":\"already-stable\"}")
    ∷ []
unfolding digits
aborts_and_retries = replies_then release_begun aborts_and_retries_requests _ refl

-- A promotion to the end.

abbrev promoted_full_requests : List (ℕ × Command)
promoted_full_requests =
    (b + 2, PromoteFull web)
    ∷ []

promoted_full : replies_after release_begun promoted_full_requests ≡
    ok (codes "{\"code\":\"ok\",\"service\":\"web\",\"status\":\"Healthy\",\"step\":4,\"weight\":100}")
    ∷ []
unfolding digits
promoted_full = replies_then release_begun promoted_full_requests _ refl

promoted_full_history : lines_of (service_after (release_begun ++ promoted_full_requests) web) ≡
    codes "2026-01-01T00:00:00Z created v1"
    ∷ codes "2026-01-01T00:00:01Z start v2"
    ∷ codes "2026-01-01T00:00:01Z step 0 setWeight 20"
    ∷ codes "2026-01-01T00:00:01Z step 1 pause"
    ∷ codes "2026-01-01T00:00:02Z promote full"
    ∷ codes "2026-01-01T00:00:02Z done v2"
    ∷ []
unfolding digits moment_text
promoted_full_history = service_then lines_of (release_begun ++ promoted_full_requests) web _ refl

-- A start of the stable version after an abort goes to the end at once.

abbrev back_to_stable_requests : List (ℕ × Command)
back_to_stable_requests =
    (b + 2, Abort web)
    ∷ (b + 3, Start web v1)
    ∷ []

back_to_stable : lines_of (service_after (release_begun ++ back_to_stable_requests) web) ≡
    codes "2026-01-01T00:00:00Z created v1"
    ∷ codes "2026-01-01T00:00:01Z start v2"
    ∷ codes "2026-01-01T00:00:01Z step 0 setWeight 20"
    ∷ codes "2026-01-01T00:00:01Z step 1 pause"
    ∷ codes "2026-01-01T00:00:02Z abort"
    ∷ codes "2026-01-01T00:00:03Z start v1"
    ∷ codes "2026-01-01T00:00:03Z done v1"
    ∷ []
unfolding digits moment_text
back_to_stable = service_then lines_of (release_begun ++ back_to_stable_requests) web _ refl

-- A retry begins at the first step, with the same version.

abbrev retried_requests : List (ℕ × Command)
retried_requests =
    (b + 2, Abort web)
    ∷ (b + 3, Retry web)
    ∷ []

retried : lines_of (service_after (release_begun ++ retried_requests) web) ≡
    codes "2026-01-01T00:00:00Z created v1"
    ∷ codes "2026-01-01T00:00:01Z start v2"
    ∷ codes "2026-01-01T00:00:01Z step 0 setWeight 20"
    ∷ codes "2026-01-01T00:00:01Z step 1 pause"
    ∷ codes "2026-01-01T00:00:02Z abort"
    ∷ codes "2026-01-01T00:00:03Z retry v2"
    ∷ codes "2026-01-01T00:00:03Z step 0 setWeight 20"
    ∷ codes "2026-01-01T00:00:03Z step 1 pause"
    ∷ []
unfolding digits moment_text
retried = service_then lines_of (release_begun ++ retried_requests) web _ refl

-- A moment that falls is judged at the last one.

abbrev falling_requests : List (ℕ × Command)
falling_requests =
    (b + 100, Tick web)
    ∷ (b + 50, Promote web)
    ∷ []

falling : replies_after release_begun falling_requests ≡
    ok (codes "{\"code\":\"ok\",\"service\":\"web\",\"status\":\"Paused\",\"step\":1,\"weight\":20}")
    ∷ ok (codes "{\"code\":\"ok\",\"service\":\"web\",\"status\":\"Paused\",\"step\":3,\"weight\":50}")
    ∷ []
unfolding digits
falling = replies_then release_begun falling_requests _ refl

-- A command that is refused passes no time.

abbrev refused_tick_requests : List (ℕ × Command)
refused_tick_requests =
    (b, add web (Pause (Some 300) ∷ Pause None ∷ []))
    ∷ (b, Start web v2)
    ∷ (b + 400, Start web v3)
    ∷ (b + 299, Tick web)
    ∷ []

refused_tick : (machine no_desk refused_tick_requests).replies ≡
    ok (codes "{\"code\":\"ok\",\"service\":\"web\",\"status\":\"Healthy\",\"step\":2,\"weight\":100}")
    ∷ ok (codes "{\"code\":\"ok\",\"service\":\"web\",\"status\":\"Paused\",\"step\":0,\"weight\":0}")
    ∷ no (codes "{\"code\":\"in-progress\"}")
    ∷ ok (codes "{\"code\":\"ok\",\"service\":\"web\",\"status\":\"Paused\",\"step\":0,\"weight\":0}")
    ∷ []
unfolding digits
refused_tick = replies_from_nothing refused_tick_requests _ refl

-- A service without steps.

abbrev no_steps_requests : List (ℕ × Command)
no_steps_requests =
    (b, add web [])
    ∷ (b + 1, Start web v2)
    ∷ []

no_steps : (machine no_desk no_steps_requests).replies ≡
    ok (codes "{\"code\":\"ok\",\"service\":\"web\",\"status\":\"Healthy\",\"step\":0,\"weight\":100}")
    ∷ ok (codes "{\"code\":\"ok\",\"service\":\"web\",\"status\":\"Healthy\",\"step\":0,\"weight\":100}")
    ∷ []
unfolding digits
no_steps = replies_from_nothing no_steps_requests _ refl

-- Timed pauses alone, to the end by time.

abbrev to_the_end_by_time_requests : List (ℕ × Command)
to_the_end_by_time_requests =
    (b, add (codes "api") (Pause (Some 10) ∷ SetWeight 30 ∷ Pause (Some 20) ∷ []))
    ∷ (b, Start (codes "api") v2)
    ∷ (b + 40, Tick (codes "api"))
    ∷ []

to_the_end_by_time : (machine no_desk to_the_end_by_time_requests).replies ≡
    ok (codes "{\"code\":\"ok\",\"service\":\"api\",\"status\":\"Healthy\",\"step\":3,\"weight\":100}")
    ∷ ok (codes "{\"code\":\"ok\",\"service\":\"api\",\"status\":\"Paused\",\"step\":0,\"weight\":0}")
    ∷ ok (codes "{\"code\":\"ok\",\"service\":\"api\",\"status\":\"Healthy\",\"step\":3,\"weight\":100}")
    ∷ []
unfolding digits
to_the_end_by_time = replies_from_nothing to_the_end_by_time_requests _ refl

to_the_end_by_time_history : lines_of (service_after to_the_end_by_time_requests (codes "api")) ≡
    codes "2026-01-01T00:00:00Z created v1"
    ∷ codes "2026-01-01T00:00:00Z start v2"
    ∷ codes "2026-01-01T00:00:00Z step 0 pause 10s"
    ∷ codes "2026-01-01T00:00:10Z step 1 setWeight 30"
    ∷ codes "2026-01-01T00:00:10Z step 2 pause 20s"
    ∷ codes "2026-01-01T00:00:30Z done v2"
    ∷ []
unfolding digits moment_text
to_the_end_by_time_history = service_then lines_of to_the_end_by_time_requests (codes "api") _ refl

-- More ticks change no line.

abbrev more_ticks_requests : List (ℕ × Command)
more_ticks_requests =
    (b, add (codes "api") (Pause (Some 10) ∷ SetWeight 30 ∷ Pause (Some 20) ∷ []))
    ∷ (b, Start (codes "api") v2)
    ∷ (b + 9, Tick (codes "api"))
    ∷ (b + 10, Tick (codes "api"))
    ∷ (b + 31, Tick (codes "api"))
    ∷ (b + 40, Tick (codes "api"))
    ∷ []

more_ticks : lines_of (service_after more_ticks_requests (codes "api")) ≡
    codes "2026-01-01T00:00:00Z created v1"
    ∷ codes "2026-01-01T00:00:00Z start v2"
    ∷ codes "2026-01-01T00:00:00Z step 0 pause 10s"
    ∷ codes "2026-01-01T00:00:10Z step 1 setWeight 30"
    ∷ codes "2026-01-01T00:00:10Z step 2 pause 20s"
    ∷ codes "2026-01-01T00:00:30Z done v2"
    ∷ []
unfolding digits moment_text
more_ticks = service_then lines_of more_ticks_requests (codes "api") _ refl

-- A command on one service changes no other.

abbrev two_services_requests : List (ℕ × Command)
two_services_requests =
    (b, add web two_pauses)
    ∷ (b, add (codes "api") (Pause (Some 10) ∷ SetWeight 30 ∷ Pause (Some 20) ∷ []))
    ∷ (b + 1, Start web v2)
    ∷ (b + 1, Start (codes "api") v2)
    ∷ (b + 2, Abort web)
    ∷ (b + 11, Tick (codes "api"))
    ∷ (b + 11, Tick web)
    ∷ []

two_services : (machine no_desk two_services_requests).replies ≡
    ok (codes "{\"code\":\"ok\",\"service\":\"web\",\"status\":\"Healthy\",\"step\":4,\"weight\":100}")
    ∷ ok (codes "{\"code\":\"ok\",\"service\":\"api\",\"status\":\"Healthy\",\"step\":3,\"weight\":100}")
    ∷ ok (codes "{\"code\":\"ok\",\"service\":\"web\",\"status\":\"Paused\",\"step\":1,\"weight\":20}")
    ∷ ok (codes "{\"code\":\"ok\",\"service\":\"api\",\"status\":\"Paused\",\"step\":0,\"weight\":0}")
    ∷ ok (codes "{\"code\":\"ok\",\"service\":\"web\",\"status\":\"Degraded\",\"step\":1,\"weight\":0}")
    ∷ ok (codes "{\"code\":\"ok\",\"service\":\"api\",\"status\":\"Paused\",\"step\":2,\"weight\":30}")
    ∷ ok (codes "{\"code\":\"ok\",\"service\":\"web\",\"status\":\"Degraded\",\"step\":1,\"weight\":0}")
    ∷ []
unfolding digits
two_services = replies_from_nothing two_services_requests _ refl
