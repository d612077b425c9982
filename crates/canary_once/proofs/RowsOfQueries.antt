-- Worked rows of queries, to their bytes.
use Rattle.std.proofs.Common.{◌≡◌, ℕ, ◌+◌, List, [], ◌∷◌, refl}
use Rattle.std.specs.Prelude.{codes, Option, Some, None}
use Rattle.std.specs.Fmt.{digits}
use Rattle.canary_base.specs.Moments.{moment_text}
use Rattle.canary_plan.specs.declared.step.Step.TheVariants.{SetWeight, Pause, Analysis}
use Rattle.canary_plan.specs.declared.command.Command.{Command}
use Rattle.canary_plan.specs.declared.command.Command.TheVariants.{Start, Retry}
use Rattle.canary_release.specs.declared.reply.Reply.{Reply}
use Rattle.canary_release.specs.declared.reply.ReplyStatus.TheVariants.{NotFound}
use Rattle.canary_release.specs.Desks.{ModelService}
use Rattle.canary_release.proofs.Stories.{service_after, b, ok, web, v2, m, add, service, background, metric, every, above_ten, zero_is_good, template, report, result, step_setup}
use Rattle.canary_release.proofs.Worlds.{service_then}
use Rattle.canary_once.specs.declared.event.Query.{Query}
use Rattle.canary_once.specs.declared.event.Query.TheVariants.{Service, History, Run}
use Rattle.canary_once.specs.Views.{view_service}

abbrev missing : List ℕ → Reply
missing body = record { status = NotFound; body = body }

-- what a query shows at a moment
abbrev shows : ℕ → Query → Option ModelService → Reply
shows moment query found = view_service found moment query

-- what it shows of the service web, after these commands came to an empty desk
abbrev shown_after : List (ℕ × Command) → ℕ → Query → Reply
shown_after xs moment query = shows moment query (service_after xs web)

-- A release between pauses of 10 and 20 seconds.

abbrev timed : List (ℕ × Command)
timed = (b, add web (Pause (Some 10) ∷ SetWeight 30 ∷ Pause (Some 20) ∷ [])) ∷ (b, Start web v2) ∷ []

-- at its first pause, a second before it ends
first_pause : shown_after timed (b + 9) (Service web) ≡ ok (codes "{\"code\":\"ok\",\"hold\":\"none\",\"moment\":1767225609,\"open\":[],\"runs\":0,\"service\":\"web\",\"stable\":\"v1\",\"status\":\"Paused\",\"step\":0,\"version\":\"v2\",\"weight\":0}")
unfolding digits
first_pause = service_then (shows (b + 9) (Service web)) timed web _ refl

-- ten seconds on it is at its second pause
second_pause : shown_after timed (b + 10) (Service web) ≡ ok (codes "{\"code\":\"ok\",\"hold\":\"none\",\"moment\":1767225610,\"open\":[],\"runs\":0,\"service\":\"web\",\"stable\":\"v1\",\"status\":\"Paused\",\"step\":2,\"version\":\"v2\",\"weight\":30}")
unfolding digits
second_pause = service_then (shows (b + 10) (Service web)) timed web _ refl

-- and at 40 seconds it is done, as its history says
after_pauses : shown_after timed (b + 40) (Service web) ≡ ok (codes "{\"code\":\"ok\",\"hold\":\"none\",\"moment\":1767225640,\"open\":[],\"runs\":0,\"service\":\"web\",\"stable\":\"v2\",\"status\":\"Healthy\",\"step\":3,\"version\":\"v2\",\"weight\":100}")
unfolding digits
after_pauses = service_then (shows (b + 40) (Service web)) timed web _ refl

history_after_pauses : shown_after timed (b + 40) (History web) ≡ ok (codes "{\"code\":\"ok\",\"lines\":[\"2026-01-01T00:00:00Z created v1\",\"2026-01-01T00:00:00Z start v2\",\"2026-01-01T00:00:00Z step 0 pause 10s\",\"2026-01-01T00:00:10Z step 1 setWeight 30\",\"2026-01-01T00:00:10Z step 2 pause 20s\",\"2026-01-01T00:00:30Z done v2\"],\"service\":\"web\"}")
unfolding digits moment_text
history_after_pauses = service_then (shows (b + 40) (History web)) timed web _ refl

-- a query of an earlier moment shows the service at its last one
earlier : shown_after timed 5 (Service web) ≡ ok (codes "{\"code\":\"ok\",\"hold\":\"none\",\"moment\":1767225600,\"open\":[],\"runs\":0,\"service\":\"web\",\"stable\":\"v1\",\"status\":\"Paused\",\"step\":0,\"version\":\"v2\",\"weight\":0}")
unfolding digits
earlier = service_then (shows 5 (Service web)) timed web _ refl

-- there is no run, and no other service
no_run : shown_after timed (b + 40) (Run web 1) ≡ missing (codes "{\"code\":\"unknown-run\"}")
no_run = service_then (shows (b + 40) (Run web 1)) timed web _ refl

no_service : shows (b + 40) (Service (codes "api")) (service_after timed (codes "api")) ≡ missing (codes "{\"code\":\"unknown-service\"}")
no_service = service_then (shows (b + 40) (Service (codes "api"))) timed (codes "api") _ refl

no_history : shows (b + 40) (History (codes "api")) (service_after timed (codes "api")) ≡ missing (codes "{\"code\":\"unknown-service\"}")
no_history = service_then (shows (b + 40) (History (codes "api"))) timed (codes "api") _ refl

no_run_of_none : shows (b + 40) (Run (codes "api") 1) (service_after timed (codes "api")) ≡ missing (codes "{\"code\":\"unknown-service\"}")
no_run_of_none = service_then (shows (b + 40) (Run (codes "api") 1)) timed (codes "api") _ refl

-- A run at a step, while it is open, and closed by a report.

abbrev analysed : List (ℕ × Command)
analysed = step_setup (above_ten m ∷ []) [] refl

abbrev reported : List (ℕ × Command)
reported =
    (b, template (codes "t") (above_ten m ∷ []) [] refl)
    ∷ (b, add web (SetWeight 10 ∷ Analysis (codes "t" ∷ []) ∷ SetWeight 60 ∷ Pause None ∷ []))
    ∷ (b, Start web v2)
    ∷ (b + 5, report (result m 1 (b + 4) 12 refl))
    ∷ []

with_open_run : shown_after analysed (b + 3) (Service web) ≡ ok (codes "{\"code\":\"ok\",\"hold\":\"none\",\"moment\":1767225603,\"open\":[1],\"runs\":1,\"service\":\"web\",\"stable\":\"v1\",\"status\":\"Progressing\",\"step\":1,\"version\":\"v2\",\"weight\":10}")
unfolding digits
with_open_run = service_then (shows (b + 3) (Service web)) analysed web _ refl

open_run : shown_after analysed (b + 3) (Run web 1) ≡ ok (codes "{\"closed\":null,\"code\":\"ok\",\"metrics\":[{\"consecutive\":0,\"counted\":0,\"dryRun\":false,\"due\":1767225600,\"errors\":0,\"failed\":0,\"inconclusive\":0,\"measurements\":0,\"name\":\"m\",\"passes\":0,\"phase\":\"Pending\"}],\"run\":1,\"service\":\"web\",\"started\":1767225600,\"step\":1,\"verdict\":\"Running\"}")
unfolding digits
open_run = service_then (shows (b + 3) (Run web 1)) analysed web _ refl

closed_run : shown_after reported (b + 9) (Run web 1) ≡ ok (codes "{\"closed\":1767225605,\"code\":\"ok\",\"metrics\":[{\"consecutive\":0,\"counted\":1,\"dryRun\":false,\"due\":null,\"errors\":0,\"failed\":0,\"inconclusive\":0,\"measurements\":1,\"name\":\"m\",\"passes\":1,\"phase\":\"Successful\"}],\"run\":1,\"service\":\"web\",\"started\":1767225600,\"step\":1,\"verdict\":\"Successful\"}")
unfolding digits
closed_run = service_then (shows (b + 9) (Run web 1)) reported web _ refl

no_second_run : shown_after reported (b + 9) (Run web 2) ≡ missing (codes "{\"code\":\"unknown-run\"}")
no_second_run = service_then (shows (b + 9) (Run web 2)) reported web _ refl

-- Two attempts, bound to two revisions of a template: each run shows the metrics of its own.

abbrev two_attempts : List (ℕ × Command)
two_attempts =
    (b, template (codes "t") (zero_is_good m ∷ []) [] refl)
    ∷ (b, add web (SetWeight 10 ∷ Analysis (codes "t" ∷ []) ∷ SetWeight 60 ∷ Pause None ∷ []))
    ∷ (b, Start web v2)
    ∷ (b, template (codes "t") (metric (codes "n") ∷ []) [] refl)
    ∷ (b + 5, report (result m 1 b 1 refl))
    ∷ (b + 6, Retry web)
    ∷ []

earlier_run : shown_after two_attempts (b + 9) (Run web 1) ≡ ok (codes "{\"closed\":1767225605,\"code\":\"ok\",\"metrics\":[{\"consecutive\":0,\"counted\":1,\"dryRun\":false,\"due\":null,\"errors\":0,\"failed\":1,\"inconclusive\":0,\"measurements\":1,\"name\":\"m\",\"passes\":0,\"phase\":\"Failed\"}],\"run\":1,\"service\":\"web\",\"started\":1767225600,\"step\":1,\"verdict\":\"Failed\"}")
unfolding digits
earlier_run = service_then (shows (b + 9) (Run web 1)) two_attempts web _ refl

later_run : shown_after two_attempts (b + 9) (Run web 2) ≡ ok (codes "{\"closed\":null,\"code\":\"ok\",\"metrics\":[{\"consecutive\":0,\"counted\":0,\"dryRun\":false,\"due\":1767225606,\"errors\":0,\"failed\":0,\"inconclusive\":0,\"measurements\":0,\"name\":\"n\",\"passes\":0,\"phase\":\"Pending\"}],\"run\":2,\"service\":\"web\",\"started\":1767225606,\"step\":1,\"verdict\":\"Running\"}")
unfolding digits
later_run = service_then (shows (b + 9) (Run web 2)) two_attempts web _ refl

-- A background run that is ended as time passes to the query's moment, with nothing settled in between.

abbrev watched_release : List (ℕ × Command)
watched_release =
    (b, template (codes "t") (every (metric m) 60 ∷ metric (codes "n") ∷ []) (codes "n" ∷ []) refl)
    ∷ (b, service web (Pause (Some 10) ∷ []) (background (codes "t") 0))
    ∷ (b, Start web v2)
    ∷ []

open_background : shown_after watched_release (b + 9) (Run web 1) ≡ ok (codes "{\"closed\":null,\"code\":\"ok\",\"metrics\":[{\"consecutive\":0,\"counted\":0,\"dryRun\":false,\"due\":1767225600,\"errors\":0,\"failed\":0,\"inconclusive\":0,\"measurements\":0,\"name\":\"m\",\"passes\":0,\"phase\":\"Pending\"},{\"consecutive\":0,\"counted\":0,\"dryRun\":true,\"due\":1767225600,\"errors\":0,\"failed\":0,\"inconclusive\":0,\"measurements\":0,\"name\":\"n\",\"passes\":0,\"phase\":\"Pending\"}],\"run\":1,\"service\":\"web\",\"started\":1767225600,\"step\":null,\"verdict\":\"Running\"}")
unfolding digits
open_background = service_then (shows (b + 9) (Run web 1)) watched_release web _ refl

ended_background : shown_after watched_release (b + 10) (Run web 1) ≡ ok (codes "{\"closed\":1767225610,\"code\":\"ok\",\"metrics\":[{\"consecutive\":0,\"counted\":0,\"dryRun\":false,\"due\":null,\"errors\":0,\"failed\":0,\"inconclusive\":0,\"measurements\":0,\"name\":\"m\",\"passes\":0,\"phase\":\"Successful\"},{\"consecutive\":0,\"counted\":0,\"dryRun\":true,\"due\":null,\"errors\":0,\"failed\":0,\"inconclusive\":0,\"measurements\":0,\"name\":\"n\",\"passes\":0,\"phase\":\"Successful\"}],\"run\":1,\"service\":\"web\",\"started\":1767225600,\"step\":null,\"verdict\":\"Successful\"}")
unfolding digits
ended_background = service_then (shows (b + 10) (Run web 1)) watched_release web _ refl

-- A run that is opened as time passes to the query's moment.

abbrev then_analysed : List (ℕ × Command)
then_analysed =
    (b, template (codes "t") (metric m ∷ []) [] refl)
    ∷ (b, add web (Pause (Some 10) ∷ Analysis (codes "t" ∷ []) ∷ []))
    ∷ (b, Start web v2)
    ∷ []

not_yet_open : shown_after then_analysed (b + 9) (Run web 1) ≡ missing (codes "{\"code\":\"unknown-run\"}")
not_yet_open = service_then (shows (b + 9) (Run web 1)) then_analysed web _ refl

newly_open : shown_after then_analysed (b + 12) (Run web 1) ≡ ok (codes "{\"closed\":null,\"code\":\"ok\",\"metrics\":[{\"consecutive\":0,\"counted\":0,\"dryRun\":false,\"due\":1767225610,\"errors\":0,\"failed\":0,\"inconclusive\":0,\"measurements\":0,\"name\":\"m\",\"passes\":0,\"phase\":\"Pending\"}],\"run\":1,\"service\":\"web\",\"started\":1767225610,\"step\":1,\"verdict\":\"Running\"}")
unfolding digits
newly_open = service_then (shows (b + 12) (Run web 1)) then_analysed web _ refl
