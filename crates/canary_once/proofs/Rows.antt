-- Worked rows of the register.
use Rattle.std.proofs.Common.{◌≡◌, ℕ, ◌+◌, List, [], ◌∷◌, refl}
use Rattle.std.specs.Prelude.{codes, map}
use Rattle.std.specs.Fmt.{digits}
use Rattle.canary_base.specs.Moments.{moment_text}
use Rattle.canary_plan.specs.declared.step.Step.TheVariants.{Analysis}
use Rattle.canary_plan.specs.declared.command.Command.{Command}
use Rattle.canary_plan.specs.declared.command.Command.TheVariants.{Start, Promote}
use Rattle.canary_release.specs.declared.reply.Reply.{Reply}
use Rattle.canary_release.specs.declared.reply.ReplyStatus.TheVariants.{Conflict, NotFound}
use Rattle.canary_release.proofs.Stories.{b, ok, no, web, v2, v3, m, add, two_pauses, metric, every, template}
use Rattle.canary_once.specs.declared.book.Receipt.{Receipt}
use Rattle.canary_once.specs.declared.event.Query.TheVariants.{Service, History, Run}
use Rattle.canary_once.specs.declared.event.Event.{Event}
use Rattle.canary_once.specs.declared.event.Event.TheVariants as event
use Rattle.canary_once.specs.Contents.{no_contents, receipts_of}
use Rattle.canary_once.specs.Answers.{answers_of, after}
use Rattle.canary_once.specs.Single.{request_of}
use Rattle.canary_once.proofs.Worlds.{replies_from_nothing, receipts_from_nothing}

abbrev conflict : List ℕ → Reply
conflict body = record { status = Conflict; body = body }

abbrev missing : List ℕ → Reply
missing body = record { status = NotFound; body = body }

-- a request of that caller
abbrev by : List ℕ → ℕ → ℕ → Command → Event
by caller number moment command = event.Request (request_of moment caller number command)

abbrev ops : ℕ → ℕ → Command → Event
ops number moment command = by (codes "ops") number moment command

-- A promotion that is sent twice acts once; a number ahead and another command under an old number change nothing.

abbrev doubled : List Event
doubled =
    ops 1 b (add web two_pauses)
    ∷ ops 2 (b + 1) (Start web v2)
    ∷ ops 3 (b + 2) (Promote web)
    ∷ ops 3 (b + 3) (Promote web)
    ∷ ops 5 (b + 4) (Promote web)
    ∷ ops 3 (b + 5) (Start web v3)
    ∷ ops 2 (b + 6) (Start web v2)
    ∷ ops 4 (b + 7) (Promote web)
    ∷ ops 5 (b + 8) (Promote web)
    ∷ ops 5 (b + 9) (Promote web)
    ∷ ops 7 (b + 10) (Promote web)
    ∷ []

doubled_replies : answers_of no_contents doubled ≡
    ok (codes "{\"code\":\"ok\",\"service\":\"web\",\"status\":\"Healthy\",\"step\":4,\"weight\":100}")
    ∷ ok (codes "{\"code\":\"ok\",\"service\":\"web\",\"status\":\"Paused\",\"step\":1,\"weight\":20}")
    ∷ ok (codes "{\"code\":\"ok\",\"service\":\"web\",\"status\":\"Paused\",\"step\":3,\"weight\":50}")
    ∷ ok (codes "{\"code\":\"ok\",\"service\":\"web\",\"status\":\"Paused\",\"step\":3,\"weight\":50}")
    ∷ conflict (codes "{\"code\":\"ahead\",\"expected\":4}")
    ∷ conflict (codes "{\"code\":\"reused\"}")
    ∷ ok (codes "{\"code\":\"ok\",\"service\":\"web\",\"status\":\"Paused\",\"step\":1,\"weight\":20}")
    ∷ ok (codes "{\"code\":\"ok\",\"service\":\"web\",\"status\":\"Healthy\",\"step\":4,\"weight\":100}")
    ∷ no (codes "{\"code\":\"not-in-progress\"}")
    ∷ no (codes "{\"code\":\"not-in-progress\"}")
    ∷ conflict (codes "{\"code\":\"ahead\",\"expected\":6}")
    ∷ []
unfolding digits
doubled_replies = replies_from_nothing doubled _ refl

-- five are settled, and have receipts with their replies
doubled_receipts : map (λ (k : Receipt). k.reply) (receipts_of (after no_contents doubled) (codes "ops")) ≡
    ok (codes "{\"code\":\"ok\",\"service\":\"web\",\"status\":\"Healthy\",\"step\":4,\"weight\":100}")
    ∷ ok (codes "{\"code\":\"ok\",\"service\":\"web\",\"status\":\"Paused\",\"step\":1,\"weight\":20}")
    ∷ ok (codes "{\"code\":\"ok\",\"service\":\"web\",\"status\":\"Paused\",\"step\":3,\"weight\":50}")
    ∷ ok (codes "{\"code\":\"ok\",\"service\":\"web\",\"status\":\"Healthy\",\"step\":4,\"weight\":100}")
    ∷ no (codes "{\"code\":\"not-in-progress\"}")
    ∷ []
unfolding digits
doubled_receipts = receipts_from_nothing doubled (codes "ops") _ refl

-- Each caller has its own numbers, and a refusal is kept as a reply is: it stands even if the command would now be accepted.

abbrev two_callers : List Event
two_callers =
    by (codes "ann") 1 b (Promote web)
    ∷ by (codes "bob") 1 b (add web two_pauses)
    ∷ by (codes "bob") 2 b (Start web v2)
    ∷ by (codes "ann") 1 (b + 1) (Promote web)
    ∷ by (codes "ann") 2 (b + 1) (Promote web)
    ∷ by (codes "bob") 3 b (Promote web)
    ∷ []

two_callers_replies : answers_of no_contents two_callers ≡
    no (codes "{\"code\":\"unknown-service\"}")
    ∷ ok (codes "{\"code\":\"ok\",\"service\":\"web\",\"status\":\"Healthy\",\"step\":4,\"weight\":100}")
    ∷ ok (codes "{\"code\":\"ok\",\"service\":\"web\",\"status\":\"Paused\",\"step\":1,\"weight\":20}")
    ∷ no (codes "{\"code\":\"unknown-service\"}")
    ∷ ok (codes "{\"code\":\"ok\",\"service\":\"web\",\"status\":\"Paused\",\"step\":3,\"weight\":50}")
    ∷ ok (codes "{\"code\":\"ok\",\"service\":\"web\",\"status\":\"Healthy\",\"step\":4,\"weight\":100}")
    ∷ []
unfolding digits
two_callers_replies = replies_from_nothing two_callers _ refl

-- A template is there for the requests after it, and a refusal from before it stands. A second Template of its name is the next revision, and one that is repeated gets the revision that it made.

abbrev with_analysis : Command
with_analysis = add web (Analysis (codes "t" ∷ []) ∷ [])

abbrev templates_in_turn : List Event
templates_in_turn =
    ops 1 b with_analysis
    ∷ ops 2 (b + 1) (template (codes "t") (metric m ∷ []) [] refl)
    ∷ ops 1 (b + 2) with_analysis
    ∷ ops 3 (b + 3) with_analysis
    ∷ ops 4 (b + 4) (template (codes "t") (metric (codes "n") ∷ []) [] refl)
    ∷ ops 2 (b + 5) (template (codes "t") (metric m ∷ []) [] refl)
    ∷ []

templates_in_turn_replies : answers_of no_contents templates_in_turn ≡
    no (codes "{\"code\":\"unknown-template\"}")
    ∷ ok (codes "{\"code\":\"ok\",\"revision\":1,\"template\":\"t\"}")
    ∷ no (codes "{\"code\":\"unknown-template\"}")
    ∷ ok (codes "{\"code\":\"ok\",\"service\":\"web\",\"status\":\"Healthy\",\"step\":1,\"weight\":100}")
    ∷ ok (codes "{\"code\":\"ok\",\"revision\":2,\"template\":\"t\"}")
    ∷ ok (codes "{\"code\":\"ok\",\"revision\":1,\"template\":\"t\"}")
    ∷ []
unfolding digits
templates_in_turn_replies = replies_from_nothing templates_in_turn _ refl

-- A service is accepted whose analysis has a metric's name twice, or a metric without end: a Start is refused, until newer revisions can be bound.

abbrev bound_at_the_start : List Event
bound_at_the_start =
    ops 1 b (template (codes "t") (metric m ∷ []) [] refl)
    ∷ ops 2 b (template (codes "u") (metric m ∷ []) [] refl)
    ∷ ops 3 b (add web (Analysis (codes "t" ∷ codes "u" ∷ []) ∷ []))
    ∷ ops 4 (b + 1) (Start web v2)
    ∷ ops 5 (b + 2) (template (codes "u") (every (metric (codes "n")) 60 ∷ []) [] refl)
    ∷ ops 6 (b + 3) (Start web v2)
    ∷ ops 7 (b + 4) (template (codes "u") (metric (codes "n") ∷ []) [] refl)
    ∷ ops 4 (b + 5) (Start web v2)
    ∷ ops 8 (b + 6) (Start web v2)
    ∷ []

bound_at_the_start_replies : answers_of no_contents bound_at_the_start ≡
    ok (codes "{\"code\":\"ok\",\"revision\":1,\"template\":\"t\"}")
    ∷ ok (codes "{\"code\":\"ok\",\"revision\":1,\"template\":\"u\"}")
    ∷ ok (codes "{\"code\":\"ok\",\"service\":\"web\",\"status\":\"Healthy\",\"step\":1,\"weight\":100}")
    ∷ no (codes "{\"code\":\"duplicate-metric\"}")
    ∷ ok (codes "{\"code\":\"ok\",\"revision\":2,\"template\":\"u\"}")
    ∷ no (codes "{\"code\":\"endless-metric\"}")
    ∷ ok (codes "{\"code\":\"ok\",\"revision\":3,\"template\":\"u\"}")
    ∷ no (codes "{\"code\":\"duplicate-metric\"}")
    ∷ ok (codes "{\"code\":\"ok\",\"service\":\"web\",\"status\":\"Progressing\",\"step\":0,\"weight\":0}")
    ∷ []
unfolding digits
bound_at_the_start_replies = replies_from_nothing bound_at_the_start _ refl

-- Queries show the service as it stands at their moments, or at its last moment if that is later, and change nothing.

abbrev looked : List Event
looked =
    ops 1 b (add web two_pauses)
    ∷ ops 2 (b + 1) (Start web v2)
    ∷ event.Query (b + 10) (Service web)
    ∷ event.Query b (Service web)
    ∷ event.Query b (Service (codes "api"))
    ∷ event.Query (b + 10) (History web)
    ∷ ops 3 (b + 2) (Promote web)
    ∷ []

looked_replies : answers_of no_contents looked ≡
    ok (codes "{\"code\":\"ok\",\"service\":\"web\",\"status\":\"Healthy\",\"step\":4,\"weight\":100}")
    ∷ ok (codes "{\"code\":\"ok\",\"service\":\"web\",\"status\":\"Paused\",\"step\":1,\"weight\":20}")
    ∷ ok (codes "{\"code\":\"ok\",\"hold\":\"none\",\"moment\":1767225610,\"open\":[],\"runs\":0,\"service\":\"web\",\"stable\":\"v1\",\"status\":\"Paused\",\"step\":1,\"version\":\"v2\",\"weight\":20}")
    ∷ ok (codes "{\"code\":\"ok\",\"hold\":\"none\",\"moment\":1767225601,\"open\":[],\"runs\":0,\"service\":\"web\",\"stable\":\"v1\",\"status\":\"Paused\",\"step\":1,\"version\":\"v2\",\"weight\":20}")
    ∷ missing (codes "{\"code\":\"unknown-service\"}")
    ∷ ok (codes "{\"code\":\"ok\",\"lines\":[\"2026-01-01T00:00:00Z created v1\",\"2026-01-01T00:00:01Z start v2\",\"2026-01-01T00:00:01Z step 0 setWeight 20\",\"2026-01-01T00:00:01Z step 1 pause\"],\"service\":\"web\"}")
    ∷ ok (codes "{\"code\":\"ok\",\"service\":\"web\",\"status\":\"Paused\",\"step\":3,\"weight\":50}")
    ∷ []
unfolding digits moment_text
looked_replies = replies_from_nothing looked _ refl

-- A run that is open, its metric, and a run that there is not.

abbrev looked_at_runs : List Event
looked_at_runs =
    ops 1 b (template (codes "t") (metric m ∷ []) [] refl)
    ∷ ops 2 b with_analysis
    ∷ ops 3 (b + 1) (Start web v2)
    ∷ event.Query (b + 2) (Service web)
    ∷ event.Query (b + 2) (Run web 1)
    ∷ event.Query (b + 2) (Run web 2)
    ∷ []

looked_at_runs_replies : answers_of no_contents looked_at_runs ≡
    ok (codes "{\"code\":\"ok\",\"revision\":1,\"template\":\"t\"}")
    ∷ ok (codes "{\"code\":\"ok\",\"service\":\"web\",\"status\":\"Healthy\",\"step\":1,\"weight\":100}")
    ∷ ok (codes "{\"code\":\"ok\",\"service\":\"web\",\"status\":\"Progressing\",\"step\":0,\"weight\":0}")
    ∷ ok (codes "{\"code\":\"ok\",\"hold\":\"none\",\"moment\":1767225602,\"open\":[1],\"runs\":1,\"service\":\"web\",\"stable\":\"v1\",\"status\":\"Progressing\",\"step\":0,\"version\":\"v2\",\"weight\":0}")
    ∷ ok (codes "{\"closed\":null,\"code\":\"ok\",\"metrics\":[{\"consecutive\":0,\"counted\":0,\"dryRun\":false,\"due\":1767225601,\"errors\":0,\"failed\":0,\"inconclusive\":0,\"measurements\":0,\"name\":\"m\",\"passes\":0,\"phase\":\"Pending\"}],\"run\":1,\"service\":\"web\",\"started\":1767225601,\"step\":0,\"verdict\":\"Running\"}")
    ∷ missing (codes "{\"code\":\"unknown-run\"}")
    ∷ []
unfolding digits
looked_at_runs_replies = replies_from_nothing looked_at_runs _ refl
