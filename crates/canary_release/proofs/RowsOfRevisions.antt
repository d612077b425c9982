-- Worked rows of templates with more than one revision.
use Rattle.std.proofs.Common.{◌≡◌, ℕ, ◌+◌, List, [], ◌∷◌, refl}
use Rattle.std.specs.Prelude.{codes, Some, None, Option, map}
use Rattle.std.specs.Fmt.{digits}
use Rattle.canary_base.specs.Moments.{moment_text}
use Rattle.canary_plan.specs.Plans.{Templates, template_of}
use Rattle.canary_plan.specs.declared.template_spec.MetricSpec.{MetricSpec}
use Rattle.canary_plan.specs.declared.template_spec.TemplateSpec.{TemplateSpec}
use Rattle.canary_plan.specs.declared.analysis_parts.Revision.{Revision}
use Rattle.canary_plan.specs.declared.step.Step.TheVariants.{Analysis, SetWeight, Pause}
use Rattle.canary_plan.specs.declared.command.Command.{Command}
use Rattle.canary_plan.specs.declared.command.Command.TheVariants.{Template, Start, Retry}
use Rattle.canary_plan.specs.declared.refusal.Refusal.TheVariants.{RevisionsSpent}
use Rattle.canary_release.specs.Desks.{machine, no_desk, ModelService, refuses, model_decision}
use Rattle.canary_release.specs.Pasts.{Run}
use Rattle.canary_release.proofs.Stories.{service_after, lines_of, b, ok, no, web, v2, v3, m, add, metric, with_success, zero_is_good, every, template, report_on, report, result, background, service}
use Rattle.canary_release.proofs.Worlds.{replies_from_nothing, service_then}

-- A run is judged by the revision to which its attempt was bound, and a retry is bound to the
-- newest.

abbrev one_is_good : MetricSpec
one_is_good = with_success (metric m) (codes "result == 1") refl

abbrev two_revisions : List (ℕ × Command)
two_revisions =
    (b, template (codes "t") (zero_is_good m ∷ []) [] refl)
    ∷ (b, add web (SetWeight 10 ∷ Analysis (codes "t" ∷ []) ∷ SetWeight 60 ∷ Pause None ∷ []))
    ∷ (b, Start web v2)
    ∷ (b, template (codes "t") (one_is_good ∷ []) [] refl)
    ∷ (b, report (result m 1 b 1 refl))
    ∷ (b, Retry web)
    ∷ (b, report_on 2 (result m 1 b 1 refl ∷ []) refl)
    ∷ []

revision_replies : (machine no_desk two_revisions).replies ≡
    ok (codes "{\"code\":\"ok\",\"revision\":1,\"template\":\"t\"}")
    ∷ ok (codes "{\"code\":\"ok\",\"service\":\"web\",\"status\":\"Healthy\",\"step\":4,\"weight\":100}")
    ∷ ok (codes "{\"code\":\"ok\",\"service\":\"web\",\"status\":\"Progressing\",\"step\":1,\"weight\":10}")
    ∷ ok (codes "{\"code\":\"ok\",\"revision\":2,\"template\":\"t\"}")
    ∷ ok (codes "{\"code\":\"ok\",\"phases\":[\"Failed\"],\"run\":1,\"service\":\"web\",\"status\":\"Degraded\",\"step\":1,\"verdict\":\"Failed\",\"weight\":0}")
    ∷ ok (codes "{\"code\":\"ok\",\"service\":\"web\",\"status\":\"Progressing\",\"step\":1,\"weight\":10}")
    ∷ ok (codes "{\"code\":\"ok\",\"phases\":[\"Successful\"],\"run\":2,\"service\":\"web\",\"status\":\"Paused\",\"step\":3,\"verdict\":\"Successful\",\"weight\":60}")
    ∷ []
unfolding digits
revision_replies = replies_from_nothing two_revisions _ refl

-- each run keeps the revisions of its own attempt
abbrev revisions_of_runs : Option ModelService → List (List Revision)
revisions_of_runs None = []
revisions_of_runs (Some s) = map (λ (r : Run). r.analysis.revisions) s.past.runs

revisions_kept : revisions_of_runs (service_after two_revisions web) ≡
    (record { template = codes "t"; number = 1 } ∷ [])
    ∷ (record { template = codes "t"; number = 2 } ∷ [])
    ∷ []
revisions_kept = service_then revisions_of_runs two_revisions web _ refl

-- One command may end an attempt, by passing, and begin another: the runs that it opens are then of
-- two bindings.

abbrev of_two_attempts : List (ℕ × Command)
of_two_attempts =
    (b, template (codes "t") (metric m ∷ []) [] refl)
    ∷ (b, service web (Analysis (codes "t" ∷ []) ∷ Pause (Some 10) ∷ SetWeight 50 ∷ []) (background (codes "t") 2))
    ∷ (b, Start web v2)
    ∷ (b, report (result m 1 b 1 refl))
    ∷ (b, template (codes "t") (metric (codes "n") ∷ []) [] refl)
    ∷ (b + 60, Start web v3)
    ∷ []

pub revisions_of_two : revisions_of_runs (service_after of_two_attempts web) ≡
    (record { template = codes "t"; number = 1 } ∷ [])
    ∷ (record { template = codes "t"; number = 1 } ∷ [])
    ∷ (record { template = codes "t"; number = 2 } ∷ [])
    ∷ []
revisions_of_two = service_then revisions_of_runs of_two_attempts web _ refl

lines_of_two : lines_of (service_after of_two_attempts web) ≡
    codes "2026-01-01T00:00:00Z created v1"
    ∷ codes "2026-01-01T00:00:00Z start v2"
    ∷ codes "2026-01-01T00:00:00Z step 0 analysis run 1"
    ∷ codes "2026-01-01T00:00:00Z run 1 Successful"
    ∷ codes "2026-01-01T00:00:00Z step 1 pause 10s"
    ∷ codes "2026-01-01T00:00:10Z background run 2"
    ∷ codes "2026-01-01T00:00:10Z step 2 setWeight 50"
    ∷ codes "2026-01-01T00:00:10Z run 2 Successful ended"
    ∷ codes "2026-01-01T00:00:10Z done v2"
    ∷ codes "2026-01-01T00:01:00Z start v3"
    ∷ codes "2026-01-01T00:01:00Z step 0 analysis run 3"
    ∷ []
unfolding digits moment_text
lines_of_two = service_then lines_of of_two_attempts web _ refl

-- A template twice in an analysis is refused as an attempt begins.

abbrev twice : List (ℕ × Command)
twice =
    (b, template (codes "t") (metric m ∷ []) [] refl)
    ∷ (b, add (codes "api") (Analysis (codes "t" ∷ codes "t" ∷ []) ∷ []))
    ∷ (b, Start (codes "api") v2)
    ∷ []

twice_replies : (machine no_desk twice).replies ≡
    ok (codes "{\"code\":\"ok\",\"revision\":1,\"template\":\"t\"}")
    ∷ ok (codes "{\"code\":\"ok\",\"service\":\"api\",\"status\":\"Healthy\",\"step\":1,\"weight\":100}")
    ∷ no (codes "{\"code\":\"duplicate-metric\"}")
    ∷ []
unfolding digits
twice_replies = replies_from_nothing twice _ refl

-- The greatest revision.

abbrev of_t : TemplateSpec
of_t = record { name = codes "t"; metrics = metric m ∷ []; dry_run = []; within = refl }

abbrev known_as : ℕ → Templates
known_as revision name = Some (template_of of_t revision)

revisions_spent : model_decision (known_as 1000000) None b (Template of_t) ≡ refuses RevisionsSpent
revisions_spent = refl

last_revision : (model_decision (known_as 999999) None b (Template of_t)).reply ≡ ok (codes "{\"code\":\"ok\",\"revision\":1000000,\"template\":\"t\"}")
unfolding digits
last_revision = refl

-- Why an attempt can't be bound goes before why it can't begin: a release is in progress, and the
-- newest revisions have one metric's name twice.

abbrev in_progress : List (ℕ × Command)
in_progress =
    (b, template (codes "t") (metric m ∷ []) [] refl)
    ∷ (b, template (codes "u") (metric (codes "n") ∷ []) [] refl)
    ∷ (b, add web (Analysis (codes "t" ∷ codes "u" ∷ []) ∷ []))
    ∷ (b, Start web v2)
    ∷ (b, Start web v3)
    ∷ (b, template (codes "u") (metric m ∷ []) [] refl)
    ∷ (b, Start web v3)
    ∷ (b, Retry web)
    ∷ (b, template (codes "u") (every (metric (codes "n")) 60 ∷ []) [] refl)
    ∷ (b, Start web v3)
    ∷ (b, report_on 1 (result m 1 b 1 refl ∷ result (codes "n") 1 b 1 refl ∷ []) refl)
    ∷ []

in_progress_replies : (machine no_desk in_progress).replies ≡
    ok (codes "{\"code\":\"ok\",\"revision\":1,\"template\":\"t\"}")
    ∷ ok (codes "{\"code\":\"ok\",\"revision\":1,\"template\":\"u\"}")
    ∷ ok (codes "{\"code\":\"ok\",\"service\":\"web\",\"status\":\"Healthy\",\"step\":1,\"weight\":100}")
    ∷ ok (codes "{\"code\":\"ok\",\"service\":\"web\",\"status\":\"Progressing\",\"step\":0,\"weight\":0}")
    ∷ no (codes "{\"code\":\"in-progress\"}")
    ∷ ok (codes "{\"code\":\"ok\",\"revision\":2,\"template\":\"u\"}")
    ∷ no (codes "{\"code\":\"duplicate-metric\"}")
    ∷ no (codes "{\"code\":\"duplicate-metric\"}")
    ∷ ok (codes "{\"code\":\"ok\",\"revision\":3,\"template\":\"u\"}")
    ∷ no (codes "{\"code\":\"endless-metric\"}")
    ∷ ok (codes "{\"code\":\"ok\",\"phases\":[\"Successful\",\"Successful\"],\"run\":1,\"service\":\"web\",\"status\":\"Healthy\",\"step\":1,\"verdict\":\"Successful\",\"weight\":100}")
    ∷ []
unfolding digits
in_progress_replies = replies_from_nothing in_progress _ refl
