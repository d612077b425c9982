-- Worked rows on refusals, in the order in which they are looked at: the replies are these bytes.
use Rattle.std.proofs.Common.{◌≡◌, ℕ, ◌+◌, List, [], ◌∷◌, refl}
use Rattle.std.specs.Prelude.{codes, true, false, Some, None, replicate}
use Rattle.std.specs.Fmt.{digits}
use Rattle.canary_plan.specs.declared.step.Step.TheVariants.{SetWeight, Pause, Analysis}
use Rattle.canary_plan.specs.declared.service.ServiceSpec.{ServiceSpec}
use Rattle.canary_plan.specs.declared.command.Command.{Command}
use Rattle.canary_plan.specs.declared.command.Command.TheVariants.{Start, Promote, PromoteFull, Abort, Retry, Tick}
use Rattle.canary_plan.specs.Plans.{Templates, no_templates, template_of, strategy_of, bound_of, revisions_named, metrics_named}
use Rattle.canary_release.specs.declared.reply.Reply.{Reply}
use Rattle.canary_release.specs.declared.state.ReleaseState.TheVariants.{InProgress, Aborted}
use Rattle.canary_release.specs.declared.state.ServiceState.{ServiceState}
use Rattle.canary_release.specs.declared.service.ServiceParts.{ServiceParts}
use Rattle.canary_release.specs.Desks.{machine, no_desk, new_service_state, model_decision}
use Rattle.canary_release.specs.Parts.{is_broken}
use Rattle.canary_release.specs.Stored.{stored_evolution}
use Rattle.canary_release.proofs.Stories.{replies_after, b, ok, no, web, v1, v2, v3, m, service, add, background, two_pauses, metric, with_success, with_failure, every, above_ten, template, result, report_on, report, step_setup}
use Rattle.canary_release.proofs.Worlds.{replies_from_nothing, replies_then}

-- No such service: each command but Template and Service.

abbrev on_no_service_requests : List (ℕ × Command)
on_no_service_requests =
    (b, Start web v2)
    ∷ (b, Promote web)
    ∷ (b, PromoteFull web)
    ∷ (b, Abort web)
    ∷ (b, Retry web)
    ∷ (b, Tick web)
    ∷ (b, report (result m 1 b 1 refl))
    ∷ []

on_no_service : (machine no_desk on_no_service_requests).replies ≡
    no (codes "{\"code\":\"unknown-service\"}")
    ∷ no (codes "{\"code\":\"unknown-service\"}")
    ∷ no (codes "{\"code\":\"unknown-service\"}")
    ∷ no (codes "{\"code\":\"unknown-service\"}")
    ∷ no (codes "{\"code\":\"unknown-service\"}")
    ∷ no (codes "{\"code\":\"unknown-service\"}")
    ∷ no (codes "{\"code\":\"unknown-service\"}")
    ∷ []
unfolding digits
on_no_service = replies_from_nothing on_no_service_requests _ refl

-- The name of a service is taken, which comes before a bad strategy.

abbrev name_taken_requests : List (ℕ × Command)
name_taken_requests =
    (b, add web two_pauses)
    ∷ (b + 1, add web (SetWeight 101 ∷ []))
    ∷ []

name_taken : (machine no_desk name_taken_requests).replies ≡
    ok (codes "{\"code\":\"ok\",\"service\":\"web\",\"status\":\"Healthy\",\"step\":4,\"weight\":100}")
    ∷ no (codes "{\"code\":\"service-exists\"}")
    ∷ []
unfolding digits
name_taken = replies_from_nothing name_taken_requests _ refl

-- Templates, of a new name and of one that is taken: a condition without a reading; a count above 1
-- without an interval; two metrics of one name; a dry-run name that is no metric. Each comes before
-- those after it.

abbrev bad_templates_requests : List (ℕ × Command)
bad_templates_requests =
    (b, template (codes "t") (metric m ∷ []) [] refl)
    ∷ (b, template (codes "t") (with_success (metric m) (codes "result >") refl ∷ []) [] refl)
    ∷ (b, template (codes "u") (with_success (metric m) (codes "result >") refl ∷ []) [] refl)
    ∷ (b, template (codes "u") (metric m ∷ with_failure (record (metric m) { count = Some 2; within = refl }) (codes "result") refl ∷ []) (codes "x" ∷ []) refl)
    ∷ (b, template (codes "u") (record (metric m) { count = Some 2; within = refl } ∷ []) [] refl)
    ∷ (b, template (codes "u") (record (metric m) { count = Some 2; within = refl } ∷ metric m ∷ []) (codes "x" ∷ []) refl)
    ∷ (b, template (codes "u") (metric m ∷ metric m ∷ []) [] refl)
    ∷ (b, template (codes "u") (metric m ∷ metric m ∷ []) (codes "x" ∷ []) refl)
    ∷ (b, template (codes "u") (metric m ∷ []) (codes "x" ∷ []) refl)
    ∷ (b, template (codes "u") (metric m ∷ []) (codes "m" ∷ codes "*" ∷ []) refl)
    ∷ (b, template (codes "u") (metric m ∷ []) (codes "m" ∷ codes ".*" ∷ []) refl)
    ∷ []

bad_templates : (machine no_desk bad_templates_requests).replies ≡
    ok (codes "{\"code\":\"ok\",\"revision\":1,\"template\":\"t\"}")
    ∷ no (codes "{\"code\":\"bad-condition\"}")
    ∷ no (codes "{\"code\":\"bad-condition\"}")
    ∷ no (codes "{\"code\":\"bad-condition\"}")
    ∷ no (codes "{\"code\":\"interval-needed\"}")
    ∷ no (codes "{\"code\":\"interval-needed\"}")
    ∷ no (codes "{\"code\":\"duplicate-metric\"}")
    ∷ no (codes "{\"code\":\"duplicate-metric\"}")
    ∷ no (codes "{\"code\":\"bad-dry-run\"}")
    ∷ no (codes "{\"code\":\"bad-dry-run\"}")
    ∷ ok (codes "{\"code\":\"ok\",\"revision\":1,\"template\":\"u\"}")
    ∷ []
unfolding digits
bad_templates = replies_from_nothing bad_templates_requests _ refl

-- Services: an unknown template goes before a bad strategy. As an attempt begins: two metrics of
-- one name among the templates of an analysis, and then an endless metric.

abbrev bad_services_requests : List (ℕ × Command)
bad_services_requests =
    (b, template (codes "t") (metric m ∷ []) [] refl)
    ∷ (b, template (codes "u") (every (metric m) 60 ∷ []) [] refl)
    ∷ (b, service web (Analysis (codes "t" ∷ codes "t" ∷ codes "nope" ∷ []) ∷ []) None)
    ∷ (b, service web (SetWeight 101 ∷ Analysis (codes "nope" ∷ codes "u" ∷ []) ∷ []) None)
    ∷ (b, service web ([]) (background (codes "nope") 0))
    ∷ (b, service web (Analysis (codes "t" ∷ codes "t" ∷ []) ∷ []) None)
    ∷ (b, Start web v2)
    ∷ (b, service (codes "both") (Analysis (codes "t" ∷ codes "u" ∷ []) ∷ []) None)
    ∷ (b, Start (codes "both") v2)
    ∷ (b, service (codes "endless") (Analysis (codes "u" ∷ []) ∷ []) None)
    ∷ (b, Start (codes "endless") v2)
    ∷ (b, service (codes "behind") (Pause None ∷ []) (background (codes "u") 0))
    ∷ (b, Start (codes "behind") v2)
    ∷ []

bad_services : (machine no_desk bad_services_requests).replies ≡
    ok (codes "{\"code\":\"ok\",\"revision\":1,\"template\":\"t\"}")
    ∷ ok (codes "{\"code\":\"ok\",\"revision\":1,\"template\":\"u\"}")
    ∷ no (codes "{\"code\":\"unknown-template\"}")
    ∷ no (codes "{\"code\":\"unknown-template\"}")
    ∷ no (codes "{\"code\":\"unknown-template\"}")
    ∷ ok (codes "{\"code\":\"ok\",\"service\":\"web\",\"status\":\"Healthy\",\"step\":1,\"weight\":100}")
    ∷ no (codes "{\"code\":\"duplicate-metric\"}")
    ∷ ok (codes "{\"code\":\"ok\",\"service\":\"both\",\"status\":\"Healthy\",\"step\":1,\"weight\":100}")
    ∷ no (codes "{\"code\":\"duplicate-metric\"}")
    ∷ ok (codes "{\"code\":\"ok\",\"service\":\"endless\",\"status\":\"Healthy\",\"step\":1,\"weight\":100}")
    ∷ no (codes "{\"code\":\"endless-metric\"}")
    ∷ ok (codes "{\"code\":\"ok\",\"service\":\"behind\",\"status\":\"Healthy\",\"step\":1,\"weight\":100}")
    ∷ ok (codes "{\"code\":\"ok\",\"service\":\"behind\",\"status\":\"Paused\",\"step\":0,\"weight\":0}")
    ∷ []
unfolding digits
bad_services = replies_from_nothing bad_services_requests _ refl

-- A bad strategy: a weight above 100, more than 64 steps, no template or more than 8; and as an
-- attempt begins, more than 32 metrics.

abbrev bad_strategies_requests : List (ℕ × Command)
bad_strategies_requests =
    (b, template (codes "t1") (metric (codes "m1") ∷ []) [] refl)
    ∷ (b, template (codes "t2") (metric (codes "m2") ∷ []) [] refl)
    ∷ (b, template (codes "t3") (metric (codes "m3") ∷ []) [] refl)
    ∷ (b, template (codes "t4") (metric (codes "m4") ∷ []) [] refl)
    ∷ (b, template (codes "t5") (metric (codes "m5") ∷ []) [] refl)
    ∷ (b, template (codes "t6") (metric (codes "m6") ∷ []) [] refl)
    ∷ (b, template (codes "t7") (metric (codes "m7") ∷ []) [] refl)
    ∷ (b, template (codes "t8") (metric (codes "m8") ∷ []) [] refl)
    ∷ (b, template (codes "t9") (metric (codes "m9") ∷ []) [] refl)
    ∷ (b, template (codes "all") (metric (codes "a1") ∷ metric (codes "a2") ∷ metric (codes "a3") ∷ metric (codes "a4") ∷ metric (codes "a5") ∷ metric (codes "a6") ∷ metric (codes "a7") ∷ metric (codes "a8") ∷ metric (codes "a9") ∷ metric (codes "a10") ∷ metric (codes "a11") ∷ metric (codes "a12") ∷ metric (codes "a13") ∷ metric (codes "a14") ∷ metric (codes "a15") ∷ metric (codes "a16") ∷ metric (codes "a17") ∷ metric (codes "a18") ∷ metric (codes "a19") ∷ metric (codes "a20") ∷ metric (codes "a21") ∷ metric (codes "a22") ∷ metric (codes "a23") ∷ metric (codes "a24") ∷ metric (codes "a25") ∷ metric (codes "a26") ∷ metric (codes "a27") ∷ metric (codes "a28") ∷ metric (codes "a29") ∷ metric (codes "a30") ∷ metric (codes "a31") ∷ metric (codes "a32") ∷ []) [] refl)
    ∷ (b, service web (SetWeight 101 ∷ []) None)
    ∷ (b, service web (replicate 65 (Pause None)) None)
    ∷ (b, service web (Analysis [] ∷ []) None)
    ∷ (b, service web ([]) (Some (record { templates = []; starting_step = 0 })))
    ∷ (b, service web (Analysis (codes "t1" ∷ codes "t2" ∷ codes "t3" ∷ codes "t4" ∷ codes "t5" ∷ codes "t6" ∷ codes "t7" ∷ codes "t8" ∷ codes "t9" ∷ []) ∷ []) None)
    ∷ (b, service (codes "big") (Analysis (codes "all" ∷ codes "t1" ∷ []) ∷ []) None)
    ∷ (b, Start (codes "big") v2)
    ∷ (b, service web (SetWeight 100 ∷ Analysis (codes "t1" ∷ codes "t2" ∷ codes "t3" ∷ codes "t4" ∷ codes "t5" ∷ codes "t6" ∷ codes "t7" ∷ codes "t8" ∷ []) ∷ Analysis (codes "all" ∷ []) ∷ replicate 61 (Pause None)) None)
    ∷ []

bad_strategies : (machine no_desk bad_strategies_requests).replies ≡
    ok (codes "{\"code\":\"ok\",\"revision\":1,\"template\":\"t1\"}")
    ∷ ok (codes "{\"code\":\"ok\",\"revision\":1,\"template\":\"t2\"}")
    ∷ ok (codes "{\"code\":\"ok\",\"revision\":1,\"template\":\"t3\"}")
    ∷ ok (codes "{\"code\":\"ok\",\"revision\":1,\"template\":\"t4\"}")
    ∷ ok (codes "{\"code\":\"ok\",\"revision\":1,\"template\":\"t5\"}")
    ∷ ok (codes "{\"code\":\"ok\",\"revision\":1,\"template\":\"t6\"}")
    ∷ ok (codes "{\"code\":\"ok\",\"revision\":1,\"template\":\"t7\"}")
    ∷ ok (codes "{\"code\":\"ok\",\"revision\":1,\"template\":\"t8\"}")
    ∷ ok (codes "{\"code\":\"ok\",\"revision\":1,\"template\":\"t9\"}")
    ∷ ok (codes "{\"code\":\"ok\",\"revision\":1,\"template\":\"all\"}")
    ∷ no (codes "{\"code\":\"bad-strategy\"}")
    ∷ no (codes "{\"code\":\"bad-strategy\"}")
    ∷ no (codes "{\"code\":\"bad-strategy\"}")
    ∷ no (codes "{\"code\":\"bad-strategy\"}")
    ∷ no (codes "{\"code\":\"bad-strategy\"}")
    ∷ ok (codes "{\"code\":\"ok\",\"service\":\"big\",\"status\":\"Healthy\",\"step\":1,\"weight\":100}")
    ∷ no (codes "{\"code\":\"bad-strategy\"}")
    ∷ ok (codes "{\"code\":\"ok\",\"service\":\"web\",\"status\":\"Healthy\",\"step\":64,\"weight\":100}")
    ∷ []
unfolding digits
bad_strategies = replies_from_nothing bad_strategies_requests _ refl

-- Start, Promote and Retry: in progress; the stable version after the end; done or aborted; at no pause; not aborted.

abbrev bad_starts_requests : List (ℕ × Command)
bad_starts_requests =
    (b, add web (Pause None ∷ []))
    ∷ (b, Start web v1)
    ∷ (b, Promote web)
    ∷ (b, PromoteFull web)
    ∷ (b, Abort web)
    ∷ (b, Retry web)
    ∷ (b, Start web v2)
    ∷ (b, Start web v2)
    ∷ (b, Start web v1)
    ∷ (b, Retry web)
    ∷ (b, Abort web)
    ∷ (b, Promote web)
    ∷ (b, PromoteFull web)
    ∷ (b, Abort web)
    ∷ []

bad_starts : (machine no_desk bad_starts_requests).replies ≡
    ok (codes "{\"code\":\"ok\",\"service\":\"web\",\"status\":\"Healthy\",\"step\":1,\"weight\":100}")
    ∷ no (codes "{\"code\":\"already-stable\"}")
    ∷ no (codes "{\"code\":\"not-in-progress\"}")
    ∷ no (codes "{\"code\":\"not-in-progress\"}")
    ∷ no (codes "{\"code\":\"not-in-progress\"}")
    ∷ no (codes "{\"code\":\"not-aborted\"}")
    ∷ ok (codes "{\"code\":\"ok\",\"service\":\"web\",\"status\":\"Paused\",\"step\":0,\"weight\":0}")
    ∷ no (codes "{\"code\":\"in-progress\"}")
    ∷ no (codes "{\"code\":\"in-progress\"}")
    ∷ no (codes "{\"code\":\"not-aborted\"}")
    ∷ ok (codes "{\"code\":\"ok\",\"service\":\"web\",\"status\":\"Degraded\",\"step\":0,\"weight\":0}")
    ∷ no (codes "{\"code\":\"not-in-progress\"}")
    ∷ no (codes "{\"code\":\"not-in-progress\"}")
    ∷ no (codes "{\"code\":\"not-in-progress\"}")
    ∷ []
unfolding digits
bad_starts = replies_from_nothing bad_starts_requests _ refl

-- A promotion at an analysis.

abbrev at_no_pause_requests : List (ℕ × Command)
at_no_pause_requests =
    (b, Promote web)
    ∷ []

at_no_pause : replies_after (step_setup (above_ten m ∷ []) [] refl) at_no_pause_requests ≡
    no (codes "{\"code\":\"not-paused\"}")
    ∷ []
unfolding digits
at_no_pause = replies_then (step_setup (above_ten m ∷ []) [] refl) at_no_pause_requests _ refl

-- Reports: an unknown run, a closed one, whatever the entries, and an unknown metric.

abbrev bad_reports_requests : List (ℕ × Command)
bad_reports_requests =
    (b, report_on 2 (result (codes "x") 9 (b + 9) 1 refl ∷ []) refl)
    ∷ (b, report (result (codes "x") 1 b 1 refl))
    ∷ (b + 1, Abort web)
    ∷ (b + 1, report (result (codes "x") 1 b 1 refl))
    ∷ []

bad_reports : replies_after (step_setup (above_ten m ∷ []) [] refl) bad_reports_requests ≡
    no (codes "{\"code\":\"unknown-run\"}")
    ∷ no (codes "{\"at\":0,\"code\":\"unknown-metric\"}")
    ∷ ok (codes "{\"code\":\"ok\",\"service\":\"web\",\"status\":\"Degraded\",\"step\":1,\"weight\":0}")
    ∷ no (codes "{\"code\":\"run-closed\"}")
    ∷ []
unfolding digits
bad_reports = replies_then (step_setup (above_ten m ∷ []) [] refl) bad_reports_requests _ refl

-- Entries, each after those before it: the metric stands twice, it is completed, its ordinal is recorded or out of turn, and its moment is to come or too early. Each comes before those after it.

abbrev bad_entries_requests : List (ℕ × Command)
bad_entries_requests =
    (b, report_on 1 (result (codes "b") 2 b 1 refl ∷ result (codes "b") 1 b 1 refl ∷ []) refl)
    ∷ (b, report_on 1 (result (codes "b") 1 b 1 refl ∷ result (codes "b") 9 (b + 9) 1 refl ∷ []) refl)
    ∷ (b, report_on 1 (result (codes "a") 1 b 1 refl ∷ result (codes "b") 1 b 1 refl ∷ result (codes "a") 2 b 1 refl ∷ result (codes "c") 1 b 1 refl ∷ []) refl)
    ∷ (b, report_on 1 (result (codes "a") 1 b 1 refl ∷ result (codes "b") 1 b 1 refl ∷ []) refl)
    ∷ (b, report (result (codes "a") 1 b 1 refl))
    ∷ (b, report (result (codes "a") 3 b 1 refl))
    ∷ (b, report (result (codes "b") 1 (b + 9) 1 refl))
    ∷ (b, report (result (codes "b") 1 b 1 refl))
    ∷ (b, report (result (codes "b") 3 (b + 9) 1 refl))
    ∷ (b, report (result (codes "b") 3 b 1 refl))
    ∷ (b + 9, report (result (codes "b") 2 (b + 10) 1 refl))
    ∷ (b + 8, report (result (codes "b") 2 (b + 9) 1 refl))
    ∷ (b + 9, report (result (codes "b") 2 (b + 9) 1 refl))
    ∷ (b + 10, report (result (codes "b") 2 (b + 10) 1 refl))
    ∷ []

bad_entries : replies_after (step_setup (metric (codes "a") ∷ record (every (metric (codes "b")) 10) { count = Some 9; within = refl } ∷ []) [] refl) bad_entries_requests ≡
    no (codes "{\"at\":0,\"code\":\"out-of-turn\",\"expected\":1}")
    ∷ no (codes "{\"at\":1,\"code\":\"repeated-metric\"}")
    ∷ no (codes "{\"at\":2,\"code\":\"repeated-metric\"}")
    ∷ ok (codes "{\"code\":\"ok\",\"phases\":[\"Successful\",\"Successful\"],\"run\":1,\"service\":\"web\",\"status\":\"Progressing\",\"step\":1,\"verdict\":\"Running\",\"weight\":10}")
    ∷ no (codes "{\"at\":0,\"code\":\"metric-closed\"}")
    ∷ no (codes "{\"at\":0,\"code\":\"metric-closed\"}")
    ∷ no (codes "{\"at\":0,\"code\":\"recorded\"}")
    ∷ no (codes "{\"at\":0,\"code\":\"recorded\"}")
    ∷ no (codes "{\"at\":0,\"code\":\"out-of-turn\",\"expected\":2}")
    ∷ no (codes "{\"at\":0,\"code\":\"out-of-turn\",\"expected\":2}")
    ∷ no (codes "{\"at\":0,\"code\":\"future\"}")
    ∷ no (codes "{\"at\":0,\"code\":\"future\"}")
    ∷ no (codes "{\"at\":0,\"code\":\"too-early\",\"due\":1767225610}")
    ∷ ok (codes "{\"code\":\"ok\",\"phases\":[\"Successful\"],\"run\":1,\"service\":\"web\",\"status\":\"Progressing\",\"step\":1,\"verdict\":\"Running\",\"weight\":10}")
    ∷ []
unfolding digits
bad_entries = replies_then (step_setup (metric (codes "a") ∷ record (every (metric (codes "b")) 10) { count = Some 9; within = refl } ∷ []) [] refl) bad_entries_requests _ refl

-- The numbers of runs are spent: fewer than 66 are left.

abbrev spec_of_web : ServiceSpec
spec_of_web = record { name = web; version = v1; steps = two_pauses; background = None }

-- so many runs were made
abbrev with_runs : ℕ → ServiceState → ServiceParts
with_runs n service = record { service = service; runs = record { count = n; open_runs = [] } }

abbrev done_service_state : ServiceState
done_service_state = new_service_state spec_of_web b

abbrev aborted_service_state : ServiceState
aborted_service_state = record done_service_state { version = v2; state = Aborted; step = 1; entered = b + 1; last = b + 2 }

aborted_is_accepted : is_broken (with_runs 999935 aborted_service_state) ≡ false
aborted_is_accepted = refl

done_is_accepted : is_broken (with_runs 999935 done_service_state) ≡ false
done_is_accepted = refl

abbrev reply_to : ServiceParts → Command → Reply
reply_to parts command = (model_decision no_templates (Some (stored_evolution parts)) (b + 3) command).reply

retry_is_spent : reply_to (with_runs 999935 aborted_service_state) (Retry web) ≡ no (codes "{\"code\":\"runs-spent\"}")
unfolding digits
retry_is_spent = refl

retry_begins : reply_to (with_runs 999934 aborted_service_state) (Retry web) ≡ ok (codes "{\"code\":\"ok\",\"service\":\"web\",\"status\":\"Paused\",\"step\":1,\"weight\":20}")
unfolding digits
retry_begins = refl

start_is_spent : reply_to (with_runs 999935 aborted_service_state) (Start web v3) ≡ no (codes "{\"code\":\"runs-spent\"}")
unfolding digits
start_is_spent = refl

start_begins : reply_to (with_runs 999934 aborted_service_state) (Start web v3) ≡ ok (codes "{\"code\":\"ok\",\"service\":\"web\",\"status\":\"Paused\",\"step\":1,\"weight\":20}")
unfolding digits
start_begins = refl

start_is_spent_when_done : reply_to (with_runs 999935 done_service_state) (Start web v2) ≡ no (codes "{\"code\":\"runs-spent\"}")
unfolding digits
start_is_spent_when_done = refl

stable_before_spent : reply_to (with_runs 999935 done_service_state) (Start web v1) ≡ no (codes "{\"code\":\"already-stable\"}")
unfolding digits
stable_before_spent = refl

not_aborted_before_spent : reply_to (with_runs 999935 done_service_state) (Retry web) ≡ no (codes "{\"code\":\"not-aborted\"}")
unfolding digits
not_aborted_before_spent = refl

-- The measurements of a metric are spent: 1,000,000 are recorded.

abbrev errs : Templates
errs name = Some (template_of (record { name = codes "errs"; metrics = every (metric m) 60 ∷ []; dry_run = []; within = refl }) 1)

abbrev measured_spec : ServiceSpec
measured_spec = record { name = web; version = v1; steps = SetWeight 20 ∷ Pause None ∷ []; background = background (codes "errs") 0 }

-- at the pause, with so many successful measurements of the background run
abbrev measured : ℕ → ServiceParts
measured n =
    record {
      service = record (new_service_state measured_spec b) { bound = bound_of errs (strategy_of measured_spec); version = v2; state = InProgress; step = 1; background = true };
      runs = record {
        count = 1;
        open_runs = record {
          number = 1;
          step = None;
          analysis = record { revisions = revisions_named errs (codes "errs" ∷ []); metrics = metrics_named errs (codes "errs" ∷ []) };
          started = b;
          tallies = record { counted = n; failed = 0; inconclusive = 0; errors = 0; consecutive = 0; passes = n; last = Some b } ∷ [];
        } ∷ [];
      };
    }

measured_is_accepted : is_broken (measured 1000000) ≡ false
measured_is_accepted = refl

abbrev reported_to : ℕ → Command → Reply
reported_to n command = (model_decision errs (Some (stored_evolution (measured n))) (b + 100) command).reply

measurements_are_spent : reported_to 1000000 (report (result m 1000001 (b + 60) 5 refl)) ≡ no (codes "{\"at\":0,\"code\":\"spent\"}")
unfolding digits
measurements_are_spent = refl

one_is_left : reported_to 999999 (report (result m 1000000 (b + 60) 5 refl)) ≡ ok (codes "{\"code\":\"ok\",\"phases\":[\"Successful\"],\"run\":1,\"service\":\"web\",\"status\":\"Paused\",\"step\":1,\"verdict\":\"Running\",\"weight\":20}")
unfolding digits
one_is_left = refl

spent_before_future : reported_to 1000000 (report (result m 1000001 (b + 200) 5 refl)) ≡ no (codes "{\"at\":0,\"code\":\"spent\"}")
unfolding digits
spent_before_future = refl

spent_before_early : reported_to 1000000 (report (result m 1000001 (b + 1) 5 refl)) ≡ no (codes "{\"at\":0,\"code\":\"spent\"}")
unfolding digits
spent_before_early = refl

recorded_before_spent : reported_to 1000000 (report (result m 1000000 (b + 200) 5 refl)) ≡ no (codes "{\"at\":0,\"code\":\"recorded\"}")
unfolding digits
recorded_before_spent = refl

turn_before_spent : reported_to 1000000 (report (result m 1000002 (b + 200) 5 refl)) ≡ no (codes "{\"at\":0,\"code\":\"out-of-turn\",\"expected\":1000001}")
unfolding digits
turn_before_spent = refl
