-- Worked rows of the small machine: whole services, and single rules.
use Rattle.std.proofs.Common.{◌≡◌, ℕ, ◌+◌, List, [], ◌∷◌, ◌++◌, true, refl}
use Rattle.std.specs.Prelude.{false, codes, pos, Some, None, replicate}
use Rattle.std.specs.Fmt.{digits}
use Rattle.canary_condition.specs.declared.outcome.Value.TheVariants.{Whole}
use Rattle.canary_condition.specs.declared.outcome.Outcome.TheVariants.{Result}
use Rattle.canary_condition.specs.declared.outcome.Phase.TheVariants.{Successful}
use Rattle.canary_metric.specs.Counts.{counts, with_one_more}
use Rattle.canary_plan.specs.declared.analysis_parts.AnalysisParts.{AnalysisParts}
use Rattle.canary_plan.specs.Plans.{bound_metric}
use Rattle.canary_plan.specs.declared.step.Step.TheVariants.{SetWeight, Pause}
use Rattle.canary_plan.specs.declared.command.Command.{Command}
use Rattle.canary_plan.specs.declared.command.Command.TheVariants.{Start, Promote, Abort}
use Rattle.canary_plan.specs.declared.line.LineEvent.TheVariants.{Created, Started, WeightEntered, PauseEntered, Promoted, Finished, BackgroundOpened, Ended, Aborted as AbortedLine}
use Rattle.canary_plan.specs.declared.refusal.Refusal.TheVariants.{AlreadyStable, NotInProgress, NotPaused}
use Rattle.canary_release.specs.declared.state.ReleaseState.TheVariants.{InProgress, Aborted, Done}
use Rattle.canary_release.specs.declared.state.ServiceState.{ServiceState}
use Rattle.canary_release.specs.declared.effect.Opening.{Opening}
use Rattle.canary_release.specs.declared.effect.Recorded.{Recorded}
use Rattle.canary_release.specs.declared.effect.Effect.TheVariants.{RunOpened, MeasurementRecorded, RunClosed}
use Rattle.canary_release.specs.Pasts.{no_past, past_with_all, tracked}
use Rattle.canary_release.specs.Watching.{no_runs}
use Rattle.canary_release.specs.Services.{weight}
use Rattle.canary_release.specs.Evolutions.{Evolution}
use Rattle.canary_release.specs.Rules.Commands.{start_refusal_at, promote_refusal}
use Rattle.canary_release.specs.Desks.{machine, no_desk, new_service_state}
use Rattle.canary_release.specs.Stored.{stored_evolution}
use Rattle.canary_release.proofs.Stories.{service_after, b, ok, no, web, v1, v2, v3, m, add, background, background_setup, two_pauses, every, metric, report, result, told}
use Rattle.canary_release.proofs.Worlds.{replies_from_nothing, service_then}

-- A release from pause to pause, and to its end.

abbrev to_second_pause : List (ℕ × Command)
to_second_pause = (b, add web two_pauses) ∷ (b + 1, Start web v2) ∷ (b + 2, Promote web) ∷ []

abbrev to_end : List (ℕ × Command)
to_end = to_second_pause ++ ((b + 3, Promote web) ∷ (b + 4, Promote web) ∷ (b + 4, Start web v2) ∷ (b + 5, Start web v1) ∷ (b + 6, Start web v3) ∷ [])

release_replies : (machine no_desk to_end).replies ≡
    ok (codes "{\"code\":\"ok\",\"service\":\"web\",\"status\":\"Healthy\",\"step\":4,\"weight\":100}")
    ∷ ok (codes "{\"code\":\"ok\",\"service\":\"web\",\"status\":\"Paused\",\"step\":1,\"weight\":20}")
    ∷ ok (codes "{\"code\":\"ok\",\"service\":\"web\",\"status\":\"Paused\",\"step\":3,\"weight\":50}")
    ∷ ok (codes "{\"code\":\"ok\",\"service\":\"web\",\"status\":\"Healthy\",\"step\":4,\"weight\":100}")
    ∷ no (codes "{\"code\":\"not-in-progress\"}")
    ∷ no (codes "{\"code\":\"already-stable\"}")
    ∷ ok (codes "{\"code\":\"ok\",\"service\":\"web\",\"status\":\"Paused\",\"step\":1,\"weight\":20}")
    ∷ no (codes "{\"code\":\"in-progress\"}")
    ∷ []
unfolding digits
release_replies = replies_from_nothing to_end _ refl

-- the service at its second pause, with its whole history
paused_service : service_after to_second_pause web ≡ Some (record {
  made = record { name = web; version = v1; steps = two_pauses; background = None };
  service = record {
    name = web;
    strategy = record { steps = two_pauses; background = None };
    bound = record { steps = replicate 4 None; background = None };
    stable = v1;
    version = v2;
    state = InProgress;
    step = 3;
    entered = b + 2;
    step_hold = false;
    background_hold = false;
    background = false;
    last = b + 2;
  };
  past = told (
      record { moment = b; event = Created v1 }
      ∷ record { moment = b + 1; event = Started v2 }
      ∷ record { moment = b + 1; event = WeightEntered 0 20 }
      ∷ record { moment = b + 1; event = PauseEntered 1 }
      ∷ record { moment = b + 2; event = Promoted }
      ∷ record { moment = b + 2; event = WeightEntered 2 50 }
      ∷ record { moment = b + 2; event = PauseEntered 3 }
      ∷ []
      );
})
paused_service = service_then (λ found. found) to_second_pause web _ refl

-- Moments that fall: a request is judged at the service's last moment, if that is later.

abbrev falling : List (ℕ × Command)
falling = (b + 9, add web (SetWeight 20 ∷ Pause None ∷ [])) ∷ (b + 3, Start web v2) ∷ (b + 12, Promote web) ∷ (b, Start web v3) ∷ []

falling_service : service_after falling web ≡ Some (record {
  made = record { name = web; version = v1; steps = SetWeight 20 ∷ Pause None ∷ []; background = None };
  service = record {
    name = web;
    strategy = record { steps = SetWeight 20 ∷ Pause None ∷ []; background = None };
    bound = record { steps = replicate 2 None; background = None };
    stable = v2;
    version = v3;
    state = InProgress;
    step = 1;
    entered = b + 12;
    step_hold = false;
    background_hold = false;
    background = false;
    last = b + 12;
  };
  past = told (
      record { moment = b + 9; event = Created v1 }
      ∷ record { moment = b + 9; event = Started v2 }
      ∷ record { moment = b + 9; event = WeightEntered 0 20 }
      ∷ record { moment = b + 9; event = PauseEntered 1 }
      ∷ record { moment = b + 12; event = Promoted }
      ∷ record { moment = b + 12; event = Finished v2 }
      ∷ record { moment = b + 12; event = Started v3 }
      ∷ record { moment = b + 12; event = WeightEntered 0 20 }
      ∷ record { moment = b + 12; event = PauseEntered 1 }
      ∷ []
      );
})
falling_service = service_then (λ found. found) falling web _ refl

-- A service without steps, one with weights alone, and one that begins with a pause.

abbrev without_pauses : List (ℕ × Command)
without_pauses =
    (b, add web []) ∷ (b, Start web v2)
    ∷ (b, add (codes "api") (SetWeight 5 ∷ SetWeight 100 ∷ [])) ∷ (b, Start (codes "api") v2)
    ∷ (b, add (codes "db") (Pause None ∷ SetWeight 7 ∷ [])) ∷ (b, Start (codes "db") v2) ∷ (b, Promote (codes "db"))
    ∷ []

without_pauses_replies : (machine no_desk without_pauses).replies ≡
    ok (codes "{\"code\":\"ok\",\"service\":\"web\",\"status\":\"Healthy\",\"step\":0,\"weight\":100}")
    ∷ ok (codes "{\"code\":\"ok\",\"service\":\"web\",\"status\":\"Healthy\",\"step\":0,\"weight\":100}")
    ∷ ok (codes "{\"code\":\"ok\",\"service\":\"api\",\"status\":\"Healthy\",\"step\":2,\"weight\":100}")
    ∷ ok (codes "{\"code\":\"ok\",\"service\":\"api\",\"status\":\"Healthy\",\"step\":2,\"weight\":100}")
    ∷ ok (codes "{\"code\":\"ok\",\"service\":\"db\",\"status\":\"Healthy\",\"step\":2,\"weight\":100}")
    ∷ ok (codes "{\"code\":\"ok\",\"service\":\"db\",\"status\":\"Paused\",\"step\":0,\"weight\":0}")
    ∷ ok (codes "{\"code\":\"ok\",\"service\":\"db\",\"status\":\"Healthy\",\"step\":2,\"weight\":100}")
    ∷ []
unfolding digits
without_pauses_replies = replies_from_nothing without_pauses _ refl

-- Weights alone are passed as the release starts, each reported in its turn.

abbrev weights_alone : List (ℕ × Command)
weights_alone = (b, add web (SetWeight 5 ∷ SetWeight 100 ∷ [])) ∷ (b + 4, Start web v2) ∷ []

weights_service : service_after weights_alone web ≡ Some (record {
  made = record { name = web; version = v1; steps = SetWeight 5 ∷ SetWeight 100 ∷ []; background = None };
  service = record {
    name = web;
    strategy = record { steps = SetWeight 5 ∷ SetWeight 100 ∷ []; background = None };
    bound = record { steps = replicate 2 None; background = None };
    stable = v2;
    version = v2;
    state = Done;
    step = 2;
    entered = b + 4;
    step_hold = false;
    background_hold = false;
    background = false;
    last = b + 4;
  };
  past = told (
      record { moment = b; event = Created v1 }
      ∷ record { moment = b + 4; event = Started v2 }
      ∷ record { moment = b + 4; event = WeightEntered 0 5 }
      ∷ record { moment = b + 4; event = WeightEntered 1 100 }
      ∷ record { moment = b + 4; event = Finished v2 }
      ∷ []
      );
})
weights_service = service_then (λ found. found) weights_alone web _ refl

-- A command that is refused passes no time, and one on another service changes nothing here.

abbrev refused_late : List (ℕ × Command)
refused_late =
    (b, add web (Pause None ∷ Pause None ∷ [])) ∷ (b, Start web v2)
    ∷ (b + 50, Start web v3)
    ∷ (b + 60, add (codes "api") []) ∷ (b + 70, Start (codes "api") v3)
    ∷ (b + 10, Promote web)
    ∷ []

refused_late_service : service_after refused_late web ≡ Some (record {
  made = record { name = web; version = v1; steps = Pause None ∷ Pause None ∷ []; background = None };
  service = record {
    name = web;
    strategy = record { steps = Pause None ∷ Pause None ∷ []; background = None };
    bound = record { steps = replicate 2 None; background = None };
    stable = v1;
    version = v2;
    state = InProgress;
    step = 1;
    entered = b + 10;
    step_hold = false;
    background_hold = false;
    background = false;
    last = b + 10;
  };
  past = told (
      record { moment = b; event = Created v1 }
      ∷ record { moment = b; event = Started v2 }
      ∷ record { moment = b; event = PauseEntered 0 }
      ∷ record { moment = b + 10; event = Promoted }
      ∷ record { moment = b + 10; event = PauseEntered 1 }
      ∷ []
      );
})
refused_late_service = service_then (λ found. found) refused_late web _ refl

-- A new service entered its last step, and was judged last, at the moment of its command.

abbrev late : List (ℕ × Command)
late = (b + 7, add web two_pauses) ∷ []

new_service_of : service_after late web ≡ Some (record {
  made = record { name = web; version = v1; steps = two_pauses; background = None };
  service = record {
    name = web;
    strategy = record { steps = two_pauses; background = None };
    bound = record { steps = replicate 4 None; background = None };
    stable = v1;
    version = v1;
    state = Done;
    step = 4;
    entered = b + 7;
    step_hold = false;
    background_hold = false;
    background = false;
    last = b + 7;
  };
  past = told (record { moment = b + 7; event = Created v1 } ∷ []);
})
new_service_of = service_then (λ found. found) late web _ refl

-- Two weights in a row are passed at once, and the later one counts.

abbrev two_weights : List (ℕ × Command)
two_weights = (b, add web (SetWeight 5 ∷ SetWeight 40 ∷ Pause None ∷ [])) ∷ (b + 3, Start web v2) ∷ []

two_weights_replies : (machine no_desk two_weights).replies ≡
    ok (codes "{\"code\":\"ok\",\"service\":\"web\",\"status\":\"Healthy\",\"step\":3,\"weight\":100}")
    ∷ ok (codes "{\"code\":\"ok\",\"service\":\"web\",\"status\":\"Paused\",\"step\":2,\"weight\":40}")
    ∷ []
unfolding digits
two_weights_replies = replies_from_nothing two_weights _ refl

-- A service with a run of the background, measured once, and ended by an abort.

abbrev good_at_first : Recorded
good_at_first = record { run = 1; metric = 0; ordinal = 1; taken = b + 5; outcome = Result (Whole (pos 7)); phase = Successful }

abbrev measured_once : List (ℕ × Command)
measured_once = background_setup ++ ((b + 5, report (result m 1 (b + 5) 7 refl)) ∷ (b + 9, Abort web) ∷ [])

measured_service : service_after measured_once web ≡ Some (record {
  made = record { name = web; version = v1; steps = SetWeight 20 ∷ Pause None ∷ []; background = background (codes "errs") 0 };
  service = record {
    name = web;
    strategy = record { steps = SetWeight 20 ∷ Pause None ∷ []; background = background (codes "errs") 0 };
    bound = record { steps = replicate 2 None; background = Some (record { revisions = record { template = codes "errs"; number = 1 } ∷ []; metrics = bound_metric [] (every (metric m) 60) ∷ [] }) };
    stable = v1;
    version = v2;
    state = Aborted;
    step = 1;
    entered = b;
    step_hold = false;
    background_hold = false;
    background = true;
    last = b + 9;
  };
  past = record {
    runs = record {
      number = 1;
      step = None;
      analysis = record { revisions = record { template = codes "errs"; number = 1 } ∷ []; metrics = bound_metric [] (every (metric m) 60) ∷ [] };
      started = b;
      closed = Some (record { run = 1; at = b + 9; outside = true; verdict = Successful });
      lists = (good_at_first ∷ []) ∷ [];
    } ∷ [];
    measurements = good_at_first ∷ [];
    history = record { moment = b; event = Created v1 }
        ∷ record { moment = b; event = Started v2 }
        ∷ record { moment = b; event = BackgroundOpened 1 }
        ∷ record { moment = b; event = WeightEntered 0 20 }
        ∷ record { moment = b; event = PauseEntered 1 }
        ∷ record { moment = b + 9; event = AbortedLine }
        ∷ record { moment = b + 9; event = Ended 1 Successful }
        ∷ [];
  };
})
measured_service = service_then (λ found. found) measured_once web _ refl

-- The weight is that of step 0 at step 0, and none is set before it.

-- with no runs
abbrev standing : ServiceState → Evolution
standing s = stored_evolution (record { service = s; runs = no_runs })

of_two_pauses : ServiceState
of_two_pauses = new_service_state (record { name = web; version = v1; steps = two_pauses; background = None }) b

weight_at_first_step : weight (record of_two_pauses { state = InProgress; step = 0 }) ≡ 20
unfolding of_two_pauses
weight_at_first_step = refl

weight_before_any : weight (record (new_service_state (record { name = web; version = v1; steps = Pause None ∷ SetWeight 20 ∷ []; background = None }) b) { state = InProgress; step = 0 }) ≡ 0
weight_before_any = refl

-- A start is refused with the stable version, and not with the version that the service shows.

start_with_stable : start_refusal_at (standing (record of_two_pauses { version = v2 })) v1 ≡ Some AlreadyStable
unfolding of_two_pauses
start_with_stable = refl

start_with_shown : start_refusal_at (standing (record of_two_pauses { version = v2 })) v2 ≡ None
unfolding of_two_pauses
start_with_shown = refl

-- A promotion is refused if the release is done, and then if it is not at a pause.

at_weight : ServiceState
at_weight = record (new_service_state (record { name = web; version = v1; steps = two_pauses; background = None }) b) { state = InProgress; step = 2 }

not_paused : promote_refusal at_weight ≡ Some NotPaused
unfolding at_weight
not_paused = refl

not_in_progress : promote_refusal (record at_weight { state = Done }) ≡ Some NotInProgress
unfolding at_weight
not_in_progress = refl

-- What is tracked of a past: a run is opened, measured and closed.

-- an analysis of two metrics
abbrev of_two : AnalysisParts
of_two = record { revisions = []; metrics = replicate 2 (bound_metric [] (metric m)) }

abbrev run_of_two : Opening
run_of_two = record { run = 1; step = Some 1; analysis = of_two; started = b }

abbrev good : Recorded
good = record { run = 1; metric = 1; ordinal = 1; taken = b + 5; outcome = Result (Whole (pos 7)); phase = Successful }

one_open : tracked (past_with_all no_past (RunOpened run_of_two ∷ MeasurementRecorded good ∷ [])) ≡ record {
  count = 1;
  open_runs = record { number = 1; step = Some 1; analysis = of_two; started = b; tallies = counts [] ∷ with_one_more (counts []) Successful (b + 5) ∷ [] } ∷ [];
}
one_open = refl

none_open : tracked (past_with_all no_past (RunOpened run_of_two ∷ RunClosed (record { run = 1; at = b + 9; outside = true; verdict = Successful }) [] ∷ [])) ≡ record { count = 1; open_runs = [] }
none_open = refl
