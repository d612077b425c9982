-- Reports and all other commands bring allowed effects alone.
use Rattle.std.proofs.Common.{◌≡◌, ℕ, zero, suc, ◌+◌, ◌≤◌, List, [], ◌∷◌, ◌++◌, length, Bool, true, false, refl, ap, sym, ◌∙◌, subst, arith, eqb-true, true≢false}
use Rattle.std.specs.Prelude.{◌==◌, ◌||◌, nat_lt, nat_le, not, if◌then◌else◌, Option, Some, None, slice_get, option_map, Result, Ok, Err}
use Rattle.std.specs.List.{find, list_any, last_or}
use Rattle.std.specs.Str.{bytes_eq}
use Rattle.std.proofs.lemmas.Slice.Eq.{bytes_eq-Decides}
use Rattle.std.proofs.lemmas.Bool.Decides.{nat_tests}
use Rattle.canary_metric.specs.Metrics.{MetricValue}
use Rattle.canary_metric.specs.Counts.{Counts, size}
use Rattle.canary_metric.specs.MetricPhases.{phase_of_counts, is_completed, due_of_counts}
use Rattle.canary_plan.specs.declared.report.Entry.{Entry}
use Rattle.canary_plan.specs.declared.strategy.CheckedStrategy.{CheckedStrategy}
use Rattle.canary_plan.specs.declared.command.Command.{Command}
use Rattle.canary_plan.specs.declared.command.Command.TheVariants.{Template as AddTemplate, Service as AddService, Start, Promote, PromoteFull, Abort, Retry, Tick, Report}
use Rattle.canary_plan.specs.declared.line.LineEvent.{LineEvent}
use Rattle.canary_plan.specs.declared.line.LineEvent.TheVariants.{Started, Retried, Promoted, PromotedFull, Aborted as AbortLine}
use Rattle.canary_plan.specs.declared.refusal.Refusal.{Refusal}
use Rattle.canary_plan.specs.declared.refusal.Refusal.TheVariants.{RepeatedMetric, MetricClosed, AlreadyRecorded, OutOfTurn, Spent, Future, TooEarly, NotInProgress, NotPaused}
use Rattle.canary_plan.specs.declared.template.Template.{Template}
use Rattle.canary_plan.specs.Plans.{bound_of}
use Rattle.canary_plan.specs.PlanRefusals.{bound_refusal}
use Rattle.canary_plan.specs.Refusals.{first_that_holds, or_refusal}
use Rattle.canary_release.specs.declared.effect.Recorded.{Recorded}
use Rattle.canary_release.specs.declared.effect.Effect.TheVariants.{MeasurementRecorded}
use Rattle.canary_release.specs.declared.runs.OpenRun.{OpenRun}
use Rattle.canary_release.specs.declared.runs.Runs.{Runs}
use Rattle.canary_release.specs.declared.state.ServiceState.{ServiceState}
use Rattle.canary_release.specs.declared.state.ReleaseState.TheVariants.{InProgress}
use Rattle.canary_release.specs.Pasts.{change_at}
use Rattle.canary_release.specs.Watching.{counted, counted_in}
use Rattle.canary_release.specs.Evolutions.{Evolution, with_service_state, apply_effect, tell, runs_now, has_number, open_run_now}
use Rattle.canary_release.specs.Rules.Entering.{without_holds}
use Rattle.canary_release.specs.Rules.Passing.{pass, judged_at}
use Rattle.canary_release.specs.Rules.Reports.{Place, place_from, place_of, names_metric, entry_refusal_at, entry_refusal, entries_refusal, report_refusal, recorded_at, recorded_if, brought, record_all, report_on}
use Rattle.canary_release.specs.Rules.Commands.{ModelResult, unless, succeeds_with, reports, reports_if, is_progressing, start_refusal_at, retry_refusal_at, start_refusal, retry_refusal, promote_refusal, progress_refusal, begun, begin, started_at, start, retry, promoted_to, promote, promote_full, abort_by_command, act}
use Rattle.canary_release.specs.Desks.{RevisionMap, revisions_of, newest, passed_on, act_passed}
use Rattle.canary_release.specs.Services.{is_in_progress, status}
use Rattle.canary_release.specs.Order.{at_revision, known_by, IsBoundIn}
use Rattle.canary_release.proofs.PartsBinding.{bound_where_not_refused}
use Rattle.canary_release.proofs.PartsReports.{found_going}
use Rattle.canary_release.proofs.Keeping.{recorded_service_state}
use Rattle.canary_release.proofs.OrderingBasics.{both_none, found_passes, found_mapped, some_same, neither, row_false}
use Rattle.canary_release.proofs.OrderingAllowed.{IsNumbered, IsFollowing, counted_number, follows_on, now_after, stands_on, as_bound}
use Rattle.canary_release.proofs.OrderingWalk.{told, entered, aborted, passed, assessed}

-- Where an entry's measurement belongs.

-- a metric and its tally stand at one place, and the metric has that name
pub record StandsAt (name : List ℕ) (ms : List MetricValue) (ts : List Counts) (k : ℕ) (p : Place) : Type 0 where
  pub metric : slice_get ms k ≡ Some p.metric
  pub tally : slice_get ts k ≡ Some p.tally
  pub named : p.metric.name ≡ name

place_found : (n : ℕ) (name : List ℕ) (ms : List MetricValue) (ts : List Counts) (p : Place) → place_from n name ms ts ≡ Some p → (k : ℕ) × (p.place ≡ n + k) × StandsAt name ms ts k p
place_found n name [] ts p e = cc e
place_found n name (m ∷ ms) [] p e = cc e
place_found n name (m ∷ ms) (t ∷ ts) p e =
    let here : Place = record { place = n; metric = m; tally = t } in
    elim (bytes_eq m.name name)
    as (λ b. bytes_eq m.name name ≡ b → ◌≡◌ {A = Option Place} (if b then Some here else place_from (n + 1) name ms ts) (Some p) → (k : ℕ) × (p.place ≡ n + k) × StandsAt name (m ∷ ms) (t ∷ ts) k p) [
      | true ↦ λ b f.
          let same : here ≡ p = some_same here p f in (
            0,
            ap (λ (q : Place). q.place) (sym same) ∙ omega arith,
            record { metric = λ i. Some (same i).metric; tally = λ i. Some (same i).tally; named = ap (λ (q : Place). q.metric.name) (sym same) ∙ (bytes_eq-Decides m.name name).0 b },
          )
      | false ↦ λ b f.
          let h = place_found (n + 1) name ms ts p f in
          let at : p.place ≡ n + 1 + h.0 = h.1 in
          let found : StandsAt name ms ts h.0 p = h.2 in
          (suc h.0, omega (arith, at), record { metric = found.metric; tally = found.tally; named = found.named })
    ] refl e

-- Another place is left as it was.
other_place : {A : Type 0} (k p : ℕ) (f : A → A) (xs : List A) → (k ≡ p → ⊥) → slice_get (change_at p f xs) k ≡ slice_get xs k
other_place k p f [] differ = refl
other_place zero zero f (x ∷ xs) differ = absurd (differ refl)
other_place zero (suc p) f (x ∷ xs) differ = refl
other_place (suc k) zero f (x ∷ xs) differ = refl
other_place (suc k) (suc p) f (x ∷ xs) differ = other_place k p f xs (λ e. differ (ap suc e))

counted_analysis : (x : Recorded) (r : OpenRun) → (counted_in x r).analysis ≡ r.analysis
counted_analysis x r =
    elim (r.number == x.run)
    as (λ b. (let q : OpenRun = (if b then record r { tallies = change_at x.metric (counted x) r.tallies } else r) in q).analysis ≡ r.analysis)
    [ true ↦ refl | false ↦ refl ]

other_tally : (x : Recorded) (r : OpenRun) (k : ℕ) → (k ≡ x.metric → ⊥) → slice_get (counted_in x r).tallies k ≡ slice_get r.tallies k
other_tally x r k differ =
    elim (r.number == x.run)
    as (λ b. slice_get (let q : OpenRun = (if b then record r { tallies = change_at x.metric (counted x) r.tallies } else r) in q).tallies k ≡ slice_get r.tallies k)
    [ true ↦ other_place k x.metric (counted x) r.tallies differ | false ↦ refl ]

-- What an entry that isn't refused says.

pub record IsGood (before : List Entry) (e : Entry) (p : Place) : Type 0 where
  pub first : list_any (names_metric e.metric) before ≡ false
  pub next : e.ordinal ≡ size p.tally + 1
  pub room : size p.tally + 1 ≤ 1000000

good_entry : (started t : ℕ) (before : List Entry) (e : Entry) (p : Place) → entry_refusal_at started t before e p ≡ None → IsGood before e p
good_entry started t before e p none =
    let at = length before in
    let n = size p.tally in
    let due = due_of_counts p.metric started p.tally in
    let rows5 : List (Bool × Refusal) = (nat_lt t e.taken, Future at) ∷ (nat_lt e.taken due, TooEarly at due) ∷ [] in
    let rows4 : List (Bool × Refusal) = (nat_le 1000000 n, Spent at) ∷ rows5 in
    let rows3 : List (Bool × Refusal) = (nat_lt (n + 1) e.ordinal, OutOfTurn at (n + 1)) ∷ rows4 in
    let rows2 : List (Bool × Refusal) = (nat_le e.ordinal n, AlreadyRecorded at) ∷ rows3 in
    let rows1 : List (Bool × Refusal) = (is_completed (phase_of_counts p.metric p.tally false), MetricClosed at) ∷ rows2 in
    let h0 = row_false (list_any (names_metric e.metric) before) (RepeatedMetric at) rows1 none in
    let h1 = row_false (is_completed (phase_of_counts p.metric p.tally false)) (MetricClosed at) rows2 h0.1 in
    let h2 = row_false (nat_le e.ordinal n) (AlreadyRecorded at) rows3 h1.1 in
    let h3 = row_false (nat_lt (n + 1) e.ordinal) (OutOfTurn at (n + 1)) rows4 h2.1 in
    let h4 = row_false (nat_le 1000000 n) (Spent at) rows5 h3.1 in
    record { first = h0.0; next = in_turn e.ordinal n h2.0 h3.0; room = not_spent n h4.0 }
  where
    in_turn : (o n : ℕ) → nat_le o n ≡ false → nat_lt (n + 1) o ≡ false → o ≡ n + 1
    in_turn o n a b = grind (arith, nat_tests, a, b)

    not_spent : (n : ℕ) → nat_le 1000000 n ≡ false → n + 1 ≤ 1000000
    not_spent n a = grind (arith, nat_tests, a)

-- The tallies of metrics that no entry before names are as they were.
abbrev Untouched : List MetricValue → List Counts → List Entry → List Counts → Type 0
Untouched ms ts before now = (k : ℕ) (m : MetricValue) → slice_get ms k ≡ Some m → list_any (names_metric m.name) before ≡ false → slice_get now k ≡ slice_get ts k

none_more : (name : List ℕ) (before : List Entry) (e : Entry) → list_any (names_metric name) (before ++ e ∷ []) ≡ false → (list_any (names_metric name) before ≡ false) × (bytes_eq e.metric name ≡ false)
none_more name [] e h = (refl, (neither (bytes_eq e.metric name) false h).0)
none_more name (b ∷ before) e h =
    let one = neither (bytes_eq b.metric name) (list_any (names_metric name) (before ++ e ∷ [])) h in
    let rest = none_more name before e one.1 in
    (ap (λ t. t || list_any (names_metric name) before) one.0 ∙ rest.0, rest.1)

-- the newest revisions are revisions that there are
last_at : (t : Template) (ts : List Template) → slice_get (t ∷ ts) (length ts) ≡ last_or (Some t) ts
last_at t [] = refl
last_at t (u ∷ ts) = last_at u ts

newest_at : (ts : List Template) → at_revision ts (Some (length ts)) ≡ last_or None ts
newest_at [] = refl
newest_at (t ∷ ts) = last_at t ts

pub newest_bound : (ts : RevisionMap) (st : CheckedStrategy) (d : ServiceState) → d.strategy ≡ st → d.bound ≡ bound_of (newest ts) st → IsBoundIn ts d
newest_bound ts st d same bound =
    let binding : List ℕ → Option ℕ = λ name. Some (length (revisions_of ts name)) in
    let is : newest ts ≡ known_by ts binding = λ i name. sym (newest_at (revisions_of ts name)) i in
    record { binding = binding; bound = bound ∙ (λ i. bound_of (is i) (sym same i)) }

going_row : (g : Bool) (rows : List (Bool × Refusal)) → first_that_holds ((not g, NotInProgress) ∷ rows) ≡ None → g ≡ true
going_row true rows h = refl
going_row false rows h = cc h

module _ (ts : RevisionMap) (s : ServiceState) (w : Runs) (numbered : IsNumbered w) where
  -- entries that aren't refused are recorded, one after another
  recorded : (r : OpenRun) (t : ℕ) (before es : List Entry) (c : Evolution) (now : OpenRun) → IsFollowing ts s w c → open_run_now c r.number ≡ Some now → now.analysis ≡ r.analysis → Untouched r.analysis.metrics r.tallies before now.tallies → entries_refusal r.analysis.metrics r t before es ≡ None → IsFollowing ts s w (record_all c (brought r.analysis.metrics r es))
  recorded r t before [] c now f found same untouched none = f
  recorded r t before (e ∷ es) c now f found same untouched none =
      let ms = r.analysis.metrics in
      elim (place_of ms r e)
      as (λ o. place_of ms r e ≡ o → or_refusal (entry_refusal r.started t before e o) (entries_refusal ms r t (before ++ e ∷ []) es) ≡ None → IsFollowing ts s w (record_all c (recorded_if r e o ++ brought ms r es))) [
        | None ↦ λ at h. cc h
        | Some p ↦ λ at h.
            let halves = both_none (entry_refusal_at r.started t before e p) (entries_refusal ms r t (before ++ e ∷ []) es) h in
            let good : IsGood before e p = good_entry r.started t before e p halves.0 in
            let place = place_found 0 e.metric ms r.tallies p at in
            let k : ℕ = place.0 in
            let stands : StandsAt e.metric ms r.tallies k p = place.2 in
            let is_k : p.place ≡ k = omega (arith, place.1) in
            let x : Recorded = recorded_at r e p in
            let unnamed : list_any (names_metric p.metric.name) before ≡ false = ap (λ (name : List ℕ). list_any (names_metric name) before) stands.named ∙ good.first in
            let is_metric : slice_get now.analysis.metrics p.place ≡ Some p.metric = (λ i. slice_get (same i).metrics (is_k i)) ∙ stands.metric in
            let is_tally : slice_get now.tallies p.place ≡ Some p.tally = ap (slice_get now.tallies) is_k ∙ untouched k p.metric stands.metric unnamed ∙ stands.tally in
            let more : IsFollowing ts s w (apply_effect c (MeasurementRecorded x)) =
            follows_on ts s w c (MeasurementRecorded x) f (record { run = now; found = found; metric = p.metric; is_metric = is_metric; tally = p.tally; is_tally = is_tally; next = good.next; room = good.room; judged = refl }) in
            let after : open_run_now (apply_effect c (MeasurementRecorded x)) r.number ≡ Some (counted_in x now) =
            ap (λ (v : Runs). find (has_number r.number) v.open_runs) (now_after ts s w c (MeasurementRecorded x) f)
            ∙ found_mapped (has_number r.number) (counted_in x) (λ q. ap (λ n. n == r.number) (counted_number x q)) (runs_now c).open_runs
            ∙ ap (option_map (counted_in x)) found in
            let still : Untouched ms r.tallies (before ++ e ∷ []) (counted_in x now).tallies =
            λ j m there unnamed_j.
            let parts = none_more m.name before e unnamed_j in
            let differ : j ≡ p.place → ⊥ = λ is.
            let one : m ≡ p.metric = some_same m p.metric (sym there ∙ ap (slice_get ms) (is ∙ is_k) ∙ stands.metric) in
            true≢false (sym ((bytes_eq-Decides e.metric m.name).1 (sym stands.named ∙ ap (λ (q : MetricValue). q.name) (sym one))) ∙ parts.1) in
            other_tally x now j differ ∙ untouched j m there parts.0 in
            recorded r t (before ++ e ∷ []) es (apply_effect c (MeasurementRecorded x)) (counted_in x now) more after (counted_analysis x now ∙ same) still halves.1
      ] refl none

  reported : (c : Evolution) (run : ℕ) (r : OpenRun) (es : List Entry) (t : ℕ) → is_in_progress c.service.state ≡ true → IsFollowing ts s w c → open_run_now c run ≡ Some r → entries_refusal r.analysis.metrics r t [] es ≡ None → IsFollowing ts s w (report_on c r es t)
  reported c run r es t g f found none =
      let ms = r.analysis.metrics in
      let all : Evolution = record_all c (brought ms r es) in
      let number : r.number ≡ run = eqb-true r.number run (found_passes (has_number run) (runs_now c).open_runs r found) in
      let there : open_run_now c r.number ≡ Some r = ap (open_run_now c) number ∙ found in
      let fa : IsFollowing ts s w all = recorded r t [] es c r f there refl (λ k m e h. refl) none in
      let stands : all.service ≡ c.service = recorded_service_state c (brought ms r es) in
      assessed ts s w numbered all r.number (open_run_now all r.number) t (ap (λ (x : ServiceState). is_in_progress x.state) stands ∙ g) fa refl

  -- where a command leads, if it isn't refused
  abbrev FollowsIf : Result ModelResult Refusal → Type 0
  FollowsIf (Ok a) = IsFollowing ts s w a.evolution
  FollowsIf (Err refusal) = Unit {0}

  unless_follows : (refusal : Option Refusal) (a : ModelResult) → (refusal ≡ None → IsFollowing ts s w a.evolution) → FollowsIf (unless refusal a)
  unless_follows None a f = f refl
  unless_follows (Some refusal) a f = tt

  report_follows : (c : Evolution) (run : ℕ) (o : Option OpenRun) (es : List Entry) (t : ℕ) → (is_in_progress c.service.state ≡ false → (runs_now c).open_runs ≡ []) → IsFollowing ts s w c → open_run_now c run ≡ o → FollowsIf (unless (report_refusal c t run es o) (reports_if c o es t))
  report_follows c run None es t idle f e = tt
  report_follows c run (Some r) es t idle f e = unless_follows (entries_refusal r.analysis.metrics r t [] es) (reports c r es t) (λ none. reported c run r es t (found_going (is_in_progress c.service.state) (has_number run) (runs_now c).open_runs r idle e) f e none)

  begins : (c : Evolution) (t : ℕ) (version : List ℕ) (event : LineEvent) (i : ℕ) → bound_refusal (newest ts) c.service.strategy ≡ None → IsFollowing ts s w c → IsFollowing ts s w (begin (newest ts) c t version event i)
  begins c t version event i fine f =
      let d : Evolution = begun (newest ts) c version in
      let fd : IsFollowing ts s w d = stands_on ts s w c (record (without_holds c.service) { bound = bound_of (newest ts) c.service.strategy; version = version; state = InProgress; background = false }) f refl refl (newest_bound ts c.service.strategy d.service refl refl) (λ g. bound_where_not_refused (newest ts) c.service fine) in
      entered ts s w numbered (tell d t event) i t refl (told ts s w numbered d t event fd)

  promotes : (c : Evolution) (t : ℕ) → is_in_progress c.service.state ≡ true → IsFollowing ts s w c → IsFollowing ts s w (promote c t)
  promotes c t g f =
      let d : Evolution = with_service_state c (without_holds c.service) in
      entered ts s w numbered (tell d t Promoted) (promoted_to c.service) t g (told ts s w numbered d t Promoted (stands_on ts s w c (without_holds c.service) f refl refl (as_bound ts s w c (without_holds c.service) f refl refl) f.wholly))

  promotes_fully : (c : Evolution) (t : ℕ) → is_in_progress c.service.state ≡ true → IsFollowing ts s w c → IsFollowing ts s w (promote_full c t)
  promotes_fully c t g f = entered ts s w numbered (tell c t PromotedFull) (length c.service.strategy.steps) t g (told ts s w numbered c t PromotedFull f)

  aborts : (c : Evolution) (t : ℕ) → IsFollowing ts s w c → IsFollowing ts s w (abort_by_command c t)
  aborts c t f = aborted ts s w numbered (tell c t AbortLine) t (told ts s w numbered c t AbortLine f)

  acted : (command : Command) (c : Evolution) (t : ℕ) → (is_in_progress c.service.state ≡ false → (runs_now c).open_runs ≡ []) → IsFollowing ts s w c → FollowsIf (act (newest ts) command c t)
  acted (Start name version) c t idle f = unless_follows (start_refusal (newest ts) c version) (succeeds_with (start (newest ts) c t version)) (λ e. begins c t version (Started version) (started_at c.service version) (both_none (bound_refusal (newest ts) c.service.strategy) (start_refusal_at c version) e).0 f)
  acted (Promote name) c t idle f = unless_follows (promote_refusal c.service) (succeeds_with (promote c t)) (λ e. promotes c t (going_row (is_in_progress c.service.state) ((is_progressing (status c.service), NotPaused) ∷ []) e) f)
  acted (PromoteFull name) c t idle f = unless_follows (progress_refusal c.service) (succeeds_with (promote_full c t)) (λ e. promotes_fully c t (going_row (is_in_progress c.service.state) [] e) f)
  acted (Abort name) c t idle f = unless_follows (progress_refusal c.service) (succeeds_with (abort_by_command c t)) (λ e. aborts c t f)
  acted (Retry name) c t idle f = unless_follows (retry_refusal (newest ts) c) (succeeds_with (retry (newest ts) c t)) (λ e. begins c t c.service.version (Retried c.service.version) 0 (both_none (bound_refusal (newest ts) c.service.strategy) (retry_refusal_at c) e).0 f)
  acted (Tick name) c t idle f = f
  acted (Report report) c t idle f = report_follows c report.run (open_run_now c report.run) report.entries t idle f refl
  acted (AddService spec) c t idle f = tt
  acted (AddTemplate spec) c t idle f = tt

  passed_after : (r : Result ModelResult Refusal) (t : ℕ) → FollowsIf r → FollowsIf (passed_on r t)
  passed_after (Ok a) t f = passed ts s w numbered a.evolution t f
  passed_after (Err refusal) t f = tt

  -- no run is open of a service that is passed and not in progress
  abbrev pub IsIdle : Evolution → Type 0
  IsIdle c = is_in_progress c.service.state ≡ false → (runs_now c).open_runs ≡ []

  acted_passed : (command : Command) (c : Evolution) (now : ℕ) → IsIdle (pass c now) → IsFollowing ts s w c → FollowsIf (act_passed (newest ts) command c now)
  acted_passed command c now idle f =
      let t = judged_at c.service now in
      passed_after (act (newest ts) command (pass c now) t) t (acted command (pass c now) t idle (passed ts s w numbered c now f))

  -- a command that isn't refused brings allowed effects alone
  pub follows : (command : Command) (c : Evolution) (now : ℕ) (a : ModelResult) → IsIdle (pass c now) → IsFollowing ts s w c → act_passed (newest ts) command c now ≡ Ok a → IsFollowing ts s w a.evolution
  follows command c now a idle f e = subst FollowsIf e (acted_passed command c now idle f)
