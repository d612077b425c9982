-- A run that is opened has a tally for each metric, and is not judged.
use Rattle.std.proofs.Common.{◌≡◌, ℕ, zero, suc, ◌≤◌, List, [], ◌∷◌, length, refl, ap, sym, ◌∙◌, arith, subst}
use Rattle.std.specs.Prelude.{Bool, true, false, cond, not, ◌&&◌, ◌||◌, ◌==◌, nat_lt, nat_le, if◌then◌else◌, IsTrue, map, replicate, slice_get, is_none, Option, Some, None}
use Rattle.std.specs.List.{list_any, list_all, zip}
use Rattle.std.specs.Cmp.Lexicographic.{pointwise}
use Rattle.std.proofs.lemmas.Slice.Eq.{bytes_eq-Decides}
use Rattle.std.proofs.lemmas.Bool.Decides.{nat_tests}
use Rattle.canary_condition.specs.declared.outcome.Phase.{Phase}
use Rattle.canary_condition.specs.declared.outcome.Phase.TheVariants.{Pending, Running}
use Rattle.canary_metric.specs.Metrics.{MetricValue, count_or_one}
use Rattle.canary_metric.specs.Counts.{Counts, counts}
use Rattle.canary_metric.specs.MetricPhases.{is_reached, phase_of_counts, is_completed}
use Rattle.canary_metric.specs.Verdicts.{MetricCounts, counted_phase, judging, is_bad, is_closing, are_completed, worst_of, verdict_of_counts}
use Rattle.canary_plan.specs.declared.step.Step.{Step}
use Rattle.canary_plan.specs.declared.step.Step.TheVariants.{SetWeight, Pause, Analysis}
use Rattle.canary_plan.specs.declared.service.Background.{Background}
use Rattle.canary_plan.specs.declared.analysis_parts.AnalysisParts.{AnalysisParts}
use Rattle.canary_plan.specs.declared.bound.BoundParts.{BoundParts}
use Rattle.canary_plan.specs.declared.strategy.CheckedStrategy.{CheckedStrategy}
use Rattle.canary_plan.specs.declared.analysis_parts.Revision.{Revision}
use Rattle.canary_plan.specs.Fit.{are_metrics_of_run, is_at_least_one, asks_for_some, have_counts}
use Rattle.canary_plan.specs.Plans.{analysis_if, analysis_at, analysis_or_none, is_within_limits, is_background_within_limits, is_accepted, is_fit_if, are_fit}
use Rattle.canary_release.specs.declared.state.ServiceState.{ServiceState}
use Rattle.canary_release.specs.declared.runs.OpenRun.{OpenRun}
use Rattle.canary_release.specs.Watching.{opened_now}
use Rattle.canary_release.specs.Evolutions.{run_verdict}
use Rattle.canary_release.specs.Parts.{has_wrong_tallies, same_revision, is_bound_otherwise, is_bound_to, is_step_bound, is_background_bound, is_bound}

-- no measurements
abbrev nothing : Counts
nothing = counts []

unreached : (o interval : Option ℕ) → is_at_least_one o ≡ true → is_reached (count_or_one o interval) 0 ≡ false
unreached (Some n) interval h = grind (arith, nat_tests)
unreached None None h = refl
unreached None (Some d) h = refl

none_below : (n : ℕ) → nat_lt n 0 ≡ false
none_below n = grind (arith, nat_tests)

unpassed : (o : Option ℕ) → is_at_least_one o ≡ true → is_reached o 0 ≡ false
unpassed (Some n) h = grind (arith, nat_tests)
unpassed None h = refl

pub and_left : (a b : Bool) → (a && b) ≡ true → a ≡ true
and_left true b h = refl
and_left false b h = cc h

pub and_right : (a b : Bool) → (a && b) ≡ true → b ≡ true
and_right true b h = h
and_right false b h = cc h

-- a metric with no measurements is pending
pending : (m : MetricValue) → asks_for_some m ≡ true → phase_of_counts m nothing false ≡ Pending
pending m h =
    let counted = and_left (is_at_least_one m.count) (is_at_least_one m.pass_after) h in
    let passed = and_right (is_at_least_one m.count) (is_at_least_one m.pass_after) h in
    rw (none_below m.failure_limit, none_below m.inconclusive_limit, none_below m.consecutive_error_limit, unpassed m.pass_after passed, unreached m.count m.interval counted) refl

-- metrics with no measurements
abbrev unmeasured : List MetricValue → List MetricCounts
unmeasured ms = zip ms (replicate (length ms) nothing)

none_bad : (ms : List MetricValue) → have_counts ms ≡ true → list_any (λ w. is_bad (counted_phase false w)) (judging (unmeasured ms)) ≡ false
none_bad [] h = refl
none_bad (m ∷ ms) h =
    let rest = none_bad ms (and_right (asks_for_some m) (have_counts ms) h) in
    let first = pending m (and_left (asks_for_some m) (have_counts ms) h) in
    elim m.dry_run as (λ b. list_any (λ w. is_bad (counted_phase false w)) (cond (not b) ((m, nothing) ∷ judging (unmeasured ms)) (judging (unmeasured ms))) ≡ false)
    [ true ↦ rest | false ↦ ap (λ p. is_bad p || list_any (λ w. is_bad (counted_phase false w)) (judging (unmeasured ms))) first ∙ rest ]

some_incomplete : (ms : List MetricValue) → 1 ≤ length ms → have_counts ms ≡ true → are_completed (unmeasured ms) ≡ false
some_incomplete [] some h = absurd (omega arith)
some_incomplete (m ∷ ms) some h = ap (λ p. is_completed p && are_completed (unmeasured ms)) (pending m (and_left (asks_for_some m) (have_counts ms) h))

undecided : (closing completed : Bool) (p : Bool → Phase) → closing ≡ false → completed ≡ false → (if closing || completed then p closing else Running) ≡ Running
undecided closing completed p g h = rw (g, h) refl

running : (ms : List MetricValue) → 1 ≤ length ms → have_counts ms ≡ true → verdict_of_counts false (unmeasured ms) ≡ Running
running ms some h = undecided (is_closing false (unmeasured ms)) (are_completed (unmeasured ms)) (λ b. worst_of (map (counted_phase b) (judging (unmeasured ms)))) (none_bad ms h) (some_incomplete ms some h)

-- a strategy, and what it is bound to
pub record Basis : Type 0 where
  pub strategy : CheckedStrategy
  pub bound : BoundParts

abbrev pub basis : ServiceState → Basis
basis s = record { strategy = s.strategy; bound = s.bound }

-- an analysis that is bound, and fit for runs
pub record HasAnalysis (b : BoundParts) (step : Option ℕ) : Type 0 where
  pub analysis : AnalysisParts
  pub found : analysis_at b step ≡ Some analysis
  pub some : 1 ≤ length analysis.metrics
  pub counted : have_counts analysis.metrics ≡ true

-- a run that is opened, of its analysis
abbrev pub new_run : BoundParts → ℕ → Option ℕ → ℕ → OpenRun
new_run b number step at = opened_now (record { run = number; step = step; analysis = analysis_or_none b step; started = at })

length-copies : {X : Type 0} (n : ℕ) (x : X) → length (replicate n x) ≡ n
length-copies zero x = refl
length-copies (suc n) x = ap suc (length-copies n x)

same : (n : ℕ) → (n == n) ≡ true
same n = grind (arith, nat_tests)

one_each : (ms : List MetricValue) → not (length ms == length (replicate (length ms) nothing)) ≡ false
one_each ms = rw (length-copies (length ms) nothing) (ap not (same (length ms)))

pub new_fits : (b : BoundParts) (number : ℕ) (step : Option ℕ) (at : ℕ) → has_wrong_tallies (new_run b number step at) ≡ false
new_fits b number step at = one_each (analysis_or_none b step).metrics

pub new_is_open : (b : BoundParts) (number : ℕ) (step : Option ℕ) (at : ℕ) → HasAnalysis b step → is_completed (run_verdict false (new_run b number step at)) ≡ false
new_is_open b number step at has = rw has.found (ap is_completed (running has.analysis.metrics has.some has.counted))

itself : (r : Revision) → same_revision r r ≡ true
itself r = rw ((bytes_eq-Decides r.template r.template).1 refl, same r.number) refl

themselves : (rs : List Revision) → pointwise same_revision rs rs ≡ true
themselves [] = refl
themselves (r ∷ rs) = rw (itself r) (themselves rs)

pub new_is_same : (b : BoundParts) (number : ℕ) (step : Option ℕ) (at : ℕ) → HasAnalysis b step → is_bound_otherwise (analysis_at b step) (new_run b number step at).analysis ≡ false
new_is_same b number step at has = rw has.found (ap not (themselves has.analysis.revisions))

at_least_one : (ms : List MetricValue) → are_metrics_of_run ms ≡ true → 1 ≤ length ms
at_least_one ms h = let one = and_left (nat_le 1 (length ms)) (nat_le (length ms) 32) h in grind (arith, nat_tests)

-- an accepted strategy, bound to analyses that are fit for runs
pub record Accepted (b : Basis) : Type 0 where
  pub short : length b.strategy.steps ≤ 64
  pub fit : are_fit b.bound ≡ true

up_to : (a b : ℕ) → nat_le a b ≡ true → a ≤ b
up_to a b h = grind (arith, nat_tests)

pub accepted : (b : Basis) → IsTrue (is_accepted b.strategy) → IsTrue (are_fit b.bound) → Accepted b
accepted b h fit =
    record {
      short = up_to (length b.strategy.steps) 64 (and_left (nat_le (length b.strategy.steps) 64) (list_all is_within_limits b.strategy.steps && is_background_within_limits b.strategy.background) h);
      fit = fit;
    }

-- of what is bound and fit
found_fit : (b : BoundParts) (step : Option ℕ) (names : List (List ℕ)) (o : Option AnalysisParts) → analysis_at b step ≡ o → is_bound_to names o ≡ true → is_fit_if o ≡ true → HasAnalysis b step
found_fit b step names None is bound fit = cc bound
found_fit b step names (Some a) is bound fit =
    record {
      analysis = a;
      found = is;
      some = at_least_one a.metrics (and_left (are_metrics_of_run a.metrics) (have_counts a.metrics) fit);
      counted = and_right (are_metrics_of_run a.metrics) (have_counts a.metrics) fit;
    }

pub background_analysis : (s : ServiceState) (b : Background) → Accepted (basis s) → is_bound s ≡ true → s.strategy.background ≡ Some b → HasAnalysis s.bound None
background_analysis s b acc bound e =
    let behind = and_right (pointwise is_step_bound s.strategy.steps s.bound.steps) (is_background_bound s.strategy.background s.bound.background) bound in
    let fit = and_right (list_all is_fit_if s.bound.steps) (is_fit_if s.bound.background) acc.fit in
    found_fit s.bound None b.templates s.bound.background refl (subst (λ o. is_background_bound o s.bound.background ≡ true) e behind) fit

-- the analysis of a step, by its place
record Listed (names : List (List ℕ)) (o : Option AnalysisParts) : Type 0 where
  bound : is_bound_to names o ≡ true
  fit : is_fit_if o ≡ true

bound_step : (step : Step) (names : List (List ℕ)) (a : Option AnalysisParts) → step ≡ Analysis names → is_step_bound step a ≡ true → is_bound_to names a ≡ true
bound_step step names a e h = subst (λ x. is_step_bound x a ≡ true) e h

listed : (steps : List Step) (found : List (Option AnalysisParts)) (i : ℕ) (names : List (List ℕ)) → pointwise is_step_bound steps found ≡ true → list_all is_fit_if found ≡ true → slice_get steps i ≡ Some (Analysis names) → Listed names (analysis_if (slice_get found i))
listed [] found i names f g h = cc h
listed (s ∷ ss) [] i names f g h = cc f
listed (s ∷ ss) (a ∷ rest) zero names f g h =
    let is : s ≡ Analysis names = cc h in
    record {
      bound = bound_step s names a is (and_left (is_step_bound s a) (pointwise is_step_bound ss rest) f);
      fit = and_left (is_fit_if a) (list_all is_fit_if rest) g;
    }
listed (s ∷ ss) (a ∷ rest) (suc i) names f g h =
    listed ss rest i names (and_right (is_step_bound s a) (pointwise is_step_bound ss rest) f) (and_right (is_fit_if a) (list_all is_fit_if rest) g) h

pub step_analysis : (s : ServiceState) (i : ℕ) (names : List (List ℕ)) → Accepted (basis s) → is_bound s ≡ true → slice_get s.strategy.steps i ≡ Some (Analysis names) → HasAnalysis s.bound (Some i)
step_analysis s i names acc bound e =
    let steps = and_left (pointwise is_step_bound s.strategy.steps s.bound.steps) (is_background_bound s.strategy.background s.bound.background) bound in
    let fit = and_left (list_all is_fit_if s.bound.steps) (is_fit_if s.bound.background) acc.fit in
    let l = listed s.strategy.steps s.bound.steps i names steps fit e in
    found_fit s.bound (Some i) names (analysis_at s.bound (Some i)) refl l.bound l.fit

-- if a step is no analysis, none is bound at it
pub no_analysis_at : (steps : List Step) (found : List (Option AnalysisParts)) (i : ℕ) (step : Step) → pointwise is_step_bound steps found ≡ true → slice_get steps i ≡ Some step → ((names : List (List ℕ)) → step ≡ Analysis names → ⊥) → is_none (analysis_if (slice_get found i)) ≡ true
no_analysis_at [] found i step f h other = cc h
no_analysis_at (s ∷ ss) [] i step f h other = cc f
no_analysis_at (s ∷ ss) (a ∷ rest) zero step f h other = by s (cc h) (and_left (is_step_bound s a) (pointwise is_step_bound ss rest) f)
  where
    by : (x : Step) → x ≡ step → is_step_bound x a ≡ true → is_none a ≡ true
    by (SetWeight percent) e g = g
    by (Pause seconds) e g = g
    by (Analysis names) e g = absurd (other names (sym e))
no_analysis_at (s ∷ ss) (a ∷ rest) (suc i) step f h other = no_analysis_at ss rest i step (and_right (is_step_bound s a) (pointwise is_step_bound ss rest) f) h other
