-- The machine keeps a desk sound: each verdict is that of its run's measurements.
use Rattle.std.proofs.Common.{◌≡◌, ℕ, zero, suc, List, [], ◌∷◌, length, Bool, true, false, refl, ap, sym, ◌∙◌, subst, true≢false, eqb-true}
use Rattle.std.specs.Prelude.{◌==◌, ◌||◌, cond, if◌then◌else◌, Option, Some, None, slice_get, map, filter, replicate, is_none}
use Rattle.std.specs.List.{AllByRecursion, list_any, zip}
use Rattle.std.specs.FinMap.{get, get-empty}
use Rattle.std.specs.Ordering.{nat_cmp}
use Rattle.std.specs.Cmp.Lexicographic.{slice_cmp}
use Rattle.canary_condition.specs.declared.outcome.Phase.{Phase}
use Rattle.canary_condition.specs.declared.outcome.Phase.TheVariants.{Running, Successful}
use Rattle.canary_condition.specs.Phases.{phase_of}
use Rattle.canary_metric.specs.Metrics.{MetricValue}
use Rattle.canary_metric.specs.Counts.{Counts, counts}
use Rattle.canary_metric.specs.MetricPhases.{is_completed}
use Rattle.canary_metric.specs.Verdicts.{MetricCounts, worst_of, counted_phase, judging, is_closing, are_completed, verdict_of_counts, verdict}
use Rattle.canary_plan.specs.declared.strategy.CheckedStrategy.{CheckedStrategy}
use Rattle.canary_plan.specs.declared.command.Command.{Command}
use Rattle.canary_plan.specs.Commands.{subject_of}
use Rattle.canary_release.specs.declared.effect.Recorded.{Recorded}
use Rattle.canary_release.specs.declared.effect.Closing.{Closing}
use Rattle.canary_release.specs.declared.effect.Effect.{Effect}
use Rattle.canary_release.specs.declared.effect.Effect.TheVariants.{LineAdded, RunOpened, MeasurementRecorded, RunClosed}
use Rattle.canary_release.specs.declared.runs.OpenRun.{OpenRun}
use Rattle.canary_release.specs.declared.runs.Runs.{Runs}
use Rattle.canary_release.specs.Pasts.{Run, Past, change_at, opened_run, with_recorded, measured_in, closed_in, past_with, past_with_all, is_open, measurement_of, counts_of, tallied, tracked}
use Rattle.canary_release.specs.Evolutions.{Evolution, run_verdict}
use Rattle.canary_release.specs.Desks.{ModelService, RevisionMap, Desk, no_desk, Change, after, desk_after, ruling_on, apply}
use Rattle.canary_release.specs.Desks.Change.{Nothing, Adds, Becomes}
use Rattle.canary_release.specs.Stored.{stored_form}
use Rattle.canary_release.specs.Parts.{is_judged}
use Rattle.canary_release.specs.PartsLaws.{PassingKeepsParts, ActingKeepsParts, NewPartsAreUnbroken}
use Rattle.canary_release.specs.Laws.{WatchesAlike}
use Rattle.canary_release.specs.Order.{AreInOrder}
use Rattle.canary_release.specs.Sound.{IsJudgedBy, AreJudged, HasVerdict, IsSoundRun, AreSound, StaySound}
use Rattle.canary_release.proofs.OrderingBasics.{neither, some_same, each, each_both, each_and_more, each_mapped, fold_completed}
use Rattle.canary_release.specs.Effects.{Allowed, AreAllowed}
use Rattle.canary_release.proofs.OrderingPasts.{IsOrdered, IsThatRun, that_run, ordered_after, watched_then}
use Rattle.canary_release.proofs.Ordering.{parts_say, past_ordered, OrderIf, HasCome, found_inserted, order_of, came_on, order_applied}

-- A verdict that isn't completed is Running.

running : (outside : Bool) (ws : List MetricCounts) → is_completed (verdict_of_counts outside ws) ≡ false → verdict_of_counts outside ws ≡ Running
running outside ws e =
    let closing = is_closing outside ws in
    let worst_one : Phase = worst_of (map (counted_phase closing) (judging ws)) in
    elim (closing || are_completed ws)
    as (λ b. is_completed (if b then worst_one else Running) ≡ false → (if b then worst_one else Running) ≡ Running) [
      | true ↦ λ h. absurd (true≢false (sym (fold_completed Successful (map (counted_phase closing) (judging ws)) refl) ∙ h))
      | false ↦ λ h. refl
    ] e

-- A run is judged soundly so far: its measurements are judged, and if it is closed, it was closed at its verdict, a completed phase.

abbrev verdict_so_far : Run → Bool → Phase
verdict_so_far r outside = verdict r.analysis.metrics (map (map measurement_of) r.lists) outside

abbrev IsClosedWell : Run → Option Closing → Type 0
IsClosedWell r None = Unit {0}
IsClosedWell r (Some x) = (x.run ≡ r.number) × (x.verdict ≡ verdict_so_far r x.outside) × (is_completed x.verdict ≡ true)

abbrev IsSoundSoFar : Run → Type 0
IsSoundSoFar r = AreJudged r.analysis.metrics r.lists × IsClosedWell r r.closed

same_counts : (lists : List (List Recorded)) → map counts (map (map measurement_of) lists) ≡ map counts_of lists
same_counts [] = refl
same_counts (list ∷ lists) = ap (λ (cs : List Counts). counts_of list ∷ cs) (same_counts lists)

-- the verdict of a run's tallies is that of its lists
same_verdict : (r : Run) (outside : Bool) → run_verdict outside (tallied r) ≡ verdict_so_far r outside
same_verdict r outside = ap (λ (cs : List Counts). verdict_of_counts outside (zip r.analysis.metrics cs)) (sym (same_counts r.lists))

none_judged : (ms : List MetricValue) (n : ℕ) → AreJudged ms (replicate n [])
none_judged [] n = tt
none_judged (m ∷ ms) zero = tt
none_judged (m ∷ ms) (suc n) = (tt, none_judged ms n)

judged_more : (ms : List MetricValue) (lists : List (List Recorded)) (k : ℕ) (m : MetricValue) (x : Recorded) → slice_get ms k ≡ Some m → x.phase ≡ phase_of m.success m.failure x.outcome → AreJudged ms lists → AreJudged ms (change_at k (with_recorded x) lists)
judged_more [] lists k m x e f h = tt
judged_more (n ∷ ms) [] k m x e f h = tt
judged_more (n ∷ ms) (list ∷ lists) zero m x e f h =
    let same : n ≡ m = some_same n m e in
    (each_and_more (IsJudgedBy n) list x h.0 (subst (λ (q : MetricValue). IsJudgedBy q x) (sym same) f), h.1)
judged_more (n ∷ ms) (list ∷ lists) (suc k) m x e f h = (h.0, judged_more ms lists k m x e f h.1)

sound_measured : (x : Recorded) (w : OpenRun) (m : MetricValue) → slice_get w.analysis.metrics x.metric ≡ Some m → x.phase ≡ phase_of m.success m.failure x.outcome → (r : Run) → IsSoundSoFar r → IsThatRun x.run w r → IsSoundSoFar (measured_in x r)
sound_measured x w m is_metric judged r h that =
    elim (r.number == x.run)
    as (λ b. (r.number == x.run) ≡ b → IsSoundSoFar (let q : Run = (if b then record r { lists = change_at x.metric (with_recorded x) r.lists } else r) in q)) [
      | true ↦ λ e.
          let known = that (eqb-true r.number x.run e) in
          let new : Run = record r { lists = change_at x.metric (with_recorded x) r.lists } in
          let metric : slice_get r.analysis.metrics x.metric ≡ Some m = ap (λ (q : OpenRun). slice_get q.analysis.metrics x.metric) known.1 ∙ is_metric in
          (judged_more r.analysis.metrics r.lists x.metric m x metric judged h.0, subst (IsClosedWell new) (sym known.0) tt)
      | false ↦ λ e. h
    ] refl

sound_closed : (x : Closing) (w : OpenRun) → x.verdict ≡ run_verdict x.outside w → is_completed x.verdict ≡ true → (r : Run) → IsSoundSoFar r → IsThatRun x.run w r → IsSoundSoFar (closed_in x r)
sound_closed x w is_verdict completed r h that =
    elim (r.number == x.run)
    as (λ b. (r.number == x.run) ≡ b → IsSoundSoFar (let q : Run = (if b then record r { closed = Some x } else r) in q)) [
      | true ↦ λ e.
          let number : r.number ≡ x.run = eqb-true r.number x.run e in
          let known = that number in
          (h.0, (sym number, is_verdict ∙ ap (run_verdict x.outside) (sym known.1) ∙ same_verdict r x.outside, completed))
      | false ↦ λ e. h
    ] refl

sound_after : (ts : RevisionMap) (st : CheckedStrategy) (p : Past) (x : Effect) → Allowed ts st (tracked p) x → IsOrdered ts st p → AllByRecursion IsSoundSoFar p.runs → AllByRecursion IsSoundSoFar (past_with p x).runs
sound_after ts st p (LineAdded line) a o h = h
sound_after ts st p (RunOpened x) a o h = each_and_more IsSoundSoFar p.runs (opened_run x) h (none_judged x.analysis.metrics (length x.analysis.metrics), tt)
sound_after ts st p (MeasurementRecorded x) a o h =
    let that = that_run x.run 1 p.runs a.run o.numbered a.found in
    each_mapped (λ (r : Run). IsSoundSoFar (measured_in x r)) IsSoundSoFar (measured_in x) (λ r k. k) p.runs
    (each_both IsSoundSoFar (IsThatRun x.run a.run) (λ (r : Run). IsSoundSoFar (measured_in x r)) (sound_measured x a.run a.metric a.is_metric a.judged) p.runs h that)
sound_after ts st p (RunClosed x tallies) a o h =
    let that = that_run x.run 1 p.runs a.run o.numbered a.found in
    each_mapped (λ (r : Run). IsSoundSoFar (closed_in x r)) IsSoundSoFar (closed_in x) (λ r k. k) p.runs
    (each_both IsSoundSoFar (IsThatRun x.run a.run) (λ (r : Run). IsSoundSoFar (closed_in x r)) (sound_closed x a.run a.verdict a.completed) p.runs h that)

sound_after_all : WatchesAlike → (ts : RevisionMap) (st : CheckedStrategy) (p : Past) (xs : List Effect) → AreAllowed ts st (tracked p) xs → IsOrdered ts st p → AllByRecursion IsSoundSoFar p.runs → AllByRecursion IsSoundSoFar (past_with_all p xs).runs
sound_after_all alike ts st p [] a o h = h
sound_after_all alike ts st p (x ∷ xs) a o h =
    sound_after_all alike ts st (past_with p x) xs (subst (λ (w : Runs). AreAllowed ts st w xs) (sym (watched_then alike p x)) a.1) (ordered_after ts st p x a.0 o) (sound_after ts st p x a.0 o h)

-- A service whose open runs aren't judged.

abbrev IsUnjudged : Run → Type 0
IsUnjudged r = r.closed ≡ None → is_judged (tallied r) ≡ false

unjudged : (rs : List Run) → list_any is_judged (map tallied (filter is_open rs)) ≡ false → AllByRecursion IsUnjudged rs
unjudged [] e = tt
unjudged (r ∷ rs) e =
    let rest : List Run = filter is_open rs in
    elim (is_open r)
    as (λ b. is_open r ≡ b → list_any is_judged (map tallied (cond b (r ∷ rest) rest)) ≡ false → AllByRecursion IsUnjudged (r ∷ rs)) [
      | true ↦ λ o f.
          let h = neither (is_judged (tallied r)) (list_any is_judged (map tallied rest)) f in
          (λ none. h.0, unjudged rs h.1)
      | false ↦ λ o f. (λ none. absurd (true≢false (ap is_none (sym none) ∙ o)), unjudged rs f)
    ] refl e

to_so_far : (r : Run) → IsSoundRun r → IsSoundSoFar r
to_so_far r h = (h.0, by r.closed h.1)
  where
    by : (o : Option Closing) → HasVerdict r o → IsClosedWell r o
    by None k = tt
    by (Some x) k = k

from_so_far : (r : Run) → IsSoundSoFar r → IsUnjudged r → IsSoundRun r
from_so_far r h u = (h.0, by r.closed refl h.1)
  where
    by : (o : Option Closing) → r.closed ≡ o → IsClosedWell r o → HasVerdict r o
    by None e k = sym (same_verdict r false) ∙ running false (zip r.analysis.metrics (tallied r).tallies) (u e)
    by (Some x) e k = k

-- What a command brings.

abbrev AreSoundRuns : List ℕ → ModelService → Type 0
AreSoundRuns name s = AllByRecursion IsSoundRun s.past.runs

abbrev SoundIf : Option ModelService → Type 0
SoundIf None = Unit {0}
SoundIf (Some s) = AllByRecursion IsSoundRun s.past.runs

sound_becomes : WatchesAlike → (ts : RevisionMap) (found : Option ModelService) (command : Command) (c : Evolution) → OrderIf ts (subject_of command) found → SoundIf found → HasCome ts found command (Becomes c) → AllByRecursion IsSoundRun (after found c.service c.effects).past.runs
sound_becomes alike ts None command c o h came = subst (AllByRecursion IsSoundRun) (sym came.no_runs) tt
sound_becomes alike ts (Some m) command c o h came =
    let s : ModelService = after (Some m) c.service c.effects in
    let f = came.following in
    let so_far = each IsSoundRun IsSoundSoFar to_so_far m.past.runs h in
    let grown = sound_after_all alike ts m.service.strategy m.past c.effects f.allowed (past_ordered ts (subject_of command) m o) so_far in
    each_both IsSoundSoFar IsUnjudged IsSoundRun from_so_far s.past.runs grown (unjudged s.past.runs (parts_say (stored_form s) came.order.parts).unjudged)

sound_of : (desk : Desk) → AreSound desk → (name : List ℕ) → SoundIf (get desk.services name)
sound_of desk h name = by (get desk.services name) refl
  where
    by : (found : Option ModelService) → get desk.services name ≡ found → SoundIf found
    by None e = tt
    by (Some s) e = h name s e

sound_on : WatchesAlike → (desk : Desk) (command : Command) (x : Change) → AreInOrder desk → AreSound desk → HasCome desk.templates (get desk.services (subject_of command)) command x → AreSound (desk_after desk command x)
sound_on alike desk command Nothing o h came = h
sound_on alike desk command (Adds t) o h came = h
sound_on alike desk command (Becomes c) o h came =
    let name = subject_of command in
    let found = get desk.services name in
    found_inserted AreSoundRuns desk.services name (after found c.service c.effects) (sound_becomes alike desk.templates found command c (order_of desk o name) (sound_of desk h name) came) h

pub stay_sound : WatchesAlike → PassingKeepsParts → ActingKeepsParts → NewPartsAreUnbroken → StaySound
stay_sound alike passing acting adding desk [] o h = h
stay_sound alike passing acting adding desk (x ∷ xs) o h =
    let change = (ruling_on desk x.0 x.1).change in
    stay_sound alike passing acting adding (apply desk x.0 x.1).desk xs (order_applied alike passing acting adding desk x.0 x.1 o) (sound_on alike desk x.1 change o h (came_on alike passing acting adding desk x.0 x.1 o))

pub no_desk_sound : AreSound no_desk
no_desk_sound name s e = let gone : ◌≡◌ {A = Option ModelService} None (Some s) = sym (get-empty (slice_cmp nat_cmp) name) ∙ e in cc gone
