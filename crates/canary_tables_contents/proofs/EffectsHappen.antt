-- Effects that may happen, one after another: the rows of a past with them, what their statements ask, and what is read back.
use Rattle.std.proofs.Common.{◌≡◌, List, [], ◌∷◌, ◌++◌, Bool, true, false, refl, sym, ◌∙◌, subst, eqb-true}
use Rattle.std.specs.Prelude.{ℕ, ◌==◌, map, Some}
use Rattle.std.specs.List.{AllByRecursion}
use Rattle.canary_condition.specs.PhaseTexts.{phase_of_number}
use Rattle.canary_metric.specs.Counts.{CountsOneMore}
use Rattle.canary_plan.specs.declared.strategy.CheckedStrategy.{CheckedStrategy}
use Rattle.canary_release.specs.declared.effect.Closing.{Closing}
use Rattle.canary_release.specs.declared.effect.Recorded.{Recorded}
use Rattle.canary_release.specs.declared.effect.Effect.{Effect}
use Rattle.canary_release.specs.declared.effect.Effect.TheVariants.{LineAdded, RunOpened, MeasurementRecorded, RunClosed}
use Rattle.canary_release.specs.Effects.{Allowed, AreAllowed}
use Rattle.canary_release.specs.Laws.{WatchesAlike}
use Rattle.canary_release.specs.Order.{AreNumbered}
use Rattle.canary_release.specs.Desks.{RevisionMap}
use Rattle.canary_release.specs.Pasts.{Run, Past, opened_run, measured_in, closed_in, past_with, tracked}
use Rattle.canary_release.specs.Watching.{effect_applied}
use Rattle.canary_tables_rows.specs.Tables.{Tables}
use Rattle.canary_tables_contents.specs.Numbers.{phase_column}
use Rattle.canary_tables_contents.specs.Tables.{IsReadableLine, IsReadableMeasurement, IsReadableRun, IsReadablePast}
use Rattle.canary_tables_contents.specs.Settling.{happened, IsReadableEffect}
use Rattle.canary_tables_contents.proofs.PastRows.{ArePastRows, AreOthersRows, AreElseSame, Happens, EffectsHappen, EffectsStayReadable}
use Rattle.canary_tables_contents.proofs.OneHappens.{OneHappens, told_happens}
use Rattle.canary_tables_contents.proofs.RunsOpened.{opened_happens}
use Rattle.canary_tables_contents.proofs.RunsMeasured.{measured_happens}
use Rattle.canary_tables_contents.proofs.RunsClosed.{closed_happens}

-- What happens.

one_happens : CountsOneMore → (name : List ℕ) (templates : RevisionMap) (strategy : CheckedStrategy) (x : Effect) (t : Tables) (p : Past)
    → ArePastRows t name p → AreNumbered 1 p.runs → Allowed templates strategy (tracked p) x → OneHappens name x t p
one_happens one name templates strategy (LineAdded line) t p are numbered allowed = told_happens name line t p are numbered
one_happens one name templates strategy (RunOpened x) t p are numbered allowed = opened_happens name templates strategy x t p are numbered allowed
one_happens one name templates strategy (MeasurementRecorded x) t p are numbered allowed = measured_happens one name x t p are numbered allowed
one_happens one name templates strategy (RunClosed x tallies) t p are numbered allowed = closed_happens name x tallies t p are numbered allowed

others_then : (q : List ℕ) (a b c : Tables) → AreOthersRows a b q → AreOthersRows b c q → AreOthersRows a c q
others_then q a b c first later = record {
  runs = λ number. later.runs number ∙ first.runs number;
  bindings = λ place template. later.bindings place template ∙ first.bindings place template;
  tallies = λ number metric. later.tallies number metric ∙ first.tallies number metric;
  measurements = later.measurements ∙ first.measurements;
  history = later.history ∙ first.history;
}

same_then : (a b c : Tables) → AreElseSame a b → AreElseSame b c → AreElseSame a c
same_then a b c first later = record {
  callers = later.callers ∙ first.callers;
  kept = later.kept ∙ first.kept;
  revisions = later.revisions ∙ first.revisions;
  services = later.services ∙ first.services;
  attempts = λ q template. later.attempts q template ∙ first.attempts q template;
}

none_happens : (name : List ℕ) (t : Tables) (p : Past) → ArePastRows t name p → Happens name [] t p
none_happens name t p are = record {
  rows = are;
  asks = tt;
  others = λ q differ. record { runs = λ number. refl; bindings = λ place template. refl; tallies = λ number metric. refl; measurements = refl; history = refl };
  rest = record { callers = refl; kept = refl; revisions = refl; services = refl; attempts = λ q template. refl };
}

happens_then : (name : List ℕ) (x : Effect) (xs : List Effect) (t : Tables) (p : Past) → OneHappens name x t p → Happens name xs (happened name x t) (past_with p x) → Happens name (x ∷ xs) t p
happens_then name x xs t p first later = record {
  rows = later.rows;
  asks = (first.asks, later.asks);
  others = λ q differ. others_then q _ _ _ (first.others q differ) (later.others q differ);
  rest = same_then _ _ _ first.rest later.rest;
}

pub effects_happen : CountsOneMore → WatchesAlike → EffectsHappen
effects_happen one alike name templates strategy [] t p are numbered allowed = none_happens name t p are
effects_happen one alike name templates strategy (x ∷ xs) t p are numbered allowed =
    let first : OneHappens name x t p = one_happens one name templates strategy x t p are numbered allowed.0 in
    let watch : effect_applied (tracked p) x ≡ tracked (past_with p x) = sym (alike p (x ∷ [])) in
    let allowed_later : AreAllowed templates strategy (tracked (past_with p x)) xs = subst (λ w. AreAllowed templates strategy w xs) watch allowed.1 in
    happens_then name x xs t p first (effects_happen one alike name templates strategy xs (happened name x t) (past_with p x) first.rows first.numbered allowed_later)

-- What is read back.

all_and_more : {A : Type 0} (P : A → Type 0) (xs : List A) (x : A) → AllByRecursion P xs → P x → AllByRecursion P (xs ++ x ∷ [])
all_and_more P [] x all last = (last, tt)
all_and_more P (y ∷ xs) x all last = (all.0, all_and_more P xs x all.1 last)

all_mapped : {A : Type 0} (P : A → Type 0) (f : A → A) → ((x : A) → P x → P (f x)) → (xs : List A) → AllByRecursion P xs → AllByRecursion P (map f xs)
all_mapped P f keeps [] all = tt
all_mapped P f keeps (x ∷ xs) all = (keeps x all.0, all_mapped P f keeps xs all.1)

run_measured : (x : Recorded) (r : Run) (t : Bool) → (r.number == x.run) ≡ t → IsReadableRun r → IsReadableRun (measured_in x r)
run_measured x r true t h = rw t h
run_measured x r false t h = rw t h

run_closed : (x : Closing) → phase_of_number (phase_column x.verdict) ≡ Some x.verdict → (r : Run) (t : Bool) → (r.number == x.run) ≡ t → IsReadableRun r → IsReadableRun (closed_in x r)
run_closed x verdict r true t h = rw t (sym (eqb-true r.number x.run t), verdict)
run_closed x verdict r false t h = rw t h

one_readable : (x : Effect) (p : Past) → IsReadablePast p → IsReadableEffect x → IsReadablePast (past_with p x)
one_readable (LineAdded line) p past told = record {
  runs = past.runs;
  measurements = past.measurements;
  history = all_and_more IsReadableLine p.history line past.history told;
}
one_readable (RunOpened x) p past opened = record {
  runs = all_and_more IsReadableRun p.runs (opened_run x) past.runs tt;
  measurements = past.measurements;
  history = past.history;
}
one_readable (MeasurementRecorded x) p past measured = record {
  runs = all_mapped IsReadableRun (measured_in x) (λ r. run_measured x r (r.number == x.run) refl) p.runs past.runs;
  measurements = all_and_more IsReadableMeasurement p.measurements x past.measurements measured;
  history = past.history;
}
one_readable (RunClosed x tallies) p past closed = record {
  runs = all_mapped IsReadableRun (closed_in x) (λ r. run_closed x closed r (r.number == x.run) refl) p.runs past.runs;
  measurements = past.measurements;
  history = past.history;
}

pub effects_stay_readable : EffectsStayReadable
effects_stay_readable [] p past effects = past
effects_stay_readable (x ∷ xs) p past effects = effects_stay_readable xs (past_with p x) (one_readable x p past effects.0) effects.1
