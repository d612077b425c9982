-- A service of contents is read of its row: it and its runs are bound by their rows of binding.
use Rattle.std.proofs.Common.{◌≡◌, ℕ, zero, suc, ◌≤◌, ◌==◌, List, [], ◌∷◌, ◌++◌, length, Bool, true, false, Some, None, refl, sym, ap, ◌∙◌, subst, arith}
use Rattle.std.specs.Prelude.{Option, ◌&&◌, filter, option_and_then, unwrap_or}
use Rattle.std.specs.Str.{bytes_eq}
use Rattle.std.specs.Option.{option_or}
use Rattle.std.specs.List.{AllByRecursion, filter_map, cons_option}
use Rattle.std.specs.FinMap.{get}
use Rattle.std.proofs.lemmas.Bool.Decides.{Decides-eqb}
use Rattle.canary_plan.specs.declared.service.ServiceSpec.{ServiceSpec}
use Rattle.canary_plan.specs.declared.analysis_parts.AnalysisParts.{AnalysisParts}
use Rattle.canary_plan.specs.declared.strategy.CheckedStrategy.{CheckedStrategy}
use Rattle.canary_plan.specs.Fit.{no_analysis}
use Rattle.canary_plan.specs.Plans.{strategy_of, bound_of, analysis_or_none}
use Rattle.canary_canonical.specs.Readings.{canonical_in}
use Rattle.canary_release.specs.declared.effect.Recorded.{Recorded}
use Rattle.canary_release.specs.declared.effect.Closing.{Closing}
use Rattle.canary_release.specs.declared.state.ServiceState.{ServiceState}
use Rattle.canary_release.specs.Desks.{ModelService}
use Rattle.canary_release.specs.Pasts.{Run}
use Rattle.canary_tables_rows.specs.declared.rows.RunRow.{RunRow}
use Rattle.canary_tables_rows.specs.declared.rows.ServiceRow.{ServiceRow}
use Rattle.canary_tables_rows.specs.Tables.{Tables, is_service, is_run}
use Rattle.canary_tables_contents.specs.Values.{made_from, stand_of, closing_of, run_from, run_of_row}
use Rattle.canary_tables_contents.specs.Reading.{known_in, runs_to, measurements_in, past_in, service_from, service_made, service_of_row, contents_of}
use Rattle.canary_tables_contents.proofs.Named.{first_of}
use Rattle.canary_tables_contents.proofs.KnownRevisions.{all_both}
use Rattle.canary_tables_contents.proofs.ServicesHoldLists.{kept_pass}
use Rattle.canary_tables_contents.proofs.ServicesHoldRows.{stand_again}
use Rattle.canary_tables_contents.proofs.ServicesHoldRuns.{services_at}

-- A run.

abbrev pub IsBoundRun : Tables → List ℕ → CheckedStrategy → Run → Type 0
IsBoundRun t name strategy r = r.analysis ≡ analysis_or_none (bound_of (known_in t name r.number) strategy) r.step

both_hold : (a b : Bool) → a && b ≡ true → (a ≡ true) × (b ≡ true)
both_hold true b e = (refl, e)
both_hold false b e = absurd (cc)

of_row : (t : Tables) (name : List ℕ) (strategy : CheckedStrategy) (xs : List Recorded) (number : ℕ) (row : RunRow) (o : Option (Option Closing)) (rest : List Run) → number ≡ row.number → AllByRecursion (IsBoundRun t name strategy) rest
    → AllByRecursion (IsBoundRun t name strategy) (cons_option (run_from xs (analysis_or_none (bound_of (known_in t name number) strategy) row.step) row o) rest)
of_row t name strategy xs number row None rest same all = all
of_row t name strategy xs number row (Some closed) rest same all = (ap (λ n. analysis_or_none (bound_of (known_in t name n) strategy) row.step) same, all)

of_rows : (t : Tables) (name : List ℕ) (strategy : CheckedStrategy) (xs : List Recorded) (number : ℕ) (rows : List RunRow) → AllByRecursion (λ (row : RunRow). is_run name number row ≡ true) rows
    → AllByRecursion (IsBoundRun t name strategy) (filter_map (run_of_row strategy (known_in t name number) xs) rows)
of_rows t name strategy xs number [] all = tt
of_rows t name strategy xs number (row ∷ rows) all =
    let passes : (bytes_eq name row.service ≡ true) × ((number == row.number) ≡ true) = both_hold (bytes_eq name row.service) (number == row.number) all.0 in
    of_row t name strategy xs number row (closing_of row.number row.ending) (filter_map (run_of_row strategy (known_in t name number) xs) rows) ((Decides-eqb number row.number).0 passes.1) (of_rows t name strategy xs number rows all.1)

up_to : (t : Tables) (name : List ℕ) (strategy : CheckedStrategy) (xs : List Recorded) (n : ℕ) → AllByRecursion (IsBoundRun t name strategy) (runs_to t strategy xs name n)
up_to t name strategy xs zero = tt
up_to t name strategy xs (suc n) =
    all_both (IsBoundRun t name strategy) (runs_to t strategy xs name n) (filter_map (run_of_row strategy (known_in t name (suc n)) xs) (filter (is_run name (suc n)) t.runs))
    (up_to t name strategy xs n) (of_rows t name strategy xs (suc n) (filter (is_run name (suc n)) t.runs) (kept_pass (is_run name (suc n)) t.runs))

-- A service.

pub record IsReadOf (t : Tables) (row : ServiceRow) (m : ModelService) : Type 0 where
  pub bound : m.service.bound ≡ bound_of (known_in t row.name 0) (strategy_of m.made)
  pub runs : AllByRecursion (IsBoundRun t row.name (strategy_of m.made)) m.past.runs

of_stand : (t : Tables) (row : ServiceRow) (made : ServiceSpec) (m : ModelService) (o : Option ServiceState) → stand_of row.name (strategy_of made) (bound_of (known_in t row.name 0) (strategy_of made)) row.standing ≡ o → service_from t row made o ≡ Some m → IsReadOf t row m
of_stand t row made m None is e = absurd (cc)
of_stand t row made m (Some service) is e =
    let there : ModelService = record { made = made; service = service; past = past_in t row.name (strategy_of made) row.standing.runs } in
    let same : there ≡ m = cc e in
    subst (IsReadOf t row) same (record {
      bound = (stand_again row.name (strategy_of made) (bound_of (known_in t row.name 0) (strategy_of made)) row.standing service is).bound;
      runs = up_to t row.name (strategy_of made) (measurements_in t.measurements row.name) row.standing.runs;
    })

of_made : (t : Tables) (row : ServiceRow) (m : ModelService) (o : Option ServiceSpec) → option_and_then (service_made t row) o ≡ Some m → IsReadOf t row m
of_made t row m None e = absurd (cc)
of_made t row m (Some made) e = of_stand t row made m (stand_of row.name (strategy_of made) (bound_of (known_in t row.name 0) (strategy_of made)) row.standing) refl e

alone : {A : Type 0} (o : Option A) → option_or o None ≡ o
alone None = refl
alone (Some x) = refl

pub is_read : (t : Tables) (row : ServiceRow) (m : ModelService) → filter (is_service row.name) t.services ≡ row ∷ [] → get (contents_of t).desk.services row.name ≡ Some m → IsReadOf t row m
is_read t row m one there =
    of_made t row m (made_from (canonical_in row.spec)) (sym (alone (service_of_row t row)) ∙ sym (services_at t row.name ∙ ap (first_of (service_of_row t)) one) ∙ there)

-- An analysis that has metrics is bound.

pub bound_there : (o : Option AnalysisParts) (a : AnalysisParts) → a ≡ unwrap_or o no_analysis → 1 ≤ length a.metrics → o ≡ Some a
bound_there None a same some = let none : length a.metrics ≡ 0 = ap (λ (x : AnalysisParts). length x.metrics) same in absurd (omega arith)
bound_there (Some b) a same some = ap Some (sym same)
