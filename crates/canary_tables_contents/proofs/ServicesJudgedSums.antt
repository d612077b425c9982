-- The rows of contents are those of its services, and no others.
use Rattle.std.proofs.Common.{◌≡◌, ◌⊎◌, inl, inr, ℕ, zero, suc, ◌+◌, ◌≤◌, ◌<◌, List, [], length, Bool, true, false, Some, None, refl, sym, ap, ◌∙◌, subst, arith}
use Rattle.std.specs.Prelude.{Option, ◌==◌, ◌&&◌, filter, find, map}
use Rattle.std.specs.Str.{bytes_eq}
use Rattle.std.specs.List.{sum_by}
use Rattle.std.specs.FinMap.{get}
use Rattle.std.proofs.lemmas.Bool.Decides.{Decides-eqb}
use Rattle.canary_release.specs.Desks.{ModelService}
use Rattle.canary_release.specs.Pasts.{Run, Past, no_past}
use Rattle.canary_once.specs.Records.{past_of, past_in}
use Rattle.canary_tables_rows.specs.declared.rows.ServiceRow.{ServiceRow}
use Rattle.canary_tables_rows.specs.declared.rows.RunRow.{RunRow}
use Rattle.canary_tables_rows.specs.declared.rows.BindingRow.{BindingRow}
use Rattle.canary_tables_rows.specs.declared.rows.TallyRow.{TallyRow}
use Rattle.canary_tables_rows.specs.declared.rows.MeasurementRow.{MeasurementRow}
use Rattle.canary_tables_rows.specs.declared.rows.HistoryRow.{HistoryRow}
use Rattle.canary_tables_rows.specs.Tables.{Tables, is_service, is_binding, is_binding_of, is_run, is_tally, is_tally_of, is_measurement_of, is_line_of}
use Rattle.canary_tables_contents.specs.Values.{service_row, binding_row, run_row, measurement_row, history_row}
use Rattle.canary_tables_contents.specs.Tables.{row_if, is_of_template, revisions_of_run, binding_rows, run_at, run_rows, tally_rows_of}
use Rattle.canary_tables_contents.specs.Reading.{contents_of}
use Rattle.canary_tables_contents.specs.Services.{HoldServices}
use Rattle.canary_tables_contents.proofs.Numbers.{is_numbered}
use Rattle.canary_tables_contents.proofs.Named.{own_key, equal_keys, filter_twice, IsIn, each_in, in_filter}
use Rattle.canary_tables_contents.proofs.NamedRows.{StandOnce, naming, all_named}
use Rattle.canary_tables_contents.proofs.JudgedCallers.{none_behind}
use Rattle.canary_tables_contents.proofs.CallersJudged.{HasPlace, has_place}
use Rattle.canary_tables_contents.proofs.JudgedKeys.{HaveOnce, all_keyed}
use Rattle.canary_tables_contents.proofs.BindingKeys.{RunKey, key_eq, keys_tell, run_key, binding_key, own_keys, keys_in, HaveNumbersOnce, keys_once, sum_of_keys, some_service, some_run}
use Rattle.canary_tables_contents.proofs.ServicesJudgedLists.{just_numbers, same_sums}
use Rattle.canary_tables_contents.proofs.ServicesJudgedRuns.{HasRows}
use Rattle.canary_tables_contents.proofs.ServicesJudgedOne.{IsRowOf, is_row_of}

-- One row or none.

one_at_most : {A R : Type 0} (row : A → R) (o : Option A) → length (row_if row o) ≤ 1
one_at_most row None = omega arith
one_at_most row (Some x) = omega arith

none_there : {A R : Type 0} (row : A → R) (o : Option A) → row_if row o ≡ [] → o ≡ None
none_there row None e = refl
none_there row (Some x) e = absurd (cc)

-- no row is in an empty part
not_there : {R : Type 0} (p : R → Bool) (row : R) (rows : List R) → IsIn row rows → p row ≡ true → filter p rows ≡ [] → ⊥
not_there p row rows at passes none = subst (IsIn row) none (in_filter p row rows at passes)

-- Names of services.

abbrev pub service_name : ServiceRow → List ℕ
service_name row = row.name

abbrev pub run_service : RunRow → List ℕ
run_service row = row.service

abbrev pub run_number : RunRow → ℕ
run_number row = row.number

abbrev measured_service : MeasurementRow → List ℕ
measured_service row = row.service

abbrev told_service : HistoryRow → List ℕ
told_service row = row.service

services_once : (t : Tables) → HoldServices t → StandOnce service_name t.services
services_once t hold =
    each_in (λ (k : ServiceRow). length (filter (is_service k.name) t.services) ≤ 1) t.services
    (λ row at. subst (λ (l : List ServiceRow). length l ≤ 1) (sym (hold.services row.name)) (one_at_most (service_row row.name) (get (contents_of t).desk.services row.name)))

no_past_there : (t : Tables) → HoldServices t → (q : List ℕ) → filter (is_service q) t.services ≡ [] → past_of (contents_of t) q ≡ no_past
no_past_there t hold q none = ap past_in (none_there (service_row q) (get (contents_of t).desk.services q) (sym (hold.services q) ∙ none))

-- Runs.

no_runs : (q : List ℕ) (number : ℕ) → run_rows q number [] ≡ []
no_runs q zero = refl
no_runs q (suc place) = refl

run_named : (t : Tables) → HoldServices t → (x : RunRow) → IsIn x t.runs → filter (is_service x.service) t.services ≡ [] → ⊥
run_named t hold x at none =
    not_there (is_run x.service x.number) x t.runs at (λ i. own_key x.service i && (Decides-eqb x.number x.number).1 refl i)
    (hold.runs x.service x.number ∙ ap (λ (p : Past). run_rows x.service x.number p.runs) (no_past_there t hold x.service none) ∙ no_runs x.service x.number)

runs_under : (t : Tables) (q : List ℕ) (m : ModelService) → HasRows t q m → (k : ℕ) → filter (is_numbered run_number k) (filter (λ (r : RunRow). bytes_eq q r.service) t.runs) ≡ run_rows q k m.past.runs
runs_under t q m has k = filter_twice (is_numbered run_number k) (λ (r : RunRow). bytes_eq q r.service) t.runs ∙ has.runs k

one_run : (t : Tables) (q : List ℕ) (m : ModelService) → HasRows t q m → (k : ℕ) → 1 ≤ k → k < 1 + length m.past.runs
    → length (filter (is_numbered run_number k) (filter (λ (r : RunRow). bytes_eq q r.service) t.runs)) ≡ 1
one_run t q m has zero a b = absurd (omega arith)
one_run t q m has (suc place) a b =
    let h : HasPlace m.past.runs place = has_place m.past.runs place (omega arith) in
    ap length (runs_under t q m has (suc place) ∙ ap (row_if (run_row q)) h.there)

no_run : (t : Tables) (q : List ℕ) (m : ModelService) → HasRows t q m → (k : ℕ) → (k < 1) ⊎ (1 + length m.past.runs ≤ k)
    → filter (is_numbered run_number k) (filter (λ (r : RunRow). bytes_eq q r.service) t.runs) ≡ []
no_run t q m has zero out = runs_under t q m has zero
no_run t q m has (suc place) (inl low) = absurd (omega arith)
no_run t q m has (suc place) (inr high) = runs_under t q m has (suc place) ∙ ap (row_if (run_row q)) (none_behind m.past.runs place (omega arith))

its_runs : (t : Tables) (row : ServiceRow) → IsRowOf t row → row.standing.runs ≡ naming service_name run_service t.runs row
its_runs t row of =
    let m : ModelService = of.service in
    sym (ap (λ (r : ServiceRow). r.standing.runs) of.is)
    ∙ sym (just_numbers run_number (filter (λ (r : RunRow). bytes_eq row.name r.service) t.runs) 1 (length m.past.runs) (one_run t row.name m of.has) (no_run t row.name m of.has))

pub sum_of_runs : (t : Tables) → HoldServices t → sum_by (λ (row : ServiceRow). row.standing.runs) t.services ≡ length t.runs
sum_of_runs t hold =
    same_sums (λ (row : ServiceRow). row.standing.runs) (naming service_name run_service t.runs) t.services
    (each_in (λ (row : ServiceRow). row.standing.runs ≡ naming service_name run_service t.runs row) t.services (λ row at. its_runs t row (is_row_of t hold row at)))
    ∙ all_named service_name run_service t.services t.runs (services_once t hold) (run_named t hold)

-- Tallies, by service and run.

abbrev pub tally_key : TallyRow → RunKey
tally_key row = (row.service, row.run)

runs_once : (t : Tables) → HoldServices t → HaveOnce key_eq run_key t.runs
runs_once t hold =
    each_in (λ (k : RunRow). length (filter (is_run k.service k.number) t.runs) ≤ 1) t.runs
    (λ row at. subst (λ (l : List RunRow). length l ≤ 1) (sym (hold.runs row.service row.number)) (one_at_most (run_row row.service) (run_at row.number (past_of (contents_of t) row.service).runs)))

tally_named : (t : Tables) → HoldServices t → (x : TallyRow) → IsIn x t.tallies → filter (is_run x.service x.run) t.runs ≡ [] → ⊥
tally_named t hold x at none =
    let runs : List Run = (past_of (contents_of t) x.service).runs in
    not_there (is_tally x.service x.run x.metric) x t.tallies at (λ i. own_key x.service i && ((Decides-eqb x.run x.run).1 refl i && (Decides-eqb x.metric x.metric).1 refl i))
    (hold.tallies x.service x.run x.metric ∙ ap (tally_rows_of x.service x.run x.metric) (none_there (run_row x.service) (run_at x.run runs) (sym (hold.runs x.service x.run) ∙ none)))

pub sum_of_tallies : (t : Tables) → HoldServices t → sum_by (λ (row : RunRow). length (filter (is_tally_of row.service row.number) t.tallies)) t.runs ≡ length t.tallies
sum_of_tallies t hold = all_keyed key_eq keys_tell run_key tally_key t.runs t.tallies (runs_once t hold) (tally_named t hold)

-- Measurements and lines.

measurement_named : (t : Tables) → HoldServices t → (x : MeasurementRow) → IsIn x t.measurements → filter (is_service x.service) t.services ≡ [] → ⊥
measurement_named t hold x at none =
    not_there (is_measurement_of x.service) x t.measurements at (own_key x.service)
    (hold.measurements x.service ∙ ap (λ (p : Past). map (measurement_row x.service) p.measurements) (no_past_there t hold x.service none))

pub sum_of_measurements : (t : Tables) → HoldServices t → sum_by (λ (row : ServiceRow). length (filter (is_measurement_of row.name) t.measurements)) t.services ≡ length t.measurements
sum_of_measurements t hold = all_named service_name measured_service t.services t.measurements (services_once t hold) (measurement_named t hold)

line_named : (t : Tables) → HoldServices t → (x : HistoryRow) → IsIn x t.history → filter (is_service x.service) t.services ≡ [] → ⊥
line_named t hold x at none =
    not_there (is_line_of x.service) x t.history at (own_key x.service)
    (hold.history x.service ∙ ap (λ (p : Past). map (history_row x.service) p.history) (no_past_there t hold x.service none))

pub sum_of_lines : (t : Tables) → HoldServices t → sum_by (λ (row : ServiceRow). length (filter (is_line_of row.name) t.history)) t.services ≡ length t.history
sum_of_lines t hold = all_named service_name told_service t.services t.history (services_once t hold) (line_named t hold)

-- Rows of binding.

stand_once : (t : Tables) → HoldServices t → HaveNumbersOnce t
stand_once t hold = record {
  services = λ q. subst (λ (l : List ServiceRow). length l ≤ 1) (sym (hold.services q)) (one_at_most (service_row q) (get (contents_of t).desk.services q));
  runs = λ q number. subst (λ (l : List RunRow). length l ≤ 1) (sym (hold.runs q number)) (one_at_most (run_row q) (run_at number (past_of (contents_of t) q).runs));
  none = λ q. hold.runs q 0;
}

none_of_past : (q : List ℕ) (template : List ℕ) (number : ℕ) (m : Option ModelService) → (number ≡ 0 → m ≡ None) → run_at number (past_in m).runs ≡ None → binding_rows q number template m ≡ []
none_of_past q template number None gone none = refl
none_of_past q template zero (Some m) gone none = let e : Some m ≡ None = gone refl in absurd (cc)
none_of_past q template (suc place) (Some m) gone none = ap (λ (o : Option Run). row_if (binding_row q (suc place)) (find (is_of_template template) (revisions_of_run o))) none

no_service_there : (t : Tables) → HoldServices t → (q : List ℕ) → filter (is_service q) t.services ≡ [] → get (contents_of t).desk.services q ≡ None
no_service_there t hold q none = none_there (service_row q) (get (contents_of t).desk.services q) (sym (hold.services q) ∙ none)

binding_named : (t : Tables) → HoldServices t → (x : BindingRow) → IsIn x t.bindings → filter (key_eq (binding_key x)) (keys_in t) ≡ [] → ⊥
binding_named t hold x at none =
    let m : Option ModelService = get (contents_of t).desk.services x.service in
    let run : run_at x.run (past_in m).runs ≡ None = none_there (run_row x.service) (run_at x.run (past_in m).runs) (sym (hold.runs x.service x.run) ∙ some_run t x.service x.run none) in
    let service : x.run ≡ 0 → m ≡ None = λ first. no_service_there t hold x.service (some_service t x.service (subst (λ n. filter (key_eq (x.service, n)) (keys_in t) ≡ []) first none)) in
    not_there (is_binding x.service x.run x.template) x t.bindings at (λ i. own_key x.service i && ((Decides-eqb x.run x.run).1 refl i && own_key x.template i))
    (hold.bindings x.service x.run x.template ∙ none_of_past x.service x.template x.run m service run)

pub sum_of_bindings : (t : Tables) → HoldServices t
    → sum_by (λ (row : ServiceRow). length (filter (is_binding_of row.name 0) t.bindings)) t.services + sum_by (λ (row : RunRow). length (filter (is_binding_of row.service row.number) t.bindings)) t.runs ≡ length t.bindings
sum_of_bindings t hold = sym (sum_of_keys t) ∙ all_keyed key_eq keys_tell own_keys binding_key (keys_in t) t.bindings (keys_once t (stand_once t hold)) (binding_named t hold)
