-- If services are judged, the rows of binding are those of contents.
use Rattle.std.proofs.Common.{◌≡◌, inl, inr, true≢false, ℕ, zero, suc, ◌+◌, ◌≤◌, List, [], ◌∷◌, length, Bool, true, false, Some, None, refl, sym, ap, ◌∙◌, subst, arith}
use Rattle.std.specs.Prelude.{Option, filter, find, map, option_map, slice_get}
use Rattle.std.specs.Str.{bytes_eq}
use Rattle.std.specs.List.{AllByRecursion, sum_by}
use Rattle.std.specs.FinMap.{get}
use Rattle.std.proofs.lemmas.List.{length-map}
use Rattle.std.proofs.lemmas.Option.{slice_get-map}
use Rattle.canary_plan.specs.declared.bound.BoundParts.{BoundParts}
use Rattle.canary_plan.specs.declared.analysis_parts.Revision.{Revision}
use Rattle.canary_plan.specs.Plans.{strategy_of, bound_of, all_revisions}
use Rattle.canary_release.specs.Pasts.{Run, Past}
use Rattle.canary_once.specs.declared.record.RunRecord.{RunRecord}
use Rattle.canary_once.specs.Records.{past_of}
use Rattle.canary_tables_rows.specs.declared.rows.ServiceRow.{ServiceRow}
use Rattle.canary_tables_rows.specs.declared.rows.RunRow.{RunRow}
use Rattle.canary_tables_rows.specs.declared.rows.BindingRow.{BindingRow}
use Rattle.canary_tables_rows.specs.Tables.{Tables, is_service, is_run, is_binding, is_binding_of}
use Rattle.canary_tables_contents.specs.Values.{service_row, run_row, binding_row}
use Rattle.canary_tables_contents.specs.Tables.{row_if, run_at, run_rows, is_of_template, revisions_of_run, binding_rows}
use Rattle.canary_tables_contents.specs.Reading.{known_in, contents_of}
use Rattle.canary_tables_contents.specs.Services.{IsRunJudged, IsServiceJudged, AreServicesJudged}
use Rattle.canary_tables_contents.proofs.Strays.{Apart, no_strays}
use Rattle.canary_tables_contents.proofs.Named.{each_in, weaker, none_pass}
use Rattle.canary_tables_contents.proofs.JudgedCallers.{none_behind}
use Rattle.canary_tables_contents.proofs.CallersHold.{below_or}
use Rattle.canary_tables_contents.proofs.CallersJudged.{HasPlace, has_place}
use Rattle.canary_tables_contents.proofs.JudgedKeys.{distinct_keys}
use Rattle.canary_tables_contents.proofs.KnownRevisions.{IsKnown, all_known, analysis_known}
use Rattle.canary_tables_contents.proofs.BindingRows.{AreBindings, by_template, bindings_of_number}
use Rattle.canary_tables_contents.proofs.BindingKeys.{RunKey, key_eq, keys_tell, binding_key, own_keys, keys_in, bindings_at, HaveNumbersOnce, keys_once, sum_of_keys, no_run_key, no_service_key}
use Rattle.canary_tables_contents.proofs.ServicesHoldRows.{run_made, service_judged, bound_by, standing_judged}
use Rattle.canary_tables_contents.proofs.ServicesHoldRuns.{none_or_service, service_gone, service_there, past_gone, past_there, services_hold_at, runs_hold_at}

-- Rows of no run.

one_row : {A R : Type 0} (row : A → R) (o : Option A) → length (row_if row o) ≤ 1
one_row row None = omega arith
one_row row (Some x) = omega arith

stand_once : (t : Tables) → AreServicesJudged t → HaveNumbersOnce t
stand_once t judged = record {
  services = λ q. subst (λ (l : List ServiceRow). length l ≤ 1) (sym (services_hold_at t judged q)) (one_row (service_row q) (get (contents_of t).desk.services q));
  runs = λ q number. subst (λ (l : List RunRow). length l ≤ 1) (sym (runs_hold_at t judged q number)) (one_row (run_row q) (run_at number (past_of (contents_of t) q).runs));
  none = λ q. runs_hold_at t judged q 0;
}

other_key : (k : RunKey) (q : List ℕ) (number : ℕ) (row : BindingRow) → key_eq (q, number) k ≡ false → key_eq k (binding_key row) ≡ true → key_eq (q, number) (binding_key row) ≡ false
other_key k q number row other is =
    elim (key_eq (q, number) (binding_key row))
    as (λ b. key_eq (q, number) (binding_key row) ≡ b → key_eq (q, number) (binding_key row) ≡ false) [
      | true ↦ λ e.
          let same : (q, number) ≡ k = keys_tell.same (q, number) (binding_key row) e ∙ sym (keys_tell.same k (binding_key row) is) in
          absurd (true≢false (sym (keys_tell.own (q, number)) ∙ ap (key_eq (q, number)) same ∙ other))
      | false ↦ λ e. e
    ] refl

no_bindings : (t : Tables) → AreServicesJudged t → (q : List ℕ) (number : ℕ) → filter (key_eq (q, number)) (keys_in t) ≡ [] → filter (is_binding_of q number) t.bindings ≡ []
no_bindings t judged q number none =
    let all : sum_by (bindings_at t) (keys_in t) ≡ length t.bindings = sum_of_keys t ∙ judged.bindings in
    no_strays (λ (k : RunKey) (row : BindingRow). is_binding_of k.0 k.1 row) (bindings_at t) (keys_in t) t.bindings
    (distinct_keys key_eq keys_tell own_keys binding_key (keys_in t) (keys_once t (stand_once t judged)))
    (each_in (λ (k : RunKey). bindings_at t k ≤ length (filter (is_binding_of k.0 k.1) t.bindings)) (keys_in t) (λ k at. omega arith))
    (omega arith) (is_binding_of q number)
    (weaker (λ k. key_eq (q, number) k ≡ false) (λ k. Apart (is_binding_of k.0 k.1) (is_binding_of q number)) (λ k other row is. other_key k q number row other is) (keys_in t) (none_pass (key_eq (q, number)) (keys_in t) none))

none_by_template : (t : Tables) → AreServicesJudged t → (q : List ℕ) (number : ℕ) (template : List ℕ) → filter (key_eq (q, number)) (keys_in t) ≡ [] → filter (is_binding q number template) t.bindings ≡ []
none_by_template t judged q number template none =
    sym (by_template t q number template) ∙ ap (filter (λ (row : BindingRow). bytes_eq template row.template)) (no_bindings t judged q number none)

-- Those of a service that is judged.

attempt_bound : (t : Tables) (row : ServiceRow) (j : IsServiceJudged t row) → AreBindings t row.name 0 (all_revisions j.service.bound)
attempt_bound t row j =
    bindings_of_number t row.name 0 (all_revisions j.service.bound)
    (subst (λ (b : BoundParts). AllByRecursion (IsKnown (known_in t row.name 0)) (all_revisions b)) (sym (standing_judged t row j).bound) (all_known (known_in t row.name 0) (strategy_of j.made))) j.bindings

run_bound : (t : Tables) (row : ServiceRow) (j : IsServiceJudged t row) (place : ℕ) (r : RunRecord) → slice_get j.runs place ≡ Some r → AreBindings t row.name (suc place) r.analysis.revisions
run_bound t row j place r there =
    let is : IsRunJudged t (strategy_of j.made) row.name r = (j.each place r there).1 in
    subst (λ n. AreBindings t row.name n r.analysis.revisions) (j.each place r there).0
    (bindings_of_number t row.name r.number r.analysis.revisions (analysis_known (known_in t row.name r.number) (strategy_of j.made) r.step r.analysis is.analysis) is.bindings)

bindings_under : (t : Tables) → AreServicesJudged t → (row : ServiceRow) (j : IsServiceJudged t row) (number : ℕ) (template : List ℕ) → filter (is_binding row.name number template) t.bindings ≡ binding_rows row.name number template (Some (service_judged j))
bindings_under t judged row j zero template = attempt_bound t row j template
bindings_under t judged row j (suc place) template =
    let runs : List Run = map (run_made j.measurements) j.runs in
    let many : length runs ≡ length j.runs = length-map j.runs (run_made j.measurements) in
    elim (below_or place (length j.runs))
    as (λ x. filter (is_binding row.name (suc place) template) t.bindings ≡ row_if (binding_row row.name (suc place)) (find (is_of_template template) (revisions_of_run (slice_get runs place)))) [
      | inl below ↦
          let h : HasPlace j.runs place = has_place j.runs place below in
          let there : slice_get runs place ≡ Some (run_made j.measurements h.value) = slice_get-map (run_made j.measurements) j.runs place ∙ ap (option_map (run_made j.measurements)) h.there in
          run_bound t row j place h.value h.there template ∙ ap (λ (o : Option Run). row_if (binding_row row.name (suc place)) (find (is_of_template template) (revisions_of_run o))) (sym there)
      | inr above ↦
          let gone : slice_get runs place ≡ None = none_behind runs place (omega arith) in
          let no_run : filter (is_run row.name (suc place)) t.runs ≡ [] =
          runs_hold_at t judged row.name (suc place) ∙ ap (λ (p : Past). run_rows row.name (suc place) p.runs) (past_there t row j) ∙ ap (row_if (run_row row.name)) gone in
          none_by_template t judged row.name (suc place) template (no_run_key t row.name place no_run)
          ∙ ap (λ (o : Option Run). row_if (binding_row row.name (suc place)) (find (is_of_template template) (revisions_of_run o))) (sym gone)
    ]

no_run_rows : (q : List ℕ) (number : ℕ) → run_rows q number [] ≡ []
no_run_rows q zero = refl
no_run_rows q (suc place) = refl

pub bindings_hold_at : (t : Tables) → AreServicesJudged t → (q : List ℕ) (number : ℕ) (template : List ℕ) → filter (is_binding q number template) t.bindings ≡ binding_rows q number template (get (contents_of t).desk.services q)
bindings_hold_at t judged q number template =
    elim (none_or_service t judged q) as (λ x. filter (is_binding q number template) t.bindings ≡ binding_rows q number template (get (contents_of t).desk.services q)) [
      | inl none ↦
          let no_run : filter (is_run q number) t.runs ≡ [] = runs_hold_at t judged q number ∙ ap (λ (p : Past). run_rows q number p.runs) (past_gone t q none) ∙ no_run_rows q number in
          none_by_template t judged q number template (no_service_key t q number none no_run) ∙ ap (binding_rows q number template) (sym (service_gone t q none))
      | inr one ↦ subst (λ n. filter (is_binding n number template) t.bindings ≡ binding_rows n number template (get (contents_of t).desk.services n)) one.named
          (bindings_under t judged one.row one.has.judged number template ∙ ap (binding_rows one.row.name number template) (sym (service_there t one.row one.has.judged)))
    ]
