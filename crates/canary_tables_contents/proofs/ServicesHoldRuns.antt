-- If services are judged, their rows and those of their runs are those of contents.
use Rattle.std.proofs.Common.{◌≡◌, ◌⊎◌, inl, inr, ℕ, zero, suc, ◌≤◌, List, [], ◌∷◌, length, Bool, Some, None, refl, sym, ap, ◌∙◌, subst, arith}
use Rattle.std.specs.Prelude.{Option, filter, map, option_map, slice_get}
use Rattle.std.specs.Str.{bytes_eq}
use Rattle.std.specs.Option.{option_or}
use Rattle.std.specs.List.{AllByRecursion, sum_by}
use Rattle.std.specs.FinMap.{get}
use Rattle.std.proofs.lemmas.List.{length-map}
use Rattle.std.proofs.lemmas.Option.{slice_get-map}
use Rattle.canary_release.specs.Pasts.{Run, Past, no_past}
use Rattle.canary_release.specs.Desks.{ModelService}
use Rattle.canary_once.specs.Records.{past_in, past_of}
use Rattle.canary_tables_rows.specs.declared.rows.ServiceRow.{ServiceRow}
use Rattle.canary_tables_rows.specs.declared.rows.RunRow.{RunRow}
use Rattle.canary_tables_rows.specs.Tables.{Tables, is_service, is_run}
use Rattle.canary_tables_contents.specs.Values.{service_row, run_row}
use Rattle.canary_tables_contents.specs.Tables.{row_if, run_rows}
use Rattle.canary_tables_contents.specs.Reading.{service_of_row, contents_of}
use Rattle.canary_tables_contents.specs.Services.{IsServiceJudged, AreServicesJudged}
use Rattle.canary_tables_contents.proofs.Numbers.{is_numbered}
use Rattle.canary_tables_contents.proofs.Named.{first_of, get-map, filter_twice, IsOneOf, none_or_one, both, weaker, distinct, unnamed}
use Rattle.canary_tables_contents.proofs.NamedRows.{names, StandOnce}
use Rattle.canary_tables_contents.proofs.JudgedCallers.{none_behind}
use Rattle.canary_tables_contents.proofs.CallersHold.{below_or}
use Rattle.canary_tables_contents.proofs.CallersJudged.{HasPlace, has_place}
use Rattle.canary_tables_contents.proofs.Levels.{HasNumbers, HasNoOthers, no_other_key, no_others}
use Rattle.canary_tables_contents.proofs.ServicesHoldRows.{run_made, service_judged, have_run_rows, service_read, row_again}

abbrev pub service_name : ServiceRow → List ℕ
service_name row = row.name

abbrev pub run_service : RunRow → List ℕ
run_service row = row.service

abbrev pub run_number : RunRow → ℕ
run_number row = row.number

abbrev pub runs_in : ServiceRow → ℕ
runs_in row = row.standing.runs

abbrev pub of_service : List ℕ → RunRow → Bool
of_service q row = bytes_eq q row.service

-- each name stands once
pub services_once : (t : Tables) → AreServicesJudged t → StandOnce service_name t.services
services_once t judged = weaker (IsServiceJudged t) (λ row. length (filter (is_service row.name) t.services) ≤ 1) (λ row j. (let one : length (filter (is_service row.name) t.services) ≡ 1 = ap length j.one in omega arith)) t.services judged.each

-- Runs under a name.

numbered_of : (t : Tables) (q : List ℕ) (number : ℕ) → filter (is_numbered run_number number) (filter (of_service q) t.runs) ≡ filter (is_run q number) t.runs
numbered_of t q number = filter_twice (is_numbered run_number number) (of_service q) t.runs

has_runs : (t : Tables) (row : ServiceRow) → IsServiceJudged t row → HasNumbers (names service_name run_service) runs_in run_number 1 t.runs row
has_runs t row j zero low high = absurd (omega arith)
has_runs t row j (suc place) low high =
    let many : length j.runs ≡ row.standing.runs = j.as_many in
    let h : HasPlace j.runs place = has_place j.runs place (omega arith) in
    let one : length (filter (is_numbered run_number (suc place)) (filter (of_service row.name) t.runs)) ≡ 1 = ap length (numbered_of t row.name (suc place) ∙ (have_run_rows t row j place h.value h.there).0) in
    omega arith

all_have : (t : Tables) → AreServicesJudged t → AllByRecursion (HasNumbers (names service_name run_service) runs_in run_number 1 t.runs) t.services
all_have t judged = weaker (IsServiceJudged t) (HasNumbers (names service_name run_service) runs_in run_number 1 t.runs) (has_runs t) t.services judged.each

no_more : (t : Tables) → AreServicesJudged t → length t.runs ≤ sum_by runs_in t.services
no_more t judged = let all : sum_by runs_in t.services ≡ length t.runs = judged.runs in omega arith

-- a service that is judged, and under whose name stand no other runs
pub record IsServiceAlone (t : Tables) (row : ServiceRow) : Type 0 where
  pub judged : IsServiceJudged t row
  pub alone : HasNoOthers (names service_name run_service) runs_in run_number 1 t.runs row

abbrev pub OneService : Tables → List ℕ → Type 0
OneService t q = IsOneOf service_name (IsServiceAlone t) t.services q

pub none_or_service : (t : Tables) → AreServicesJudged t → (q : List ℕ) → (filter (is_service q) t.services ≡ []) ⊎ OneService t q
none_or_service t judged q =
    let Others : ServiceRow → Type 0 = HasNoOthers (names service_name run_service) runs_in run_number 1 t.runs in
    let alone : AllByRecursion Others t.services = no_others (names service_name run_service) runs_in run_number 1 t.runs t.services (distinct service_name run_service t.services (services_once t judged)) (all_have t judged) (no_more t judged) in
    none_or_one service_name (IsServiceAlone t) t.services (λ row h. h.judged.one)
    (weaker (λ row. IsServiceJudged t row × Others row) (IsServiceAlone t) (λ row h. record { judged = h.0; alone = h.1 }) t.services (both (IsServiceJudged t) Others t.services judged.each alone)) q

no_runs_of : (t : Tables) → AreServicesJudged t → (q : List ℕ) → filter (is_service q) t.services ≡ [] → filter (of_service q) t.runs ≡ []
no_runs_of t judged q none =
    no_other_key (names service_name run_service) runs_in run_number 1 t.runs t.services (distinct service_name run_service t.services (services_once t judged)) (all_have t judged) (no_more t judged) (of_service q) (unnamed service_name run_service t.services q none)

-- What is read under a name.

pub services_at : (t : Tables) (q : List ℕ) → get (contents_of t).desk.services q ≡ first_of (service_of_row t) (filter (is_service q) t.services)
services_at t q = get-map service_name (service_of_row t) t.services q

pub service_gone : (t : Tables) (q : List ℕ) → filter (is_service q) t.services ≡ [] → get (contents_of t).desk.services q ≡ None
service_gone t q none = services_at t q ∙ ap (first_of (service_of_row t)) none

pub past_gone : (t : Tables) (q : List ℕ) → filter (is_service q) t.services ≡ [] → past_of (contents_of t) q ≡ no_past
past_gone t q none = ap past_in (service_gone t q none)

pub service_there : (t : Tables) (row : ServiceRow) (j : IsServiceJudged t row) → get (contents_of t).desk.services row.name ≡ Some (service_judged j)
service_there t row j =
    services_at t row.name ∙ ap (first_of (service_of_row t)) j.one ∙ ap (λ (o : Option ModelService). option_or o None) (service_read t row j)

pub past_there : (t : Tables) (row : ServiceRow) (j : IsServiceJudged t row) → past_of (contents_of t) row.name ≡ (service_judged j).past
past_there t row j = ap past_in (service_there t row j)

-- Rows of services.

pub services_hold_at : (t : Tables) → AreServicesJudged t → (q : List ℕ) → filter (is_service q) t.services ≡ row_if (service_row q) (get (contents_of t).desk.services q)
services_hold_at t judged q =
    elim (none_or_service t judged q) as (λ x. filter (is_service q) t.services ≡ row_if (service_row q) (get (contents_of t).desk.services q)) [
      | inl none ↦ none ∙ ap (row_if (service_row q)) (sym (service_gone t q none))
      | inr one ↦ subst (λ n. filter (is_service n) t.services ≡ row_if (service_row n) (get (contents_of t).desk.services n)) one.named
          (one.has.judged.one ∙ ap (λ r. r ∷ []) (sym (row_again t one.row one.has.judged)) ∙ ap (row_if (service_row one.row.name)) (sym (service_there t one.row one.has.judged)))
    ]

-- Rows of runs.

no_run_rows : (q : List ℕ) (number : ℕ) → run_rows q number [] ≡ []
no_run_rows q zero = refl
no_run_rows q (suc place) = refl

runs_under : (t : Tables) (row : ServiceRow) (s : IsServiceAlone t row) (number : ℕ) → filter (is_run row.name number) t.runs ≡ run_rows row.name number (service_judged s.judged).past.runs
runs_under t row s zero = sym (numbered_of t row.name 0) ∙ s.alone 0 (inl (omega arith))
runs_under t row s (suc place) =
    let j : IsServiceJudged t row = s.judged in
    let runs : List Run = map (run_made j.measurements) j.runs in
    let many : length runs ≡ length j.runs = length-map j.runs (run_made j.measurements) in
    let all : length j.runs ≡ row.standing.runs = j.as_many in
    elim (below_or place (length j.runs)) as (λ x. filter (is_run row.name (suc place)) t.runs ≡ row_if (run_row row.name) (slice_get runs place)) [
      | inl below ↦
          let h : HasPlace j.runs place = has_place j.runs place below in
          let there : slice_get runs place ≡ Some (run_made j.measurements h.value) = slice_get-map (run_made j.measurements) j.runs place ∙ ap (option_map (run_made j.measurements)) h.there in
          (have_run_rows t row j place h.value h.there).0 ∙ ap (row_if (run_row row.name)) (sym there)
      | inr above ↦
          sym (numbered_of t row.name (suc place)) ∙ s.alone (suc place) (inr (omega arith))
          ∙ ap (row_if (run_row row.name)) (sym (none_behind runs place (omega arith)))
    ]

pub runs_hold_at : (t : Tables) → AreServicesJudged t → (q : List ℕ) (number : ℕ) → filter (is_run q number) t.runs ≡ run_rows q number (past_of (contents_of t) q).runs
runs_hold_at t judged q number =
    elim (none_or_service t judged q) as (λ x. filter (is_run q number) t.runs ≡ run_rows q number (past_of (contents_of t) q).runs) [
      | inl none ↦
          sym (numbered_of t q number) ∙ ap (filter (is_numbered run_number number)) (no_runs_of t judged q none) ∙ sym (no_run_rows q number)
          ∙ ap (λ (p : Past). run_rows q number p.runs) (sym (past_gone t q none))
      | inr one ↦ subst (λ n. filter (is_run n number) t.runs ≡ run_rows n number (past_of (contents_of t) n).runs) one.named
          (runs_under t one.row one.has number ∙ ap (λ (p : Past). run_rows one.row.name number p.runs) (sym (past_there t one.row one.has.judged)))
    ]
