-- What is added up service by service, and run by run within, is added up over all runs.
use Rattle.std.proofs.Common.{◌≡◌, ◌⊎◌, ℕ, zero, suc, ◌+◌, ◌≤◌, ◌<◌, List, [], ◌∷◌, length, Bool, refl, sym, ap, ◌∙◌, subst, arith}
use Rattle.std.specs.Prelude.{filter, not}
use Rattle.std.specs.Str.{bytes_eq}
use Rattle.std.specs.List.{AllByRecursion, sum_by}
use Rattle.std.proofs.lemmas.List.Filters.{sum_by-filter_both}
use Rattle.std.proofs.lemmas.List.Sums.{sum_by-cons}
use Rattle.canary_tables_rows.specs.declared.rows.RunRow.{RunRow}
use Rattle.canary_tables_rows.specs.declared.rows.ServiceRow.{ServiceRow}
use Rattle.canary_tables_rows.specs.declared.rows.TallyRow.{TallyRow}
use Rattle.canary_tables_rows.specs.declared.rows.BindingRow.{BindingRow}
use Rattle.canary_tables_rows.specs.Tables.{Tables, is_service, is_run, is_binding_of, is_tally_of}
use Rattle.canary_tables_contents.specs.Services.{row_of_record, IsServiceJudged}
use Rattle.canary_tables_contents.specs.Totals.{tallies_to, tallies_under, bindings_to, bindings_under, RunsAreSummedByService, BindingsAreSummedByService}
use Rattle.canary_tables_contents.proofs.Strays.{Apart, AreApart, HasKey, without, without_others, keys_without, just_so_many, no_strays, count_up}
use Rattle.canary_tables_contents.proofs.Numbers.{is_numbered, all_apart, each_up, all_have, no_other_number}
use Rattle.canary_tables_contents.proofs.Named.{own_key, IsIn, each_in, in_filter, filter_twice, both, weaker, distinct, unnamed}
use Rattle.canary_tables_contents.proofs.Levels.{HasNumbers, have_numbers}
use Rattle.canary_tables_contents.proofs.NamedRows.{names, has_named}
use Rattle.canary_tables_contents.proofs.CallersJudged.{HasPlace, has_place}
use Rattle.canary_tables_contents.proofs.ServicesJudgedLists.{same_sums, within_numbers}
use Rattle.canary_tables_contents.proofs.ServicesJudgedSums.{service_name, run_service, run_number}

-- Sums over rows, by their keys.

same_behind : {R K : Type 0} (is : K → R → Bool) (f : R → ℕ) (k : K) (ks : List K) (rows : List R) → AllByRecursion (λ j. Apart (is k) (is j)) ks
    → sum_by (λ j. sum_by f (filter (is j) (without (is k) rows))) ks ≡ sum_by (λ j. sum_by f (filter (is j) rows)) ks
same_behind is f k ks rows apart =
    same_sums (λ j. sum_by f (filter (is j) (without (is k) rows))) (λ j. sum_by f (filter (is j) rows)) ks
    (weaker (λ j. Apart (is k) (is j)) (λ j. sum_by f (filter (is j) (without (is k) rows)) ≡ sum_by f (filter (is j) rows)) (λ j a. ap (sum_by f) (without_others (is k) (is j) a rows)) ks apart)

none_keyed : {R K : Type 0} (is : K → R → Bool) (f : R → ℕ) (rows : List R) → AllByRecursion (HasKey is []) rows → sum_by f rows ≡ 0
none_keyed is f [] all = refl
none_keyed is f (row ∷ rows) all = absurd (all.0)

-- if each row has one of the keys, which are apart
sum_by_keys : {R K : Type 0} (is : K → R → Bool) (f : R → ℕ) (ks : List K) (rows : List R) → AreApart is ks → AllByRecursion (HasKey is ks) rows → sum_by f rows ≡ sum_by (λ k. sum_by f (filter (is k) rows)) ks
sum_by_keys is f [] rows apart all = none_keyed is f rows all
sum_by_keys is f (k ∷ ks) rows apart all =
    let rest : sum_by f (without (is k) rows) ≡ sum_by (λ j. sum_by f (filter (is j) (without (is k) rows))) ks = sum_by_keys is f ks (without (is k) rows) apart.1 (keys_without is k ks rows all) in
    let same : sum_by (λ j. sum_by f (filter (is j) (without (is k) rows))) ks ≡ sum_by (λ j. sum_by f (filter (is j) rows)) ks = same_behind is f k ks rows apart.0 in
    let parts : sum_by f (filter (is k) rows) + sum_by f (without (is k) rows) ≡ sum_by f rows = sum_by-filter_both (is k) (λ row. not (is k row)) (λ row. refl) f rows in
    let sum : sum_by (λ j. sum_by f (filter (is j) rows)) (k ∷ ks) ≡ sum_by f (filter (is k) rows) + sum_by (λ j. sum_by f (filter (is j) rows)) ks = sum_by-cons (λ j. sum_by f (filter (is j) rows)) k ks in
    omega arith

-- Numbers.

up_to_last : (g : ℕ → ℕ) (first n : ℕ) → sum_by g (count_up first (suc n)) ≡ sum_by g (count_up first n) + g (first + n)
up_to_last g first zero = ap (λ k. 0 + g k) (let e : first ≡ first + 0 = omega arith in e)
up_to_last g first (suc n) =
    let one : sum_by g (count_up first (suc (suc n))) ≡ g first + sum_by g (count_up (suc first) (suc n)) = sum_by-cons g first (count_up (suc first) (suc n)) in
    let two : sum_by g (count_up first (suc n)) ≡ g first + sum_by g (count_up (suc first) n) = sum_by-cons g first (count_up (suc first) n) in
    let behind : sum_by g (count_up (suc first) (suc n)) ≡ sum_by g (count_up (suc first) n) + g (suc first + n) = up_to_last g (suc first) n in
    let last : g (suc first + n) ≡ g (first + suc n) = ap g (let e : suc first + n ≡ first + suc n = omega arith in e) in
    omega arith

-- what each run of a service has, by its number
abbrev to_run : (List ℕ → ℕ → ℕ) → List ℕ → ℕ → ℕ
to_run n name zero = 0
to_run n name (suc k) = to_run n name k + n name (suc k)

up_to : (n : List ℕ → ℕ → ℕ) (name : List ℕ) (k : ℕ) → sum_by (n name) (count_up 1 k) ≡ to_run n name k
up_to n name zero = refl
up_to n name (suc k) =
    let last : sum_by (n name) (count_up 1 (suc k)) ≡ sum_by (n name) (count_up 1 k) + n name (1 + k) = up_to_last (n name) 1 k in
    let number : n name (1 + k) ≡ n name (suc k) = ap (n name) (let e : 1 + k ≡ suc k = omega arith in e) in
    let before : sum_by (n name) (count_up 1 k) ≡ to_run n name k = up_to n name k in
    omega arith

-- The runs of a service.

abbrev runs_of : Tables → List ℕ → List RunRow
runs_of t name = filter (λ (r : RunRow). bytes_eq name r.service) t.runs

abbrev by_run : (List ℕ → ℕ → ℕ) → RunRow → ℕ
by_run n row = n row.service row.number

-- the one row of a number of a service's runs
record IsRunAt (t : Tables) (name : List ℕ) (number : ℕ) : Type 0 where
  row : RunRow
  one : filter (is_numbered run_number number) (runs_of t name) ≡ row ∷ []
  service : row.service ≡ name
  numbered : row.number ≡ number

run_at_number : (t : Tables) (row : ServiceRow) → IsServiceJudged t row → (number : ℕ) → 1 ≤ number → number < 1 + row.standing.runs → IsRunAt t row.name number
run_at_number t row j zero some within = absurd (omega arith)
run_at_number t row j (suc place) some within =
    let many : length j.runs ≡ row.standing.runs = j.as_many in
    let h : HasPlace j.runs place = has_place j.runs place (omega arith) in
    let is = j.each place h.value h.there in
    record {
      row = row_of_record row.name h.value;
      one = filter_twice (is_numbered run_number (suc place)) (λ (r : RunRow). bytes_eq row.name r.service) t.runs ∙ ap (λ n. filter (is_run row.name n) t.runs) (sym is.0) ∙ is.1.one;
      service = refl;
      numbered = is.0;
    }

has_numbers : (t : Tables) (row : ServiceRow) → IsServiceJudged t row → HasNumbers (names service_name run_service) (λ (r : ServiceRow). r.standing.runs) run_number 1 t.runs row
has_numbers t row j k some within =
    let h : IsRunAt t row.name k = run_at_number t row j k some within in
    let one : length (filter (is_numbered run_number k) (runs_of t row.name)) ≡ 1 = ap length h.one in
    omega arith

its_own : (t : Tables) (n : List ℕ → ℕ → ℕ) (name : List ℕ) (number : ℕ) → IsRunAt t name number → sum_by (by_run n) (filter (is_numbered run_number number) (runs_of t name)) ≡ n name number
its_own t n name number h =
    let alone : sum_by (by_run n) (filter (is_numbered run_number number) (runs_of t name)) ≡ 0 + by_run n h.row = ap (sum_by (by_run n)) h.one in
    let same : by_run n h.row ≡ n name number = λ i. n (h.service i) (h.numbered i) in
    omega arith

-- if these are all of a service
sum_of_service : (t : Tables) (n : List ℕ → ℕ → ℕ) (row : ServiceRow) → IsServiceJudged t row → length (runs_of t row.name) ≡ row.standing.runs → sum_by (by_run n) (runs_of t row.name) ≡ to_run n row.name row.standing.runs
sum_of_service t n row j just =
    let many : ℕ = row.standing.runs in
    let rows : List RunRow = runs_of t row.name in
    let none : (k : ℕ) → (k < 1) ⊎ (1 + many ≤ k) → filter (is_numbered run_number k) rows ≡ [] = no_other_number run_number rows 1 many (has_numbers t row j) (omega arith) in
    let keyed : AllByRecursion (HasKey (is_numbered run_number) (count_up 1 many)) rows = all_have run_number rows 1 many (each_in (λ r. (1 ≤ run_number r) × (run_number r < 1 + many)) rows (within_numbers run_number rows 1 many none)) in
    sum_by_keys (is_numbered run_number) (by_run n) (count_up 1 many) rows (all_apart run_number 1 many) keyed
    ∙ same_sums (λ k. sum_by (by_run n) (filter (is_numbered run_number k) rows)) (n row.name) (count_up 1 many)
    (each_up (λ k. sum_by (by_run n) (filter (is_numbered run_number k) rows) ≡ n row.name k) 1 many (λ k a b. its_own t n row.name k (run_at_number t row j k a b)))
    ∙ up_to n row.name many

-- All runs.

services_apart : (t : Tables) → AllByRecursion (IsServiceJudged t) t.services → AreApart (names service_name run_service) t.services
services_apart t each =
    distinct service_name run_service t.services
    (weaker (IsServiceJudged t) (λ (row : ServiceRow). length (filter (is_service row.name) t.services) ≤ 1) (λ row j. (let one : length (filter (is_service row.name) t.services) ≡ 1 = ap length j.one in omega arith)) t.services each)

all_number : (t : Tables) → AllByRecursion (IsServiceJudged t) t.services → AllByRecursion (HasNumbers (names service_name run_service) (λ (r : ServiceRow). r.standing.runs) run_number 1 t.runs) t.services
all_number t each = weaker (IsServiceJudged t) (HasNumbers (names service_name run_service) (λ (r : ServiceRow). r.standing.runs) run_number 1 t.runs) (has_numbers t) t.services each

summed : (t : Tables) (n : List ℕ → ℕ → ℕ) → AllByRecursion (IsServiceJudged t) t.services → sum_by (λ (row : ServiceRow). row.standing.runs) t.services ≡ length t.runs
    → sum_by (by_run n) t.runs ≡ sum_by (λ (row : ServiceRow). to_run n row.name row.standing.runs) t.services
summed t n each all =
    let runs : ServiceRow → ℕ = λ row. row.standing.runs in
    let is : ServiceRow → RunRow → Bool = names service_name run_service in
    let under : ServiceRow → ℕ = λ row. to_run n row.name row.standing.runs in
    let apart : AreApart is t.services = services_apart t each in
    let have = have_numbers is runs run_number 1 t.runs t.services (all_number t each) in
    let few : length t.runs ≤ sum_by runs t.services = omega arith in
    let just : AllByRecursion (λ (row : ServiceRow). length (filter (is row) t.runs) ≡ runs row) t.services = just_so_many is runs t.services t.runs apart have few in
    let named : (x : RunRow) → IsIn x t.runs → HasKey is t.services x = λ x at. has_named service_name run_service t.services x (λ none.
    subst (IsIn x) (no_strays is runs t.services t.runs apart have few (λ (r : RunRow). bytes_eq x.service r.service) (unnamed service_name run_service t.services x.service none)) (in_filter (λ (r : RunRow). bytes_eq x.service r.service) x t.runs at (own_key x.service))) in
    sum_by_keys is (by_run n) t.services t.runs apart (each_in (HasKey is t.services) t.runs named)
    ∙ same_sums (λ row. sum_by (by_run n) (filter (is row) t.runs)) under t.services
    (weaker (λ (row : ServiceRow). IsServiceJudged t row × (length (filter (is row) t.runs) ≡ runs row)) (λ row. sum_by (by_run n) (filter (is row) t.runs) ≡ under row) (λ row h. sum_of_service t n row h.0 h.1) t.services
    (both (IsServiceJudged t) (λ (row : ServiceRow). length (filter (is row) t.runs) ≡ runs row) t.services each just))

-- Tallies, and rows of binding.

abbrev tallies_of : List TallyRow → List ℕ → ℕ → ℕ
tallies_of tallies name number = length (filter (is_tally_of name number) tallies)

tallies_same : (tallies : List TallyRow) (name : List ℕ) (k : ℕ) → to_run (tallies_of tallies) name k ≡ tallies_to tallies name k
tallies_same tallies name zero = refl
tallies_same tallies name (suc k) = ap (λ m. m + tallies_of tallies name (suc k)) (tallies_same tallies name k)

pub runs_are_summed : RunsAreSummedByService
runs_are_summed t each all =
    summed t (tallies_of t.tallies) each all
    ∙ same_sums (λ (row : ServiceRow). to_run (tallies_of t.tallies) row.name row.standing.runs) (tallies_under t) t.services
    (each_in (λ (row : ServiceRow). to_run (tallies_of t.tallies) row.name row.standing.runs ≡ tallies_under t row) t.services (λ row at. tallies_same t.tallies row.name row.standing.runs))

abbrev bindings_of : List BindingRow → List ℕ → ℕ → ℕ
bindings_of bindings name number = length (filter (is_binding_of name number) bindings)

bindings_same : (bindings : List BindingRow) (name : List ℕ) (k : ℕ) → to_run (bindings_of bindings) name k ≡ bindings_to bindings name k
bindings_same bindings name zero = refl
bindings_same bindings name (suc k) = ap (λ m. m + bindings_of bindings name (suc k)) (bindings_same bindings name k)

sum_of_both : {X : Type 0} (f g : X → ℕ) (xs : List X) → sum_by f xs + sum_by g xs ≡ sum_by (λ x. f x + g x) xs
sum_of_both f g [] = refl
sum_of_both f g (x ∷ xs) =
    let rest : sum_by f xs + sum_by g xs ≡ sum_by (λ y. f y + g y) xs = sum_of_both f g xs in
    let one : sum_by f (x ∷ xs) ≡ f x + sum_by f xs = sum_by-cons f x xs in
    let two : sum_by g (x ∷ xs) ≡ g x + sum_by g xs = sum_by-cons g x xs in
    let three : sum_by (λ y. f y + g y) (x ∷ xs) ≡ (f x + g x) + sum_by (λ y. f y + g y) xs = sum_by-cons (λ y. f y + g y) x xs in
    omega arith

pub bindings_are_summed : BindingsAreSummedByService
bindings_are_summed t each all =
    let attempt : ServiceRow → ℕ = λ row. bindings_of t.bindings row.name 0 in
    let of_runs : ServiceRow → ℕ = λ row. to_run (bindings_of t.bindings) row.name row.standing.runs in
    ap (λ m. sum_by attempt t.services + m) (summed t (bindings_of t.bindings) each all)
    ∙ sum_of_both attempt of_runs t.services
    ∙ same_sums (λ (row : ServiceRow). attempt row + of_runs row) (bindings_under t) t.services
    (each_in (λ (row : ServiceRow). attempt row + of_runs row ≡ bindings_under t row) t.services (λ row at. ap (λ m. attempt row + m) (bindings_same t.bindings row.name row.standing.runs)))
