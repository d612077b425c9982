-- The runs that may have rows of binding: run 0 of each service, and each run.
use Rattle.std.proofs.Common.{◌≡◌, inl, inr, ℕ, zero, suc, ◌+◌, ◌≤◌, ◌==◌, List, [], ◌∷◌, ◌++◌, length, Bool, true, false, refl, sym, ap, ◌∙◌, subst, arith}
use Rattle.std.specs.Prelude.{◌&&◌, cond, filter, map}
use Rattle.std.specs.Str.{bytes_eq}
use Rattle.std.specs.List.{AllByRecursion, sum_by}
use Rattle.std.proofs.lemmas.Bool.Decides.{Decides-eqb}
use Rattle.std.proofs.lemmas.List.{length-append}
use Rattle.std.proofs.lemmas.List.Elements.{filter-append, filter_agree}
use Rattle.std.proofs.lemmas.List.Sums.{sum_by-append, sum_by-cons}
use Rattle.canary_tables_rows.specs.declared.rows.ServiceRow.{ServiceRow}
use Rattle.canary_tables_rows.specs.declared.rows.RunRow.{RunRow}
use Rattle.canary_tables_rows.specs.declared.rows.BindingRow.{BindingRow}
use Rattle.canary_tables_rows.specs.Tables.{Tables, is_service, is_run, is_binding_of}
use Rattle.canary_tables_contents.proofs.Named.{own_key, equal_keys, filter_twice, each_in}
use Rattle.canary_tables_contents.proofs.JudgedKeys.{Tells, HaveOnce}

-- Runs by service and number.

abbrev pub RunKey : Type 0
RunKey = List ℕ × ℕ

abbrev pub key_eq : RunKey → RunKey → Bool
key_eq a b = bytes_eq a.0 b.0 && a.1 == b.1

both_hold : (a b : Bool) → a && b ≡ true → (a ≡ true) × (b ≡ true)
both_hold true b e = (refl, e)
both_hold false b e = absurd (cc)

pub keys_tell : Tells key_eq
keys_tell = record {
  same = λ a b e.
      let h : (bytes_eq a.0 b.0 ≡ true) × ((a.1 == b.1) ≡ true) = both_hold (bytes_eq a.0 b.0) (a.1 == b.1) e in
      λ i. (equal_keys a.0 b.0 h.0 i, (Decides-eqb a.1 b.1).0 h.1 i);
  own = λ a. λ i. own_key a.0 i && (Decides-eqb a.1 a.1).1 refl i;
}

abbrev pub run_key : RunRow → RunKey
run_key row = (row.service, row.number)

-- run 0 stands for the present attempt
abbrev pub service_key : ServiceRow → RunKey
service_key row = (row.name, 0)

abbrev pub binding_key : BindingRow → RunKey
binding_key row = (row.service, row.run)

abbrev pub own_keys : RunKey → RunKey
own_keys k = k

abbrev pub keys_in : Tables → List RunKey
keys_in t = map service_key t.services ++ map run_key t.runs

abbrev pub bindings_at : Tables → RunKey → ℕ
bindings_at t k = length (filter (is_binding_of k.0 k.1) t.bindings)

-- Lists that are mapped.

pub kept_mapped : {A B : Type 0} (f : A → B) (p : B → Bool) (xs : List A) → length (filter p (map f xs)) ≡ length (filter (λ x. p (f x)) xs)
kept_mapped f p [] = refl
kept_mapped f p (x ∷ xs) =
    let rest : length (filter p (map f xs)) ≡ length (filter (λ x. p (f x)) xs) = kept_mapped f p xs in
    elim (p (f x)) as (λ b. length (cond b (f x ∷ filter p (map f xs)) (filter p (map f xs))) ≡ length (cond b (x ∷ filter (λ x. p (f x)) xs) (filter (λ x. p (f x)) xs))) [ true ↦ ap suc rest | false ↦ rest ]

pub sum_mapped : {A B : Type 0} (f : A → B) (n : B → ℕ) (xs : List A) → sum_by n (map f xs) ≡ sum_by (λ x. n (f x)) xs
sum_mapped f n [] = refl
sum_mapped f n (x ∷ xs) =
    let rest : sum_by n (map f xs) ≡ sum_by (λ y. n (f y)) xs = sum_mapped f n xs in
    let one : sum_by n (f x ∷ map f xs) ≡ n (f x) + sum_by n (map f xs) = sum_by-cons n (f x) (map f xs) in
    let two : sum_by (λ y. n (f y)) (x ∷ xs) ≡ n (f x) + sum_by (λ y. n (f y)) xs = sum_by-cons (λ y. n (f y)) x xs in
    omega arith

-- Each stands once.

none_fail : {X : Type 0} (xs : List X) → filter (λ (x : X). false) xs ≡ []
none_fail [] = refl
none_fail (x ∷ xs) = none_fail xs

and_true : (a : Bool) → (a && true) ≡ a
and_true true = refl
and_true false = refl

and_false : (a : Bool) → (a && false) ≡ false
and_false true = refl
and_false false = refl

fails : (b : Bool) → (b ≡ true → ⊥) → b ≡ false
fails true wrong = absurd (wrong refl)
fails false wrong = refl

not_zero : (n : ℕ) → (suc n == 0) ≡ false
not_zero n = fails (suc n == 0) (λ e. (let same : suc n ≡ 0 = (Decides-eqb (suc n) 0).0 e in absurd (omega arith)))

no_attempt : (q : List ℕ) (n : ℕ) (row : ServiceRow) → (bytes_eq q row.name && suc n == 0) ≡ false
no_attempt q n row = ap (λ b. bytes_eq q row.name && b) (not_zero n) ∙ and_false (bytes_eq q row.name)

-- what is known of the rows of services and runs
pub record HaveNumbersOnce (t : Tables) : Type 0 where
  pub services : (q : List ℕ) → length (filter (is_service q) t.services) ≤ 1
  pub runs : (q : List ℕ) (number : ℕ) → length (filter (is_run q number) t.runs) ≤ 1
  pub none : (q : List ℕ) → filter (is_run q 0) t.runs ≡ []

of_services : (t : Tables) (k : RunKey) → length (filter (key_eq k) (map service_key t.services)) ≡ length (filter (λ (row : ServiceRow). bytes_eq k.0 row.name && k.1 == 0) t.services)
of_services t k = kept_mapped service_key (key_eq k) t.services

of_runs : (t : Tables) (k : RunKey) → length (filter (key_eq k) (map run_key t.runs)) ≡ length (filter (is_run k.0 k.1) t.runs)
of_runs t k = kept_mapped run_key (key_eq k) t.runs

in_two : (t : Tables) (k : RunKey) → length (filter (key_eq k) (keys_in t)) ≡ length (filter (key_eq k) (map service_key t.services)) + length (filter (key_eq k) (map run_key t.runs))
in_two t k = ap length (filter-append (key_eq k) (map service_key t.services) (map run_key t.runs)) ∙ length-append (filter (key_eq k) (map service_key t.services)) (filter (key_eq k) (map run_key t.runs))

pub once_at : (t : Tables) → HaveNumbersOnce t → (q : List ℕ) (number : ℕ) → length (filter (key_eq (q, number)) (keys_in t)) ≤ 1
once_at t once q zero =
    let two = in_two t (q, 0) in
    let services = of_services t (q, 0) ∙ ap length (filter_agree (λ (row : ServiceRow). bytes_eq q row.name && 0 == 0) (is_service q) (λ row. and_true (bytes_eq q row.name)) t.services) in
    let runs = of_runs t (q, 0) ∙ ap length (once.none q) in
    let few : length (filter (is_service q) t.services) ≤ 1 = once.services q in
    let all : length (filter (key_eq (q, 0)) (keys_in t)) ≡ length (filter (is_service q) t.services) + 0 = two ∙ (λ i. services i + runs i) in
    omega arith
once_at t once q (suc n) =
    let two = in_two t (q, suc n) in
    let services = of_services t (q, suc n) ∙ ap length (filter_agree (λ (row : ServiceRow). bytes_eq q row.name && suc n == 0) (λ (row : ServiceRow). false) (no_attempt q n) t.services ∙ none_fail t.services) in
    let few : length (filter (is_run q (suc n)) t.runs) ≤ 1 = once.runs q (suc n) in
    let all : length (filter (key_eq (q, suc n)) (keys_in t)) ≡ 0 + length (filter (is_run q (suc n)) t.runs) = two ∙ (λ i. services i + of_runs t (q, suc n) i) in
    omega arith

pub keys_once : (t : Tables) → HaveNumbersOnce t → HaveOnce key_eq own_keys (keys_in t)
keys_once t once = each_in (λ (k : RunKey). length (filter (key_eq k) (keys_in t)) ≤ 1) (keys_in t) (λ k at. once_at t once k.0 k.1)

-- How many rows they have.

pub sum_of_keys : (t : Tables) → sum_by (bindings_at t) (keys_in t)
    ≡ sum_by (λ (row : ServiceRow). length (filter (is_binding_of row.name 0) t.bindings)) t.services + sum_by (λ (row : RunRow). length (filter (is_binding_of row.service row.number) t.bindings)) t.runs
sum_of_keys t =
    sum_by-append (bindings_at t) (map service_key t.services) (map run_key t.runs)
    ∙ (λ i. sum_mapped service_key (bindings_at t) t.services i + sum_mapped run_key (bindings_at t) t.runs i)

-- If no key is that of a run.

empty_of : {X : Type 0} (xs : List X) → length xs ≤ 0 → xs ≡ []
empty_of [] few = refl
empty_of (x ∷ xs) few = absurd (omega arith)

no_keys : (t : Tables) (q : List ℕ) (number : ℕ) → filter (λ (row : ServiceRow). bytes_eq q row.name && number == 0) t.services ≡ [] → filter (is_run q number) t.runs ≡ [] → filter (key_eq (q, number)) (keys_in t) ≡ []
no_keys t q number services runs =
    let all : length (filter (key_eq (q, number)) (keys_in t)) ≡ 0 + 0 = in_two t (q, number) ∙ (λ i. (of_services t (q, number) ∙ ap length services) i + (of_runs t (q, number) ∙ ap length runs) i) in
    empty_of (filter (key_eq (q, number)) (keys_in t)) (omega arith)

pub no_run_key : (t : Tables) (q : List ℕ) (n : ℕ) → filter (is_run q (suc n)) t.runs ≡ [] → filter (key_eq (q, suc n)) (keys_in t) ≡ []
no_run_key t q n none =
    no_keys t q (suc n) (filter_agree (λ (row : ServiceRow). bytes_eq q row.name && suc n == 0) (λ (row : ServiceRow). false) (no_attempt q n) t.services ∙ none_fail t.services) none

pub no_service_key : (t : Tables) (q : List ℕ) (number : ℕ) → filter (is_service q) t.services ≡ [] → filter (is_run q number) t.runs ≡ [] → filter (key_eq (q, number)) (keys_in t) ≡ []
no_service_key t q number none runs =
    no_keys t q number (sym (filter_twice (λ (row : ServiceRow). number == 0) (is_service q) t.services) ∙ ap (filter (λ (row : ServiceRow). number == 0)) none) runs

pub some_service : (t : Tables) (q : List ℕ) → filter (key_eq (q, 0)) (keys_in t) ≡ [] → filter (is_service q) t.services ≡ []
some_service t q none =
    let all : length (filter (key_eq (q, 0)) (map service_key t.services)) + length (filter (key_eq (q, 0)) (map run_key t.runs)) ≡ 0 = sym (in_two t (q, 0)) ∙ ap length none in
    let services : length (filter (key_eq (q, 0)) (map service_key t.services)) ≡ length (filter (is_service q) t.services) = of_services t (q, 0) ∙ ap length (filter_agree (λ (row : ServiceRow). bytes_eq q row.name && 0 == 0) (is_service q) (λ row. and_true (bytes_eq q row.name)) t.services) in
    empty_of (filter (is_service q) t.services) (omega arith)

pub some_run : (t : Tables) (q : List ℕ) (number : ℕ) → filter (key_eq (q, number)) (keys_in t) ≡ [] → filter (is_run q number) t.runs ≡ []
some_run t q number none =
    let all : length (filter (key_eq (q, number)) (map service_key t.services)) + length (filter (key_eq (q, number)) (map run_key t.runs)) ≡ 0 = sym (in_two t (q, number)) ∙ ap length none in
    let runs : length (filter (key_eq (q, number)) (map run_key t.runs)) ≡ length (filter (is_run q number) t.runs) = of_runs t (q, number) in
    empty_of (filter (is_run q number) t.runs) (omega arith)
