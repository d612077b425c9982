-- Rows under keys, and under each key numbered without a gap: none has another key or another number.
use Rattle.std.proofs.Common.{◌≡◌, ◌⊎◌, ℕ, ◌+◌, ◌≤◌, ◌<◌, List, [], length, Bool, arith}
use Rattle.std.specs.Prelude.{filter}
use Rattle.std.specs.List.{AllByRecursion, sum_by}
use Rattle.canary_tables_contents.proofs.Strays.{Apart, AreApart, HaveAtLeast, no_strays, just_so_many}
use Rattle.canary_tables_contents.proofs.Numbers.{is_numbered, numbers_together, no_other_number}
use Rattle.canary_tables_contents.proofs.Named.{both, weaker}

-- under a key stands a row for each of its numbers, from the first on
abbrev pub HasNumbers : {R K : Type 0} → (K → R → Bool) → (K → ℕ) → (R → ℕ) → ℕ → List R → K → Type 0
HasNumbers is n number first rows k = (j : ℕ) → first ≤ j → j < first + n k → 1 ≤ length (filter (is_numbered number j) (filter (is k) rows))

-- under a key no row has another number
abbrev pub HasNoOthers : {R K : Type 0} → (K → R → Bool) → (K → ℕ) → (R → ℕ) → ℕ → List R → K → Type 0
HasNoOthers is n number first rows k = (j : ℕ) → (j < first) ⊎ (first + n k ≤ j) → filter (is_numbered number j) (filter (is k) rows) ≡ []

pub have_numbers : {R K : Type 0} (is : K → R → Bool) (n : K → ℕ) (number : R → ℕ) (first : ℕ) (rows : List R) (ks : List K) → AllByRecursion (HasNumbers is n number first rows) ks → HaveAtLeast is n rows ks
have_numbers is n number first rows ks each = weaker (HasNumbers is n number first rows) (λ k. n k ≤ length (filter (is k) rows)) (λ k h. numbers_together number (filter (is k) rows) first (n k) h) ks each

-- no row has a key apart from these
pub no_other_key : {R K : Type 0} (is : K → R → Bool) (n : K → ℕ) (number : R → ℕ) (first : ℕ) (rows : List R) (ks : List K) → AreApart is ks → AllByRecursion (HasNumbers is n number first rows) ks → length rows ≤ sum_by n ks
    → (q : R → Bool) → AllByRecursion (λ k. Apart (is k) q) ks → filter q rows ≡ []
no_other_key is n number first rows ks apart each few q other = no_strays is n ks rows apart (have_numbers is n number first rows ks each) few q other

-- and under these keys none has another number
pub no_others : {R K : Type 0} (is : K → R → Bool) (n : K → ℕ) (number : R → ℕ) (first : ℕ) (rows : List R) (ks : List K) → AreApart is ks → AllByRecursion (HasNumbers is n number first rows) ks → length rows ≤ sum_by n ks
    → AllByRecursion (HasNoOthers is n number first rows) ks
no_others is n number first rows ks apart each few =
    weaker (λ k. HasNumbers is n number first rows k × (length (filter (is k) rows) ≡ n k)) (HasNoOthers is n number first rows) (λ k h.
    let many : length (filter (is k) rows) ≡ n k = h.1 in
    no_other_number number (filter (is k) rows) first (n k) h.0 (omega arith)) ks
    (both (HasNumbers is n number first rows) (λ k. length (filter (is k) rows) ≡ n k) ks each (just_so_many is n ks rows apart (have_numbers is n number first rows ks each) few))
