-- Rows that are counted under keys, so that none has another key.
use Rattle.std.proofs.Common.{◌≡◌, ◌⊎◌, inl, inr, true≢false, ℕ, zero, suc, ◌+◌, ◌≤◌, List, [], ◌∷◌, length, Bool, true, false, not, refl, sym, ap, ◌∙◌, arith}
use Rattle.std.specs.Prelude.{cond, filter}
use Rattle.std.specs.List.{AllByRecursion, sum_by}
use Rattle.std.proofs.lemmas.List.Filters.{length-filter_both}
use Rattle.std.proofs.lemmas.List.Sums.{sum_by-cons}

-- no row passes the tests of both
abbrev pub Apart : {R : Type 0} → (R → Bool) → (R → Bool) → Type 0
Apart {R} p q = (row : R) → p row ≡ true → q row ≡ false

-- each of the keys is apart from those after it
abbrev pub AreApart : {R K : Type 0} → (K → R → Bool) → List K → Type 0
AreApart is [] = Unit {0}
AreApart is (k ∷ ks) = AllByRecursion (λ j. Apart (is k) (is j)) ks × AreApart is ks

-- each key has so many rows at least
abbrev pub HaveAtLeast : {R K : Type 0} → (K → R → Bool) → (K → ℕ) → List R → List K → Type 0
HaveAtLeast is n rows ks = AllByRecursion (λ k. n k ≤ length (filter (is k) rows)) ks

-- the rows that fail a test
abbrev pub without : {R : Type 0} → (R → Bool) → List R → List R
without p rows = filter (λ row. not (p row)) rows

pub parted : {R : Type 0} (p : R → Bool) (rows : List R) → length (filter p rows) + length (without p rows) ≡ length rows
parted p rows = length-filter_both p (λ row. not (p row)) (λ row. refl) rows

left_in : {R : Type 0} (p q : R → Bool) (row : R) (rows : List R) (a b : Bool) → p row ≡ a → q row ≡ b → (a ≡ true → b ≡ false) → filter q (without p rows) ≡ filter q rows
    → filter q (cond (not a) (row ∷ without p rows) (without p rows)) ≡ cond b (row ∷ filter q rows) (filter q rows)
left_in p q row rows true true is also apart rest = let no : true ≡ false = apart refl in absurd (cc)
left_in p q row rows true false is also apart rest = rest
left_in p q row rows false b is also apart rest = λ i. cond (also i) (row ∷ rest i) (rest i)

-- a test that is apart from another sees the rows without the other's
pub without_others : {R : Type 0} (p q : R → Bool) → Apart p q → (rows : List R) → filter q (without p rows) ≡ filter q rows
without_others p q apart [] = refl
without_others p q apart (row ∷ rows) = left_in p q row rows (p row) (q row) refl refl (apart row) (without_others p q apart rows)

-- the other keys have as many rows without those of one
pub still_have : {R K : Type 0} (is : K → R → Bool) (n : K → ℕ) (k : K) (ks : List K) (rows : List R) → AllByRecursion (λ j. Apart (is k) (is j)) ks → HaveAtLeast is n rows ks
    → HaveAtLeast is n (without (is k) rows) ks
still_have is n k [] rows apart have = tt
still_have is n k (j ∷ ks) rows apart have =
    let same : length (filter (is j) (without (is k) rows)) ≡ length (filter (is j) rows) = ap length (without_others (is k) (is j) apart.0 rows) in
    let many : n j ≤ length (filter (is j) rows) = have.0 in
    (omega arith, still_have is n k ks rows apart.1 have.1)

-- there are at least as many rows as keys have together
pub together : {R K : Type 0} (is : K → R → Bool) (n : K → ℕ) (ks : List K) (rows : List R) → AreApart is ks → HaveAtLeast is n rows ks → sum_by n ks ≤ length rows
together is n [] rows apart have = omega arith
together is n (k ∷ ks) rows apart have =
    let rest : sum_by n ks ≤ length (without (is k) rows) = together is n ks (without (is k) rows) apart.1 (still_have is n k ks rows apart.0 have.1) in
    let many : n k ≤ length (filter (is k) rows) = have.0 in
    let parts : length (filter (is k) rows) + length (without (is k) rows) ≡ length rows = parted (is k) rows in
    let sum : sum_by n (k ∷ ks) ≡ n k + sum_by n ks = sum_by-cons n k ks in
    omega arith

empty_of : {R : Type 0} (rows : List R) → length rows ≤ 0 → rows ≡ []
empty_of [] none = refl
empty_of (row ∷ rows) none = absurd (omega arith)

-- if there are no more rows, none has a key apart from these
pub no_strays : {R K : Type 0} (is : K → R → Bool) (n : K → ℕ) (ks : List K) (rows : List R) → AreApart is ks → HaveAtLeast is n rows ks → length rows ≤ sum_by n ks
    → (q : R → Bool) → AllByRecursion (λ k. Apart (is k) q) ks → filter q rows ≡ []
no_strays is n [] rows apart have all q other = ap (filter q) (empty_of rows all)
no_strays is n (k ∷ ks) rows apart have all q other =
    let rest : HaveAtLeast is n (without (is k) rows) ks = still_have is n k ks rows apart.0 have.1 in
    let many : n k ≤ length (filter (is k) rows) = have.0 in
    let parts : length (filter (is k) rows) + length (without (is k) rows) ≡ length rows = parted (is k) rows in
    let sum : sum_by n (k ∷ ks) ≡ n k + sum_by n ks = sum_by-cons n k ks in
    sym (without_others (is k) q other.0 rows) ∙ no_strays is n ks (without (is k) rows) apart.1 rest (omega arith) q other.1

-- rows without those of one key, under another that is apart, are as many
same_without : {R K : Type 0} (is : K → R → Bool) (n : K → ℕ) (k : K) (ks : List K) (rows : List R) → AllByRecursion (λ j. Apart (is k) (is j)) ks
    → AllByRecursion (λ j. length (filter (is j) (without (is k) rows)) ≡ n j) ks → AllByRecursion (λ j. length (filter (is j) rows) ≡ n j) ks
same_without is n k [] rows apart have = tt
same_without is n k (j ∷ ks) rows apart have = (ap length (sym (without_others (is k) (is j) apart.0 rows)) ∙ have.0, same_without is n k ks rows apart.1 have.1)

-- and each of these has just so many
pub just_so_many : {R K : Type 0} (is : K → R → Bool) (n : K → ℕ) (ks : List K) (rows : List R) → AreApart is ks → HaveAtLeast is n rows ks → length rows ≤ sum_by n ks
    → AllByRecursion (λ k. length (filter (is k) rows) ≡ n k) ks
just_so_many is n [] rows apart have all = tt
just_so_many is n (k ∷ ks) rows apart have all =
    let rest : HaveAtLeast is n (without (is k) rows) ks = still_have is n k ks rows apart.0 have.1 in
    let many : n k ≤ length (filter (is k) rows) = have.0 in
    let parts : length (filter (is k) rows) + length (without (is k) rows) ≡ length rows = parted (is k) rows in
    let sum : sum_by n (k ∷ ks) ≡ n k + sum_by n ks = sum_by-cons n k ks in
    let others : sum_by n ks ≤ length (without (is k) rows) = together is n ks (without (is k) rows) apart.1 rest in
    (omega arith, same_without is n k ks rows apart.0 (just_so_many is n ks (without (is k) rows) apart.1 rest (omega arith)))

-- Rows of which each has one of the keys.

abbrev pub HasKey : {R K : Type 0} → (K → R → Bool) → List K → R → Type 0
HasKey is [] row = ⊥
HasKey is (k ∷ ks) row = (is k row ≡ true) ⊎ HasKey is ks row

other_key : (a b : Bool) (T : Type 0) → a ≡ b → not b ≡ true → (a ≡ true) ⊎ T → T
other_key a true T is fails has = absurd (true≢false (sym fails))
other_key a false T is fails (inl same) = absurd (true≢false (sym same ∙ is))
other_key a false T is fails (inr rest) = rest

keys_left : {R K : Type 0} (is : K → R → Bool) (k : K) (ks : List K) (row : R) (rows : List R) (b : Bool) → is k row ≡ b → HasKey is (k ∷ ks) row → AllByRecursion (HasKey is ks) (without (is k) rows)
    → AllByRecursion (HasKey is ks) (cond (not b) (row ∷ without (is k) rows) (without (is k) rows))
keys_left is k ks row rows true same has rest = rest
keys_left is k ks row rows false same has rest = (other_key (is k row) false (HasKey is ks row) same refl has, rest)

pub keys_without : {R K : Type 0} (is : K → R → Bool) (k : K) (ks : List K) (rows : List R) → AllByRecursion (HasKey is (k ∷ ks)) rows → AllByRecursion (HasKey is ks) (without (is k) rows)
keys_without is k ks [] all = tt
keys_without is k ks (row ∷ rows) all = keys_left is k ks row rows (is k row) refl all.0 (keys_without is k ks rows all.1)

-- each key has so many rows at most
abbrev pub HaveAtMost : {R K : Type 0} → (K → R → Bool) → (K → ℕ) → List R → List K → Type 0
HaveAtMost is n rows ks = AllByRecursion (λ k. length (filter (is k) rows) ≤ n k) ks

pub fewer : {R : Type 0} (t p : R → Bool) (rows : List R) → length (filter p (filter t rows)) ≤ length (filter p rows)
fewer t p [] = omega arith
fewer t p (row ∷ rows) =
    let rest : length (filter p (filter t rows)) ≤ length (filter p rows) = fewer t p rows in
    elim (t row) as (λ b. length (filter p (cond b (row ∷ filter t rows) (filter t rows))) ≤ length (cond (p row) (row ∷ filter p rows) (filter p rows))) [
      | true ↦ elim (p row) as (λ b. length (cond b (row ∷ filter p (filter t rows)) (filter p (filter t rows))) ≤ length (cond b (row ∷ filter p rows) (filter p rows))) [ true ↦ omega arith | false ↦ rest ]
      | false ↦ elim (p row) as (λ b. length (filter p (filter t rows)) ≤ length (cond b (row ∷ filter p rows) (filter p rows))) [ true ↦ omega arith | false ↦ rest ]
    ]

at_most_without : {R K : Type 0} (is : K → R → Bool) (n : K → ℕ) (p : R → Bool) (ks : List K) (rows : List R) → HaveAtMost is n rows ks → HaveAtMost is n (without p rows) ks
at_most_without is n p [] rows have = tt
at_most_without is n p (k ∷ ks) rows have =
    let few : length (filter (is k) (without p rows)) ≤ length (filter (is k) rows) = fewer (λ row. not (p row)) (is k) rows in
    let most : length (filter (is k) rows) ≤ n k = have.0 in
    (omega arith, at_most_without is n p ks rows have.1)

none_has : {R K : Type 0} (is : K → R → Bool) (rows : List R) → AllByRecursion (HasKey is []) rows → length rows ≤ 0
none_has is [] all = omega arith
none_has is (row ∷ rows) all = absurd (all.0)

-- there are no more rows than their keys have together
pub at_most : {R K : Type 0} (is : K → R → Bool) (n : K → ℕ) (ks : List K) (rows : List R) → AllByRecursion (HasKey is ks) rows → HaveAtMost is n rows ks → length rows ≤ sum_by n ks
at_most is n [] rows all have = none_has is rows all
at_most is n (k ∷ ks) rows all have =
    let rest : length (without (is k) rows) ≤ sum_by n ks = at_most is n ks (without (is k) rows) (keys_without is k ks rows all) (at_most_without is n (is k) ks rows have.1) in
    let most : length (filter (is k) rows) ≤ n k = have.0 in
    let parts : length (filter (is k) rows) + length (without (is k) rows) ≡ length rows = parted (is k) rows in
    let sum : sum_by n (k ∷ ks) ≡ n k + sum_by n ks = sum_by-cons n k ks in
    omega arith

-- Numbers that count up.

abbrev pub count_up : ℕ → ℕ → List ℕ
count_up first zero = []
count_up first (suc n) = first ∷ count_up (suc first) n
