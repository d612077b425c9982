-- Rows that are numbered from one number on, without a gap.
use Rattle.std.proofs.Common.{◌≡◌, ◌⊎◌, inl, inr, ℕ, zero, suc, ◌+◌, ◌≤◌, ◌<◌, ◌==◌, List, [], ◌∷◌, length, Bool, true, false, refl, sym, ◌∙◌, arith}
use Rattle.std.specs.Prelude.{filter}
use Rattle.std.specs.List.{AllByRecursion, sum_by}
use Rattle.std.proofs.lemmas.Bool.Decides.{Decides-eqb}
use Rattle.std.proofs.lemmas.List.Sums.{sum_by-cons}
use Rattle.canary_tables_contents.proofs.Strays.{Apart, AreApart, HasKey, count_up, together, no_strays, at_most}

abbrev pub is_numbered : {R : Type 0} → (R → ℕ) → ℕ → R → Bool
is_numbered number k row = k == number row

apart_is : (a b : ℕ) (t : Bool) → (a == b) ≡ t → (a ≡ b → ⊥) → t ≡ false
apart_is a b true is apart = absurd (apart ((Decides-eqb a b).0 is))
apart_is a b false is apart = refl

pub numbers_apart : {R : Type 0} (number : R → ℕ) (j k : ℕ) → (j ≡ k → ⊥) → Apart (is_numbered number j) (is_numbered number k)
numbers_apart number j k apart row is =
    let one : j ≡ number row = (Decides-eqb j (number row)).0 is in
    apart_is k (number row) (k == number row) refl (λ e. apart (one ∙ sym e))

later_apart : {R : Type 0} (number : R → ℕ) (k first n : ℕ) → k < first → AllByRecursion (λ j. Apart (is_numbered number k) (is_numbered number j)) (count_up first n)
later_apart number k first zero below = tt
later_apart number k first (suc n) below = (numbers_apart number k first (λ e. omega arith), later_apart number k (suc first) n (omega arith))

pub all_apart : {R : Type 0} (number : R → ℕ) (first n : ℕ) → AreApart (is_numbered number) (count_up first n)
all_apart number first zero = tt
all_apart number first (suc n) = (later_apart number first (suc first) n (omega arith), all_apart number (suc first) n)

outside : {R : Type 0} (number : R → ℕ) (q first n : ℕ) → (q < first) ⊎ (first + n ≤ q) → AllByRecursion (λ k. Apart (is_numbered number k) (is_numbered number q)) (count_up first n)
outside number q first zero out = tt
outside number q first (suc n) (inl out) = (numbers_apart number first q (λ e. omega arith), outside number q (suc first) n (inl (omega arith)))
outside number q first (suc n) (inr out) = (numbers_apart number first q (λ e. omega arith), outside number q (suc first) n (inr (omega arith)))

ones : (first n : ℕ) → sum_by (λ (k : ℕ). 1) (count_up first n) ≡ n
ones first zero = refl
ones first (suc n) =
    let rest : sum_by (λ (k : ℕ). 1) (count_up (suc first) n) ≡ n = ones (suc first) n in
    let s : sum_by (λ (k : ℕ). 1) (count_up first (suc n)) ≡ 1 + sum_by (λ (k : ℕ). 1) (count_up (suc first) n) = sum_by-cons (λ (k : ℕ). 1) first (count_up (suc first) n) in
    omega arith

-- what holds of each number in a row of numbers
pub each_up : (P : ℕ → Type 0) (first n : ℕ) → ((k : ℕ) → first ≤ k → k < first + n → P k) → AllByRecursion P (count_up first n)
each_up P first zero all = tt
each_up P first (suc n) all = (all first (omega arith) (omega arith), each_up P (suc first) n (λ k a b. all k (omega arith) (omega arith)))

-- a row under each of n numbers: there are as many rows at least
pub numbers_together : {R : Type 0} (number : R → ℕ) (rows : List R) (first n : ℕ) → ((k : ℕ) → first ≤ k → k < first + n → 1 ≤ length (filter (is_numbered number k) rows)) → n ≤ length rows
numbers_together number rows first n each =
    let most : sum_by (λ (k : ℕ). 1) (count_up first n) ≤ length rows = together (is_numbered number) (λ k. 1) (count_up first n) rows (all_apart number first n) (each_up (λ k. 1 ≤ length (filter (is_numbered number k) rows)) first n each) in
    let same : sum_by (λ (k : ℕ). 1) (count_up first n) ≡ n = ones first n in
    omega arith

-- and if there are no more, none has another number
pub no_other_number : {R : Type 0} (number : R → ℕ) (rows : List R) (first n : ℕ) → ((k : ℕ) → first ≤ k → k < first + n → 1 ≤ length (filter (is_numbered number k) rows)) → length rows ≤ n
    → (q : ℕ) → (q < first) ⊎ (first + n ≤ q) → filter (is_numbered number q) rows ≡ []
no_other_number number rows first n each few q out =
    let same : sum_by (λ (k : ℕ). 1) (count_up first n) ≡ n = ones first n in
    no_strays (is_numbered number) (λ k. 1) (count_up first n) rows (all_apart number first n) (each_up (λ k. 1 ≤ length (filter (is_numbered number k) rows)) first n each) (omega arith) (is_numbered number q) (outside number q first n out)

has_number : {R : Type 0} (number : R → ℕ) (row : R) (first n : ℕ) → first ≤ number row → number row < first + n → HasKey (is_numbered number) (count_up first n) row
has_number number row first zero low high = omega arith
has_number number row first (suc n) low high =
    elim (first == number row)
    as (λ b. (first == number row) ≡ b → ((first == number row) ≡ true) ⊎ HasKey (is_numbered number) (count_up (suc first) n) row) [
      | true ↦ λ e. inl e
      | false ↦ λ e.
          let differ : first ≡ number row → ⊥ = λ s. (let t : (first == number row) ≡ true = (Decides-eqb first (number row)).1 s in let no : true ≡ false = sym t ∙ e in cc) in
          inr (has_number number row (suc first) n (omega arith) (omega arith))
    ] refl

pub all_have : {R : Type 0} (number : R → ℕ) (rows : List R) (first n : ℕ) → AllByRecursion (λ row. (first ≤ number row) × (number row < first + n)) rows → AllByRecursion (HasKey (is_numbered number) (count_up first n)) rows
all_have number [] first n all = tt
all_have number (row ∷ rows) first n all = (has_number number row first n all.0.0 all.0.1, all_have number rows first n all.1)

-- rows with these numbers, no number twice, are no more than the numbers
pub numbers_at_most : {R : Type 0} (number : R → ℕ) (rows : List R) (first n : ℕ) → AllByRecursion (λ row. (first ≤ number row) × (number row < first + n)) rows
    → ((k : ℕ) → length (filter (is_numbered number k) rows) ≤ 1) → length rows ≤ n
numbers_at_most number rows first n within once =
    let most : length rows ≤ sum_by (λ (k : ℕ). 1) (count_up first n) = at_most (is_numbered number) (λ k. 1) (count_up first n) rows (all_have number rows first n within) (each_up (λ k. length (filter (is_numbered number k) rows) ≤ 1) first n (λ k a b. once k)) in
    let same : sum_by (λ (k : ℕ). 1) (count_up first n) ≡ n = ones first n in
    omega arith
