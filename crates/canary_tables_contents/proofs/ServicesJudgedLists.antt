-- Lists, place by place, and rows that have just some numbers.
use Rattle.std.proofs.Common.{◌≡◌, ◌⊎◌, inl, inr, ℕ, zero, suc, ◌+◌, ◌≤◌, ◌<◌, List, [], ◌∷◌, length, Bool, true, false, Some, refl, ap, subst, arith}
use Rattle.std.specs.Prelude.{Option, ◌&&◌, ◌||◌, filter, map, slice_get}
use Rattle.std.specs.List.{AllByRecursion, list_all, list_any, filter_map, cons_option, sum_by}
use Rattle.std.proofs.lemmas.Bool.Decides.{Decides-eqb}
use Rattle.std.proofs.lemmas.List.Sums.{sum_by-cons}
use Rattle.canary_tables_contents.proofs.Numbers.{is_numbered, numbers_together, numbers_at_most}
use Rattle.canary_tables_contents.proofs.Named.{IsIn, each_in, in_filter}
use Rattle.canary_tables_contents.proofs.CallersHold.{below_or}

-- Places.

pub all_at : {A : Type 0} (P : A → Type 0) (xs : List A) → AllByRecursion P xs → (i : ℕ) (x : A) → slice_get xs i ≡ Some x → P x
all_at P [] all i x e = absurd (cc)
all_at P (y ∷ xs) all zero x e = let same : y ≡ x = cc in subst P same all.0
all_at P (y ∷ xs) all (suc i) x e = all_at P xs all.1 i x e

-- what stands in a place of a list comes of what stands there in another
pub record ComesOf {A B : Type 0} (f : A → B) (xs : List A) (i : ℕ) (y : B) : Type 0 where
  pub value : A
  pub there : slice_get xs i ≡ Some value
  pub is : f value ≡ y

pub comes_of : {A B : Type 0} (f : A → B) (xs : List A) (i : ℕ) (y : B) → slice_get (map f xs) i ≡ Some y → ComesOf f xs i y
comes_of f [] i y e = absurd (cc)
comes_of f (x ∷ xs) zero y e = let same : f x ≡ y = cc e in record { value = x; there = refl; is = same }
comes_of f (x ∷ xs) (suc i) y e = let h : ComesOf f xs i y = comes_of f xs i y e in record { value = h.value; there = h.there; is = h.is }

-- Lists that are read back.

pub read_back : {A R : Type 0} (row : A → R) (value : R → Option A) (P : A → Type 0) → ((x : A) → P x → value (row x) ≡ Some x) → (xs : List A) → AllByRecursion P xs
    → (filter_map value (map row xs) ≡ xs) × (map value (map row xs) ≡ map Some xs)
read_back row value P back [] all = (refl, refl)
read_back {A} row value P back (x ∷ xs) all =
    let rest : (filter_map value (map row xs) ≡ xs) × (map value (map row xs) ≡ map Some xs) = read_back row value P back xs all.1 in
    ((λ i. cons_option (back x all.0 i) (rest.0 i)), (λ i. back x all.0 i ∷ rest.1 i))

-- Tests on lists.

both_hold : (a b : Bool) → a && b ≡ true → (a ≡ true) × (b ≡ true)
both_hold true b e = (refl, e)
both_hold false b e = absurd (cc)

pub all_pass : {X : Type 0} (p : X → Bool) (xs : List X) → list_all p xs ≡ true → AllByRecursion (λ x. p x ≡ true) xs
all_pass p [] e = tt
all_pass p (x ∷ xs) e = let h : (p x ≡ true) × (list_all p xs ≡ true) = both_hold (p x) (list_all p xs) e in (h.0, all_pass p xs h.1)

-- some element passes
pub record SomePasses {X : Type 0} (p : X → Bool) (xs : List X) : Type 0 where
  pub place : ℕ
  pub value : X
  pub there : slice_get xs place ≡ Some value
  pub passes : p value ≡ true

some_first : {X : Type 0} (p : X → Bool) (x : X) (xs : List X) (b : Bool) → p x ≡ b → b || list_any p xs ≡ true → (list_any p xs ≡ true → SomePasses p xs) → SomePasses p (x ∷ xs)
some_first p x xs true is e rest = record { place = zero; value = x; there = refl; passes = is }
some_first p x xs false is e rest = let h : SomePasses p xs = rest e in record { place = suc h.place; value = h.value; there = h.there; passes = h.passes }

pub some_passes : {X : Type 0} (p : X → Bool) (xs : List X) → list_any p xs ≡ true → SomePasses p xs
some_passes p [] e = absurd (cc)
some_passes p (x ∷ xs) e = some_first p x xs (p x) refl e (some_passes p xs)

-- Rows with just these numbers.

pub within_numbers : {R : Type 0} (number : R → ℕ) (rows : List R) (first n : ℕ) → ((k : ℕ) → (k < first) ⊎ (first + n ≤ k) → filter (is_numbered number k) rows ≡ []) → (row : R) → IsIn row rows
    → (first ≤ number row) × (number row < first + n)
within_numbers number rows first n none row at =
    let here : IsIn row (filter (is_numbered number (number row)) rows) = in_filter (is_numbered number (number row)) row rows at ((Decides-eqb (number row) (number row)).1 refl) in
    elim (below_or (number row) first) as (λ x. (first ≤ number row) × (number row < first + n)) [
      | inl low ↦ absurd (subst (IsIn row) (none (number row) (inl low)) here)
      | inr some ↦
          elim (below_or (number row) (first + n)) as (λ x. (first ≤ number row) × (number row < first + n)) [
            | inl high ↦ (some, high)
            | inr out ↦ absurd (subst (IsIn row) (none (number row) (inr out)) here)
          ]
    ]

none_or_one : {R : Type 0} (number : R → ℕ) (rows : List R) (first n : ℕ) → ((k : ℕ) → first ≤ k → k < first + n → length (filter (is_numbered number k) rows) ≡ 1)
    → ((k : ℕ) → (k < first) ⊎ (first + n ≤ k) → filter (is_numbered number k) rows ≡ []) → (k : ℕ) → length (filter (is_numbered number k) rows) ≤ 1
none_or_one number rows first n one none k =
    elim (below_or k first) as (λ x. length (filter (is_numbered number k) rows) ≤ 1) [
      | inl low ↦ let no : length (filter (is_numbered number k) rows) ≡ 0 = ap length (none k (inl low)) in omega arith
      | inr some ↦
          elim (below_or k (first + n)) as (λ x. length (filter (is_numbered number k) rows) ≤ 1) [
            | inl high ↦ let is : length (filter (is_numbered number k) rows) ≡ 1 = one k some high in omega arith
            | inr out ↦ let no : length (filter (is_numbered number k) rows) ≡ 0 = ap length (none k (inr out)) in omega arith
          ]
    ]

-- one row for each of n numbers, and none for another: there are n rows
pub just_numbers : {R : Type 0} (number : R → ℕ) (rows : List R) (first n : ℕ) → ((k : ℕ) → first ≤ k → k < first + n → length (filter (is_numbered number k) rows) ≡ 1)
    → ((k : ℕ) → (k < first) ⊎ (first + n ≤ k) → filter (is_numbered number k) rows ≡ []) → length rows ≡ n
just_numbers number rows first n one none =
    let least : n ≤ length rows = numbers_together number rows first n (λ k a b. (let is : length (filter (is_numbered number k) rows) ≡ 1 = one k a b in omega arith)) in
    let most : length rows ≤ n = numbers_at_most number rows first n (each_in (λ row. (first ≤ number row) × (number row < first + n)) rows (within_numbers number rows first n none)) (none_or_one number rows first n one none) in
    omega arith

-- Sums.

pub same_sums : {X : Type 0} (f g : X → ℕ) (xs : List X) → AllByRecursion (λ x. f x ≡ g x) xs → sum_by f xs ≡ sum_by g xs
same_sums f g [] all = refl
same_sums f g (x ∷ xs) all =
    let rest : sum_by f xs ≡ sum_by g xs = same_sums f g xs all.1 in
    let first : f x ≡ g x = all.0 in
    let one : sum_by f (x ∷ xs) ≡ f x + sum_by f xs = sum_by-cons f x xs in
    let two : sum_by g (x ∷ xs) ≡ g x + sum_by g xs = sum_by-cons g x xs in
    omega arith
