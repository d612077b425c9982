-- Rows of one table that name rows of another by keys of any kind, and how many of them there are.
use Rattle.std.proofs.Common.{◌≡◌, ◌⊎◌, inl, inr, ℕ, suc, ◌≤◌, List, [], ◌∷◌, length, Bool, true, false, true≢false, refl, sym, ap, ◌∙◌, subst, arith}
use Rattle.std.specs.Prelude.{cond, filter}
use Rattle.std.specs.List.{AllByRecursion, sum_by}
use Rattle.canary_tables_contents.proofs.Strays.{Apart, AreApart, HasKey, HaveAtLeast, HaveAtMost, together, at_most}
use Rattle.canary_tables_contents.proofs.Named.{IsIn, each_in, weaker, none_pass, first_kept}

-- a test of keys that holds of equal ones alone
pub record Tells {K : Type 0} (eq : K → K → Bool) : Type 0 where
  pub same : (a b : K) → eq a b ≡ true → a ≡ b
  pub own : (a : K) → eq a a ≡ true

-- each key stands once
abbrev pub HaveOnce : {K R : Type 0} → (K → K → Bool) → (R → K) → List R → Type 0
HaveOnce eq key rows = AllByRecursion (λ k. length (filter (λ r. eq (key k) (key r)) rows) ≤ 1) rows

-- how many rows have the key of this one
abbrev pub having : {K R S : Type 0} → (K → K → Bool) → (R → K) → (S → K) → List S → R → ℕ
having eq key of xs row = length (filter (λ x. eq (key row) (of x)) xs)

fewer_behind : {X : Type 0} (p : X → Bool) (x : X) (xs : List X) (b : Bool) → length (filter p xs) ≤ length (cond b (x ∷ filter p xs) (filter p xs))
fewer_behind p x xs true = omega arith
fewer_behind p x xs false = omega arith

once_behind : {K R : Type 0} (eq : K → K → Bool) (key : R → K) (row : R) (rows ks : List R) → AllByRecursion (λ k. length (filter (λ r. eq (key k) (key r)) (row ∷ rows)) ≤ 1) ks
    → AllByRecursion (λ k. length (filter (λ r. eq (key k) (key r)) rows) ≤ 1) ks
once_behind eq key row rows ks all =
    weaker (λ k. length (filter (λ r. eq (key k) (key r)) (row ∷ rows)) ≤ 1) (λ k. length (filter (λ r. eq (key k) (key r)) rows) ≤ 1) (λ k h.
    let few : length (filter (λ r. eq (key k) (key r)) rows) ≤ length (filter (λ r. eq (key k) (key r)) (row ∷ rows)) = fewer_behind (λ r. eq (key k) (key r)) row rows (eq (key k) (key row)) in
    let most : length (filter (λ r. eq (key k) (key r)) (row ∷ rows)) ≤ 1 = h in
    omega arith) ks all

empty_of : {X : Type 0} (xs : List X) → suc (length xs) ≤ 1 → xs ≡ []
empty_of [] few = refl
empty_of (x ∷ xs) few = absurd (omega arith)

keys_apart : {K : Type 0} (eq : K → K → Bool) → Tells eq → (a b own : K) → eq a b ≡ false → eq a own ≡ true → eq b own ≡ false
keys_apart eq tells a b own differ is =
    elim (eq b own)
    as (λ t. eq b own ≡ t → eq b own ≡ false) [
      | true ↦ λ e. absurd (true≢false (sym (tells.own a) ∙ ap (eq a) (tells.same a own is ∙ sym (tells.same b own e)) ∙ differ))
      | false ↦ λ e. e
    ] refl

pub distinct_keys : {K R S : Type 0} (eq : K → K → Bool) → Tells eq → (key : R → K) (of : S → K) (rows : List R) → HaveOnce eq key rows → AreApart (λ (k : R) (s : S). eq (key k) (of s)) rows
distinct_keys eq tells key of [] once = tt
distinct_keys {K} {R} {S} eq tells key of (row ∷ rows) once =
    let same : R → Bool = λ r. eq (key row) (key r) in
    let first : suc (length (filter same rows)) ≤ 1 = subst (λ (l : List R). length l ≤ 1) (first_kept same row rows (tells.own (key row))) once.0 in
    let none : AllByRecursion (λ r. same r ≡ false) rows = none_pass same rows (empty_of (filter same rows) first) in (
      weaker (λ r. same r ≡ false) (λ r. Apart (λ (s : S). eq (key row) (of s)) (λ (s : S). eq (key r) (of s))) (λ r fails s is. keys_apart eq tells (key row) (key r) (of s) fails is) rows none,
      distinct_keys eq tells key of rows (once_behind eq key row rows rows once.1),
    )

pub has_key : {K R S : Type 0} (eq : K → K → Bool) → Tells eq → (key : R → K) (of : S → K) (rows : List R) (x : S) → (filter (λ r. eq (of x) (key r)) rows ≡ [] → ⊥) → HasKey (λ (r : R) (s : S). eq (key r) (of s)) rows x
has_key eq tells key of [] x some = some refl
has_key eq tells key of (r ∷ rows) x some =
    elim (eq (of x) (key r))
    as (λ b. eq (of x) (key r) ≡ b → (cond b (r ∷ filter (λ r. eq (of x) (key r)) rows) (filter (λ r. eq (of x) (key r)) rows) ≡ [] → ⊥) → (eq (key r) (of x) ≡ true) ⊎ HasKey (λ r s. eq (key r) (of s)) rows x) [
      | true ↦ λ e some. inl (ap (eq (key r)) (tells.same (of x) (key r) e) ∙ tells.own (key r))
      | false ↦ λ e some. inr (has_key eq tells key of rows x some)
    ] refl some

at_least_these : {K R S : Type 0} (eq : K → K → Bool) (key : R → K) (of : S → K) (rows : List R) (xs : List S) → HaveAtLeast (λ (r : R) (s : S). eq (key r) (of s)) (having eq key of xs) xs rows
at_least_these eq key of rows xs = each_in (λ row. having eq key of xs row ≤ length (filter (λ s. eq (key row) (of s)) xs)) rows (λ row at. omega arith)

at_most_these : {K R S : Type 0} (eq : K → K → Bool) (key : R → K) (of : S → K) (rows : List R) (xs : List S) → HaveAtMost (λ (r : R) (s : S). eq (key r) (of s)) (having eq key of xs) xs rows
at_most_these eq key of rows xs = each_in (λ row. length (filter (λ s. eq (key row) (of s)) xs) ≤ having eq key of xs row) rows (λ row at. omega arith)

equal_by : (a b : ℕ) → a ≤ b → b ≤ a → a ≡ b
equal_by a b x y = omega arith

-- if each has the key of a row, those of the rows' keys are all
pub all_keyed : {K R S : Type 0} (eq : K → K → Bool) → Tells eq → (key : R → K) (of : S → K) (rows : List R) (xs : List S) → HaveOnce eq key rows
    → ((x : S) → IsIn x xs → filter (λ r. eq (of x) (key r)) rows ≡ [] → ⊥) → sum_by (having eq key of xs) rows ≡ length xs
all_keyed {K} {R} {S} eq tells key of rows xs once some =
    let is : R → S → Bool = λ r s. eq (key r) (of s) in
    equal_by (sum_by (having eq key of xs) rows) (length xs) (together is (having eq key of xs) rows xs (distinct_keys eq tells key of rows once) (at_least_these eq key of rows xs))
    (at_most is (having eq key of xs) rows xs (each_in (HasKey is rows) xs (λ x at. has_key eq tells key of rows x (some x at))) (at_most_these eq key of rows xs))
