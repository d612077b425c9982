-- Rows that are judged under their names.
use Rattle.std.proofs.Common.{◌≡◌, ◌⊎◌, inl, inr, ℕ, List, [], ◌∷◌, map, Bool, true, false, refl, sym, ap, ◌∙◌, subst}
use Rattle.std.specs.Prelude.{cond, filter}
use Rattle.std.specs.Str.{bytes_eq}
use Rattle.std.specs.List.{AllByRecursion}
use Rattle.std.proofs.lemmas.Slice.Eq.{bytes_eq-Decides}
use Rattle.canary_tables_adopt.specs.Alone.{IsNamed}

pub equal_names : (a b : List ℕ) → bytes_eq a b ≡ true → a ≡ b
equal_names a b is = (bytes_eq-Decides a b).0 is

pub same_name : (a b : List ℕ) → a ≡ b → bytes_eq a b ≡ true
same_name a b is = (bytes_eq-Decides a b).1 is

abbrev head_of : {X : Type 0} → X → List X → X
head_of d [] = d
head_of d (x ∷ xs) = x

-- what a filter keeps first passes
pub first_passes : {X : Type 0} (test : X → Bool) (xs rest : List X) (x : X) → filter test xs ≡ x ∷ rest → test x ≡ true
first_passes test [] rest x is = cc
first_passes test (y ∷ ys) rest x is =
    elim (test y)
    as (λ b. test y ≡ b → cond b (y ∷ filter test ys) (filter test ys) ≡ x ∷ rest → test x ≡ true) [
      | true ↦ λ passes e. ap test (sym (ap (head_of x) e)) ∙ passes
      | false ↦ λ passes e. first_passes test ys rest x e
    ] refl is

abbrev pub IsIn : {X : Type 0} → X → List X → Type 0
IsIn x [] = ⊥
IsIn x (y ∷ ys) = (x ≡ y) ⊎ IsIn x ys

pub in_filter : {X : Type 0} (test : X → Bool) (x : X) (xs : List X) → IsIn x xs → test x ≡ true → IsIn x (filter test xs)
in_filter test x [] at passes = absurd at
in_filter test x (y ∷ ys) (inl is) passes =
    let first : test y ≡ true = ap test (sym is) ∙ passes in
    subst (λ b. IsIn x (cond b (y ∷ filter test ys) (filter test ys))) (sym first) (inl is)
in_filter test x (y ∷ ys) (inr at) passes =
    elim (test y)
    as (λ b. IsIn x (cond b (y ∷ filter test ys) (filter test ys))) [
      | true ↦ inr (in_filter test x ys at passes)
      | false ↦ in_filter test x ys at passes
    ]

pub in_one : {X : Type 0} (x y : X) → IsIn x (y ∷ []) → x ≡ y
in_one x y (inl is) = is
in_one x y (inr at) = absurd at

each_row : {R : Type 0} (name : R → List ℕ) (J : R → Type 0) (all rows : List R) → ((row : R) → J row → filter (λ r. bytes_eq (name row) (name r)) all ≡ row ∷ []) → ((row : R) → IsIn row rows → IsIn row all)
    → AllByRecursion (IsNamed name J) (map name rows) → AllByRecursion J rows
each_row name J all [] ones within each = tt
each_row name J all (row ∷ rows) ones within each =
    let there : IsIn row (filter (λ r. bytes_eq (name each.0.row) (name r)) all) = in_filter (λ r. bytes_eq (name each.0.row) (name r)) row all (within row (inl refl)) (same_name (name each.0.row) (name row) each.0.named) in
    let is : row ≡ each.0.row = in_one row each.0.row (subst (IsIn row) (ones each.0.row each.0.has) there) in
    (subst J (sym is) each.0.has, each_row name J all rows ones (λ r at. within r (inr at)) each.1)

-- each row is the one of its name
pub rows_of_names : {R : Type 0} (name : R → List ℕ) (J : R → Type 0) (all : List R) (names : List (List ℕ)) → names ≡ map name all → ((row : R) → J row → filter (λ r. bytes_eq (name row) (name r)) all ≡ row ∷ [])
    → AllByRecursion (IsNamed name J) names → AllByRecursion J all
rows_of_names name J all names are ones each = each_row name J all all ones (λ row at. at) (subst (AllByRecursion (IsNamed name J)) are each)

each_name : {R : Type 0} (name : R → List ℕ) (J : R → Type 0) (rows : List R) → AllByRecursion J rows → AllByRecursion (IsNamed name J) (map name rows)
each_name name J [] each = tt
each_name name J (row ∷ rows) each = (record { row = row; named = refl; has = each.0 }, each_name name J rows each.1)

pub names_of_rows : {R : Type 0} (name : R → List ℕ) (J : R → Type 0) (all : List R) (names : List (List ℕ)) → names ≡ map name all → AllByRecursion J all → AllByRecursion (IsNamed name J) names
names_of_rows name J all names are each = subst (AllByRecursion (IsNamed name J)) (sym are) (each_name name J all each)
