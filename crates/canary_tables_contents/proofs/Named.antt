-- Rows under names, and what stands there.
use Rattle.std.proofs.Common.{◌≡◌, ◌⊎◌, inl, inr, ℕ, suc, ◌≤◌, List, [], ◌∷◌, length, Bool, true, false, Some, None, true≢false, refl, sym, ap, ◌∙◌, subst, arith}
use Rattle.std.specs.Prelude.{Option, cond, ◌&&◌, filter}
use Rattle.std.specs.Ordering.{nat_cmp}
use Rattle.std.specs.Cmp.Lexicographic.{slice_cmp, nat_list_cmp_total}
use Rattle.std.specs.Str.{bytes_eq}
use Rattle.std.specs.Option.{option_or}
use Rattle.std.specs.List.{AllByRecursion}
use Rattle.std.specs.FinMap.{FinMap, get, insert, get-insert, get-empty}
use Rattle.std.proofs.lemmas.Map.Text.{is_eq-slice_cmp}
use Rattle.std.proofs.lemmas.Slice.Eq.{bytes_eq-Decides}
use Rattle.canary_once.specs.Contents.{put_some}
use Rattle.canary_tables_contents.specs.Reading.{map_of}
use Rattle.canary_tables_contents.specs.Tables.{row_if}
use Rattle.canary_tables_contents.proofs.Strays.{Apart, AreApart}

-- Maps by names.

pub at_key : {A : Type 0} (m : FinMap (slice_cmp nat_cmp) A) (k : List ℕ) (v : A) (q : List ℕ) → get (insert m k v) q ≡ cond (bytes_eq q k) (Some v) (get m q)
at_key m k v q = get-insert nat_list_cmp_total m k v q ∙ ap (λ b. cond b (Some v) (get m q)) (is_eq-slice_cmp q k)

pub equal_keys : (q k : List ℕ) → bytes_eq q k ≡ true → q ≡ k
equal_keys q k e = (bytes_eq-Decides q k).0 e

pub own_key : (q : List ℕ) → bytes_eq q q ≡ true
own_key q = (bytes_eq-Decides q q).1 refl

abbrev pub first_of : {R A : Type 0} → (R → Option A) → List R → Option A
first_of value [] = None
first_of value (row ∷ rows) = option_or (value row) (first_of value rows)

either_way : {A : Type 0} (b : Bool) (x : A) → x ≡ cond b x x
either_way true x = refl
either_way false x = refl

get-put : {A : Type 0} (m : FinMap (slice_cmp nat_cmp) A) (k : List ℕ) (o : Option A) (q : List ℕ) → get (put_some m k o) q ≡ cond (bytes_eq q k) (option_or o (get m q)) (get m q)
get-put m k None q = either_way (bytes_eq q k) (get m q)
get-put m k (Some s) q = at_key m k s q

pulled : {R A : Type 0} (value : R → Option A) (row : R) (rows : List R) (b : Bool) → cond b (option_or (value row) (first_of value rows)) (first_of value rows) ≡ first_of value (cond b (row ∷ rows) rows)
pulled value row rows true = refl
pulled value row rows false = refl

pub get-map : {R A : Type 0} (name : R → List ℕ) (value : R → Option A) (rows : List R) (q : List ℕ) → get (map_of name value rows) q ≡ first_of value (filter (λ row. bytes_eq q (name row)) rows)
get-map name value [] q = get-empty (slice_cmp nat_cmp) q
get-map name value (row ∷ rows) q =
    get-put (map_of name value rows) (name row) (value row) q
    ∙ ap (λ x. cond (bytes_eq q (name row)) (option_or (value row) x) x) (get-map name value rows q)
    ∙ pulled value row (filter (λ r. bytes_eq q (name r)) rows) (bytes_eq q (name row))

-- Filters.

pub first_kept : {X : Type 0} (p : X → Bool) (x : X) (xs : List X) → p x ≡ true → filter p (x ∷ xs) ≡ x ∷ filter p xs
first_kept p x xs e = ap (λ b. cond b (x ∷ filter p xs) (filter p xs)) e

pub first_left : {X : Type 0} (p : X → Bool) (x : X) (xs : List X) → p x ≡ false → filter p (x ∷ xs) ≡ filter p xs
first_left p x xs e = ap (λ b. cond b (x ∷ filter p xs) (filter p xs)) e

cut_twice : {X : Type 0} (p q : X → Bool) (x : X) (xs : List X) (b : Bool) → filter p (cond b (x ∷ filter q xs) (filter q xs)) ≡ cond (b && p x) (x ∷ filter p (filter q xs)) (filter p (filter q xs))
cut_twice p q x xs true = refl
cut_twice p q x xs false = refl

-- two filters are one
pub filter_twice : {X : Type 0} (p q : X → Bool) (xs : List X) → filter p (filter q xs) ≡ filter (λ x. q x && p x) xs
filter_twice p q [] = refl
filter_twice p q (x ∷ xs) = cut_twice p q x xs (q x) ∙ ap (λ (ys : List _). cond (q x && p x) (x ∷ ys) ys) (filter_twice p q xs)

passing_first : {X : Type 0} (p : X → Bool) (P : X → Type 0) (x : X) (xs : List X) (b : Bool) → p x ≡ b → P x → AllByRecursion (λ y. (p y ≡ true) × P y) (filter p xs)
    → AllByRecursion (λ y. (p y ≡ true) × P y) (cond b (x ∷ filter p xs) (filter p xs))
passing_first p P x xs true is one rest = ((is, one), rest)
passing_first p P x xs false is one rest = rest

-- what passes passes, and has what all have
pub passing : {X : Type 0} (p : X → Bool) (P : X → Type 0) (xs : List X) → AllByRecursion P xs → AllByRecursion (λ x. (p x ≡ true) × P x) (filter p xs)
passing p P [] all = tt
passing p P (x ∷ xs) all = passing_first p P x xs (p x) refl all.0 (passing p P xs all.1)

-- Names.

pub names_apart : (a b own : List ℕ) → (a ≡ b → ⊥) → bytes_eq a own ≡ true → bytes_eq b own ≡ false
names_apart a b own apart is =
    elim (bytes_eq b own)
    as (λ t. bytes_eq b own ≡ t → bytes_eq b own ≡ false) [
      | true ↦ λ e. absurd (apart (equal_keys a own is ∙ sym (equal_keys b own e)))
      | false ↦ λ e. e
    ] refl

-- the one row of a name
pub record IsOneOf {R : Type 0} (name : R → List ℕ) (P : R → Type 0) (rows : List R) (q : List ℕ) : Type 0 where
  pub row : R
  pub one : filter (λ r. bytes_eq q (name r)) rows ≡ row ∷ []
  pub named : name row ≡ q
  pub has : P row

one_of : {R : Type 0} (name : R → List ℕ) (P : R → Type 0) (rows : List R) → ((row : R) → P row → filter (λ r. bytes_eq (name row) (name r)) rows ≡ row ∷ []) → (q : List ℕ) (found : List R)
    → filter (λ r. bytes_eq q (name r)) rows ≡ found → AllByRecursion (λ r. (bytes_eq q (name r) ≡ true) × P r) found → (filter (λ r. bytes_eq q (name r)) rows ≡ []) ⊎ IsOneOf name P rows q
one_of name P rows ones q [] is all = inl is
one_of name P rows ones q (row ∷ found) is all =
    let same : q ≡ name row = equal_keys q (name row) all.0.0 in
    inr (record { row = row; one = subst (λ n. filter (λ r. bytes_eq n (name r)) rows ≡ row ∷ []) (sym same) (ones row all.0.1); named = sym same; has = all.0.1 })

-- under a name stands no row, or just one
pub none_or_one : {R : Type 0} (name : R → List ℕ) (P : R → Type 0) (rows : List R) → ((row : R) → P row → filter (λ r. bytes_eq (name row) (name r)) rows ≡ row ∷ []) → AllByRecursion P rows
    → (q : List ℕ) → (filter (λ r. bytes_eq q (name r)) rows ≡ []) ⊎ IsOneOf name P rows q
none_or_one name P rows ones all q = one_of name P rows ones q (filter (λ r. bytes_eq q (name r)) rows) refl (passing (λ r. bytes_eq q (name r)) P rows all)

-- Elements.

abbrev pub IsIn : {X : Type 0} → X → List X → Type 0
IsIn x [] = ⊥
IsIn x (y ∷ ys) = (y ≡ x) ⊎ IsIn x ys

pub each_in : {X : Type 0} (P : X → Type 0) (xs : List X) → ((x : X) → IsIn x xs → P x) → AllByRecursion P xs
each_in P [] all = tt
each_in P (x ∷ xs) all = (all x (inl refl), each_in P xs (λ y i. all y (inr i)))

in_kept : {X : Type 0} (p : X → Bool) (x y : X) (ys : List X) (b : Bool) → p y ≡ b → p x ≡ true → (y ≡ x) ⊎ IsIn x (filter p ys) → IsIn x (cond b (y ∷ filter p ys) (filter p ys))
in_kept p x y ys true is passes at = at
in_kept p x y ys false is passes (inl same) = absurd (true≢false (sym passes ∙ ap p (sym same) ∙ is))
in_kept p x y ys false is passes (inr at) = at

pub in_filter : {X : Type 0} (p : X → Bool) (x : X) (xs : List X) → IsIn x xs → p x ≡ true → IsIn x (filter p xs)
in_filter p x [] at passes = at
in_filter p x (y ∷ ys) (inl same) passes = in_kept p x y ys (p y) refl passes (inl same)
in_filter p x (y ∷ ys) (inr at) passes = in_kept p x y ys (p y) refl passes (inr (in_filter p x ys at passes))

-- a row that is there, if the rows of its name are those of what there is
pub record OwnRow {A R : Type 0} (f : A → R) (o : Option A) (row : R) : Type 0 where
  pub value : A
  pub there : o ≡ Some value
  pub is : f value ≡ row

own_in : {A R : Type 0} (f : A → R) (o : Option A) (row : R) → IsIn row (row_if f o) → OwnRow f o row
own_in f None row at = absurd at
own_in f (Some v) row (inl same) = record { value = v; there = refl; is = same }
own_in f (Some v) row (inr at) = absurd at

pub own_row : {A R : Type 0} (p : R → Bool) (f : A → R) (o : Option A) (row : R) (rows : List R) → IsIn row rows → p row ≡ true → filter p rows ≡ row_if f o → OwnRow f o row
own_row p f o row rows at passes is = own_in f o row (subst (IsIn row) is (in_filter p row rows at passes))

pub own_alone : {A R : Type 0} (p : R → Bool) (f : A → R) (o : Option A) (row : R) (rows : List R) → filter p rows ≡ row_if f o → OwnRow f o row → filter p rows ≡ row ∷ []
own_alone p f o row rows is own = is ∙ ap (row_if f) own.there ∙ ap (λ r. r ∷ []) own.is

pub both : {X : Type 0} (P Q : X → Type 0) (xs : List X) → AllByRecursion P xs → AllByRecursion Q xs → AllByRecursion (λ x. P x × Q x) xs
both P Q [] ps qs = tt
both P Q (x ∷ xs) ps qs = ((ps.0, qs.0), both P Q xs ps.1 qs.1)

pub weaker : {X : Type 0} (P Q : X → Type 0) → ((x : X) → P x → Q x) → (xs : List X) → AllByRecursion P xs → AllByRecursion Q xs
weaker P Q so [] all = tt
weaker P Q so (x ∷ xs) all = (so x all.0, weaker P Q so xs all.1)

none_kept : {X : Type 0} (p : X → Bool) (x : X) (xs : List X) (b : Bool) → p x ≡ b → cond b (x ∷ filter p xs) (filter p xs) ≡ [] → (p x ≡ false) × (filter p xs ≡ [])
none_kept p x xs true is e = absurd (cc)
none_kept p x xs false is e = (is, e)

pub none_pass : {X : Type 0} (p : X → Bool) (xs : List X) → filter p xs ≡ [] → AllByRecursion (λ x. p x ≡ false) xs
none_pass p [] e = tt
none_pass p (x ∷ xs) e = let parts : (p x ≡ false) × (filter p xs ≡ []) = none_kept p x xs (p x) refl e in (parts.0, none_pass p xs parts.1)

-- Names that stand once each.

empty_of : {X : Type 0} (xs : List X) → suc (length xs) ≤ 1 → xs ≡ []
empty_of [] few = refl
empty_of (x ∷ xs) few = absurd (omega arith)

fewer_behind : {X : Type 0} (p : X → Bool) (x : X) (xs : List X) (b : Bool) → length (filter p xs) ≤ length (cond b (x ∷ filter p xs) (filter p xs))
fewer_behind p x xs true = omega arith
fewer_behind p x xs false = omega arith

once_behind : {R : Type 0} (name : R → List ℕ) (row : R) (rows ks : List R) → AllByRecursion (λ k. length (filter (λ r. bytes_eq (name k) (name r)) (row ∷ rows)) ≤ 1) ks
    → AllByRecursion (λ k. length (filter (λ r. bytes_eq (name k) (name r)) rows) ≤ 1) ks
once_behind name row rows ks all =
    weaker (λ k. length (filter (λ r. bytes_eq (name k) (name r)) (row ∷ rows)) ≤ 1) (λ k. length (filter (λ r. bytes_eq (name k) (name r)) rows) ≤ 1) (λ k h.
    let few : length (filter (λ r. bytes_eq (name k) (name r)) rows) ≤ length (filter (λ r. bytes_eq (name k) (name r)) (row ∷ rows)) = fewer_behind (λ r. bytes_eq (name k) (name r)) row rows (bytes_eq (name k) (name row)) in
    let most : length (filter (λ r. bytes_eq (name k) (name r)) (row ∷ rows)) ≤ 1 = h in
    omega arith) ks all

differ : (a b : List ℕ) → bytes_eq a b ≡ false → a ≡ b → ⊥
differ a b fails same = true≢false (sym ((bytes_eq-Decides a b).1 same) ∙ fails)

-- rows of another table that name one of these rows name no other of them
pub distinct : {R S : Type 0} (name : R → List ℕ) (key : S → List ℕ) (rows : List R) → AllByRecursion (λ k. length (filter (λ r. bytes_eq (name k) (name r)) rows) ≤ 1) rows
    → AreApart (λ (k : R) (s : S). bytes_eq (name k) (key s)) rows
distinct name key [] once = tt
distinct {R} {S} name key (row ∷ rows) once =
    let same : R → Bool = λ r. bytes_eq (name row) (name r) in
    let first : suc (length (filter same rows)) ≤ 1 = subst (λ (l : List R). length l ≤ 1) (first_kept same row rows (own_key (name row))) once.0 in
    let none : AllByRecursion (λ r. same r ≡ false) rows = none_pass same rows (empty_of (filter same rows) first) in (
      weaker (λ r. same r ≡ false) (λ r. Apart (λ (s : S). bytes_eq (name row) (key s)) (λ (s : S). bytes_eq (name r) (key s))) (λ r fails s is. names_apart (name row) (name r) (key s) (differ (name row) (name r) fails) is) rows none,
      distinct name key rows (once_behind name row rows rows once.1),
    )

-- a name that no row has
pub unnamed : {R S : Type 0} (name : R → List ℕ) (key : S → List ℕ) (rows : List R) (q : List ℕ) → filter (λ r. bytes_eq q (name r)) rows ≡ []
    → AllByRecursion (λ k. Apart (λ (s : S). bytes_eq (name k) (key s)) (λ (s : S). bytes_eq q (key s))) rows
unnamed {R} {S} name key rows q none =
    weaker (λ r. bytes_eq q (name r) ≡ false) (λ k. Apart (λ (s : S). bytes_eq (name k) (key s)) (λ (s : S). bytes_eq q (key s))) (λ r fails s is. names_apart (name r) q (key s) (λ e. differ q (name r) fails (sym e)) is) rows (none_pass (λ r. bytes_eq q (name r)) rows none)
