-- Rows under a key, when one row is added or those of a key are changed, and maps that change at one name.
use Rattle.std.proofs.Common.{◌≡◌, ℕ, List, [], ◌∷◌, map, Bool, true, false, Some, refl, sym, ap, ◌∙◌}
use Rattle.std.specs.Prelude.{Option, cond, if◌then◌else◌, filter}
use Rattle.std.specs.Ordering.{nat_cmp}
use Rattle.std.specs.Cmp.Lexicographic.{slice_cmp, nat_list_cmp_total}
use Rattle.std.specs.Str.{bytes_eq}
use Rattle.std.specs.FinMap.{FinMap, get, insert, get-insert}
use Rattle.std.proofs.lemmas.Map.Text.{is_eq-slice_cmp}
use Rattle.std.proofs.lemmas.Slice.Eq.{bytes_eq-Decides}
use Rattle.canary_tables_rows.specs.Changes.{change_where}

abbrev pub NameMap : Type 0 → Type 0
NameMap A = FinMap (slice_cmp nat_cmp) A

-- Names.

pub equal_names : (q k : List ℕ) → bytes_eq q k ≡ true → q ≡ k
equal_names q k e = (bytes_eq-Decides q k).0 e

pub own_name : (q : List ℕ) → bytes_eq q q ≡ true
own_name q = (bytes_eq-Decides q q).1 refl

pub other_name : (q k : List ℕ) (b : Bool) → bytes_eq k q ≡ b → bytes_eq q k ≡ false → b ≡ false
other_name q k true same apart = sym (own_name q) ∙ ap (bytes_eq q) (sym (equal_names k q same)) ∙ apart
other_name q k false same apart = refl

-- Maps.

pub at_name : {A : Type 0} (m : NameMap A) (k : List ℕ) (v : A) (q : List ℕ) → get (insert m k v) q ≡ cond (bytes_eq q k) (Some v) (get m q)
at_name m k v q = get-insert nat_list_cmp_total m k v q ∙ ap (λ b. cond b (Some v) (get m q)) (is_eq-slice_cmp q k)

pub at_own_name : {A : Type 0} (m : NameMap A) (k : List ℕ) (v : A) → get (insert m k v) k ≡ Some v
at_own_name m k v = at_name m k v k ∙ ap (λ b. cond b (Some v) (get m k)) (own_name k)

-- equal names have the same value
pub same_value : {A : Type 0} (m : NameMap A) (q k : List ℕ) (b : Bool) → bytes_eq q k ≡ b → b ≡ true → get m q ≡ get m k
same_value m q k b e is = ap (get m) (equal_names q k (e ∙ is))

pub some_same : {A : Type 0} (x y : A) → ◌≡◌ {A = Option A} (Some x) (Some y) → x ≡ y
some_same x y e = cc e

-- Rows that are changed.

kept_by_change : {R : Type 0} (p : R → Bool) (change : R → R) → ((row : R) → p (change row) ≡ p row) → (row : R) (b : Bool) → p (if b then change row else row) ≡ p row
kept_by_change p change same row true = same row
kept_by_change p change same row false = refl

map_cond : {R : Type 0} (f : R → R) (row : R) (rows : List R) (b : Bool) → cond b (f row ∷ map f rows) (map f rows) ≡ map f (cond b (row ∷ rows) rows)
map_cond f row rows true = refl
map_cond f row rows false = refl

filter_changed : {R : Type 0} (p : R → Bool) (f : R → R) → ((row : R) → p (f row) ≡ p row) → (rows : List R) → filter p (map f rows) ≡ map f (filter p rows)
filter_changed p f same [] = refl
filter_changed p f same (row ∷ rows) = (λ i. cond (same row i) (f row ∷ filter_changed p f same rows i) (filter_changed p f same rows i)) ∙ map_cond f row (filter p rows) (p row)

-- a change that leaves the key changes what is found under it
pub changed_under : {R : Type 0} (p test : R → Bool) (change : R → R) → ((row : R) → p (change row) ≡ p row) → (rows : List R) → filter p (change_where test change rows) ≡ change_where test change (filter p rows)
changed_under p test change same rows = filter_changed p (λ row. if test row then change row else row) (λ row. kept_by_change p change same row (test row)) rows
