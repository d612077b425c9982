-- Rows that are found in the order of a number of theirs.
use Rattle.std.proofs.Common.{◌≡◌, ◌≤◌, ◌<◌, ℕ, zero, suc, length, pos, List, [], ◌∷◌, map, filter, Bool, false, Option, Some, None, refl, sym, ap, ap₂, subst, subst₂, ◌∙◌, arith}
use Rattle.std.specs.Prelude.{slice_index_or}
use Rattle.std.specs.declared.cmp.Ordering.{Ordering}
use Rattle.std.specs.declared.cmp.Ordering.TheVariants.{Less, Equal, Greater}
use Rattle.std.specs.Ordering.{is_gt, int_cmp, ordering_then}
use Rattle.std.specs.List.{AllByRecursion, flat_map}
use Rattle.std.specs.List.Sorted.{IsPermutation, IsNonDecreasingBy}
use Rattle.std.proofs.lemmas.Int.{ints}
use Rattle.std.proofs.lemmas.Bool.Decides.{nat_tests}
use Rattle.std.proofs.lemmas.List.Elements.{recursion_from_All, All-from_recursion}
use Rattle.std.proofs.lemmas.List.Sorted.{IsPermutation-map, All-permutation}
use Rattle.sqlite.specs.declared.types.Value.{Value}
use Rattle.sqlite.specs.declared.types.Value.TheVariants.{Null}
use Rattle.sqlite.specs.Order.{Row, column, value_cmp}
use Rattle.sqlite.specs.Term.{Term}
use Rattle.sqlite.specs.Query.{Output, output_cmp, page}
use Rattle.sqlite.specs.Tree.{IsAscending}
use Rattle.sqlite_sql.proofs.QueryLemmas.{output_cmp_total}
use Rattle.sqlite_exec.proofs.PartitionLemmas.{ascending_from_sorted}
use Rattle.sqlite_keyed.proofs.ListLemmas.{map-map, flat_map-map, flat_map_same_on, flat_map-one, IsPermutation-flat_map, ascending-map, ascending_from_map, ascending_weaker, all_map}
use Rattle.sqlite_value.specs.Keys.{directed}
use Rattle.sqlite_value.proofs.OrderLemmas.{value_cmp-Int}
use Rattle.canary_tables_schema.specs.Layout.{Layout}
use Rattle.canary_tables_schema.specs.Cells.{integer as number}
use Rattle.canary_tables_read.specs.Finds.{TellsCells}
use Rattle.canary_tables_read.specs.Sorts.{Sorts}
use Rattle.canary_tables_read.proofs.Answer.{query_of, no_limit, from_start, sorted_by, by_column, passes, shows, put_out}
use Rattle.canary_tables_read.proofs.Asking.{Asks, Reads, ordered_found}
use Rattle.canary_tables_read.proofs.TypedRows.{Tells, typed}

then_equal : (o : Ordering) → is_gt (ordering_then o Equal) ≡ false → is_gt o ≡ false
then_equal Less h = refl
then_equal Equal h = refl
then_equal Greater h = h

at_most : (m n : ℕ) → is_gt (int_cmp (pos m) (pos n)) ≡ false → m ≤ n
at_most m n h = grind (arith, ints, nat_tests)

pub not_above : (m n : ℕ) → is_gt (value_cmp (number m) (number n)) ≡ false → m ≤ n
not_above m n h = at_most m n (rw (value_cmp-Int (pos m) (pos n)) at h)

-- if each key is at most those after it, none falls
at_least : {X : Type 0} (key : X → ℕ) (m : ℕ) (xs : List X) → AllByRecursion (λ y. m ≤ key y) xs → (j : ℕ) (d : X) → j < length xs → m ≤ key (slice_index_or xs j d)
at_least key m [] h j d lt = absurd (omega arith)
at_least key m (x ∷ xs) h zero d lt = h.0
at_least key m (x ∷ xs) h (suc j) d lt = at_least key m xs h.1 j d (omega arith)

never_falls : {X : Type 0} (key : X → ℕ) (xs : List X) → IsAscending (λ x y. key x ≤ key y) xs → IsNonDecreasingBy key xs
never_falls key [] h i j d le lt = absurd (omega arith)
never_falls key (x ∷ xs) h zero zero d le lt = omega arith
never_falls key (x ∷ xs) h zero (suc j) d le lt = at_least key (key x) xs h.0 j d (omega arith)
never_falls key (x ∷ xs) h (suc i) zero d le lt = absurd (omega arith)
never_falls key (x ∷ xs) h (suc i) (suc j) d le lt = never_falls key xs h.1 i j d (omega arith) (omega arith)

-- rows with the same cells, in some order
module _ {X : Type 0} (cells : X → Row) (known : Row → Option X) (back : (x : X) → known (cells x) ≡ Some x) where
  abbrev listed : Option X → List X
  listed None = []
  listed (Some x) = x ∷ []

  all_known : (xs : List X) → flat_map (λ row. listed (known row)) (map cells xs) ≡ xs
  all_known xs = flat_map-map (λ row. listed (known row)) cells xs ∙ flat_map_same_on _ _ (λ x. ap listed (back x)) xs ∙ flat_map-one xs

  pub same_in_order : (xs ys : List X) → IsPermutation (map cells xs) (map cells ys) → IsPermutation xs ys
  same_in_order xs ys h = subst₂ IsPermutation (all_known xs) (all_known ys) (IsPermutation-flat_map (λ row. listed (known row)) _ _ h)

-- the first comes no later than the other, up or down
abbrev pub NotBehind : Bool → Value → Value → Type 0
NotBehind down u v = is_gt (directed down value_cmp u v) ≡ false

-- what a query shows of these rows, in the order of a value of theirs
pub record IsListed {X : Type 0} (cells : X → Row) (whole : Row → Row) (mark : X → Value) (down : Bool) (all : List X) (listed : List Row) : Type 0 where
  pub ordered : List X
  pub same : IsPermutation all ordered
  pub rising : IsAscending (λ x y. NotBehind down (mark x) (mark y)) ordered
  pub are : map cells ordered ≡ map whole listed

each : {P : Row → Type 0} (rows : List Row) → ((row : Row) → P row) → AllByRecursion P rows
each [] h = tt
each (row ∷ rows) h = (h row, each rows h)

-- rows with cells, in another order, are the cells of rows
module _ {X : Type 0} (cells : X → Row) where
  abbrev IsCells : Row → Type 0
  IsCells row = (x : X) × (row ≡ cells x)

  cells_are : (xs : List X) → AllByRecursion IsCells (map cells xs)
  cells_are [] = tt
  cells_are (x ∷ xs) = ((x, refl), cells_are xs)

  lifted : (rows : List Row) → AllByRecursion IsCells rows → (xs : List X) × (map cells xs ≡ rows)
  lifted [] h = ([], refl)
  lifted (row ∷ rows) h = let rest = lifted rows h.1 in (h.0.0 ∷ rest.0, ap₂ (λ first others. first ∷ others) (sym h.0.1) rest.1)

  moved_cells : (xs : List X) (rows : List Row) → IsPermutation (map cells xs) rows → (ys : List X) × (map cells ys ≡ rows)
  moved_cells xs rows h = lifted rows (recursion_from_All IsCells rows (All-permutation IsCells _ rows h (All-from_recursion IsCells (map cells xs) (cells_are xs))))

-- What is sorted by the column at `at` and shows it at `place` is sorted by the value that stands there.
module _ {X : Type 0} (cells : X → Row) (whole : Row → Row) (mark : X → Value) (place : ℕ) (keyed : (x : X) (row : Row) → cells x ≡ whole row → column row place ≡ mark x) where
  abbrev lead : Output → Value
  lead o = column o.0 0

  values : (os : List Output) (xs : List X) → map cells xs ≡ map whole (map (λ (o : Output). o.1) os) → AllByRecursion (λ (o : Output). lead o ≡ column o.1 place) os → map lead os ≡ map mark xs
  values [] [] e h = refl
  values [] (x ∷ xs) e h = absurd (cc)
  values (o ∷ os) [] e h = absurd (cc)
  values (o ∷ os) (x ∷ xs) e h =
      let here : cells x ≡ whole o.1 = cc in
      let later : map cells xs ≡ map whole (map (λ (p : Output). p.1) os) = cc in
      ap₂ (λ first others. first ∷ others) (h.0 ∙ keyed x o.1 here) (values os xs later h.1)

  rise : (down : Bool) (os : List Output) (xs : List X) → map cells xs ≡ map whole (map (λ (o : Output). o.1) os) → AllByRecursion (λ (o : Output). lead o ≡ column o.1 place) os → IsAscending (λ (o p : Output). NotBehind down (lead o) (lead p)) os
      → IsAscending (λ x y. NotBehind down (mark x) (mark y)) xs
  rise down os xs e h up = ascending_from_map (NotBehind down) mark xs (subst (IsAscending (NotBehind down)) (values os xs e h) (ascending-map (NotBehind down) lead os up))

  module _ (known : Row → Option X) (back : (x : X) → known (cells x) ≡ Some x) (text : List ℕ) (tree : Layout → ℕ) (tests shown : List Term) (down : Bool) (at : ℕ) (limit : Term) (asks : Asks text tree tests shown (sorted_by down at) limit from_start) (test : X → Bool)
      (params : Row) (tells : Tells cells test cells whole (passes tests params) (shows shown params)) (leads : (row : Row) → column row at ≡ column (shows shown params row) place) where
    pub listed_found : (xs : List X) (rows : List Row) → (h : Reads text tree cells xs params rows)
        → (listed : List Row) × (rows ≡ page (query_of (tree h.layout) tests shown (sorted_by down at) limit from_start) params listed) × IsListed cells whole mark down (filter test xs) listed
    listed_found xs rows h =
        let o = ordered_found text tree tests shown (sorted_by down at) limit asks cells params xs rows h in
        let out = put_out Null (tree h.layout) tests shown (sorted_by down at) limit from_start h.old.now.trees params rows in
        let found = filter (passes tests params) (h.old.now.trees (tree h.layout)) in
        let q = query_of (tree h.layout) tests shown (sorted_by down at) limit from_start in
        let listed = map (λ (p : Output). p.1) o.ordered in
        let left : map whole (map (λ (p : Output). p.1) (map out found)) ≡ map cells (filter test xs) =
        ap (map whole) (map-map (λ (p : Output). p.1) out found) ∙ typed cells test cells whole (passes tests params) (shows shown params) tells (h.old.now.trees (tree h.layout)) xs h.stored in
        let moved : IsPermutation (map cells (filter test xs)) (map whole listed) = subst (λ rows. IsPermutation rows (map whole listed)) left (IsPermutation-map whole _ _ (IsPermutation-map (λ (p : Output). p.1) _ _ o.same)) in
        let ys = moved_cells cells (filter test xs) (map whole listed) moved in
        let led = recursion_from_All (λ (p : Output). lead p ≡ column p.1 place) o.ordered
        (All-permutation (λ (p : Output). lead p ≡ column p.1 place) _ o.ordered o.same (All-from_recursion _ (map out found) (all_map (λ (p : Output). lead p ≡ column p.1 place) out found (each found leads)))) in
        let up = ascending_weaker _ (λ (a b : Output). NotBehind down (lead a) (lead b)) (λ a b k. then_equal _ k) o.ordered (ascending_from_sorted (output_cmp q) (output_cmp_total q) o.ordered o.sorted) in
        (listed, o.shown_are, record { ordered = ys.0; same = same_in_order cells known back (filter test xs) ys.0 (subst (IsPermutation (map cells (filter test xs))) (sym ys.1) moved); rising = rise down o.ordered ys.0 ys.1 led up; are = ys.1 })

-- all of them, by a number of theirs
module _ {X : Type 0} (cells : X → Row) (whole : Row → Row) (key : X → ℕ) (place : ℕ) (keyed : (x : X) (row : Row) → cells x ≡ whole row → column row place ≡ number (key x)) (known : Row → Option X) (back : (x : X) → known (cells x) ≡ Some x)
    (text : List ℕ) (tree : Layout → ℕ) (tests shown : List Term) (at : ℕ) (asks : Asks text tree tests shown (by_column at) no_limit from_start) (test : X → Bool) (params : Row)
    (tells : Tells cells test cells whole (passes tests params) (shows shown params)) (leads : (row : Row) → column row at ≡ column (shows shown params row) place) where
  pub sorted_rows : (xs : List X) (rows : List Row) → Reads text tree cells xs params rows → (all : List X) × Sorts key (filter test xs) all × TellsCells cells whole all rows
  sorted_rows xs rows h =
      let l = listed_found cells whole (λ x. number (key x)) place keyed known back text tree tests shown false at no_limit asks test params tells leads xs rows h in (
        l.2.ordered,
        record {
          same = l.2.same;
          ascend = never_falls key l.2.ordered (ascending_weaker (λ x y. NotBehind false (number (key x)) (number (key y))) (λ x y. key x ≤ key y) (λ x y b. not_above (key x) (key y) b) l.2.ordered l.2.rising);
        },
        ap (map whole) l.1 ∙ sym l.2.are,
      )
