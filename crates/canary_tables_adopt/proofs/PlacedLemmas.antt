-- Rows that stand at the places of their metrics.
use Rattle.std.proofs.Common.{◌≡◌, ◌↔◌, IsTrue, ℕ, zero, suc, ◌+◌, ◌≤◌, ◌<◌, ◌==◌, List, [], ◌∷◌, length, Bool, true, false, true≢false, refl, sym, ap, ◌∙◌, subst, arith, eqb-true, eq-eqb}
use Rattle.std.specs.Prelude.{Option, Some, None, cond, ◌&&◌, filter, map, option_map, slice_get, IsPermutation}
use Rattle.std.specs.Str.{bytes_eq}
use Rattle.std.specs.List.{AllByRecursion}
use Rattle.std.specs.List.Sorted.{IsNonDecreasingBy}
use Rattle.std.proofs.lemmas.Option.{slice_get-map}
use Rattle.std.proofs.lemmas.Slice.Eq.{bytes_eq-Decides}
use Rattle.std.proofs.lemmas.List.Elements.{All-from_recursion, recursion_from_All}
use Rattle.std.proofs.lemmas.List.Sums.{length-filter}
use Rattle.std.proofs.lemmas.List.Sorted.{All-permutation, sum_by-IsPermutation, IsPermutation-sym, length_permutation}
use Rattle.canary_metric.specs.Counts.{Counts}
use Rattle.canary_tables_rows.specs.declared.rows.TallyRow.{TallyRow}
use Rattle.canary_tables_rows.specs.Tables.{Tables, is_tally, is_tally_of}
use Rattle.canary_tables_read.specs.Sorts.{Sorts, metric_of}
use Rattle.canary_tables_contents.specs.Values.{tally_row}
use Rattle.canary_tables_adopt.specs.OfService.{ArePlaced, AreTalliesOf}

-- Filters.

pub first_kept : {X : Type 0} (p : X → Bool) (x : X) (xs : List X) → p x ≡ true → filter p (x ∷ xs) ≡ x ∷ filter p xs
first_kept p x xs e = ap (λ b. cond b (x ∷ filter p xs) (filter p xs)) e

pub first_left : {X : Type 0} (p : X → Bool) (x : X) (xs : List X) → p x ≡ false → filter p (x ∷ xs) ≡ filter p xs
first_left p x xs e = ap (λ b. cond b (x ∷ filter p xs) (filter p xs)) e

passing_first : {X : Type 0} (p : X → Bool) (x : X) (xs : List X) (b : Bool) → p x ≡ b → AllByRecursion (λ y. p y ≡ true) (filter p xs) → AllByRecursion (λ y. p y ≡ true) (cond b (x ∷ filter p xs) (filter p xs))
passing_first p x xs true is rest = (is, rest)
passing_first p x xs false is rest = rest

-- what passes passes
pub passing : {X : Type 0} (p : X → Bool) (xs : List X) → AllByRecursion (λ x. p x ≡ true) (filter p xs)
passing p [] = tt
passing p (x ∷ xs) = passing_first p x xs (p x) refl (passing p xs)

pub head_passes : {X : Type 0} (p : X → Bool) (x : X) (xs rest : List X) → filter p xs ≡ x ∷ rest → p x ≡ true
head_passes p x xs rest is = (subst (AllByRecursion (λ y. p y ≡ true)) is (passing p xs)).0

cut_twice : {X : Type 0} (p q : X → Bool) (x : X) (xs : List X) (b : Bool) → filter p (cond b (x ∷ filter q xs) (filter q xs)) ≡ cond (b && p x) (x ∷ filter p (filter q xs)) (filter p (filter q xs))
cut_twice p q x xs true = refl
cut_twice p q x xs false = refl

pub filter_twice : {X : Type 0} (p q : X → Bool) (xs : List X) → filter p (filter q xs) ≡ filter (λ x. q x && p x) xs
filter_twice p q [] = refl
filter_twice p q (x ∷ xs) = cut_twice p q x xs (q x) ∙ ap (λ (ys : List _). cond (q x && p x) (x ∷ ys) ys) (filter_twice p q xs)

grouped : (a b c : Bool) → (a && b) && c ≡ a && (b && c)
grouped true b c = refl
grouped false b c = refl

pub both : (a b : Bool) → a && b ≡ true → (a ≡ true) × (b ≡ true)
both true b e = (refl, e)
both false b e = absurd (cc)

abbrev has_metric : ℕ → TallyRow → Bool
has_metric place row = place == row.metric

by_metric : (name : List ℕ) (run place : ℕ) (rows : List TallyRow) → filter (has_metric place) (filter (is_tally_of name run) rows) ≡ filter (is_tally name run place) rows
by_metric name run place rows = filter_twice (has_metric place) (is_tally_of name run) rows ∙ (λ i. filter (λ (row : TallyRow). grouped (bytes_eq name row.service) (run == row.run) (place == row.metric) i) rows)

differ : (a b : ℕ) (t : Bool) → (a == b) ≡ t → (a ≡ b → ⊥) → t ≡ false
differ a b true e apart = absurd (apart (eqb-true a b e))
differ a b false e apart = refl

not_equal : (a b : ℕ) → (a ≡ b → ⊥) → (a == b) ≡ false
not_equal a b apart = differ a b (a == b) refl apart

-- One that passes, in another order.

from_kept : {X : Type 0} (p : X → Bool) (P : X → Type 0) (x : X) (xs : List X) (b : Bool) → p x ≡ b → AllByRecursion P (cond b (x ∷ filter p xs) (filter p xs)) → (AllByRecursion P (filter p xs) → AllByRecursion (λ y. p y ≡ true → P y) xs) → AllByRecursion (λ y. p y ≡ true → P y) (x ∷ xs)
from_kept p P x xs true is all rest = (λ _. all.0, rest all.1)
from_kept p P x xs false is all rest = (λ e. let no : true ≡ false = sym e ∙ is in absurd (cc), rest all)

from_filter : {X : Type 0} (p : X → Bool) (P : X → Type 0) (xs : List X) → AllByRecursion P (filter p xs) → AllByRecursion (λ x. p x ≡ true → P x) xs
from_filter p P [] all = tt
from_filter p P (x ∷ xs) all = from_kept p P x xs (p x) refl all (from_filter p P xs)

to_kept : {X : Type 0} (p : X → Bool) (P : X → Type 0) (x : X) (xs : List X) (b : Bool) → p x ≡ b → (p x ≡ true → P x) → AllByRecursion P (filter p xs) → AllByRecursion P (cond b (x ∷ filter p xs) (filter p xs))
to_kept p P x xs true is one rest = (one is, rest)
to_kept p P x xs false is one rest = rest

to_filter : {X : Type 0} (p : X → Bool) (P : X → Type 0) (xs : List X) → AllByRecursion (λ x. p x ≡ true → P x) xs → AllByRecursion P (filter p xs)
to_filter p P [] all = tt
to_filter p P (x ∷ xs) all = to_kept p P x xs (p x) refl all.0 (to_filter p P xs all.1)

pub many_pass : {X : Type 0} (p : X → Bool) (xs ys : List X) → IsPermutation xs ys → length (filter p ys) ≡ length (filter p xs)
many_pass p xs ys moved = length-filter p ys ∙ sum_by-IsPermutation (λ x. cond (p x) 1 0) xs ys moved ∙ sym (length-filter p xs)

only_one : {X : Type 0} (x : X) (zs : List X) → AllByRecursion (λ z. z ≡ x) zs → length zs ≡ 1 → zs ≡ x ∷ []
only_one x [] all e = absurd (omega arith)
only_one x (z ∷ []) all e = ap (λ y. y ∷ []) all.0
only_one x (z ∷ y ∷ zs) all e = absurd (omega arith)

pub one_passes : {X : Type 0} (p : X → Bool) (xs ys : List X) (x : X) → IsPermutation xs ys → filter p xs ≡ x ∷ [] → filter p ys ≡ x ∷ []
one_passes {X} p xs ys x moved is =
    let P : X → Type 0 = λ y. y ≡ x in
    let Q : X → Type 0 = λ y. p y ≡ true → P y in
    let before : AllByRecursion Q xs = from_filter p P xs (subst (AllByRecursion P) (sym is) (refl, tt)) in
    let after : AllByRecursion Q ys = recursion_from_All Q ys (All-permutation Q xs ys moved (All-from_recursion Q xs before)) in
    only_one x (filter p ys) (to_filter p P ys after) (many_pass p xs ys moved ∙ ap length is)

-- Placed rows are tallies.

none_placed : (first place : ℕ) (rows : List TallyRow) → place < first → ArePlaced first rows → filter (has_metric place) rows ≡ []
none_placed first place [] below placed = refl
none_placed first place (row ∷ rows) below placed =
    let here : row.metric ≡ first = placed.0 in
    first_left (has_metric place) row rows (not_equal place row.metric (λ e. omega (arith, below, here, e)))
    ∙ none_placed (suc first) place rows (omega (arith, below)) placed.1

one_placed : (first k place : ℕ) (rows : List TallyRow) (row : TallyRow) → place ≡ first + k → ArePlaced first rows → slice_get rows k ≡ Some row → filter (has_metric place) rows ≡ row ∷ []
one_placed first k place [] row at placed there = absurd (cc)
one_placed first zero place (r ∷ rows) row at placed there =
    let here : r.metric ≡ first = placed.0 in
    let same : r ≡ row = cc there in
    first_kept (has_metric place) r rows (eq-eqb place r.metric (omega (arith, at, here)))
    ∙ ap (λ (ys : List TallyRow). r ∷ ys) (none_placed (suc first) place rows (omega (arith, at)) placed.1)
    ∙ ap (λ (x : TallyRow). x ∷ []) same
one_placed first (suc k) place (r ∷ rows) row at placed there =
    let here : r.metric ≡ first = placed.0 in
    first_left (has_metric place) r rows (not_equal place r.metric (λ e. omega (arith, at, here, e)))
    ∙ one_placed (suc first) k place rows row (omega (arith, at)) placed.1 there

row_counted : (o : Option TallyRow) (c : Counts) → option_map (λ (row : TallyRow). row.counts) o ≡ Some c → (row : TallyRow) × (o ≡ Some row) × (row.counts ≡ c)
row_counted None c e = absurd (cc)
row_counted (Some row) c e = (row, refl, cc e)

is_row : (name : List ℕ) (run place : ℕ) (c : Counts) (row : TallyRow) → is_tally name run place row ≡ true → row.counts ≡ c → row ≡ tally_row name run place c
is_row name run place c row passes is =
    let first : (bytes_eq name row.service ≡ true) × ((run == row.run) && (place == row.metric) ≡ true) = both (bytes_eq name row.service) ((run == row.run) && (place == row.metric)) passes in
    let second : ((run == row.run) ≡ true) × ((place == row.metric) ≡ true) = both (run == row.run) (place == row.metric) first.1 in
    let service : name ≡ row.service = (bytes_eq-Decides name row.service).0 first.0 in
    let number : run ≡ row.run = eqb-true run row.run second.0 in
    let metric : place ≡ row.metric = eqb-true place row.metric second.1 in
    λ i. record { service = sym service i; run = sym number i; metric = sym metric i; counts = is i }

length_map : {A B : Type 0} (f : A → B) (xs : List A) → length (map f xs) ≡ length xs
length_map f [] = refl
length_map f (x ∷ xs) = ap suc (length_map f xs)

abbrev pub counts_in : List TallyRow → List Counts
counts_in rows = map (λ (row : TallyRow). row.counts) rows

pub placed_are_tallies : (name : List ℕ) (run : ℕ) (t : Tables) (rows : List TallyRow) → Sorts metric_of (filter (is_tally_of name run) t.tallies) rows → ArePlaced 0 rows → AreTalliesOf name run t (counts_in rows)
placed_are_tallies name run t rows sorts placed = record {
  each = λ place c there.
      let found = row_counted (slice_get rows place) c (sym (slice_get-map (λ (row : TallyRow). row.counts) rows place) ∙ there) in
      let row : TallyRow = found.0 in
      let one : filter (has_metric place) rows ≡ row ∷ [] = one_placed 0 place place rows row (omega arith) placed found.1 in
      let all : filter (is_tally name run place) t.tallies ≡ row ∷ [] = sym (by_metric name run place t.tallies) ∙ one_passes (has_metric place) rows (filter (is_tally_of name run) t.tallies) row (IsPermutation-sym (filter (is_tally_of name run) t.tallies) rows sorts.same) one in
      all ∙ ap (λ (x : TallyRow). x ∷ []) (is_row name run place c row (head_passes (is_tally name run place) row t.tallies [] all) found.2);
  no_more = sym (length_permutation (filter (is_tally_of name run) t.tallies) rows sorts.same) ∙ sym (length_map (λ (row : TallyRow). row.counts) rows);
}

-- Tallies have placed rows.

abbrev Rise : List TallyRow → Type 0
Rise [] = Unit {0}
Rise (x ∷ xs) = AllByRecursion (λ (y : TallyRow). x.metric ≤ y.metric) xs × Rise xs

rises : (xs : List TallyRow) → IsNonDecreasingBy metric_of xs → Rise xs
rises [] h = tt
rises (x ∷ xs) h = (recursion_from_All (λ (y : TallyRow). x.metric ≤ y.metric) xs (λ k d l. h 0 (suc k) d (omega arith) (omega arith)), rises xs (λ i j d a b. h (suc i) (suc j) d (omega arith) (omega arith)))

none_below : (place : ℕ) (rows : List TallyRow) → AllByRecursion (λ (row : TallyRow). place < row.metric) rows → filter (has_metric place) rows ≡ []
none_below place [] all = refl
none_below place (row ∷ rows) all =
    let above : place < row.metric = all.0 in
    first_left (has_metric place) row rows (not_equal place row.metric (λ e. omega (arith, above, e))) ∙ none_below place rows all.1

above : (place metric : ℕ) (rows : List TallyRow) → place < metric → AllByRecursion (λ (row : TallyRow). metric ≤ row.metric) rows → AllByRecursion (λ (row : TallyRow). place < row.metric) rows
above place metric [] below all = tt
above place metric (row ∷ rows) below all = (let l : metric ≤ row.metric = all.0 in omega (arith, below, l), above place metric rows below all.1)

-- none at this place, so all above
none_here : (place : ℕ) (rows : List TallyRow) → length (filter (has_metric place) rows) ≡ 0 → AllByRecursion (λ (row : TallyRow). place ≤ row.metric) rows → AllByRecursion (λ (row : TallyRow). suc place ≤ row.metric) rows
none_here place [] none all = tt
none_here place (row ∷ rows) none all =
    let low : place ≤ row.metric = all.0 in
    elim (has_metric place row)
    as (λ b. has_metric place row ≡ b → AllByRecursion (λ (r : TallyRow). suc place ≤ r.metric) (row ∷ rows)) [
      | true ↦ λ e. let many : length (filter (has_metric place) (row ∷ rows)) ≡ suc (length (filter (has_metric place) rows)) = ap length (first_kept (has_metric place) row rows e) in absurd (omega (arith, none, many))
      | false ↦ λ e.
          let apart : place ≡ row.metric → ⊥ = λ same. true≢false (sym (eq-eqb place row.metric same) ∙ e) in
          let more : suc place ≤ row.metric = omega (arith, low, apart) in
          (more, none_here place rows (ap length (sym (first_left (has_metric place) row rows e)) ∙ none) all.1)
    ] refl

placed_from : (first : ℕ) (rows : List TallyRow) → Rise rows → AllByRecursion (λ (row : TallyRow). first ≤ row.metric) rows
    → ((place : ℕ) → first ≤ place → place < first + length rows → length (filter (has_metric place) rows) ≡ 1) → ArePlaced first rows
placed_from first [] rise low one = tt
placed_from first (row ∷ rows) rise low one =
    let here : length (filter (has_metric first) (row ∷ rows)) ≡ 1 = one first (omega arith) (omega arith) in
    let least : first ≤ row.metric = low.0 in
    let not_above : first < row.metric → ⊥ = λ more. (let none : length (filter (has_metric first) (row ∷ rows)) ≡ 0 = ap length (none_below first (row ∷ rows) (more, above first row.metric rows more rise.0)) in omega (arith, here, none)) in
    let same : row.metric ≡ first = omega (arith, least, not_above) in
    let kept : filter (has_metric first) (row ∷ rows) ≡ row ∷ filter (has_metric first) rows = first_kept (has_metric first) row rows (eq-eqb first row.metric (sym same)) in
    let many : suc (length (filter (has_metric first) rows)) ≡ 1 = sym (ap length kept) ∙ here in
    let none : length (filter (has_metric first) rows) ≡ 0 = omega (arith, many) in (
      same,
      placed_from (suc first) rows rise.1 (none_here first rows none (subst (λ m. AllByRecursion (λ (r : TallyRow). m ≤ r.metric) rows) same rise.0))
          (λ place a b. sym (ap length (first_left (has_metric place) row rows (not_equal place row.metric (λ e. omega (arith, a, same, e))))) ∙ one place (omega (arith, a)) (omega (arith, b))),
    )

zero_low : (rows : List TallyRow) → AllByRecursion (λ (row : TallyRow). 0 ≤ row.metric) rows
zero_low [] = tt
zero_low (row ∷ rows) = (omega arith, zero_low rows)

pub some_at : {X : Type 0} (xs : List X) (k : ℕ) → k < length xs → (x : X) × (slice_get xs k ≡ Some x)
some_at [] k below = absurd (omega (arith, below))
some_at (x ∷ xs) zero below = (x, refl)
some_at (x ∷ xs) (suc k) below = some_at xs k (omega (arith, below))

pub tallies_are_placed : (name : List ℕ) (run : ℕ) (t : Tables) (rows : List TallyRow) (tallies : List Counts) → Sorts metric_of (filter (is_tally_of name run) t.tallies) rows → AreTalliesOf name run t tallies → ArePlaced 0 rows
tallies_are_placed name run t rows tallies sorts are =
    let all : List TallyRow = filter (is_tally_of name run) t.tallies in
    let many : length rows ≡ length tallies = length_permutation all rows sorts.same ∙ are.no_more in
    placed_from 0 rows (rises rows sorts.ascend) (zero_low rows)
    (λ place a b.
    let there = some_at tallies place (omega (arith, b, many)) in
    many_pass (has_metric place) all rows sorts.same ∙ ap length (by_metric name run place t.tallies ∙ are.each place there.0 there.1))

-- There are no other tallies.

pub same_list : {X : Type 0} (xs ys : List X) → length xs ≡ length ys → ((k : ℕ) (x y : X) → slice_get xs k ≡ Some x → slice_get ys k ≡ Some y → x ≡ y) → xs ≡ ys
same_list [] [] e same = refl
same_list [] (y ∷ ys) e same = absurd (omega (arith, e))
same_list (x ∷ xs) [] e same = absurd (omega (arith, e))
same_list (x ∷ xs) (y ∷ ys) e same =
    let first : x ≡ y = same 0 x y refl refl in
    let later : xs ≡ ys = same_list xs ys (omega (arith, e)) (λ k a b. same (suc k) a b) in
    λ i. first i ∷ later i

same_row : (a b : TallyRow) → a ∷ [] ≡ b ∷ [] → a ≡ b
same_row a b e = cc e

pub same_tallies : (name : List ℕ) (run : ℕ) (t : Tables) (xs ys : List Counts) → AreTalliesOf name run t xs → AreTalliesOf name run t ys → xs ≡ ys
same_tallies name run t xs ys first second =
    same_list xs ys (sym first.no_more ∙ second.no_more)
    (λ k x y a b. ap (λ (row : TallyRow). row.counts) (same_row (tally_row name run k x) (tally_row name run k y) (sym (first.each k x a) ∙ second.each k y b)))

-- A test and what it tests.

pub refused : {P : Type 0} (b : Bool) → (IsTrue b ↔ P) → b ≡ false → P → ⊥
refused b is no_more p = let yes : b ≡ true = is.1 p in true≢false (sym yes ∙ no_more)
