-- Rows whose numbers follow one another, if they come in the order of their numbers.
use Rattle.std.proofs.Common.{◌≡◌, ◌⊎◌, inl, inr, ℕ, zero, suc, ◌<◌, ◌≤◌, ◌==◌, List, [], ◌∷◌, Bool, true, false, true≢false, nat_le, nat_lt, refl, sym, ap, ap₂, ◌∙◌, subst, arith, eqb-true, eq-eqb}
use Rattle.std.specs.Prelude.{◌&&◌, filter, Result, Ok, Err, OnOk}
use Rattle.std.specs.Str.{bytes_eq}
use Rattle.std.specs.List.{AllByRecursion}
use Rattle.std.specs.List.Sorted.{IsNonDecreasingBy}
use Rattle.std.proofs.lemmas.Bool.Decides.{nat_tests}
use Rattle.std.proofs.lemmas.List.Elements.{All-from_recursion, recursion_from_All}
use Rattle.std.proofs.lemmas.List.Sorted.{All-permutation, IsPermutation-sym}
use Rattle.canary_tables_rows.specs.declared.rows.KeptRow.{KeptRow}
use Rattle.canary_tables_rows.specs.Tables.{Tables, is_kept}
use Rattle.canary_tables_contents.specs.Values.{receipt_of_row}
use Rattle.canary_tables_read.specs.Pages.{is_kept_between, number_of_kept}
use Rattle.canary_tables_read.specs.Sorts.{Sorts}
use Rattle.canary_tables_adopt.specs.Alone.{HasValue}
use Rattle.canary_tables_adopt.specs.Receipts.{AreFrom, AreReceipts, AreReceived}
use Rattle.canary_tables_adopt.proofs.PlacedLemmas.{first_kept, first_left, passing, filter_twice, both, one_passes}

differ : (a b : ℕ) (t : Bool) → (a == b) ≡ t → (a ≡ b → ⊥) → t ≡ false
differ a b true e apart = absurd (apart (eqb-true a b e))
differ a b false e apart = refl

apart_false : (a b : ℕ) → (a ≡ b → ⊥) → (a == b) ≡ false
apart_false a b apart = differ a b (a == b) refl apart

same_or_less : (a b : ℕ) → a ≤ b → (a ≡ b) ⊎ (a < b)
same_or_less zero zero le = inl refl
same_or_less zero (suc b) le = inr (omega arith)
same_or_less (suc a) zero le = absurd (let no_way : ⊥ = omega arith in no_way)
same_or_less (suc a) (suc b) le = elim (same_or_less a b (omega arith)) [
  | inl same ↦ inl (ap suc same)
  | inr less ↦ inr (omega (arith, less))
]

module _ {X : Type 0} (key : X → ℕ) (P : X → Type 0) where
  abbrev has : ℕ → X → Bool
  has n x = n == key x

  none_lower : (before last n : ℕ) (xs : List X) → n ≤ before → AreFrom key P before last xs → filter (has n) xs ≡ []
  none_lower before last n [] low are = refl
  none_lower before last n (x ∷ xs) low are =
      let here : key x ≡ suc before = are.0 in
      first_left (has n) x xs (apart_false n (key x) (λ e. omega (arith, low, here, e))) ∙ none_lower (suc before) last n xs (omega (arith, low)) are.2

  -- there is one of each number
  pub one_there : (before last n : ℕ) (xs : List X) → before < n → n ≤ last → AreFrom key P before last xs → (x : X) × (filter (λ y. n == key y) xs ≡ x ∷ []) × P x
  one_there before last n [] low high are = absurd (let same : before ≡ last = are in let no_way : ⊥ = omega (arith, low, high, same) in no_way)
  one_there before last n (x ∷ xs) low high are =
      let here : key x ≡ suc before = are.0 in
      elim (same_or_less (suc before) n (omega (arith, low))) [
        | inl same ↦ (
          x,
          first_kept (has n) x xs (eq-eqb n (key x) (sym same ∙ sym here)) ∙ ap (λ (ys : List X). x ∷ ys) (none_lower (suc before) last n xs (let le : n ≤ suc before = omega (arith, same) in le) are.2),
          are.1,
        )
        | inr less ↦
            let later = one_there (suc before) last n xs less high are.2 in
            (later.0, first_left (has n) x xs (apart_false n (key x) (λ e. omega (arith, less, here, e))) ∙ later.1, later.2)
      ]

  abbrev Rise : List X → Type 0
  Rise [] = Unit {0}
  Rise (x ∷ xs) = AllByRecursion (λ (y : X). key x ≤ key y) xs × Rise xs

  pub rises : (xs : List X) → IsNonDecreasingBy key xs → Rise xs
  rises [] h = tt
  rises (x ∷ xs) h = (recursion_from_All (λ (y : X). key x ≤ key y) xs (λ k d l. h 0 (suc k) d (omega arith) (omega arith)), rises xs (λ i j d a b. h (suc i) (suc j) d (omega arith) (omega arith)))

  none_below : (n m : ℕ) (xs : List X) → n < m → AllByRecursion (λ (y : X). m ≤ key y) xs → filter (has n) xs ≡ []
  none_below n m [] low all = refl
  none_below n m (x ∷ xs) low all =
      let above : m ≤ key x = all.0 in
      first_left (has n) x xs (apart_false n (key x) (λ e. omega (arith, low, above, e))) ∙ none_below n m xs low all.1

  -- no other has this number, so all are above it
  above_step : (n last : ℕ) (x : X) (b : Bool) → has n x ≡ b → b ≡ false → n ≤ key x → suc n ≤ key x
  above_step n last x true e no_more low = absurd (true≢false no_more)
  above_step n last x false e no_more low =
      let apart : n ≡ key x → ⊥ = λ same. true≢false (sym (eq-eqb n (key x) same) ∙ e) in
      omega (arith, low, apart)

  left_step : (n : ℕ) (x : X) (xs : List X) (b : Bool) → has n x ≡ b → filter (has n) (x ∷ xs) ≡ [] → (has n x ≡ false) × (filter (has n) xs ≡ [])
  left_step n x xs true e none = absurd (let some : x ∷ filter (has n) xs ≡ [] = sym (first_kept (has n) x xs e) ∙ none in cc)
  left_step n x xs false e none = (e, sym (first_left (has n) x xs e) ∙ none)

  all_above : (n last : ℕ) (xs : List X) → filter (has n) xs ≡ [] → AllByRecursion (λ (y : X). n ≤ key y) xs → AllByRecursion (λ (y : X). suc n ≤ key y) xs
  all_above n last [] none all = tt
  all_above n last (x ∷ xs) none all = let it = left_step n x xs (has n x) refl none in (above_step n last x (has n x) refl it.0 all.0, all_above n last xs it.1 all.1)

  pub follow : (before last : ℕ) (xs : List X) → before ≤ last → Rise xs → AllByRecursion (λ (y : X). suc before ≤ key y) xs → AllByRecursion (λ (y : X). key y ≤ last) xs
      → ((n : ℕ) → before < n → n ≤ last → (x : X) × (filter (λ y. n == key y) xs ≡ x ∷ []) × P x) → AreFrom key P before last xs
  follow before last [] le rise low high one = elim (same_or_less before last le) [
    | inl same ↦ same
    | inr less ↦ absurd (let it = one (suc before) (omega arith) less in let some : [] ≡ it.0 ∷ [] = it.1 in cc)
  ]
  follow before last (x ∷ xs) le rise low high one =
      let least : suc before ≤ key x = low.0 in
      let most : key x ≤ last = high.0 in
      let it = one (suc before) (omega arith) (omega (arith, least, most)) in
      let not_above : suc before < key x → ⊥ = λ more.
      (let none : filter (has (suc before)) (x ∷ xs) ≡ [] = none_below (suc before) (key x) (x ∷ xs) more (let own : key x ≤ key x = omega arith in own, rise.0) in
      let some : it.0 ∷ [] ≡ [] = sym it.1 ∙ none in cc) in
      let same : key x ≡ suc before = omega (arith, least, not_above) in
      let kept : x ∷ filter (has (suc before)) xs ≡ it.0 ∷ [] = sym (first_kept (has (suc before)) x xs (eq-eqb (suc before) (key x) (sym same))) ∙ it.1 in
      let is : it.0 ≡ x = cc kept in
      let none : filter (has (suc before)) xs ≡ [] = cc kept in (
        same,
        subst P is it.2,
        follow (suc before) last xs (omega (arith, same, most)) rise.1 (all_above (suc before) last xs none (subst (λ m. AllByRecursion (λ (y : X). m ≤ key y) xs) same rise.0)) high.1
            (λ n a b. let other = one n (omega (arith, a)) b in (other.0, sym (first_left (has n) x xs (apart_false n (key x) (λ e. omega (arith, a, same, e)))) ∙ other.1, other.2)),
      )

-- The rows of a page are those of its numbers.

lt_true : (m k : ℕ) → m < k → nat_lt m k ≡ true
lt_true m k lt = grind (arith, nat_tests)

le_true : (m k : ℕ) → m ≤ k → nat_le m k ≡ true
le_true m k le = grind (arith, nat_tests)

true_lt : (m k : ℕ) → nat_lt m k ≡ true → m < k
true_lt m k e = grind (arith, nat_tests)

true_le : (m k : ℕ) → nat_le m k ≡ true → m ≤ k
true_le m k e = grind (arith, nat_tests)

and_false : (b : Bool) → b && false ≡ false
and_false true = refl
and_false false = refl

no_bounds : (a b c t : Bool) → (t ≡ true → (b ≡ true) × (c ≡ true)) → (a && (b && c)) && t ≡ a && t
no_bounds true b c true h = let it = h refl in ap₂ (λ (x y : Bool). (x && y) && true) it.0 it.1
no_bounds true b c false h = and_false (b && c)
no_bounds false b c t h = refl

inside : (before last n m : ℕ) → before < n → n ≤ last → (n == m) ≡ true → (nat_lt before m ≡ true) × (nat_le m last ≡ true)
inside before last n m low high e =
    let same : n ≡ m = eqb-true n m e in
    (lt_true before m (omega (arith, low, same)), le_true m last (omega (arith, high, same)))

pub of_number : (caller : List ℕ) (before last n : ℕ) (rows : List KeptRow) → before < n → n ≤ last → filter (λ (row : KeptRow). n == row.number) (filter (is_kept_between caller before last) rows) ≡ filter (is_kept caller n) rows
of_number caller before last n rows low high =
    filter_twice (λ (row : KeptRow). n == row.number) (is_kept_between caller before last) rows
    ∙ (λ i. filter (λ (row : KeptRow). no_bounds (bytes_eq caller row.caller) (nat_lt before row.number) (nat_le row.number last) (n == row.number) (inside before last n row.number low high) i) rows)

-- what follows one another is one of each
pub page_received : (caller : List ℕ) (before last : ℕ) (t : Tables) (rows : List KeptRow) → Sorts number_of_kept (filter (is_kept_between caller before last) t.kept) rows → AreReceipts before last rows → AreReceived caller before last t
page_received caller before last t rows sorts are number low high =
    let it = one_there number_of_kept (HasValue receipt_of_row) before last number rows low high are in
    let back = IsPermutation-sym (filter (is_kept_between caller before last) t.kept) rows sorts.same in
    record {
      row = it.0;
      one = sym (of_number caller before last number t.kept low high) ∙ one_passes (λ (row : KeptRow). number == row.number) rows (filter (is_kept_between caller before last) t.kept) it.0 back it.1;
      read = it.2.0;
      is = it.2.1;
    }

between : (caller : List ℕ) (before last : ℕ) (row : KeptRow) → is_kept_between caller before last row ≡ true → (suc before ≤ row.number) × (row.number ≤ last)
between caller before last row e =
    let first = both (bytes_eq caller row.caller) (nat_lt before row.number && nat_le row.number last) e in
    let second = both (nat_lt before row.number) (nat_le row.number last) first.1 in
    (let low : before < row.number = true_lt before row.number second.0 in omega (arith, low), true_le row.number last second.1)

lows : (caller : List ℕ) (before last : ℕ) (rows : List KeptRow) → AllByRecursion (λ row. is_kept_between caller before last row ≡ true) rows → AllByRecursion (λ (row : KeptRow). suc before ≤ row.number) rows
lows caller before last [] all = tt
lows caller before last (row ∷ rows) all = ((between caller before last row all.0).0, lows caller before last rows all.1)

highs : (caller : List ℕ) (before last : ℕ) (rows : List KeptRow) → AllByRecursion (λ row. is_kept_between caller before last row ≡ true) rows → AllByRecursion (λ (row : KeptRow). row.number ≤ last) rows
highs caller before last [] all = tt
highs caller before last (row ∷ rows) all = ((between caller before last row all.0).1, highs caller before last rows all.1)

-- and one of each follows one another
pub received_page : (caller : List ℕ) (before last : ℕ) (t : Tables) (rows : List KeptRow) → before < last → Sorts number_of_kept (filter (is_kept_between caller before last) t.kept) rows → AreReceived caller before last t → AreReceipts before last rows
received_page caller before last t rows some sorts received =
    let all : List KeptRow = filter (is_kept_between caller before last) t.kept in
    let Passes : KeptRow → Type 0 = λ row. is_kept_between caller before last row ≡ true in
    let pass : AllByRecursion Passes rows = recursion_from_All Passes rows (All-permutation Passes all rows sorts.same (All-from_recursion Passes all (passing (is_kept_between caller before last) t.kept))) in
    follow number_of_kept (HasValue receipt_of_row) before last rows (omega (arith, some)) (rises number_of_kept (HasValue receipt_of_row) rows sorts.ascend) (lows caller before last rows pass) (highs caller before last rows pass)
    (λ n a b.
    let it = received n a b in
    (it.row, one_passes (λ (row : KeptRow). n == row.number) all rows it.row sorts.same (of_number caller before last n t.kept a b ∙ it.one), (it.read, it.is)))

pub on_ok : {A F : Type 0} (P Q : Type 0) (r : Result A F) → (P → Q) → OnOk r P → OnOk r Q
on_ok P Q (Ok a) f p = f p
on_ok P Q (Err e) f p = tt
