-- When the rows of a tree are those of a table: exactly if no number is negative.
use Rattle.std.proofs.Common.{◌≡◌, ◌+◌, ◌≤◌, ◌<◌, ◌++◌, ◌==◌, ℕ, zero, suc, List, [], ◌∷◌, length, map, drop, true, false, Some, None, refl, sym, ap, ap₂, ◌∙◌, arith}
use Rattle.std.specs.List.{AllByRecursion}
use Rattle.std.proofs.lemmas.Bool.Decides.{nat_tests}
use Rattle.sqlite.specs.declared.types.Value.{Value}
use Rattle.sqlite.specs.declared.types.Value.TheVariants.{Null, Int, Real, Text as Words, Blob}
use Rattle.sqlite.specs.Order.{Row, column}
use Rattle.sqlite_sql.specs.Ops.{is_null}
use Rattle.sqlite_schema.specs.declared.schema.Column.{Column}
use Rattle.sqlite_schema.specs.Rules.{are_typed, are_present}
use Rattle.canary_tables_read.specs.TreeRows.{HasCells}
use Rattle.canary_tables_read.proofs.Holdings.{Holding, columns_of, Raw, raw_cells, FromFirstRow, told_cells, numbers_at, has_negative, StandFrom, all_whole, none_negative, and_second}
use Rattle.canary_tables_read.proofs.StrictRows.{Behind, raw_of, as_long, EndsFilled}
use Rattle.canary_tables_read.proofs.Tests.{and_first}

-- the row has such values after its rowid and what stands in front
abbrev pub AreRaw : Row → List Holding → Row → Type 0
AreRaw front ks row = (r : Raw ks) × (drop 1 row ≡ front ++ raw_cells ks r)

behind_first : (row : Row) (i k : ℕ) → k ≡ suc i → column row k ≡ column (drop 1 row) i
behind_first [] i k e = refl
behind_first (v ∷ vs) i zero e = absurd (omega (arith, e))
behind_first (v ∷ vs) i (suc k) e = let same : k ≡ i = omega (arith, e) in ap (column vs) same

-- a table whose rowid is no column of its own
pub plain_row : (ks : List Holding) (row : Row) → are_typed None 0 (columns_of ks) (drop 1 row) ≡ true → are_present None 0 (columns_of ks) row ≡ true → length (drop 1 row) ≡ length ks → AreRaw [] ks row
plain_row ks row typed present long = raw_of None row ks 0 (drop 1 row) (λ n le. refl) (λ i k e. behind_first row i k (omega (arith, e))) typed present long

pub plain_long : (ks : List Holding) (row : Row) → are_typed None 0 (columns_of ks) (drop 1 row) ≡ true → are_present None 0 (columns_of ks) row ≡ true → EndsFilled ks → length (drop 1 row) ≡ length ks
plain_long ks row typed present filled = as_long None row ks 0 (drop 1 row) (λ n le. refl) (λ i k e. behind_first row i k (omega (arith, e))) filled typed present

not_first : (n : ℕ) → 1 ≤ n → (0 == n) ≡ false
not_first n le = grind (arith, nat_tests)

is_nothing : (v : Value) → is_null v ≡ true → v ≡ Null
is_nothing Null h = refl
is_nothing (Int n) h = absurd (cc)
is_nothing (Real x) h = absurd (cc)
is_nothing (Words t) h = absurd (cc)
is_nothing (Blob b) h = absurd (cc)

-- a table whose first column is its rowid
module _ (first : Column) (ks : List Holding) (some : 0 < length ks) (filled : EndsFilled ks) where
  none_left : (row : Row) → drop 1 row ≡ [] → are_typed (Some 0) 1 (columns_of ks) [] ≡ true → are_present (Some 0) 1 (columns_of ks) row ≡ true → ⊥
  none_left row e typed present =
      let long : length {A = Value} [] ≡ length ks = as_long (Some 0) row ks 1 [] not_first (λ i k is. behind_first row (suc i) k (omega (arith, is)) ∙ ap (λ (r : Row). column r (suc i)) e) filled typed present in
      omega (arith, some, long)

  pub counted_row : (row : Row) → are_typed (Some 0) 0 (first ∷ columns_of ks) (drop 1 row) ≡ true → are_present (Some 0) 0 (first ∷ columns_of ks) row ≡ true → AreRaw (Null ∷ []) ks row
  counted_row [] typed present = absurd (none_left [] refl (and_second (is_null first.default) (are_typed (Some 0) 1 (columns_of ks) []) typed) present)
  counted_row (id ∷ []) typed present = absurd (none_left (id ∷ []) refl (and_second (is_null first.default) (are_typed (Some 0) 1 (columns_of ks) []) typed) present)
  counted_row (id ∷ v ∷ vs) typed present =
      let typed_rest : are_typed (Some 0) 1 (columns_of ks) vs ≡ true = and_second (is_null v) (are_typed (Some 0) 1 (columns_of ks) vs) typed in
      let null : v ≡ Null = is_nothing v (and_first (is_null v) (are_typed (Some 0) 1 (columns_of ks) vs) typed) in
      let stand : Behind 1 (id ∷ v ∷ vs) vs = λ i k e. behind_first (id ∷ v ∷ vs) (suc i) k (omega (arith, e)) in
      let raw = raw_of (Some 0) (id ∷ v ∷ vs) ks 1 vs not_first stand typed_rest present (as_long (Some 0) (id ∷ v ∷ vs) ks 1 vs not_first stand filled typed_rest present) in
      (raw.0, ap₂ (λ a others. a ∷ others) null raw.1)

behind_front : (front cells : Row) (i k : ℕ) → k ≡ i + length front → column (front ++ cells) k ≡ column cells i
behind_front [] cells i k e = let same : k ≡ i = omega (arith, e) in ap (column cells) same
behind_front (v ∷ front) cells i zero e = absurd (omega (arith, e))
behind_front (v ∷ front) cells i (suc k) e = behind_front front cells i k (omega (arith, e))

stands : (front cells row : Row) → drop 1 row ≡ front ++ cells → StandFrom (suc (length front)) row cells
stands front cells row is i k e =
    behind_first row (i + length front) k (omega (arith, e)) ∙ ap (λ (r : Row). column r (i + length front)) is ∙ behind_front front cells i (i + length front) refl

each_told : {X : Type 0} (cells : X → Row) (rows : List Row) → AllByRecursion (λ row. (x : X) × (drop 1 row ≡ cells x)) rows → HasCells cells rows
each_told cells [] h = ([], refl)
each_told cells (row ∷ rows) h = let rest = each_told cells rows h.1 in (h.0.0 ∷ rest.0, ap₂ (λ a others. a ∷ others) h.0.1 rest.1)

told_each : {X : Type 0} (cells : X → Row) (P : Row → Type 0) → ((row : Row) (x : X) → drop 1 row ≡ cells x → P row) → (rows : List Row) (all : List X) → map (drop 1) rows ≡ map cells all → AllByRecursion P rows
told_each cells P f [] all e = tt
told_each cells P f (row ∷ rows) [] e = absurd (cc)
told_each cells P f (row ∷ rows) (x ∷ all) e =
    let here : drop 1 row ≡ cells x = cc in
    let later : map (drop 1) rows ≡ map cells all = cc in
    (f row x here, told_each cells P f rows all later)

-- rows of a table, by the values that its columns hold
module _ {X : Type 0} (cells : X → Row) (front : Row) (ks : List Holding) (make : FromFirstRow ks → X) (made : (v : FromFirstRow ks) → cells (make v) ≡ front ++ told_cells ks v) (tell : X → FromFirstRow ks) (told : (x : X) → cells x ≡ front ++ told_cells ks (tell x)) where
  abbrev pub places : List ℕ
  places = numbers_at (suc (length front)) ks

  abbrev pub IsFine : Row → Type 0
  IsFine row = has_negative row (numbers_at (suc (length front)) ks) ≡ false

  one_row : (row : Row) → AreRaw front ks row → IsFine row → (x : X) × (drop 1 row ≡ cells x)
  one_row row raw fine =
      let v = all_whole ks raw.0 (suc (length front)) row (stands front (raw_cells ks raw.0) row raw.1) fine in
      (make v.0, raw.1 ∙ ap (λ (others : Row). front ++ others) v.1 ∙ sym (made v.0))

  all_rows : (rows : List Row) → AllByRecursion (AreRaw front ks) rows → AllByRecursion IsFine rows → AllByRecursion (λ row. (x : X) × (drop 1 row ≡ cells x)) rows
  all_rows [] raw fine = tt
  all_rows (row ∷ rows) raw fine = (one_row row raw.0 fine.0, all_rows rows raw.1 fine.1)

  pub are_told : (rows : List Row) → AllByRecursion (AreRaw front ks) rows → AllByRecursion IsFine rows → HasCells cells rows
  are_told rows raw fine = each_told cells rows (all_rows rows raw fine)

  pub are_fine : (rows : List Row) → HasCells cells rows → AllByRecursion IsFine rows
  are_fine rows h = told_each cells IsFine (λ row x is. none_negative ks (tell x) (suc (length front)) row (stands front (told_cells ks (tell x)) row (is ∙ told x))) rows h.0 h.1
