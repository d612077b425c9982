-- Which rows stand in meta, by whether the texts that look for some show any.
use Rattle.std.proofs.Common.{◌≡◌, ◌==◌, ◌&&◌, ℕ, ℤ, zero, suc, pos, List, [], ◌∷◌, length, map, codes, Bool, true, false, not, IsTrue, refl, sym, ap, ap₂, subst, ◌∙◌, arith}
use Rattle.std.specs.List.{AllByRecursion}
use Rattle.std.specs.Ordering.{is_eq, is_ne, int_eq, int_cmp}
use Rattle.std.specs.declared.cmp.Ordering.{Ordering}
use Rattle.std.specs.declared.cmp.Ordering.TheVariants.{Less, Equal, Greater}
use Rattle.std.proofs.lemmas.Bool.Decides.{Decides-int_eq, nat_tests}
use Rattle.std.proofs.lemmas.List.Elements.{Contains-append_right}
use Rattle.sqlite.specs.declared.types.Value.{Value}
use Rattle.sqlite.specs.declared.types.Value.TheVariants.{Null, Int, Real, Text as Words, Blob}
use Rattle.sqlite.specs.Order.{Row, column, value_cmp}
use Rattle.sqlite.specs.Term.{Term, lit, col, op2}
use Rattle.sqlite.specs.Effect.{Database, IsDatabase}
use Rattle.sqlite.specs.Listing.{understood}
use Rattle.sqlite.specs.Ops.{binary, is_true}
use Rattle.sqlite.specs.Schema.{Schema}
use Rattle.sqlite.specs.State.{State, Shown}
use Rattle.sqlite.specs.Table.{Table}
use Rattle.sqlite.specs.Tree.{Trees, rowid}
use Rattle.sqlite_keyed.proofs.ListLemmas.{all_both}
use Rattle.sqlite_schema.specs.declared.schema.Constraint.TheVariants.{Datatype, NotNull}
use Rattle.sqlite_sql.specs.declared.ops.BinaryOp.TheVariants.{Compare}
use Rattle.sqlite_sql.specs.declared.ops.CompareOp.TheVariants.{Eq, Ne}
use Rattle.sqlite_tied.specs.Compute.{everything}
use Rattle.sqlite_trees.specs.View.{is_int}
use Rattle.sqlite_value.specs.declared.keys.Collation.TheVariants.{Binary}
use Rattle.sqlite_value.proofs.OrderLemmas.{value_cmp-Int}
use Rattle.canary_tables_schema.specs.Layout.{Layout}
use Rattle.canary_tables_schema.specs.Schema.{schema_at, meta, integer_column as whole_column}
use Rattle.canary_tables_schema.specs.Cells.{integer, meta_rows}
use Rattle.canary_tables_schema.specs.First.{first_schema, meta_shown, HasFirstMeta}
use Rattle.canary_tables_schema.specs.Stores.{IsNumbered}
use Rattle.canary_tables_read.specs.First.{IsFirst}
use Rattle.canary_tables_read.specs.Meta.{HasMetaRow, Stands, standing, IsShown}
use Rattle.canary_tables_read.specs.Queries.{IsQuery}
use Rattle.canary_tables_read.proofs.Answer.{passes}
use Rattle.canary_tables_read.proofs.DeskRows.{IsTyped, IsPresent, typed_rows, present_rows}
use Rattle.canary_tables_read.proofs.FirstTexts.{rising_in}
use Rattle.canary_tables_read.proofs.Holdings.{Holding, number, raw_cells, and_second}
use Rattle.canary_tables_read.proofs.Seeking.{SeeksIn, none_passes, one_passes}
use Rattle.canary_tables_read.proofs.TableRows.{AreRaw, counted_row}
use Rattle.canary_tables_read.proofs.Tests.{as_truth, and_true, and_first}

-- What the texts ask for.

abbrev pub desk_text : List ℕ
desk_text = codes "SELECT 1 FROM meta WHERE id = 1 AND schema = 2 LIMIT 1"

abbrev pub first_text : List ℕ
first_text = codes "SELECT 1 FROM meta WHERE id = 1 AND schema = 1 LIMIT 1"

abbrev pub others_text : List ℕ
others_text = codes "SELECT 1 FROM meta WHERE id <> 1 LIMIT 1"

pub desk_query : IsQuery desk_text
unfolding everything
desk_query = tt

pub first_query : IsQuery first_text
unfolding everything
first_query = tt

pub others_query : IsQuery others_text
unfolding everything
others_query = tt

abbrev equals : ℕ → ℕ → Term
equals at n = op2 (Compare Eq Binary) (col 1 at) (lit (Int (pos n)))

abbrev is_row : ℕ → List Term
is_row schema = equals 0 1 ∷ equals 2 schema ∷ []

abbrev is_other : List Term
is_other = op2 (Compare Ne Binary) (col 1 0) (lit (Int (pos 1))) ∷ []

asks_desk : (at : Layout) → SeeksIn (schema_at at) desk_text 0 (is_row 2)
unfolding understood everything
asks_desk at = record { names = _; is = refl; plain = (refl, refl); unlisted = refl }

asks_others : (at : Layout) → SeeksIn (schema_at at) others_text 0 is_other
unfolding understood everything
asks_others at = record { names = _; is = refl; plain = (refl, refl); unlisted = refl }

asks_first : SeeksIn first_schema first_text 0 (is_row 1)
unfolding understood everything
asks_first = record { names = _; is = refl; plain = (refl, refl); unlisted = refl }

asks_others_first : SeeksIn first_schema others_text 0 is_other
unfolding understood everything
asks_others_first = record { names = _; is = refl; plain = (refl, refl); unlisted = refl }

-- What the tests say of a number.

equal_ints : (z : ℤ) (n : ℕ) → is_true (binary (Compare Eq Binary) (Int z) (Int (pos n))) ≡ int_eq z (pos n)
unfolding binary
equal_ints z n = as_truth (is_eq (value_cmp (Int z) (Int (pos n)))) ∙ ap is_eq (value_cmp-Int z (pos n))

ne_is : (o : Ordering) → is_ne o ≡ not (is_eq o)
ne_is Less = refl
ne_is Equal = refl
ne_is Greater = refl

differ_ints : (z : ℤ) (n : ℕ) → is_true (binary (Compare Ne Binary) (Int z) (Int (pos n))) ≡ not (int_eq z (pos n))
unfolding binary
differ_ints z n = as_truth (is_ne (value_cmp (Int z) (Int (pos n)))) ∙ ap is_ne (value_cmp-Int z (pos n)) ∙ ne_is (int_cmp z (pos n))

not_false : (b : Bool) → not b ≡ false → b ≡ true
not_false true h = refl
not_false false h = absurd (cc)

abbrev IsNumber : Value → Type 0
IsNumber v = (z : ℤ) × (v ≡ Int z)

module _ (v : Value) (n : ℕ) where
  equal_value : IsNumber v → is_true (binary (Compare Eq Binary) v (Int (pos n))) ≡ true → v ≡ integer n
  equal_value i h =
      let test : int_eq i.0 (pos n) ≡ true = sym (equal_ints i.0 n) ∙ ap (λ (w : Value). is_true (binary (Compare Eq Binary) w (Int (pos n)))) (sym i.1) ∙ h in
      i.1 ∙ ap Int ((Decides-int_eq i.0 (pos n)).0 test)

  value_equal : v ≡ integer n → is_true (binary (Compare Eq Binary) v (Int (pos n))) ≡ true
  value_equal e = ap (λ (w : Value). is_true (binary (Compare Eq Binary) w (Int (pos n)))) e ∙ equal_ints (pos n) n ∙ (Decides-int_eq (pos n) (pos n)).1 refl

  same_value : IsNumber v → is_true (binary (Compare Ne Binary) v (Int (pos n))) ≡ false → v ≡ integer n
  same_value i h =
      let test : not (int_eq i.0 (pos n)) ≡ false = sym (differ_ints i.0 n) ∙ ap (λ (w : Value). is_true (binary (Compare Ne Binary) w (Int (pos n)))) (sym i.1) ∙ h in
      i.1 ∙ ap Int ((Decides-int_eq i.0 (pos n)).0 (not_false _ test))

  value_same : v ≡ integer n → is_true (binary (Compare Ne Binary) v (Int (pos n))) ≡ false
  value_same e = ap (λ (w : Value). is_true (binary (Compare Ne Binary) w (Int (pos n)))) e ∙ differ_ints (pos n) n ∙ ap not ((Decides-int_eq (pos n) (pos n)).1 refl)

-- The rows of meta have a number for their id, and one for the schema.

abbrev meta_columns : List Holding
meta_columns = number (codes "schema") ∷ []

abbrev HasNumbers : Row → Type 0
HasNumbers row = IsNumber (column row 0) × IsNumber (column row 2)

int_of : (v : Value) → IsTrue (is_int v) → IsNumber v
int_of Null h = absurd (cc)
int_of (Int z) h = (z, refl)
int_of (Real x) h = absurd (cc)
int_of (Words t) h = absurd (cc)
int_of (Blob b) h = absurd (cc)

numbers_in : (row : Row) → IsTrue (is_int (rowid row)) → AreRaw (Null ∷ []) meta_columns row → HasNumbers row
numbers_in [] id raw = absurd (let e : [] ≡ Null ∷ raw_cells meta_columns raw.0 = raw.1 in cc)
numbers_in (v ∷ vs) id raw =
    let rest : vs ≡ Null ∷ Int raw.0.0 ∷ [] = raw.1 in
    (int_of v id, (raw.0.0, ap (λ (r : Row). column r 1) rest))

module _ (trees : Trees) (typed : AllByRecursion (IsTyped meta) (trees 0)) (present : AllByRecursion (IsPresent meta) (trees 0)) where
  raw_rows : AllByRecursion (AreRaw (Null ∷ []) meta_columns) (trees 0)
  raw_rows = all_both _ _ (AreRaw (Null ∷ []) meta_columns) (λ row t p. counted_row (whole_column (codes "id")) meta_columns (omega arith) tt row (and_first _ _ t) p) (trees 0) typed present

desk_raw : (db : Database) → IsDatabase db → (at : Layout) → db.schema ≡ schema_at at → AllByRecursion (AreRaw (Null ∷ []) meta_columns) (db.trees 0)
desk_raw db sound at schema = raw_rows db.trees (typed_rows db sound at schema).0 (present_rows db sound at schema).0

first_raw : (db : Database) → IsDatabase db → db.schema ≡ first_schema → AllByRecursion (AreRaw (Null ∷ []) meta_columns) (db.trees 0)
first_raw db sound schema =
    raw_rows db.trees
    (subst (λ (s : Schema). AllByRecursion (λ (t : Table). AllByRecursion (IsTyped t) (db.trees t.tree)) s.tables) schema (sound.obeys.rules Datatype)).0
    (subst (λ (s : Schema). AllByRecursion (λ (t : Table). AllByRecursion (IsPresent t) (db.trees t.tree)) s.tables) schema (sound.obeys.rules NotNull)).0

-- What the tests say of the rows.

both_true : (a b : Bool) → a ≡ true → b ≡ true → (a && (b && true)) ≡ true
both_true a b h k = rw (h, k) refl

module _ (n : ℕ) where
  abbrev shown_row : Row
  shown_row = integer 1 ∷ integer n ∷ []

  row_by_tests : (row : Row) → HasNumbers row → passes (is_row n) [] row ≡ true → meta_shown row ≡ integer 1 ∷ integer n ∷ []
  row_by_tests row h p =
      let id : column row 0 ≡ integer 1 = equal_value (column row 0) 1 h.0 (and_first _ _ p) in
      let schema : column row 2 ≡ integer n = equal_value (column row 2) n h.1 (and_first _ true (and_second _ _ p)) in
      ap₂ (λ a b. a ∷ b ∷ []) id schema

  tests_by_row : (row : Row) → meta_shown row ≡ integer 1 ∷ integer n ∷ [] → passes (is_row n) [] row ≡ true
  tests_by_row row e = both_true _ _ (value_equal (column row 0) 1 (ap (λ (r : Row). column r 0) e)) (value_equal (column row 2) n (ap (λ (r : Row). column r 1) e))

  -- it is there if some row passes
  is_there : (rows : List Row) → AllByRecursion HasNumbers rows → (AllByRecursion (λ row. passes (is_row n) [] row ≡ false) rows → ⊥) → HasMetaRow n rows
  is_there [] numbers some = absurd (some tt)
  is_there (row ∷ rows) numbers some = by_test (is_there rows numbers.1) (passes (is_row n) [] row) refl
    where
      by_test : ((AllByRecursion (λ r. passes (is_row n) [] r ≡ false) rows → ⊥) → HasMetaRow n rows) → (b : Bool) → passes (is_row n) [] row ≡ b → HasMetaRow n (row ∷ rows)
      by_test later true e = (0, omega arith, row_by_tests row numbers.0 e)
      by_test later false e = Contains-append_right (meta_shown row ∷ []) (map meta_shown rows) (integer 1 ∷ integer n ∷ []) (later (λ none. some (e, none)))

  -- and only there
  not_there : (rows : List Row) → AllByRecursion (λ row. passes (is_row n) [] row ≡ false) rows → HasMetaRow n rows → ⊥
  not_there [] none (k, lt, e) = omega (arith, lt)
  not_there (row ∷ rows) none (zero, lt, e) = absurd (let p = tests_by_row row e in let q = none.0 in cc)
  not_there (row ∷ rows) none (suc k, lt, e) = not_there rows none.1 (k, omega (arith, lt), e)

  -- no other is there if none passes
  alone : (rows : List Row) → IsNumbered rows → AllByRecursion HasNumbers rows → AllByRecursion (λ row. passes is_other [] row ≡ false) rows → HasMetaRow n rows → map meta_shown rows ≡ (integer 1 ∷ integer n ∷ []) ∷ []
  alone [] rising numbers none (k, lt, e) = absurd (omega (arith, lt))
  alone (row ∷ []) rising numbers none (zero, lt, e) = ap (λ r. r ∷ []) e
  alone (row ∷ []) rising numbers none (suc k, lt, e) = absurd (omega (arith, lt))
  alone (row ∷ other ∷ rows) rising numbers none h =
      let first : column row 0 ≡ integer 1 = same_value (column row 0) 1 numbers.0.0 (sym (and_true _) ∙ none.0) in
      let second : column other 0 ≡ integer 1 = same_value (column other 0) 1 numbers.1.0.0 (sym (and_true _) ∙ none.1.0) in
      absurd (apart (ap₂ value_cmp (sym first) (sym second) ∙ rising.0.0.0))
    where
      apart : value_cmp (integer 1) (integer 1) ≡ Less → ⊥
      apart e = let is : int_cmp (pos 1) (pos 1) ≡ Less = sym (value_cmp-Int (pos 1) (pos 1)) ∙ e in cc

  -- and only there
  not_alone : (rows : List Row) → (AllByRecursion (λ row. passes is_other [] row ≡ false) rows → ⊥) → map meta_shown rows ≡ (integer 1 ∷ integer n ∷ []) ∷ [] → ⊥
  not_alone [] some e = cc
  not_alone (row ∷ []) some e =
      let shown : meta_shown row ≡ integer 1 ∷ integer n ∷ [] = ap (λ (rs : List Row). first_row rs) e in
      some (and_true _ ∙ value_same (column row 0) 1 (ap (λ (r : Row). column r 0) shown), tt)
    where
      first_row : List Row → Row
      first_row [] = []
      first_row (r ∷ rs) = r
  not_alone (row ∷ other ∷ rows) some e = cc

-- What the two texts show of a database, one after the other.
module _ (schema : Schema) (n : ℕ) (text : List ℕ) (asks : SeeksIn schema text 0 (is_row n)) (asks_more : SeeksIn schema others_text 0 is_other) (old mid new : State) (is : old.now.schema ≡ schema) (rising : IsNumbered (old.now.trees 0))
    (raw : AllByRecursion (AreRaw (Null ∷ []) meta_columns) (old.now.trees 0)) (same : mid.now ≡ old.now) where
  numbers : AllByRecursion HasNumbers (old.now.trees 0)
  numbers = all_both _ _ HasNumbers numbers_in (old.now.trees 0) rising.1 raw

  also : mid.now.schema ≡ schema
  also = ap (λ (db : Database). db.schema) same ∙ is

  row_there : IsShown text old mid true → HasMetaRow n (old.now.trees 0)
  row_there shown = is_there n (old.now.trees 0) numbers (one_passes text 0 (is_row n) old mid shown.0 shown.1 schema is asks shown.2)

  row_missing : IsShown text old mid false → ¬ HasMetaRow n (old.now.trees 0)
  row_missing shown = not_there n (old.now.trees 0) (none_passes text 0 (is_row n) old mid schema is asks shown)

  no_others : IsShown others_text mid new false → AllByRecursion (λ row. passes is_other [] row ≡ false) (old.now.trees 0)
  no_others shown = subst (λ (db : Database). AllByRecursion (λ row. passes is_other [] row ≡ false) (db.trees 0)) same (none_passes others_text 0 is_other mid new schema also asks_more shown)

  some_others : IsShown others_text mid new true → AllByRecursion (λ row. passes is_other [] row ≡ false) (old.now.trees 0) → ⊥
  some_others shown none =
      one_passes others_text 0 is_other mid new shown.0 shown.1 schema also asks_more shown.2
      (subst (λ (db : Database). AllByRecursion (λ row. passes is_other [] row ≡ false) (db.trees 0)) (sym same) none)

  module _ (IsAlone : Type 0) (to : map meta_shown (old.now.trees 0) ≡ (integer 1 ∷ integer n ∷ []) ∷ [] → IsAlone) (from : IsAlone → map meta_shown (old.now.trees 0) ≡ (integer 1 ∷ integer n ∷ []) ∷ []) where
    row_stands : (has others : Bool) → IsShown text old mid has → IsShown others_text mid new others → Stands n IsAlone (old.now.trees 0) (standing has others)
    row_stands false others shown more = row_missing shown
    row_stands true false shown more = to (alone n (old.now.trees 0) rising numbers (no_others more) (row_there shown))
    row_stands true true shown more = (row_there shown, λ only. not_alone n (old.now.trees 0) (some_others more) (from only))

-- the only row of meta, by its id and its schema
one_row : (rows : List Row) → AllByRecursion (AreRaw (Null ∷ []) meta_columns) rows → map meta_shown rows ≡ (integer 1 ∷ integer 2 ∷ []) ∷ [] → rows ≡ meta_rows
one_row [] raw e = absurd (cc)
one_row ([] ∷ rows) raw e = absurd (let it : [] ≡ Null ∷ raw_cells meta_columns raw.0.0 = raw.0.1 in cc)
one_row ((v ∷ vs) ∷ []) raw e =
    let rest : vs ≡ Null ∷ Int raw.0.0.0 ∷ [] = raw.0.1 in
    let shown : v ∷ column vs 1 ∷ [] ≡ integer 1 ∷ integer 2 ∷ [] = cc in
    let id : v ≡ integer 1 = ap (λ (r : Row). column r 0) shown in
    let last : Int raw.0.0.0 ≡ integer 2 = ap (λ (r : Row). column r 1) (sym rest) ∙ ap (λ (r : Row). column r 1) shown in
    ap₂ (λ a others. (a ∷ others) ∷ []) id (rest ∙ ap (λ c. Null ∷ c ∷ []) last)
one_row (row ∷ other ∷ rows) raw e = absurd (cc)

pub desk_stands : (old mid new : State) → IsDatabase old.now → (at : Layout) → old.now.schema ≡ schema_at at → IsNumbered (old.now.trees 0) → mid.now ≡ old.now → (has others : Bool) → IsShown desk_text old mid has → IsShown others_text mid new others
    → Stands 2 (old.now.trees 0 ≡ meta_rows) (old.now.trees 0) (standing has others)
desk_stands old mid new sound at schema rising same has others =
    let raw = desk_raw old.now sound at schema in
    row_stands (schema_at at) 2 desk_text (asks_desk at) (asks_others at) old mid new schema rising raw same (old.now.trees 0 ≡ meta_rows) (one_row (old.now.trees 0) raw) (λ is. ap (map meta_shown) is) has others

pub first_stands : (old mid new : State) → IsDatabase old.now → IsFirst old.now → mid.now ≡ old.now → (has others : Bool) → IsShown first_text old mid has → IsShown others_text mid new others → Stands 1 (HasFirstMeta (old.now.trees 0)) (old.now.trees 0) (standing has others)
first_stands old mid new sound first same has others =
    row_stands first_schema 1 first_text asks_first asks_others_first old mid new first.schema (rising_in old.now first).0 (first_raw old.now sound first.schema) same (HasFirstMeta (old.now.trees 0)) (λ is. is) (λ is. is) has others

-- by whether the list of rows is empty
pub shown_by : (text : List ℕ) (old new : State) (rows : List Row) (b : Bool) → b ≡ (length rows == 0) → Shown text [] old new rows → IsShown text old new (not b)
shown_by text old new [] true e h = h
shown_by text old new [] false e h = absurd (cc)
shown_by text old new (row ∷ rows) true e h = absurd (let none : (suc (length rows) == 0) ≡ false = grind (arith, nat_tests) in cc)
shown_by text old new (row ∷ rows) false e h = (row, rows, h)
