-- What the queries on measurements with their places find.
use Rattle.std.proofs.Common.{◌≡◌, ◌+◌, ◌-◌, ◌&&◌, ℕ, suc, ℤ, pos, int_lt, List, [], ◌∷◌, map, filter, take, drop, length, slice_get, Option, Some, None, Bool, true, false, if◌then◌else◌, codes, refl, sym, ap, ap₂, subst, ◌∙◌, arith, IsTrue}
use Rattle.std.specs.Prelude.{IfSome}
use Rattle.std.specs.List.{AllByRecursion, filter_map}
use Rattle.std.specs.Ordering.{is_gt, int_cmp}
use Rattle.std.specs.Str.{bytes_eq}
use Rattle.std.specs.declared.cmp.Ordering.TheVariants.{Less}
use Rattle.std.proofs.lemmas.Int.{ints}
use Rattle.std.proofs.lemmas.Option.{slice_get_within}
use Rattle.sqlite.specs.declared.types.Value.TheVariants.{Null, Int, Real, Text as Words, Blob}
use Rattle.sqlite.specs.Effect.{Database}
use Rattle.sqlite.specs.Listing.{understood}
use Rattle.sqlite.specs.Order.{Row, value_cmp}
use Rattle.sqlite.specs.Ops.{binary, is_true}
use Rattle.sqlite.specs.State.{State, Shown}
use Rattle.sqlite.specs.Term.{Term, col, op2}
use Rattle.sqlite.specs.Tree.{IsAscending, rowid}
use Rattle.sqlite_trees.specs.View.{is_int}
use Rattle.sqlite.proofs.Callers.{reads_as}
use Rattle.sqlite_keyed.proofs.ListLemmas.{filter-map, ascending_from_map, ascending_weaker, ascending-filter, all-filter, all_unmap}
use Rattle.sqlite_sql.specs.declared.ops.BinaryOp.TheVariants.{Compare, Is}
use Rattle.sqlite_sql.specs.declared.ops.CompareOp.TheVariants.{Gt}
use Rattle.sqlite_tied.specs.Compute.{everything}
use Rattle.sqlite_value.specs.declared.keys.Collation.TheVariants.{Binary}
use Rattle.sqlite_value.proofs.OrderLemmas.{value_cmp-Int}
use Rattle.canary_tables_rows.specs.declared.rows.MeasurementRow.{MeasurementRow}
use Rattle.canary_tables_rows.specs.Tables.{Tables, is_measurement_of}
use Rattle.canary_tables_schema.specs.Layout.{Layout, made, moved, packed, measurement_at}
use Rattle.canary_tables_schema.specs.Schema.{schema_at}
use Rattle.canary_tables_schema.specs.Cells.{integer, layout_of, measurement_cells}
use Rattle.canary_tables_schema.specs.Stores.{IsNumbered, IsHeld, Stores}
use Rattle.canary_tables_read.specs.declared.after.MeasurementAt.{MeasurementAt}
use Rattle.canary_tables_read.specs.Finds.{TellsCells}
use Rattle.canary_tables_read.specs.Places.{placed_cells, placed_of, placed_in, placed_for, IsMark, IsPlacedPage}
use Rattle.canary_tables_read.specs.Queries.{IsQuery}
use Rattle.canary_tables_read.proofs.Answer.{by_column, from_start, passes, shows, rowid_answer}
use Rattle.canary_tables_read.proofs.Asking.{Asks}
use Rattle.canary_tables_read.proofs.FoundLines.{paged}
use Rattle.canary_tables_read.proofs.FoundPages.{compares}
use Rattle.canary_tables_read.proofs.Fronts.{filter_both}
use Rattle.canary_tables_read.proofs.PlacedLists.{Rise, above_are, counted_at, paged_at}
use Rattle.canary_tables_read.proofs.Tests.{as_truth, and_true, words_same, same_words, and_first}
use Rattle.canary_tables_read.proofs.Texts.{measurements_tests}
use Rattle.canary_tables_read.proofs.TypedRows.{taken, told_all}

-- Texts.

abbrev pub placed_shown : List Term
placed_shown = col 1 3 ∷ col 1 4 ∷ col 1 5 ∷ col 1 6 ∷ col 1 7 ∷ col 1 8 ∷ col 1 0 ∷ []

abbrev pub from_text : List ℕ
from_text = codes "SELECT run, metric, ordinal, taken, phase, outcome, place FROM measurement WHERE service = ?1 ORDER BY place LIMIT ?3 OFFSET ?2"

pub from_query : IsQuery from_text
unfolding everything
from_query = tt

from_asks : Asks from_text measurement_at measurements_tests placed_shown (by_column 0) (col 0 2) (col 0 1)
unfolding understood everything
from_asks made = record { names = _; is = refl; plain = (refl, refl); unlisted = refl }
from_asks moved = record { names = _; is = refl; plain = (refl, refl); unlisted = refl }
from_asks packed = record { names = _; is = refl; plain = (refl, refl); unlisted = refl }

abbrev pub after_text : List ℕ
after_text = codes "SELECT run, metric, ordinal, taken, phase, outcome, place FROM measurement WHERE service IS ?1 AND place > ?2 ORDER BY place LIMIT ?3"

abbrev pub after_tests : List Term
after_tests = op2 (Is Binary) (col 1 2) (col 0 0) ∷ compares Gt 0 1 ∷ []

pub after_query : IsQuery after_text
unfolding everything
after_query = tt

after_asks : Asks after_text measurement_at after_tests placed_shown (by_column 0) (col 0 2) from_start
unfolding understood everything
after_asks made = record { names = _; is = refl; plain = (refl, refl); unlisted = refl }
after_asks moved = record { names = _; is = refl; plain = (refl, refl); unlisted = refl }
after_asks packed = record { names = _; is = refl; plain = (refl, refl); unlisted = refl }

-- The rows of the table, each with its place.

-- a row as it stands there
abbrev pub table_row : MeasurementAt → Row
table_row p = Int p.place ∷ measurement_cells p.row

-- a row as a query shows it
abbrev pub placed_back : Row → Option MeasurementAt
placed_back (Null ∷ Words service ∷ Int (pos run) ∷ Int (pos metric) ∷ Int (pos ordinal) ∷ Int (pos taken) ∷ Int (pos phase) ∷ Words outcome ∷ Int place ∷ []) =
    Some (record { place = place; row = record { service = service; run = run; metric = metric; ordinal = ordinal; taken = taken; phase = phase; outcome = outcome } })
placed_back row = None

record ArePlaced (rows : List Row) (xs : List MeasurementRow) : Type 0 where
  pub rows_are : rows ≡ map table_row (filter_map placed_of rows)
  pub typed_are : map (λ (p : MeasurementAt). p.row) (filter_map placed_of rows) ≡ xs

placed_step : (cells : Row) (rows : List Row) (x : MeasurementRow) (xs : List MeasurementRow) (place : ℤ) → cells ≡ measurement_cells x → ArePlaced rows xs → ArePlaced ((Int place ∷ cells) ∷ rows) (x ∷ xs)
placed_step cells rows x xs place is rest =
    rw is (record { rows_are = ap (λ (others : List Row). (Int place ∷ measurement_cells x) ∷ others) rest.rows_are; typed_are = ap (λ (others : List MeasurementRow). x ∷ others) rest.typed_are })

are_placed : (rows : List Row) (xs : List MeasurementRow) → map (drop 1) rows ≡ map measurement_cells xs → AllByRecursion (λ row. IsTrue (is_int (rowid row))) rows → ArePlaced rows xs
are_placed [] [] is whole_numbers = record { rows_are = refl; typed_are = refl }
are_placed [] (x ∷ xs) is whole_numbers = absurd (cc)
are_placed (row ∷ rows) [] is whole_numbers = absurd (cc)
are_placed ([] ∷ rows) (x ∷ xs) is whole_numbers = absurd (let here : [] ≡ measurement_cells x = cc in cc)
are_placed ((Int place ∷ cells) ∷ rows) (x ∷ xs) is whole_numbers =
    let here : cells ≡ measurement_cells x = cc in
    let later : map (drop 1) rows ≡ map measurement_cells xs = cc in
    placed_step cells rows x xs place here (are_placed rows xs later whole_numbers.1)
are_placed ((Null ∷ cells) ∷ rows) (x ∷ xs) is whole_numbers = absurd (cc)
are_placed ((Real r ∷ cells) ∷ rows) (x ∷ xs) is whole_numbers = absurd (cc)
are_placed ((Words text ∷ cells) ∷ rows) (x ∷ xs) is whole_numbers = absurd (cc)
are_placed ((Blob bytes ∷ cells) ∷ rows) (x ∷ xs) is whole_numbers = absurd (cc)

rises : (ps : List MeasurementAt) → IsAscending (λ a b. value_cmp (rowid a) (rowid b) ≡ Less) (map table_row ps) → Rise (λ (p : MeasurementAt). p.place) ps
rises ps up = ascending_weaker _ _ (λ (p q : MeasurementAt) h. less p.place q.place h) ps (ascending_from_map (λ a b. value_cmp (rowid a) (rowid b) ≡ Less) table_row ps up)
  where
    below : (m n : ℤ) → int_cmp m n ≡ Less → int_lt m n ≡ true
    below m n h = grind (arith, ints)

    less : (m n : ℤ) → value_cmp (Int m) (Int n) ≡ Less → int_lt m n ≡ true
    less m n h = below m n (sym (value_cmp-Int m n) ∙ h)

tree_at : (at : Layout) → measurement_at (layout_of (schema_at at)) ≡ measurement_at at
tree_at made = refl
tree_at moved = refl
tree_at packed = refl

-- what a database that is a desk's holds
record HoldsPlaced (at : Layout) (db : Database) (t : Tables) : Type 0 where
  pub table : db.trees (measurement_at at) ≡ map table_row (placed_in db)
  pub typed_are : map (λ (p : MeasurementAt). p.row) (placed_in db) ≡ t.measurements
  pub rising : Rise (λ (p : MeasurementAt). p.place) (placed_in db)

holds_placed : (db : Database) (t : Tables) (has : IsHeld db t) → HoldsPlaced has.layout db t
holds_placed db t has =
    let tree = db.trees (measurement_at has.layout) in
    let all : filter_map placed_of tree ≡ placed_in db = ap (λ k. filter_map placed_of (db.trees k)) (sym (ap (λ s. measurement_at (layout_of s)) has.holds.schema ∙ tree_at has.layout)) in
    let numbered : IsNumbered tree = has.holds.numbered.1.1.1.1.1.0 in
    let are = are_placed tree t.measurements has.holds.measurements numbered.1 in
    let table : tree ≡ map table_row (placed_in db) = are.rows_are ∙ ap (map table_row) all in
    record {
      table = table;
      typed_are = ap (map (λ (p : MeasurementAt). p.row)) (sym all) ∙ are.typed_are;
      rising = rises (placed_in db) (subst (IsAscending (λ a b. value_cmp (rowid a) (rowid b) ≡ Less)) table numbered.0);
    }

-- Tests and columns.

service_is : (a b : List ℕ) → is_true (binary (Is Binary) (Words a) (Words b)) ≡ bytes_eq b a
unfolding binary
service_is a b = words_same a b

above_same : (m n : ℤ) → is_true (binary (Compare Gt Binary) (Int m) (Int n)) ≡ int_lt n m
unfolding binary
above_same m n = as_truth (is_gt (value_cmp (Int m) (Int n))) ∙ ap is_gt (value_cmp-Int m n) ∙ higher m n
  where
    higher : (m n : ℤ) → is_gt (int_cmp m n) ≡ int_lt n m
    higher m n = grind (arith, ints)

-- of the service, and above the place
abbrev is_after : List ℕ → ℤ → MeasurementAt → Bool
is_after service place p = is_measurement_of service p.row && int_lt place p.place

from_passes : (service : List ℕ) (rest : Row) (p : MeasurementAt) → passes measurements_tests (Words service ∷ rest) (table_row p) ≡ is_measurement_of service p.row
from_passes service rest p = and_true _ ∙ words_same p.row.service service

after_passes : (service : List ℕ) (place : ℤ) (rest : Row) (p : MeasurementAt) → passes after_tests (Words service ∷ Int place ∷ rest) (table_row p) ≡ is_after service place p
after_passes service place rest p = ap₂ (λ a b. a && b) (service_is p.row.service service) (and_true _ ∙ above_same p.place place)

shown_so : (service : List ℕ) (rest : Row) (p : MeasurementAt) → is_measurement_of service p.row ≡ true → Null ∷ Words service ∷ shows placed_shown (Words service ∷ rest) (table_row p) ≡ placed_cells p
shown_so service rest p h = ap (λ n. Null ∷ Words n ∷ integer p.row.run ∷ integer p.row.metric ∷ integer p.row.ordinal ∷ integer p.row.taken ∷ integer p.row.phase ∷ Words p.row.outcome ∷ Int p.place ∷ []) (same_words service p.row.service h)

-- the rows that pass a test are shown by their cells
module _ (whole_row : Row → Row) (passed : Row → Bool) (columns : Row → Row) (test : MeasurementAt → Bool) (tests : (p : MeasurementAt) → passed (table_row p) ≡ test p) (shown : (p : MeasurementAt) → test p ≡ true → whole_row (columns (table_row p)) ≡ placed_cells p) where
  told_step : (p : MeasurementAt) (b c : Bool) → b ≡ c → (c ≡ true → whole_row (columns (table_row p)) ≡ placed_cells p) → (rows : List Row) (ps : List MeasurementAt) → map whole_row (map columns rows) ≡ map placed_cells ps
      → map whole_row (map columns (if b then table_row p ∷ rows else rows)) ≡ map placed_cells (if c then p ∷ ps else ps)
  told_step p b true e h rows ps later = rw e (ap₂ (λ first others. first ∷ others) (h refl) later)
  told_step p b false e h rows ps later = rw e later

  all_told : (ps : List MeasurementAt) → map whole_row (map columns (filter passed (map table_row ps))) ≡ map placed_cells (filter test ps)
  all_told [] = refl
  all_told (p ∷ ps) = told_step p (passed (table_row p)) (test p) (tests p) (shown p) (filter passed (map table_row ps)) (filter test ps) (all_told ps)

-- Pages.

-- what is shown are the measurements of the service from that one on, so many at most
pub from_rows : (old new : State) (t : Tables) (service : List ℕ) (from most : ℕ) (params : Row) (rows : List Row) → Stores old t → params ≡ Words service ∷ integer from ∷ integer most ∷ [] → Shown from_text params old new rows
    → TellsCells placed_cells (λ row. Null ∷ Words service ∷ row) (take most (drop from (placed_for service old.now))) rows
from_rows old new t service from most params rows has given h =
    let asked = Words service ∷ integer from ∷ integer most ∷ [] in
    let tree = measurement_at has.layout in
    let placed = holds_placed old.now t has in
    let a = from_asks has.layout in
    let all = map (shows placed_shown asked) (filter (passes measurements_tests asked) (old.now.trees tree)) in
    let are : rows ≡ take most (drop from all) =
    rowid_answer Null tree measurements_tests placed_shown (col 0 2) (col 0 1) old.now.trees asked rows has.holds.numbered.1.1.1.1.1.0
    ((reads_as from_text asked old new (schema_at has.layout) has.holds.schema _ a.is a.plain a.unlisted rows (subst (λ p. Shown from_text p old new rows) given h)).answer Null) in
    let whole_row = λ (row : Row). Null ∷ Words service ∷ row in
    let told : map whole_row all ≡ map placed_cells (placed_for service old.now) =
    ap (λ (rows : List Row). map whole_row (map (shows placed_shown asked) (filter (passes measurements_tests asked) rows))) placed.table
    ∙ all_told whole_row (passes measurements_tests asked) (shows placed_shown asked) (λ p. is_measurement_of service p.row) (from_passes service (integer from ∷ integer most ∷ [])) (shown_so service (integer from ∷ integer most ∷ [])) (placed_in old.now) in
    ap (map whole_row) are ∙ paged whole_row most from all ∙ ap (λ (rows : List Row). take most (drop from rows)) told ∙ sym (paged placed_cells most from (placed_for service old.now))

-- what is shown are those above the place, so many at most
pub after_rows : (old new : State) (t : Tables) (service : List ℕ) (place : ℤ) (most : ℕ) (params : Row) (rows : List Row) → Stores old t → params ≡ Words service ∷ Int place ∷ integer most ∷ [] → Shown after_text params old new rows
    → TellsCells placed_cells (λ row. Null ∷ Words service ∷ row) (take most (filter (λ p. int_lt place p.place) (placed_for service old.now))) rows
after_rows old new t service place most params rows has given h =
    let asked = Words service ∷ Int place ∷ integer most ∷ [] in
    let tree = measurement_at has.layout in
    let placed = holds_placed old.now t has in
    let a = after_asks has.layout in
    let all = map (shows placed_shown asked) (filter (passes after_tests asked) (old.now.trees tree)) in
    let are : rows ≡ take most all =
    rowid_answer Null tree after_tests placed_shown (col 0 2) from_start old.now.trees asked rows has.holds.numbered.1.1.1.1.1.0
    ((reads_as after_text asked old new (schema_at has.layout) has.holds.schema _ a.is a.plain a.unlisted rows (subst (λ p. Shown after_text p old new rows) given h)).answer Null) in
    let whole_row = λ (row : Row). Null ∷ Words service ∷ row in
    let above_it = filter (λ (p : MeasurementAt). int_lt place p.place) (placed_for service old.now) in
    let told : map whole_row all ≡ map placed_cells above_it =
    ap (λ (rows : List Row). map whole_row (map (shows placed_shown asked) (filter (passes after_tests asked) rows))) placed.table
    ∙ all_told whole_row (passes after_tests asked) (shows placed_shown asked) (is_after service place) (after_passes service place (integer most ∷ [])) (λ p both. shown_so service (Int place ∷ integer most ∷ []) p (and_first _ _ both)) (placed_in old.now)
    ∙ ap (map placed_cells) (sym (filter_both (λ (p : MeasurementAt). int_lt place p.place) (λ p. is_measurement_of service p.row) (placed_in old.now))) in
    ap (map whole_row) are ∙ taken whole_row most all ∙ ap (take most) told ∙ sym (taken placed_cells most above_it)

-- what is read of the rows that are shown is what they give
pub read_so : (whole_row : Row → Row) (rows : List Row) (told found : List MeasurementAt) → TellsCells placed_cells whole_row told rows → map placed_cells found ≡ map whole_row rows → found ≡ told
read_so whole_row rows told found tells read = told_all placed_cells placed_back (λ p. refl) whole_row rows told found tells read

-- those of the service are within limits if all measurements are
pub within_for : (Within : MeasurementRow → Type 0) (db : Database) (t : Tables) (service : List ℕ) → IsHeld db t → AllByRecursion Within t.measurements → AllByRecursion (λ (p : MeasurementAt). Within p.row) (placed_for service db)
within_for Within db t service has within =
    all-filter (λ (p : MeasurementAt). Within p.row) (λ p. is_measurement_of service p.row) (placed_in db) (all_unmap Within (λ (p : MeasurementAt). p.row) (placed_in db) (subst (AllByRecursion Within) (sym (holds_placed db t has).typed_are) within))

rising_for : (db : Database) (t : Tables) (service : List ℕ) → IsHeld db t → Rise (λ (p : MeasurementAt). p.place) (placed_for service db)
rising_for db t service has = ascending-filter _ (λ p. is_measurement_of service p.row) (placed_in db) (holds_placed db t has).rising

-- those above a mark are those from its index on
pub above_mark : (db : Database) (t : Tables) (service : List ℕ) (from : ℕ) (place : ℤ) → IsHeld db t → IsMark db service from place → filter (λ p. int_lt place p.place) (placed_for service db) ≡ drop from (placed_for service db)
above_mark db t service from place has mark =
    above_are (λ (p : MeasurementAt). p.place) place (placed_for service db) (rising_for db t service has) ∙ ap (λ n. drop n (placed_for service db)) mark

-- so many of them are a page
pub is_page : (db : Database) (t : Tables) (service : List ℕ) (from most : ℕ) (found : List MeasurementAt) → IsHeld db t → found ≡ take most (drop from (placed_for service db)) → IsPlacedPage db t service from most found
is_page db t service from most found has is =
    let ys = placed_for service db in
    let row = λ (p : MeasurementAt). p.row in
    record {
      rows = ap (map row) is ∙ paged row most from ys ∙ ap (λ (xs : List MeasurementRow). take most (drop from xs)) (sym (filter-map (is_measurement_of service) row (placed_in db)) ∙ ap (filter (is_measurement_of service)) (holds_placed db t has).typed_are);
      marks = λ i. marked i (slice_get found i) refl;
    }
  where
    marked : (i : ℕ) (o : Option MeasurementAt) → slice_get found i ≡ o → IfSome o (λ p. IsMark db service (from + suc i) p.place)
    marked i None e = tt
    marked i (Some p) e =
        let there = paged_at most from i (from + i) p (placed_for service db) refl (ap (λ (xs : List MeasurementAt). slice_get xs i) (sym is) ∙ e) in
        counted_at (λ (q : MeasurementAt). q.place) (from + i) p (placed_for service db) (rising_for db t service has) there ∙ omega arith

-- up to the place of the last of a page stand as many as up to its end
pub marked_last : (db : Database) (t : Tables) (service : List ℕ) (from most : ℕ) (rows : List MeasurementAt) (last : Option MeasurementAt) → slice_get rows (length rows - 1) ≡ last → IsPlacedPage db t service from most rows → IfSome last (λ p. IsMark db service (from + length rows) p.place)
marked_last db t service from most rows None is page = tt
marked_last db t service from most rows (Some p) is page =
    let there = slice_get_within rows (length rows - 1) p is in
    let counted : IsMark db service (from + suc (length rows - 1)) p.place = subst (λ (o : Option MeasurementAt). IfSome o (λ q. IsMark db service (from + suc (length rows - 1)) q.place)) is (page.marks (length rows - 1)) in
    let end : from + suc (length rows - 1) ≡ from + length rows = omega (arith, there) in
    subst (λ (n : ℕ). IsMark db service n p.place) end counted
