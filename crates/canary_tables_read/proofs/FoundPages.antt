-- What the queries for pages find.
use Rattle.std.proofs.Common.{◌≡◌, ◌∷◌, ◌&&◌, [], ℕ, pos, List, filter, nat_le, nat_lt, codes, refl, ap, ap₂, subst, ◌∙◌, arith}
use Rattle.std.specs.Ordering.{is_gt, is_le, int_cmp}
use Rattle.std.proofs.lemmas.Int.{ints}
use Rattle.std.proofs.lemmas.Bool.Decides.{nat_tests}
use Rattle.sqlite.specs.declared.types.Value.TheVariants.{Int, Text as Words}
use Rattle.sqlite.specs.Listing.{understood}
use Rattle.sqlite.specs.Order.{Row, column, value_cmp}
use Rattle.sqlite.specs.Ops.{binary, is_true}
use Rattle.sqlite.specs.State.{State, Shown}
use Rattle.sqlite.specs.Term.{Term, col, op2}
use Rattle.sqlite_sql.specs.declared.ops.BinaryOp.TheVariants.{Compare}
use Rattle.sqlite_sql.specs.declared.ops.CompareOp.{CompareOp}
use Rattle.sqlite_sql.specs.declared.ops.CompareOp.TheVariants.{Gt, Le}
use Rattle.sqlite_tied.specs.Compute.{everything}
use Rattle.sqlite_value.specs.declared.keys.Collation.TheVariants.{Binary}
use Rattle.sqlite_value.proofs.OrderLemmas.{value_cmp-Int}
use Rattle.canary_tables_rows.specs.declared.rows.KeptRow.{KeptRow}
use Rattle.canary_tables_rows.specs.Tables.{Tables}
use Rattle.canary_tables_schema.specs.Cells.{integer, kept_cells, kept_in}
use Rattle.canary_tables_schema.specs.Stores.{Stores}
use Rattle.canary_tables_read.specs.Finds.{TellsCells}
use Rattle.canary_tables_read.specs.Pages.{is_kept_between, number_of_kept}
use Rattle.canary_tables_read.specs.Queries.{IsQuery}
use Rattle.canary_tables_read.specs.Sorts.{Sorts}
use Rattle.canary_tables_read.proofs.Answer.{no_limit, from_start, by_column, passes, shows}
use Rattle.canary_tables_read.proofs.Asking.{Asks}
use Rattle.canary_tables_read.proofs.Ordering.{sorted_rows}
use Rattle.canary_tables_read.proofs.Tests.{as_truth, and_true, words_same, first_same}
use Rattle.canary_tables_read.proofs.Texts.{equals, kept_shown}
use Rattle.canary_tables_read.proofs.TypedRows.{Tells}

-- the column of the row is above the parameter, or at most it
abbrev pub compares : CompareOp → ℕ → ℕ → Term
compares op column parameter = op2 (Compare op Binary) (col 1 column) (col 0 parameter)

abbrev pub kept_page_text : List ℕ
kept_page_text = codes "SELECT number, command, status, body FROM kept WHERE caller = ?1 AND number > ?2 AND number <= ?3 ORDER BY number"

abbrev pub kept_page_tests : List Term
kept_page_tests = equals 1 0 ∷ compares Gt 2 1 ∷ compares Le 2 2 ∷ []

pub kept_page_query : IsQuery kept_page_text
unfolding everything
kept_page_query = tt

pub kept_page_asks : Asks kept_page_text (λ _. 3) kept_page_tests kept_shown (by_column 2) no_limit from_start
unfolding understood everything
kept_page_asks at = record { names = _; is = refl; plain = (refl, refl); unlisted = refl }

-- Comparisons of numbers.

gt_nat : (m n : ℕ) → is_gt (int_cmp (pos m) (pos n)) ≡ nat_lt n m
gt_nat m n = grind (arith, ints, nat_tests)

le_nat : (m n : ℕ) → is_le (int_cmp (pos m) (pos n)) ≡ nat_le m n
le_nat m n = grind (arith, ints, nat_tests)

pub above_same : (m n : ℕ) → is_true (binary (Compare Gt Binary) (Int (pos m)) (Int (pos n))) ≡ nat_lt n m
unfolding binary
above_same m n = as_truth (is_gt (value_cmp (Int (pos m)) (Int (pos n)))) ∙ ap is_gt (value_cmp-Int (pos m) (pos n)) ∙ gt_nat m n

pub most_same : (m n : ℕ) → is_true (binary (Compare Le Binary) (Int (pos m)) (Int (pos n))) ≡ nat_le m n
unfolding binary
most_same m n = as_truth (is_le (value_cmp (Int (pos m)) (Int (pos n)))) ∙ ap is_le (value_cmp-Int (pos m) (pos n)) ∙ le_nat m n

-- What is kept.

tells_kept : (caller : List ℕ) (after last : ℕ)
    → Tells kept_cells (is_kept_between caller after last) kept_cells (λ row. Words caller ∷ row) (passes kept_page_tests (Words caller ∷ integer after ∷ integer last ∷ [])) (shows kept_shown (Words caller ∷ integer after ∷ integer last ∷ []))
tells_kept caller after last = record {
  filled = λ x. (_, _, refl);
  tests = λ id x. ap₂ (λ a b. a && b) (words_same x.caller caller) (ap₂ (λ a b. a && b) (above_same x.number after) (and_true _ ∙ most_same x.number last));
  shown = λ id x h. ap (λ n. Words n ∷ integer x.number ∷ Words x.command ∷ integer x.status ∷ Words x.body ∷ []) (first_same caller x.caller _ h);
}

kept_keyed : (caller : List ℕ) (x : KeptRow) (row : Row) → kept_cells x ≡ Words caller ∷ row → column row 0 ≡ integer x.number
kept_keyed caller x [] e = absurd (cc)
kept_keyed caller x (v ∷ row) e = cc

-- what is shown are the requests of these numbers, by their numbers
pub kept_page : (old new : State) (t : Tables) (caller : List ℕ) (after last : ℕ) (params : Row) (rows : List Row) → Stores old t → params ≡ Words caller ∷ integer after ∷ integer last ∷ [] → Shown kept_page_text params old new rows
    → (all : List KeptRow) × Sorts number_of_kept (filter (is_kept_between caller after last) t.kept) all × TellsCells kept_cells (λ row. Words caller ∷ row) all rows
kept_page old new t caller after last params rows has given h =
    sorted_rows kept_cells (λ row. Words caller ∷ row) number_of_kept 0 (kept_keyed caller) kept_in (λ x. refl) kept_page_text (λ _. 3) kept_page_tests kept_shown 2 kept_page_asks (is_kept_between caller after last)
    (Words caller ∷ integer after ∷ integer last ∷ []) (tells_kept caller after last) (λ row. refl) t.kept rows
    (record { old = old; new = new; layout = has.layout; schema = has.holds.schema; numbered = has.holds.numbered.1.1.0; stored = has.holds.kept; shows_rows = subst (λ p. Shown kept_page_text p old new rows) given h })
