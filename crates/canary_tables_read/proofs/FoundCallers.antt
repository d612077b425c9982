-- What the queries on `caller` and on `kept` find.
use Rattle.std.proofs.Common.{◌≡◌, ◌∷◌, [], ℕ, List, filter, refl, ap, subst, ◌∙◌}
use Rattle.sqlite.specs.declared.types.Value.TheVariants.{Text as Words}
use Rattle.sqlite.specs.Order.{Row}
use Rattle.sqlite.specs.State.{State, Shown}
use Rattle.canary_tables_rows.specs.Tables.{Tables, is_caller, is_kept}
use Rattle.canary_tables_schema.specs.Cells.{integer, caller_cells, kept_cells}
use Rattle.canary_tables_schema.specs.Stores.{Stores}
use Rattle.canary_tables_read.specs.Finds.{TellsCells}
use Rattle.canary_tables_read.proofs.Answer.{passes, shows}
use Rattle.canary_tables_read.proofs.Asking.{all_found}
use Rattle.canary_tables_read.proofs.Tests.{and_true, words_same, same_words, both_same, first_same}
use Rattle.canary_tables_read.proofs.Texts.{settled_text, settled_tests, settled_shown, settled_asks, kept_text, kept_tests, kept_shown, kept_asks}
use Rattle.canary_tables_read.proofs.TypedRows.{Tells}

tells_caller : (name : List ℕ) → Tells caller_cells (is_caller name) caller_cells (λ row. Words name ∷ row) (passes settled_tests (Words name ∷ [])) (shows settled_shown (Words name ∷ []))
tells_caller name = record {
  filled = λ x. (_, _, refl);
  tests = λ id x. and_true _ ∙ words_same x.name name;
  shown = λ id x h. ap (λ n. Words n ∷ integer x.settled ∷ []) (same_words name x.name h);
}

-- what is shown are the rows of the caller
pub caller_rows : (old new : State) (t : Tables) (name : List ℕ) (params : Row) (rows : List Row) → Stores old t → params ≡ Words name ∷ [] → Shown settled_text params old new rows → TellsCells caller_cells (λ row. Words name ∷ row) (filter (is_caller name) t.callers) rows
caller_rows old new t name params rows has given h =
    all_found settled_text (λ _. 1) settled_tests settled_shown settled_asks caller_cells (is_caller name) caller_cells (λ row. Words name ∷ row) (Words name ∷ []) (tells_caller name) t.callers rows
    (record { old = old; new = new; layout = has.layout; schema = has.holds.schema; numbered = has.holds.numbered.1.0; stored = has.holds.callers; shows_rows = subst (λ p. Shown settled_text p old new rows) given h })

tells_kept : (caller : List ℕ) (number : ℕ) → Tells kept_cells (is_kept caller number) kept_cells (λ row. Words caller ∷ row) (passes kept_tests (Words caller ∷ integer number ∷ [])) (shows kept_shown (Words caller ∷ integer number ∷ []))
tells_kept caller number = record {
  filled = λ x. (_, _, refl);
  tests = λ id x. both_same x.caller caller x.number number;
  shown = λ id x h. ap (λ n. Words n ∷ integer x.number ∷ Words x.command ∷ integer x.status ∷ Words x.body ∷ []) (first_same caller x.caller _ h);
}

-- what is shown are the rows of the request
pub kept_rows : (old new : State) (t : Tables) (caller : List ℕ) (number : ℕ) (params : Row) (rows : List Row) → Stores old t → params ≡ Words caller ∷ integer number ∷ [] → Shown kept_text params old new rows
    → TellsCells kept_cells (λ row. Words caller ∷ row) (filter (is_kept caller number) t.kept) rows
kept_rows old new t caller number params rows has given h =
    all_found kept_text (λ _. 3) kept_tests kept_shown kept_asks kept_cells (is_kept caller number) kept_cells (λ row. Words caller ∷ row) (Words caller ∷ integer number ∷ []) (tells_kept caller number) t.kept rows
    (record { old = old; new = new; layout = has.layout; schema = has.holds.schema; numbered = has.holds.numbered.1.1.0; stored = has.holds.kept; shows_rows = subst (λ p. Shown kept_text p old new rows) given h })
