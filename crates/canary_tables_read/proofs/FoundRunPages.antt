-- What the queries for pages of a service's runs find.
use Rattle.std.proofs.Common.{◌≡◌, ◌∷◌, ◌&&◌, [], ℕ, pos, List, filter, true, nat_le, nat_lt, codes, refl, ap, ap₂, subst, ◌∙◌}
use Rattle.sqlite.specs.declared.types.Value.TheVariants.{Int, Text as Words}
use Rattle.std.specs.Str.{bytes_eq}
use Rattle.sqlite.specs.Listing.{understood}
use Rattle.sqlite.specs.Order.{Row}
use Rattle.sqlite.specs.Ops.{binary, is_true}
use Rattle.sqlite.specs.State.{State, Shown}
use Rattle.sqlite.specs.Term.{Term}
use Rattle.sqlite_sql.specs.declared.ops.BinaryOp.TheVariants.{Compare}
use Rattle.sqlite_sql.specs.declared.ops.CompareOp.TheVariants.{Eq, Gt, Le}
use Rattle.sqlite_tied.specs.Compute.{everything}
use Rattle.sqlite_value.specs.declared.keys.Collation.TheVariants.{Binary}
use Rattle.canary_tables_rows.specs.Tables.{Tables}
use Rattle.canary_tables_schema.specs.Layout.{made, moved, packed, run_at, binding_at, tally_at}
use Rattle.canary_tables_schema.specs.Cells.{integer, whole_or_null, run_cells, binding_cells, tally_cells}
use Rattle.canary_tables_schema.specs.Stores.{Stores}
use Rattle.canary_tables_read.specs.Finds.{TellsCells}
use Rattle.canary_tables_read.specs.Pages.{is_run_between, is_binding_between, is_tally_between}
use Rattle.canary_tables_read.specs.Parts.{counts_cells}
use Rattle.canary_tables_read.specs.Queries.{IsQuery}
use Rattle.canary_tables_read.proofs.Answer.{no_limit, from_start, by_column, passes, shows}
use Rattle.canary_tables_read.proofs.Asking.{Asks, all_found}
use Rattle.canary_tables_read.proofs.FoundPages.{compares, above_same, most_same}
use Rattle.canary_tables_read.proofs.Tests.{and_true, words_same, first_same}
use Rattle.canary_tables_read.proofs.Texts.{equals, run_shown, bindings_shown, tallies_shown}
use Rattle.canary_tables_read.proofs.TypedRows.{Tells}

-- the service is the one that is asked for, and the number is above one, and at most another
abbrev pub page_tests : List Term
page_tests = equals 1 0 ∷ compares Gt 2 1 ∷ compares Le 2 2 ∷ []

pub between_same : (a b : List ℕ) (n after last : ℕ)
    → (is_true (binary (Compare Eq Binary) (Words a) (Words b)) && (is_true (binary (Compare Gt Binary) (Int (pos n)) (Int (pos after))) && (is_true (binary (Compare Le Binary) (Int (pos n)) (Int (pos last))) && true))) ≡ (bytes_eq b a && (nat_lt after n && nat_le n last))
between_same a b n after last = ap₂ (λ x y. x && y) (words_same a b) (ap₂ (λ x y. x && y) (above_same n after) (and_true _ ∙ most_same n last))

-- Runs.

abbrev pub run_page_text : List ℕ
run_page_text = codes "SELECT number, step, started, closed, outside, verdict FROM run WHERE service = ?1 AND number > ?2 AND number <= ?3 ORDER BY rowid"

pub run_page_query : IsQuery run_page_text
unfolding everything
run_page_query = tt

pub run_page_asks : Asks run_page_text run_at page_tests run_shown (by_column 0) no_limit from_start
unfolding understood everything
run_page_asks made = record { names = _; is = refl; plain = (refl, refl); unlisted = refl }
run_page_asks moved = record { names = _; is = refl; plain = (refl, refl); unlisted = refl }
run_page_asks packed = record { names = _; is = refl; plain = (refl, refl); unlisted = refl }

tells_runs : (service : List ℕ) (after last : ℕ)
    → Tells run_cells (is_run_between service after last) run_cells (λ row. Words service ∷ row) (passes page_tests (Words service ∷ integer after ∷ integer last ∷ [])) (shows run_shown (Words service ∷ integer after ∷ integer last ∷ []))
tells_runs service after last = record {
  filled = λ x. (_, _, refl);
  tests = λ id x. between_same x.service service x.number after last;
  shown = λ id x h. ap (λ n. Words n ∷ integer x.number ∷ whole_or_null x.step ∷ integer x.started ∷ whole_or_null x.ending.closed ∷ integer x.ending.outside ∷ integer x.ending.verdict ∷ []) (first_same service x.service _ h);
}

-- what is shown are the runs of these numbers
pub run_page : (old new : State) (t : Tables) (service : List ℕ) (after last : ℕ) (params : Row) (rows : List Row) → Stores old t → params ≡ Words service ∷ integer after ∷ integer last ∷ [] → Shown run_page_text params old new rows
    → TellsCells run_cells (λ row. Words service ∷ row) (filter (is_run_between service after last) t.runs) rows
run_page old new t service after last params rows has given h =
    all_found run_page_text run_at page_tests run_shown run_page_asks run_cells (is_run_between service after last) run_cells (λ row. Words service ∷ row) (Words service ∷ integer after ∷ integer last ∷ []) (tells_runs service after last) t.runs rows
    (record { old = old; new = new; layout = has.layout; schema = has.holds.schema; numbered = has.holds.numbered.1.1.1.1.0; stored = has.holds.runs; shows_rows = subst (λ p. Shown run_page_text p old new rows) given h })

-- What binds them.

abbrev pub binding_page_text : List ℕ
binding_page_text = codes "SELECT run, template, revision FROM binding WHERE service = ?1 AND run > ?2 AND run <= ?3 ORDER BY rowid"

pub binding_page_query : IsQuery binding_page_text
unfolding everything
binding_page_query = tt

pub binding_page_asks : Asks binding_page_text binding_at page_tests bindings_shown (by_column 0) no_limit from_start
unfolding understood everything
binding_page_asks made = record { names = _; is = refl; plain = (refl, refl); unlisted = refl }
binding_page_asks moved = record { names = _; is = refl; plain = (refl, refl); unlisted = refl }
binding_page_asks packed = record { names = _; is = refl; plain = (refl, refl); unlisted = refl }

tells_bindings : (service : List ℕ) (after last : ℕ)
    → Tells binding_cells (is_binding_between service after last) binding_cells (λ row. Words service ∷ row) (passes page_tests (Words service ∷ integer after ∷ integer last ∷ [])) (shows bindings_shown (Words service ∷ integer after ∷ integer last ∷ []))
tells_bindings service after last = record {
  filled = λ x. (_, _, refl);
  tests = λ id x. between_same x.service service x.run after last;
  shown = λ id x h. ap (λ n. Words n ∷ integer x.run ∷ Words x.template ∷ integer x.revision ∷ []) (first_same service x.service _ h);
}

-- what is shown are the rows of binding of the runs of these numbers
pub binding_page : (old new : State) (t : Tables) (service : List ℕ) (after last : ℕ) (params : Row) (rows : List Row) → Stores old t → params ≡ Words service ∷ integer after ∷ integer last ∷ [] → Shown binding_page_text params old new rows
    → TellsCells binding_cells (λ row. Words service ∷ row) (filter (is_binding_between service after last) t.bindings) rows
binding_page old new t service after last params rows has given h =
    all_found binding_page_text binding_at page_tests bindings_shown binding_page_asks binding_cells (is_binding_between service after last) binding_cells (λ row. Words service ∷ row) (Words service ∷ integer after ∷ integer last ∷ []) (tells_bindings service after last) t.bindings rows
    (record { old = old; new = new; layout = has.layout; schema = has.holds.schema; numbered = has.holds.numbered.1.1.1.1.1.1.1.1.0; stored = has.holds.bindings; shows_rows = subst (λ p. Shown binding_page_text p old new rows) given h })

-- Their tallies.

abbrev pub tally_page_text : List ℕ
tally_page_text = codes "SELECT run, metric, counted, failed, inconclusive, errors, consecutive, passes, last FROM tally WHERE service = ?1 AND run > ?2 AND run <= ?3 ORDER BY rowid"

pub tally_page_query : IsQuery tally_page_text
unfolding everything
tally_page_query = tt

pub tally_page_asks : Asks tally_page_text tally_at page_tests tallies_shown (by_column 0) no_limit from_start
unfolding understood everything
tally_page_asks made = record { names = _; is = refl; plain = (refl, refl); unlisted = refl }
tally_page_asks moved = record { names = _; is = refl; plain = (refl, refl); unlisted = refl }
tally_page_asks packed = record { names = _; is = refl; plain = (refl, refl); unlisted = refl }

tells_tallies : (service : List ℕ) (after last : ℕ)
    → Tells tally_cells (is_tally_between service after last) tally_cells (λ row. Words service ∷ row) (passes page_tests (Words service ∷ integer after ∷ integer last ∷ [])) (shows tallies_shown (Words service ∷ integer after ∷ integer last ∷ []))
tells_tallies service after last = record {
  filled = λ x. (_, _, refl);
  tests = λ id x. between_same x.service service x.run after last;
  shown = λ id x h. ap (λ n. Words n ∷ integer x.run ∷ integer x.metric ∷ counts_cells x.counts) (first_same service x.service _ h);
}

-- what is shown are the tallies of the runs of these numbers
pub tally_page : (old new : State) (t : Tables) (service : List ℕ) (after last : ℕ) (params : Row) (rows : List Row) → Stores old t → params ≡ Words service ∷ integer after ∷ integer last ∷ [] → Shown tally_page_text params old new rows
    → TellsCells tally_cells (λ row. Words service ∷ row) (filter (is_tally_between service after last) t.tallies) rows
tally_page old new t service after last params rows has given h =
    all_found tally_page_text tally_at page_tests tallies_shown tally_page_asks tally_cells (is_tally_between service after last) tally_cells (λ row. Words service ∷ row) (Words service ∷ integer after ∷ integer last ∷ []) (tells_tallies service after last) t.tallies rows
    (record { old = old; new = new; layout = has.layout; schema = has.holds.schema; numbered = has.holds.numbered.1.1.1.1.1.1.1.1.1.0; stored = has.holds.tallies; shows_rows = subst (λ p. Shown tally_page_text p old new rows) given h })
