-- What the query on the measurements of one metric of a run finds.
use Rattle.std.proofs.Common.{◌≡◌, ◌∷◌, [], ◌&&◌, ◌==◌, ℕ, pos, List, true, codes, filter, refl, ap, ap₂, subst, ◌∙◌}
use Rattle.std.specs.Str.{bytes_eq}
use Rattle.sqlite.specs.declared.types.Value.TheVariants.{Null, Int, Text as Words}
use Rattle.sqlite.specs.Order.{Row}
use Rattle.sqlite.specs.Ops.{binary, is_true}
use Rattle.sqlite.specs.Term.{Term}
use Rattle.sqlite.specs.State.{State, Shown}
use Rattle.sqlite.specs.Listing.{understood}
use Rattle.sqlite_sql.specs.declared.ops.BinaryOp.TheVariants.{Compare}
use Rattle.sqlite_sql.specs.declared.ops.CompareOp.TheVariants.{Eq}
use Rattle.sqlite_value.specs.declared.keys.Collation.TheVariants.{Binary}
use Rattle.sqlite_tied.specs.Compute.{everything}
use Rattle.canary_tables_rows.specs.Tables.{Tables}
use Rattle.canary_tables_schema.specs.Layout.{made, moved, packed, measurement_at}
use Rattle.canary_tables_schema.specs.Cells.{integer, measurement_cells}
use Rattle.canary_tables_schema.specs.Stores.{Stores}
use Rattle.canary_tables_read.specs.Finds.{TellsCells}
use Rattle.canary_tables_read.specs.Metrics.{is_measurement_in}
use Rattle.canary_tables_read.specs.Queries.{IsQuery}
use Rattle.canary_tables_read.proofs.Answer.{passes, shows, by_column, no_limit, from_start}
use Rattle.canary_tables_read.proofs.Asking.{Asks, all_found}
use Rattle.canary_tables_read.proofs.Tests.{and_true, words_same, numbers_same, first_same}
use Rattle.canary_tables_read.proofs.Texts.{equals, measurements_shown}
use Rattle.canary_tables_read.proofs.TypedRows.{Tells}

abbrev pub metric_text : List ℕ
metric_text = codes "SELECT run, metric, ordinal, taken, phase, outcome FROM measurement WHERE service = ?1 AND run = ?2 AND metric = ?3 ORDER BY place"

abbrev metric_tests : List Term
metric_tests = equals 2 0 ∷ equals 3 1 ∷ equals 4 2 ∷ []

pub metric_query : IsQuery metric_text
unfolding everything
metric_query = tt

metric_asks : Asks metric_text measurement_at metric_tests measurements_shown (by_column 0) no_limit from_start
unfolding understood everything
metric_asks made = record { names = _; is = refl; plain = (refl, refl); unlisted = refl }
metric_asks moved = record { names = _; is = refl; plain = (refl, refl); unlisted = refl }
metric_asks packed = record { names = _; is = refl; plain = (refl, refl); unlisted = refl }

-- a name and two numbers
three_same : (a b : List ℕ) (m n k l : ℕ)
    → (is_true (binary (Compare Eq Binary) (Words a) (Words b)) && (is_true (binary (Compare Eq Binary) (Int (pos m)) (Int (pos n))) && (is_true (binary (Compare Eq Binary) (Int (pos k)) (Int (pos l))) && true)))
    ≡ (bytes_eq b a && (n == m && l == k))
three_same a b m n k l = ap₂ (λ x y. x && y) (words_same a b) (ap₂ (λ x y. x && y) (numbers_same m n) (and_true _ ∙ numbers_same k l))

tells_metric : (service : List ℕ) (run metric : ℕ)
    → Tells measurement_cells (is_measurement_in service run metric) measurement_cells (λ row. Null ∷ Words service ∷ row) (passes metric_tests (Words service ∷ integer run ∷ integer metric ∷ [])) (shows measurements_shown (Words service ∷ integer run ∷ integer metric ∷ []))
tells_metric service run metric = record {
  filled = λ x. (_, _, refl);
  tests = λ id x. three_same x.service service x.run run x.metric metric;
  shown = λ id x h. ap (λ n. Null ∷ Words n ∷ integer x.run ∷ integer x.metric ∷ integer x.ordinal ∷ integer x.taken ∷ integer x.phase ∷ Words x.outcome ∷ []) (first_same service x.service _ h);
}

-- what is shown are all measurements of the metric, in their order
pub metric_rows : (old new : State) (t : Tables) (service : List ℕ) (run metric : ℕ) (params : Row) (rows : List Row) → Stores old t → params ≡ Words service ∷ integer run ∷ integer metric ∷ [] → Shown metric_text params old new rows
    → TellsCells measurement_cells (λ row. Null ∷ Words service ∷ row) (filter (is_measurement_in service run metric) t.measurements) rows
metric_rows old new t service run metric params rows has given h =
    all_found metric_text measurement_at metric_tests measurements_shown metric_asks measurement_cells (is_measurement_in service run metric) measurement_cells (λ row. Null ∷ Words service ∷ row) (Words service ∷ integer run ∷ integer metric ∷ []) (tells_metric service run metric) t.measurements rows
    (record { old = old; new = new; layout = has.layout; schema = has.holds.schema; numbered = has.holds.numbered.1.1.1.1.1.0; stored = has.holds.measurements; shows_rows = subst (λ p. Shown metric_text p old new rows) given h })
