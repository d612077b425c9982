-- The cells of a row are read back as the row.
use Rattle.std.proofs.Common.{◌≡◌, List, [], ◌∷◌, map, Option, Some, None, ℕ, refl, ap, ◌∙◌}
use Rattle.std.specs.List.{filter_map}
use Rattle.sqlite_value.specs.Order.{Row}
use Rattle.canary_tables_rows.specs.declared.rows.RunRow.{RunRow}
use Rattle.canary_tables_rows.specs.declared.rows.TallyRow.{TallyRow}
use Rattle.canary_tables_schema.specs.Cells.{cells_of, rows_in, layout_of, number_or_null, whole_or_null, caller_cells, caller_in, kept_cells, kept_in, revision_cells, revision_in, binding_cells, binding_in, service_cells, service_in, run_cells, run_in, tally_cells, tally_in, measurement_cells, measurement_in, history_cells, history_in}
use Rattle.sqlite.specs.Schema.{Schema}
use Rattle.sqlite.specs.Tree.{Trees}
use Rattle.sqlite.specs.Effect.{Database}
use Rattle.canary_tables_rows.specs.Tables.{Tables}
use Rattle.canary_tables_schema.specs.Layout.{Layout, made, moved, packed, service_at, run_at, measurement_at, history_at, revision_at, binding_at, tally_at}
use Rattle.canary_tables_schema.specs.Schema.{schema_at}
use Rattle.canary_tables_schema.specs.Stores.{Holds}
use Rattle.canary_tables_schema.specs.Laws.{OneReading}

-- rows that are read one by one are read all
all_read : {A : Type 0} (cells : A → Row) (read : Row → Option A) → ((r : A) → read (cells r) ≡ Some r) → (rows : List A) → filter_map read (map cells rows) ≡ rows
all_read cells read one [] = refl
all_read cells read one (r ∷ rows) = rw (one r) (ap (λ rest. r ∷ rest) (all_read cells read one rows))

number_read : (n : Option ℕ) → number_or_null (whole_or_null n) ≡ Some n
number_read None = refl
number_read (Some n) = refl

run_read : (r : RunRow) → run_in (run_cells r) ≡ Some r
run_read r = rw (number_read r.step, number_read r.ending.closed) refl

tally_read : (r : TallyRow) → tally_in (tally_cells r) ≡ Some r
tally_read r = rw (number_read r.counts.last) refl

-- so are a tree's
tree_read : {A : Type 0} (cells : A → Row) (read : Row → Option A) → ((r : A) → read (cells r) ≡ Some r) → (tree : List Row) (rows : List A) → cells_of tree ≡ map cells rows → filter_map read (cells_of tree) ≡ rows
tree_read cells read one tree rows stored = ap (filter_map read) stored ∙ all_read cells read one rows

rows_read : (at : Layout) (db : Database) (t : Tables) → Holds at db t → rows_in at db.trees ≡ t
rows_read at db t h =
    let callers = tree_read caller_cells caller_in (λ r. refl) (db.trees 1) t.callers h.callers in
    let kept = tree_read kept_cells kept_in (λ r. refl) (db.trees 3) t.kept h.kept in
    let revisions = tree_read revision_cells revision_in (λ r. refl) (db.trees (revision_at at)) t.revisions h.revisions in
    let services = tree_read service_cells service_in (λ r. refl) (db.trees (service_at at)) t.services h.services in
    let bindings = tree_read binding_cells binding_in (λ r. refl) (db.trees (binding_at at)) t.bindings h.bindings in
    let runs = tree_read run_cells run_in run_read (db.trees (run_at at)) t.runs h.runs in
    let tallies = tree_read tally_cells tally_in tally_read (db.trees (tally_at at)) t.tallies h.tallies in
    let measurements = tree_read measurement_cells measurement_in (λ r. refl) (db.trees (measurement_at at)) t.measurements h.measurements in
    let history = tree_read history_cells history_in (λ r. refl) (db.trees (history_at at)) t.history h.history in
    λ i. record {
      callers = callers i;
      kept = kept i;
      revisions = revisions i;
      services = services i;
      bindings = bindings i;
      runs = runs i;
      tallies = tallies i;
      measurements = measurements i;
      history = history i;
    }

-- the numbers of the trees give the layout, as far as rows are read
layout_read : (at : Layout) (trees : Trees) → rows_in (layout_of (schema_at at)) trees ≡ rows_in at trees
layout_read made trees = refl
layout_read moved trees = refl
layout_read packed trees = refl

pub one_reading : OneReading
one_reading db t h = ap (λ (s : Schema). rows_in (layout_of s) db.trees) h.holds.schema ∙ layout_read h.layout db.trees ∙ rows_read h.layout db t h.holds
