use Rattle.std.proofs.Common.{◌∷◌, refl, rules}
use Rattle.std.proofs.lemmas.Result.{IfOk-weaker}
use Rattle.sqlite.specs.declared.types.Value.TheVariants.{Null, Text as Words}
use Rattle.sqlite_keyed.proofs.ListLemmas.{all-filter}
use Rattle.canary_tables_read.specs.Metrics.{is_measurement_in}
use Rattle.canary_tables_rows.specs.Limits.{IsMeasurementWithin}
use Rattle.canary_tables_schema.specs.Cells.{measurement_cells, measurement_in}
use Rattle.canary_tables_read.proofs.Breaking.{unless_broken}
use Rattle.canary_tables_read.proofs.TypedRows.{told_all}
use Rattle.canary_tables_read.proofs.FoundMetrics.{metric_query, metric_rows}
use Rattle.canary_tables_read.proofs.metrics.measurements.Goals as goal

pub ask-requires-clause-query : goal.ask-requires-clause-query
ask-requires-clause-query g c = metric_query

pub returns-clause-found : goal.returns-clause-found
returns-clause-found g c usable t has =
    let told = metric_rows (g.Q.Reader.shows c.args.conn.now) (g.Q.Reader.shows c.ask.new.self) t c.args.service.now c.args.run c.args.metric _ c.in_ok-rows.rows.items has (search rules) (c.in_ok-rows.ensures.shown usable) in
    IfOk-weaker c.all.result _ _
    (λ found read. told_all measurement_cells measurement_in (λ x. refl) (λ row. Null ∷ Words c.args.service.now ∷ row) c.in_ok-rows.rows.items _ found told (rw c.as_slice.ensures.value at read)) c.all.ensures.found

pub returns-clause-broken : goal.returns-clause-broken
returns-clause-broken g c usable t has is within =
    let told = metric_rows (g.Q.Reader.shows c.args.conn.now) (g.Q.Reader.shows c.ask.new.self) t c.args.service.now c.args.run c.args.metric _ c.in_ok-rows.rows.items has (search rules) (c.in_ok-rows.ensures.shown usable) in
    unless_broken measurement_cells (λ row. Null ∷ Words c.args.service.now ∷ row) IsMeasurementWithin _ c.in_ok-rows.rows.items told (rw c.as_slice.ensures.value at (c.all.ensures.broken is))
    (all-filter IsMeasurementWithin (is_measurement_in c.args.service.now c.args.run c.args.metric) t.measurements within)
