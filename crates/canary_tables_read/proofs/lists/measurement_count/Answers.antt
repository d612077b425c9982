use Rattle.std.proofs.lemmas.Result.{IfOk-weaker}
use Rattle.canary_tables_schema.specs.Layout.{measurement_at}
use Rattle.canary_tables_schema.specs.Cells.{measurement_cells}
use Rattle.canary_tables_read.proofs.Counting.{count_found}
use Rattle.canary_tables_read.proofs.CountTexts.{measurement_count_text, measurement_count_query, measurement_counts}
use Rattle.canary_tables_read.proofs.lists.measurement_count.Goals as goal

pub count_of-requires-clause-query : goal.count_of-requires-clause-query
count_of-requires-clause-query g c = measurement_count_query

pub returns-clause-found : goal.returns-clause-found
returns-clause-found g c usable t has =
    IfOk-weaker c.count_of.result _ _
    (λ n told. count_found measurement_count_text measurement_at measurement_counts measurement_cells t.measurements (g.Q.Reader.shows c.args.conn.now) (g.Q.Reader.shows c.count_of.new.conn) _ told.0 n has.layout has.holds.schema has.holds.measurements told.1 told.2) (c.count_of.ensures.shown usable)
