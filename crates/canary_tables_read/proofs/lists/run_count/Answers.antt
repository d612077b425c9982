use Rattle.std.proofs.lemmas.Result.{IfOk-weaker}
use Rattle.canary_tables_schema.specs.Layout.{run_at}
use Rattle.canary_tables_schema.specs.Cells.{run_cells}
use Rattle.canary_tables_read.proofs.Counting.{count_found}
use Rattle.canary_tables_read.proofs.CountTexts.{run_count_text, run_count_query, run_counts}
use Rattle.canary_tables_read.proofs.lists.run_count.Goals as goal

pub count_of-requires-clause-query : goal.count_of-requires-clause-query
count_of-requires-clause-query g c = run_count_query

pub returns-clause-found : goal.returns-clause-found
returns-clause-found g c usable t has =
    IfOk-weaker c.count_of.result _ _
    (λ n told. count_found run_count_text run_at run_counts run_cells t.runs (g.Q.Reader.shows c.args.conn.now) (g.Q.Reader.shows c.count_of.new.conn) _ told.0 n has.layout has.holds.schema has.holds.runs told.1 told.2) (c.count_of.ensures.shown usable)
