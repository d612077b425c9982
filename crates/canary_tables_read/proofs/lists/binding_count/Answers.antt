use Rattle.std.proofs.lemmas.Result.{IfOk-weaker}
use Rattle.canary_tables_schema.specs.Layout.{binding_at}
use Rattle.canary_tables_schema.specs.Cells.{binding_cells}
use Rattle.canary_tables_read.proofs.Counting.{count_found}
use Rattle.canary_tables_read.proofs.CountTexts.{binding_count_text, binding_count_query, binding_counts}
use Rattle.canary_tables_read.proofs.lists.binding_count.Goals as goal

pub count_of-requires-clause-query : goal.count_of-requires-clause-query
count_of-requires-clause-query g c = binding_count_query

pub returns-clause-found : goal.returns-clause-found
returns-clause-found g c usable t has =
    IfOk-weaker c.count_of.result _ _
    (λ n told. count_found binding_count_text binding_at binding_counts binding_cells t.bindings (g.Q.Reader.shows c.args.conn.now) (g.Q.Reader.shows c.count_of.new.conn) _ told.0 n has.layout has.holds.schema has.holds.bindings told.1 told.2) (c.count_of.ensures.shown usable)
