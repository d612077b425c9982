use Rattle.std.proofs.lemmas.Result.{IfOk-weaker}
use Rattle.canary_tables_schema.specs.Layout.{tally_at}
use Rattle.canary_tables_schema.specs.Cells.{tally_cells}
use Rattle.canary_tables_read.proofs.Counting.{count_found}
use Rattle.canary_tables_read.proofs.CountTexts.{tally_count_text, tally_count_query, tally_counts}
use Rattle.canary_tables_read.proofs.lists.tally_count.Goals as goal

pub count_of-requires-clause-query : goal.count_of-requires-clause-query
count_of-requires-clause-query g c = tally_count_query

pub returns-clause-found : goal.returns-clause-found
returns-clause-found g c usable t has =
    IfOk-weaker c.count_of.result _ _
    (λ n told. count_found tally_count_text tally_at tally_counts tally_cells t.tallies (g.Q.Reader.shows c.args.conn.now) (g.Q.Reader.shows c.count_of.new.conn) _ told.0 n has.layout has.holds.schema has.holds.tallies told.1 told.2) (c.count_of.ensures.shown usable)
