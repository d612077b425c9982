use Rattle.std.proofs.Common.{◌∷◌, rules}
use Rattle.std.proofs.lemmas.Result.{IfOk-weaker}
use Rattle.sqlite.specs.declared.types.Value.TheVariants.{Text as Words}
use Rattle.sqlite_keyed.proofs.ListLemmas.{all-filter}
use Rattle.canary_tables_rows.specs.Tables.{is_run}
use Rattle.canary_tables_rows.specs.Limits.{IsRunWithin}
use Rattle.canary_tables_schema.specs.Cells.{run_cells, run_in}
use Rattle.canary_tables_read.proofs.Breaking.{unless_broken}
use Rattle.canary_tables_read.proofs.FoundRuns.{run_back, run_rows}
use Rattle.canary_tables_read.proofs.Texts.{run_query}
use Rattle.canary_tables_read.proofs.TypedRows.{same_first}
use Rattle.canary_tables_read.proofs.runs.run.Goals as goal

pub ask-requires-clause-query : goal.ask-requires-clause-query
ask-requires-clause-query g c = run_query

pub returns-clause-found : goal.returns-clause-found
returns-clause-found g c usable t has =
    let told = run_rows (g.Q.Reader.shows c.args.conn.now) (g.Q.Reader.shows c.ask.new.self) t c.args.service.now c.args.number _ c.in_ok-rows.rows.items has (search rules) (c.in_ok-rows.ensures.shown usable) in
    IfOk-weaker c.first.result _ _
    (λ found read. same_first run_cells run_in run_back (λ row. Words c.args.service.now ∷ row) c.in_ok-rows.rows.items _ found told (rw c.as_slice.ensures.value at read)) c.first.ensures.found

pub returns-clause-broken : goal.returns-clause-broken
returns-clause-broken g c usable t has is within =
    let told = run_rows (g.Q.Reader.shows c.args.conn.now) (g.Q.Reader.shows c.ask.new.self) t c.args.service.now c.args.number _ c.in_ok-rows.rows.items has (search rules) (c.in_ok-rows.ensures.shown usable) in
    unless_broken run_cells (λ row. Words c.args.service.now ∷ row) IsRunWithin _ c.in_ok-rows.rows.items told (rw c.as_slice.ensures.value at (c.first.ensures.broken is)) (all-filter IsRunWithin (is_run c.args.service.now c.args.number) t.runs within)
