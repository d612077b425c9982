use Rattle.std.proofs.Common.{◌∷◌, filter, sym, subst, rules}
use Rattle.std.proofs.lemmas.Result.{IfOk-weaker}
use Rattle.sqlite.specs.declared.types.Value.TheVariants.{Text as Words}
use Rattle.sqlite_keyed.proofs.ListLemmas.{all-filter}
use Rattle.canary_tables_rows.specs.Tables.{is_open_run_of}
use Rattle.canary_tables_rows.specs.Limits.{IsRunWithin}
use Rattle.canary_tables_schema.specs.Cells.{run_cells, run_in}
use Rattle.canary_tables_read.specs.Sorts.{Sorts, number_of}
use Rattle.canary_tables_read.proofs.Breaking.{unless_broken, all_moved}
use Rattle.canary_tables_read.proofs.Texts.{open_runs_query}
use Rattle.canary_tables_read.proofs.TypedRows.{told_all}
use Rattle.canary_tables_read.proofs.FoundRuns.{open_rows, run_back}
use Rattle.canary_tables_read.proofs.runs.all_open_runs.Goals as goal

pub ask-requires-clause-query : goal.ask-requires-clause-query
ask-requires-clause-query g c = open_runs_query

pub returns-clause-found : goal.returns-clause-found
returns-clause-found g c usable t has =
    let told = open_rows (g.Q.Reader.shows c.args.conn.now) (g.Q.Reader.shows c.ask.new.self) t c.args.service.now _ c.in_ok-rows.rows.items has (search rules) (c.in_ok-rows.ensures.shown usable) in
    IfOk-weaker c.all.result _ _
    (λ found read. subst (Sorts number_of (filter (is_open_run_of c.args.service.now) t.runs)) (sym (told_all run_cells run_in run_back (λ row. Words c.args.service.now ∷ row) c.in_ok-rows.rows.items told.0 found told.2 (rw c.as_slice.ensures.value at read))) told.1) c.all.ensures.found

pub returns-clause-broken : goal.returns-clause-broken
returns-clause-broken g c usable t has is within =
    let told = open_rows (g.Q.Reader.shows c.args.conn.now) (g.Q.Reader.shows c.ask.new.self) t c.args.service.now _ c.in_ok-rows.rows.items has (search rules) (c.in_ok-rows.ensures.shown usable) in
    unless_broken run_cells (λ row. Words c.args.service.now ∷ row) IsRunWithin told.0 c.in_ok-rows.rows.items told.2 (rw c.as_slice.ensures.value at (c.all.ensures.broken is))
    (all_moved IsRunWithin _ told.0 told.1.same (all-filter IsRunWithin (is_open_run_of c.args.service.now) t.runs within))
