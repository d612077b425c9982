use Rattle.std.proofs.Common.{◌∷◌, filter, sym, subst, rules}
use Rattle.std.proofs.lemmas.Result.{IfOk-weaker}
use Rattle.sqlite.specs.declared.types.Value.TheVariants.{Text as Words}
use Rattle.sqlite_keyed.proofs.ListLemmas.{all-filter}
use Rattle.canary_tables_rows.specs.Tables.{is_tally_of}
use Rattle.canary_tables_rows.specs.Limits.{IsTallyWithin}
use Rattle.canary_tables_schema.specs.Cells.{tally_cells, tally_in}
use Rattle.canary_tables_read.specs.Sorts.{Sorts, metric_of}
use Rattle.canary_tables_read.proofs.Breaking.{unless_broken, all_moved}
use Rattle.canary_tables_read.proofs.Texts.{tallies_query}
use Rattle.canary_tables_read.proofs.TypedRows.{told_all}
use Rattle.canary_tables_read.proofs.FoundRuns.{tally_rows, tally_back}
use Rattle.canary_tables_read.proofs.runs.tallies.Goals as goal

pub ask-requires-clause-query : goal.ask-requires-clause-query
ask-requires-clause-query g c = tallies_query

pub returns-clause-found : goal.returns-clause-found
returns-clause-found g c usable t has =
    let told = tally_rows (g.Q.Reader.shows c.args.conn.now) (g.Q.Reader.shows c.ask.new.self) t c.args.service.now c.args.run _ c.in_ok-rows.rows.items has (search rules) (c.in_ok-rows.ensures.shown usable) in
    IfOk-weaker c.all.result _ _
    (λ found read. subst (Sorts metric_of (filter (is_tally_of c.args.service.now c.args.run) t.tallies)) (sym (told_all tally_cells tally_in tally_back (λ row. Words c.args.service.now ∷ row) c.in_ok-rows.rows.items told.0 found told.2 (rw c.as_slice.ensures.value at read))) told.1) c.all.ensures.found

pub returns-clause-broken : goal.returns-clause-broken
returns-clause-broken g c usable t has is within =
    let told = tally_rows (g.Q.Reader.shows c.args.conn.now) (g.Q.Reader.shows c.ask.new.self) t c.args.service.now c.args.run _ c.in_ok-rows.rows.items has (search rules) (c.in_ok-rows.ensures.shown usable) in
    unless_broken tally_cells (λ row. Words c.args.service.now ∷ row) IsTallyWithin told.0 c.in_ok-rows.rows.items told.2 (rw c.as_slice.ensures.value at (c.all.ensures.broken is))
    (all_moved IsTallyWithin _ told.0 told.1.same (all-filter IsTallyWithin (is_tally_of c.args.service.now c.args.run) t.tallies within))
