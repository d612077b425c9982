use Rattle.std.proofs.Common.{◌∷◌, rules}
use Rattle.std.proofs.lemmas.Result.{IfOk-weaker}
use Rattle.sqlite.specs.declared.types.Value.TheVariants.{Text as Words}
use Rattle.sqlite_keyed.proofs.ListLemmas.{all-filter}
use Rattle.canary_tables_rows.specs.Limits.{IsTallyWithin}
use Rattle.canary_tables_schema.specs.Cells.{tally_cells, tally_in}
use Rattle.canary_tables_read.specs.Pages.{is_tally_between}
use Rattle.canary_tables_read.proofs.Breaking.{unless_broken}
use Rattle.canary_tables_read.proofs.FoundRunPages.{tally_page, tally_page_query}
use Rattle.canary_tables_read.proofs.FoundRuns.{tally_back}
use Rattle.canary_tables_read.proofs.TypedRows.{told_all}
use Rattle.canary_tables_read.proofs.pages.tallies.Goals as goal

pub ask-requires-clause-query : goal.ask-requires-clause-query
ask-requires-clause-query g c = tally_page_query

pub returns-clause-found : goal.returns-clause-found
returns-clause-found g c usable t has =
    let told = tally_page (g.Q.Reader.shows c.args.conn.now) (g.Q.Reader.shows c.ask.new.self) t c.args.service.now c.args.after c.args.last _ c.in_ok-rows.rows.items has (search rules) (c.in_ok-rows.ensures.shown usable) in
    IfOk-weaker c.all.result _ _
    (λ found read. told_all tally_cells tally_in tally_back (λ row. Words c.args.service.now ∷ row) c.in_ok-rows.rows.items _ found told (rw c.as_slice.ensures.value at read)) c.all.ensures.found

pub returns-clause-broken : goal.returns-clause-broken
returns-clause-broken g c usable t has is within =
    let told = tally_page (g.Q.Reader.shows c.args.conn.now) (g.Q.Reader.shows c.ask.new.self) t c.args.service.now c.args.after c.args.last _ c.in_ok-rows.rows.items has (search rules) (c.in_ok-rows.ensures.shown usable) in
    unless_broken tally_cells (λ row. Words c.args.service.now ∷ row) IsTallyWithin _ c.in_ok-rows.rows.items told (rw c.as_slice.ensures.value at (c.all.ensures.broken is))
    (all-filter IsTallyWithin (is_tally_between c.args.service.now c.args.after c.args.last) t.tallies within)
