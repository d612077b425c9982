use Rattle.std.proofs.Common.{◌∷◌, refl, rules}
use Rattle.std.proofs.lemmas.Result.{IfOk-weaker}
use Rattle.sqlite.specs.declared.types.Value.TheVariants.{Null, Text as Words}
use Rattle.sqlite_keyed.proofs.ListLemmas.{all-filter}
use Rattle.canary_tables_rows.specs.Tables.{is_line_of}
use Rattle.canary_tables_rows.specs.Limits.{IsLineWithin}
use Rattle.canary_tables_schema.specs.Cells.{history_cells, history_in}
use Rattle.canary_tables_read.proofs.Breaking.{unless_broken}
use Rattle.canary_tables_read.proofs.Texts.{history_query}
use Rattle.canary_tables_read.proofs.TypedRows.{told_all}
use Rattle.canary_tables_read.proofs.FoundLines.{line_rows}
use Rattle.canary_tables_read.proofs.histories.history.Goals as goal

pub ask-requires-clause-query : goal.ask-requires-clause-query
ask-requires-clause-query g c = history_query

pub returns-clause-found : goal.returns-clause-found
returns-clause-found g c usable t has =
    let told = line_rows (g.Q.Reader.shows c.args.conn.now) (g.Q.Reader.shows c.ask.new.self) t c.args.service.now _ c.in_ok-rows.rows.items has (search rules) (c.in_ok-rows.ensures.shown usable) in
    IfOk-weaker c.all.result _ _
    (λ found read. told_all history_cells history_in (λ x. refl) (λ row. Null ∷ Words c.args.service.now ∷ row) c.in_ok-rows.rows.items _ found told (rw c.as_slice.ensures.value at read)) c.all.ensures.found

pub returns-clause-broken : goal.returns-clause-broken
returns-clause-broken g c usable t has is within =
    let told = line_rows (g.Q.Reader.shows c.args.conn.now) (g.Q.Reader.shows c.ask.new.self) t c.args.service.now _ c.in_ok-rows.rows.items has (search rules) (c.in_ok-rows.ensures.shown usable) in
    unless_broken history_cells (λ row. Null ∷ Words c.args.service.now ∷ row) IsLineWithin _ c.in_ok-rows.rows.items told (rw c.as_slice.ensures.value at (c.all.ensures.broken is))
    (all-filter IsLineWithin (is_line_of c.args.service.now) t.history within)
