use Rattle.std.proofs.Common.{◌∷◌, filter, refl, sym, subst, rules}
use Rattle.std.proofs.lemmas.Result.{IfOk-weaker}
use Rattle.sqlite.specs.declared.types.Value.TheVariants.{Text as Words}
use Rattle.sqlite_keyed.proofs.ListLemmas.{all-filter}
use Rattle.canary_tables_rows.specs.Tables.{is_revision_of}
use Rattle.canary_tables_rows.specs.Limits.{IsRevisionWithin}
use Rattle.canary_tables_rows.specs.Newest.{IsNewest}
use Rattle.canary_tables_schema.specs.Cells.{revision_cells, revision_in}
use Rattle.canary_tables_read.proofs.Breaking.{unless_broken}
use Rattle.canary_tables_read.proofs.Newest.{newest_first, first_within}
use Rattle.canary_tables_read.proofs.Texts.{newest_query}
use Rattle.canary_tables_read.proofs.TypedRows.{same_first}
use Rattle.canary_tables_read.proofs.FoundServices.{newest_rows}
use Rattle.canary_tables_read.proofs.services.newest.Goals as goal

pub ask-requires-clause-query : goal.ask-requires-clause-query
ask-requires-clause-query g c = newest_query

pub returns-clause-found : goal.returns-clause-found
returns-clause-found g c usable t has =
    let told = newest_rows (g.Q.Reader.shows c.args.conn.now) (g.Q.Reader.shows c.ask.new.self) t c.args.name.now _ c.in_ok-rows.rows.items has (search rules) (c.in_ok-rows.ensures.shown usable) in
    IfOk-weaker c.first.result _ _
    (λ found read. subst (IsNewest (filter (is_revision_of c.args.name.now) t.revisions)) (sym (same_first revision_cells revision_in (λ x. refl) (λ row. Words c.args.name.now ∷ row) c.in_ok-rows.rows.items told.0 found told.2 (rw c.as_slice.ensures.value at read))) (newest_first _ told.0 told.1)) c.first.ensures.found

pub returns-clause-broken : goal.returns-clause-broken
returns-clause-broken g c usable t has is within =
    let told = newest_rows (g.Q.Reader.shows c.args.conn.now) (g.Q.Reader.shows c.ask.new.self) t c.args.name.now _ c.in_ok-rows.rows.items has (search rules) (c.in_ok-rows.ensures.shown usable) in
    unless_broken revision_cells (λ row. Words c.args.name.now ∷ row) IsRevisionWithin told.0 c.in_ok-rows.rows.items told.2 (rw c.as_slice.ensures.value at (c.first.ensures.broken is))
    (first_within IsRevisionWithin _ told.0 told.1 (all-filter IsRevisionWithin (is_revision_of c.args.name.now) t.revisions within))
