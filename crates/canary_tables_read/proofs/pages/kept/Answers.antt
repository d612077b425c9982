use Rattle.std.proofs.Common.{◌∷◌, filter, refl, sym, subst, rules}
use Rattle.std.proofs.lemmas.Result.{IfOk-weaker}
use Rattle.sqlite.specs.declared.types.Value.TheVariants.{Text as Words}
use Rattle.sqlite_keyed.proofs.ListLemmas.{all-filter}
use Rattle.canary_tables_rows.specs.Limits.{IsKeptWithin}
use Rattle.canary_tables_schema.specs.Cells.{kept_cells, kept_in}
use Rattle.canary_tables_read.specs.Pages.{is_kept_between, number_of_kept}
use Rattle.canary_tables_read.specs.Sorts.{Sorts}
use Rattle.canary_tables_read.proofs.Breaking.{unless_broken, all_moved}
use Rattle.canary_tables_read.proofs.FoundPages.{kept_page, kept_page_query}
use Rattle.canary_tables_read.proofs.TypedRows.{told_all}
use Rattle.canary_tables_read.proofs.pages.kept.Goals as goal

pub ask-requires-clause-query : goal.ask-requires-clause-query
ask-requires-clause-query g c = kept_page_query

pub returns-clause-found : goal.returns-clause-found
returns-clause-found g c usable t has =
    let told = kept_page (g.Q.Reader.shows c.args.conn.now) (g.Q.Reader.shows c.ask.new.self) t c.args.caller.now c.args.after c.args.last _ c.in_ok-rows.rows.items has (search rules) (c.in_ok-rows.ensures.shown usable) in
    IfOk-weaker c.all.result _ _
    (λ found read. subst (Sorts number_of_kept (filter (is_kept_between c.args.caller.now c.args.after c.args.last) t.kept)) (sym (told_all kept_cells kept_in (λ x. refl) (λ row. Words c.args.caller.now ∷ row) c.in_ok-rows.rows.items told.0 found told.2 (rw c.as_slice.ensures.value at read))) told.1) c.all.ensures.found

pub returns-clause-broken : goal.returns-clause-broken
returns-clause-broken g c usable t has is within =
    let told = kept_page (g.Q.Reader.shows c.args.conn.now) (g.Q.Reader.shows c.ask.new.self) t c.args.caller.now c.args.after c.args.last _ c.in_ok-rows.rows.items has (search rules) (c.in_ok-rows.ensures.shown usable) in
    unless_broken kept_cells (λ row. Words c.args.caller.now ∷ row) IsKeptWithin told.0 c.in_ok-rows.rows.items told.2 (rw c.as_slice.ensures.value at (c.all.ensures.broken is))
    (all_moved IsKeptWithin _ told.0 told.1.same (all-filter IsKeptWithin (is_kept_between c.args.caller.now c.args.after c.args.last) t.kept within))
