use Rattle.std.proofs.Common.{◌∷◌, refl}
use Rattle.std.proofs.lemmas.Result.{IfOk-weaker}
use Rattle.sqlite.specs.declared.types.Value.TheVariants.{Text as Words}
use Rattle.sqlite_keyed.proofs.ListLemmas.{all-filter}
use Rattle.canary_tables_rows.specs.Tables.{is_kept}
use Rattle.canary_tables_rows.specs.Limits.{IsKeptWithin}
use Rattle.canary_tables_schema.specs.Cells.{kept_cells, kept_in}
use Rattle.canary_tables_read.proofs.Breaking.{unless_broken}
use Rattle.canary_tables_read.proofs.TypedRows.{same_first}
use Rattle.canary_tables_read.proofs.callers.kept.Goals as goal

pub returns-clause-found : goal.returns-clause-found
returns-clause-found g c usable t has =
    IfOk-weaker c.first.result _ _
    (λ found read. same_first kept_cells kept_in (λ x. refl) (λ row. Words c.args.caller.now ∷ row) c.in_ok-rows.rows.items _ found (c.in_ok-rows.ensures.found usable t has) (rw c.as_slice.ensures.value at read)) c.first.ensures.found

pub returns-clause-broken : goal.returns-clause-broken
returns-clause-broken g c usable t has is within =
    unless_broken kept_cells (λ row. Words c.args.caller.now ∷ row) IsKeptWithin _ c.in_ok-rows.rows.items (c.in_ok-rows.ensures.found usable t has) (rw c.as_slice.ensures.value at (c.first.ensures.broken is)) (all-filter IsKeptWithin (is_kept c.args.caller.now c.args.number) t.kept within)
