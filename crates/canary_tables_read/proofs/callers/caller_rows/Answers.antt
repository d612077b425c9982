use Rattle.std.proofs.Common.{◌∷◌, refl}
use Rattle.std.proofs.lemmas.Result.{IfOk-weaker}
use Rattle.sqlite.specs.declared.types.Value.TheVariants.{Text as Words}
use Rattle.sqlite_keyed.proofs.ListLemmas.{all-filter}
use Rattle.canary_tables_rows.specs.Tables.{is_caller}
use Rattle.canary_tables_rows.specs.Limits.{IsCallerWithin}
use Rattle.canary_tables_schema.specs.Cells.{caller_cells, caller_in}
use Rattle.canary_tables_read.proofs.Breaking.{unless_broken}
use Rattle.canary_tables_read.proofs.TypedRows.{told_all}
use Rattle.canary_tables_read.proofs.callers.caller_rows.Goals as goal

pub returns-clause-found : goal.returns-clause-found
returns-clause-found g c usable t has =
    IfOk-weaker c.all.result _ _
    (λ found read. told_all caller_cells caller_in (λ x. refl) (λ row. Words c.args.name.now ∷ row) c.in_ok-rows.rows.items _ found (c.in_ok-rows.ensures.found usable t has) (rw c.as_slice.ensures.value at read)) c.all.ensures.found

pub returns-clause-broken : goal.returns-clause-broken
returns-clause-broken g c usable t has is within =
    unless_broken caller_cells (λ row. Words c.args.name.now ∷ row) IsCallerWithin _ c.in_ok-rows.rows.items (c.in_ok-rows.ensures.found usable t has) (rw c.as_slice.ensures.value at (c.all.ensures.broken is)) (all-filter IsCallerWithin (is_caller c.args.name.now) t.callers within)
