use Rattle.std.proofs.Common.{◌≡◌, ◌∷◌, ◌∙◌, option_map, refl, ap, rules}
use Rattle.canary_tables_rows.specs.declared.rows.CallerRow.{CallerRow}
use Rattle.sqlite.specs.declared.types.Value.TheVariants.{Text as Words}
use Rattle.sqlite_keyed.proofs.ListLemmas.{all-filter}
use Rattle.canary_tables_rows.specs.Tables.{is_caller}
use Rattle.canary_tables_rows.specs.Limits.{IsCallerWithin}
use Rattle.canary_tables_schema.specs.Cells.{caller_cells, caller_in}
use Rattle.canary_tables_read.proofs.Breaking.{unless_broken}
use Rattle.canary_tables_read.proofs.TypedRows.{same_first}
use Rattle.canary_tables_read.proofs.callers.settled.Goals as goal

pub returns-in_err-found-clause-broken : goal.returns-in_err-found-clause-broken
returns-in_err-found-clause-broken g c usable t has is within =
    unless_broken caller_cells (λ row. Words c.args.caller.now ∷ row) IsCallerWithin _ c.in_ok-rows.rows.items (c.in_ok-rows.ensures.found usable t has) (rw c.as_slice.ensures.value at (c.first.ensures.broken (search rules))) (all-filter IsCallerWithin (is_caller c.args.caller.now) t.callers within)

pub returns-clause-found : goal.returns-clause-found
returns-clause-found g c usable t has =
    let told : c.map.result ≡ option_map (λ (row : CallerRow). row.settled) c.in_ok-found.found = search rules in
    told ∙ ap (option_map (λ (row : CallerRow). row.settled))
    (same_first caller_cells caller_in (λ x. refl) (λ row. Words c.args.caller.now ∷ row) c.in_ok-rows.rows.items _ c.in_ok-found.found (c.in_ok-rows.ensures.found usable t has) (rw c.as_slice.ensures.value at c.in_ok-found.ensures.found))
