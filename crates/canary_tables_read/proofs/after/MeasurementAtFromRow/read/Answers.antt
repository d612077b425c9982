use Rattle.std.proofs.Common.{◌≡◌, ◌∷◌, ap, sym, ◌∙◌, to_z, of_z, w64, rules}
use Rattle.sqlite.specs.declared.types.Value.TheVariants.{Null, Int, Text as Words}
use Rattle.canary_tables_read.proofs.ByColumns.{columns_are}
use Rattle.canary_tables_read.proofs.after.MeasurementAtFromRow.read.Goals as goal

pub returns-clause-found : goal.returns-clause-found
returns-clause-found c =
    let back : to_z w64 (of_z w64 c.in_ok-place.place) ≡ c.in_ok-place.place = search rules in
    ap (λ cells. Null ∷ Words c.args.name.now ∷ cells)
    (columns_are c.args.row.now _ c.in_ok-has_width.ensures.found (c.in_ok-number_at.ensures.found, (c.in_ok-number_at-2.ensures.found, (c.in_ok-number_at-3.ensures.found, (c.in_ok-moment_at.ensures.found, (c.in_ok-number_at-4.ensures.found, (c.in_ok-text_at.ensures.found, (c.in_ok-place.ensures.found ∙ ap Int (sym back), tt))))))))
