-- The cells of a part of a row.
use Rattle.std.specs.Prelude.{[], ◌∷◌}
use Rattle.sqlite_value.specs.declared.value.Value.TheVariants.{Text as Words}
use Rattle.sqlite_value.specs.Order.{Row}
use Rattle.canary_metric.specs.Counts.{Counts}
use Rattle.canary_tables_rows.specs.declared.rows.ServiceColumns.{ServiceColumns}
use Rattle.canary_tables_schema.specs.Cells.{integer, whole_or_null}

abbrev pub standing_cells : ServiceColumns → Row
standing_cells s =
    Words s.stable ∷ Words s.version ∷ integer s.state ∷ integer s.step ∷ integer s.entered
    ∷ integer s.hold
    ∷ integer s.background ∷ integer s.runs ∷ integer s.last ∷ []

abbrev pub counts_cells : Counts → Row
counts_cells c =
    integer c.counted ∷ integer c.failed ∷ integer c.inconclusive ∷ integer c.errors
    ∷ integer c.consecutive
    ∷ integer c.passes ∷ whole_or_null c.last ∷ []
