-- The measurements of one metric of a run.
use Rattle.std.specs.Prelude.{ℕ, ◌==◌, ◌&&◌, Bool, List}
use Rattle.std.specs.Str.{bytes_eq}
use Rattle.canary_tables_rows.specs.declared.rows.MeasurementRow.{MeasurementRow}

abbrev pub is_measurement_in : List ℕ → ℕ → ℕ → MeasurementRow → Bool
is_measurement_in service run metric row =
    bytes_eq service row.service && (run == row.run && metric == row.metric)
