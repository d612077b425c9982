-- What stored rows are read as.
use Rattle.std.specs.Prelude.{◌≡◌}
use Rattle.sqlite.specs.Effect.{Database}
use Rattle.canary_tables_rows.specs.Tables.{Tables}
use Rattle.canary_tables_schema.specs.Cells.{tables_in}
use Rattle.canary_tables_schema.specs.Stores.{IsHeld}

-- rows that a database holds are read back as they are
abbrev pub OneReading : Type 0
OneReading = (db : Database) (t : Tables) → IsHeld db t → tables_in db ≡ t
