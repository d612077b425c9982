-- The first schema of the desk, as its files had it before revisions: a table of templates, tallies
-- that count no passes, no revisions and no bindings. Its row of meta is 1, 1.
use Rattle.std.specs.Prelude.{◌≡◌, [], ◌∷◌, ◌++◌, codes, false, List, map}
use Rattle.sqlite.specs.Order.{Row, column}
use Rattle.sqlite.specs.Table.{Table}
use Rattle.sqlite.specs.Schema.{Schema}
use Rattle.sqlite_schema.specs.declared.schema.Index.{Index}
use Rattle.canary_tables_schema.specs.Schema.{words, integer_column, maybe, keyed, key_index, index_at}
use Rattle.canary_tables_schema.specs.Schema.{meta, caller, kept, service, run, measurement, sequence, history}
use Rattle.canary_tables_schema.specs.Cells.{integer as number}

abbrev pub template : Table
template = keyed (codes "template") (words (codes "name") ∷ words (codes "spec") ∷ []) (1 ∷ []) []

abbrev pub first_tally : Table
first_tally = keyed (codes "tally")
    (words (codes "service") ∷ integer_column (codes "run") ∷ integer_column (codes "metric")
    ∷ integer_column (codes "counted") ∷ integer_column (codes "failed")
    ∷ integer_column (codes "inconclusive")
    ∷ integer_column (codes "errors") ∷ integer_column (codes "consecutive") ∷ maybe (codes "last")
    ∷ [])
    (1 ∷ 2 ∷ 3 ∷ []) []

-- the tables, in the order in which they were made

abbrev pub first_early_tables : List Table
first_early_tables =
    meta ∷ record caller { tree = 1 } ∷ record kept { tree = 3 } ∷ record template { tree = 5 }
    ∷ record service { tree = 7 } ∷ []

abbrev pub first_late_tables : List Table
first_late_tables =
    record run { tree = 9 } ∷ record first_tally { tree = 11 }
    ∷ record (measurement false) { tree = 13 } ∷ record sequence { tree = 15 }
    ∷ record (history false) { tree = 16 } ∷ []

-- the indexes that came with the keys
abbrev pub first_key_indexes : List Index
first_key_indexes =
    key_index (codes "sqlite_autoindex_caller_1") 1 (1 ∷ [])
    ∷ key_index (codes "sqlite_autoindex_kept_1") 3 (1 ∷ 2 ∷ [])
    ∷ key_index (codes "sqlite_autoindex_template_1") 5 (1 ∷ [])
    ∷ key_index (codes "sqlite_autoindex_service_1") 7 (1 ∷ [])
    ∷ key_index (codes "sqlite_autoindex_run_1") 9 (1 ∷ 2 ∷ [])
    ∷ key_index (codes "sqlite_autoindex_tally_1") 11 (1 ∷ 2 ∷ 3 ∷ [])
    ∷ key_index (codes "sqlite_autoindex_measurement_1") 13 (2 ∷ 3 ∷ 4 ∷ 5 ∷ []) ∷ []

-- and the desk's own
abbrev pub first_added_indexes : List Index
first_added_indexes =
    index_at (codes "run_closed") 17 9 (1 ∷ 5 ∷ []) false
    ∷ index_at (codes "measurement_service") 18 13 (2 ∷ []) false
    ∷ index_at (codes "history_service") 19 16 (2 ∷ []) false ∷ []

abbrev pub first_schema : Schema
first_schema =
    record {
      tables = first_early_tables ++ first_late_tables;
      indexes = first_key_indexes ++ first_added_indexes;
      views = [];
    }

-- what a row of meta shows: its id, which is the rowid, and the schema's number
abbrev pub meta_shown : Row → Row
meta_shown row = column row 0 ∷ column row 2 ∷ []

-- meta has one row, which is 1, 1
abbrev pub HasFirstMeta : List Row → Type 0
HasFirstMeta rows = map meta_shown rows ≡ (number 1 ∷ number 1 ∷ []) ∷ []
