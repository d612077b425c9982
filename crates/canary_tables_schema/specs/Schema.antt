-- The schema of the desk: ten tables, the table in which SQLite counts places, and three indexes.
use Rattle.std.specs.Prelude.{true, false, Bool, [], ◌∷◌, ◌++◌, ◌+◌, Some, None, codes, List, ℕ, map}
use Rattle.sqlite.specs.Collation.TheVariants.{Binary}
use Rattle.sqlite.specs.declared.types.Value.TheVariants.{Null}
use Rattle.sqlite.specs.Table.{Table}
use Rattle.sqlite.specs.Schema.{Schema}
use Rattle.sqlite.specs.Kind.TheVariants.{Any, Integer, Text}
use Rattle.sqlite.specs.Change.{created, indexed}
use Rattle.sqlite_schema.specs.declared.schema.Column.{Column}
use Rattle.sqlite_schema.specs.declared.schema.Index.{Index}
use Rattle.sqlite_schema.specs.declared.schema.Reference.{Reference}
use Rattle.sqlite_schema.specs.declared.schema.Action.TheVariants.{NoAction}
use Rattle.sqlite_value.specs.Keys.{plain}
use Rattle.canary_tables_schema.specs.declared.numbers.Numbers.{Numbers}
use Rattle.canary_tables_schema.specs.Layout.{Layout, numbers_at}

abbrev pub words : List ℕ → Column
words name =
    record {
      name = name;
      kind = Text;
      is_strict = true;
      not_null = true;
      default = Null;
      collation
          = Binary;
    }

abbrev pub integer_column : List ℕ → Column
integer_column name =
    record {
      name = name;
      kind = Integer;
      is_strict = true;
      not_null = true;
      default = Null;
      collation = Binary;
    }

-- a whole number or none
abbrev pub maybe : List ℕ → Column
maybe name = record (integer_column name) { not_null = false }

-- the rowid under its own name, which SQLite never leaves empty, and whether it is declared so
abbrev pub place : Bool → Column
place is_placed = record (integer_column (codes "place")) { not_null = is_placed }

abbrev pub refers_to : ℕ → List ℕ → Reference
refers_to column parent =
    record {
      columns = column ∷ [];
      parent = parent;
      parent_columns = codes "name" ∷ [];
      on_delete = NoAction;
      on_update = NoAction;
      is_deferred = false;
    }

-- a table with a key over these columns
abbrev pub keyed : List ℕ → List Column → List ℕ → List Reference → Table
keyed name columns key references = record {
  name = name;
  tree = 0;
  columns = columns;
  key = None;
  primary = key;
  uniques = key ∷ [];
  orders = plain ∷ [];
  checks = [];
  references = references;
  computed = [];
  stamps = record { places = []; terms = []; formats = [] };
  is_counted = false;
}

-- a table whose first column is its rowid, under AUTOINCREMENT
abbrev pub counted : List ℕ → Bool → List Column → List (List ℕ) → Table
counted name is_placed columns uniques = record {
  name = name;
  tree = 0;
  columns = place is_placed ∷ columns;
  key = Some 0;
  primary = 0 ∷ [];
  uniques = uniques;
  orders = map (λ _. plain) uniques;
  checks = [];
  references = [];
  computed = [];
  stamps = record { places = []; terms = []; formats = [] };
  is_counted = true;
}

abbrev pub meta : Table
meta = record {
  name = codes "meta";
  tree = 0;
  columns = integer_column (codes "id") ∷ integer_column (codes "schema") ∷ [];
  key = Some 0;
  primary = 0 ∷ [];
  uniques = [];
  orders = [];
  checks = [];
  references = [];
  computed = [];
  stamps = record { places = []; terms = []; formats = [] };
  is_counted = false;
}

abbrev pub caller : Table
caller = keyed (codes "caller") (words (codes "name") ∷ integer_column (codes "settled") ∷ []) (1
    ∷ []) []

abbrev pub kept : Table
kept =
    keyed (codes "kept")
    (words (codes "caller") ∷ integer_column (codes "number") ∷ words (codes "command")
    ∷ integer_column (codes "status") ∷ words (codes "body") ∷ []) (1 ∷ 2 ∷ [])
    (refers_to 1 (codes "caller") ∷ [])

abbrev pub service : Table
service = keyed (codes "service")
    (words (codes "name") ∷ words (codes "spec") ∷ words (codes "stable") ∷ words (codes "version")
    ∷ integer_column (codes "state") ∷ integer_column (codes "step")
    ∷ integer_column (codes "entered")
    ∷ integer_column (codes "hold") ∷ integer_column (codes "background")
    ∷ integer_column (codes "runs")
    ∷ integer_column (codes "last") ∷ [])
    (1 ∷ []) []

abbrev pub run : Table
run = keyed (codes "run")
    (words (codes "service") ∷ integer_column (codes "number") ∷ maybe (codes "step")
    ∷ integer_column (codes "started") ∷ maybe (codes "closed") ∷ integer_column (codes "outside")
    ∷ integer_column (codes "verdict") ∷ [])
    (1 ∷ 2 ∷ []) (refers_to 1 (codes "service") ∷ [])

abbrev pub measurement : Bool → Table
measurement is_placed = counted (codes "measurement") is_placed
    (words (codes "service") ∷ integer_column (codes "run") ∷ integer_column (codes "metric")
    ∷ integer_column (codes "ordinal") ∷ integer_column (codes "taken")
    ∷ integer_column (codes "phase")
    ∷ words (codes "outcome") ∷ [])
    ((2 ∷ 3 ∷ 4 ∷ 5 ∷ []) ∷ [])

abbrev pub history : Bool → Table
history is_placed =
    counted (codes "history") is_placed
    (words (codes "service") ∷ integer_column (codes "moment") ∷ words (codes "line") ∷ []) []

abbrev pub revision : Table
revision =
    keyed (codes "revision")
    (words (codes "name") ∷ integer_column (codes "revision") ∷ words (codes "spec") ∷ []) (1 ∷ 2
    ∷ []) []

abbrev pub binding : Table
binding =
    keyed (codes "binding")
    (words (codes "service") ∷ integer_column (codes "run") ∷ words (codes "template")
    ∷ integer_column (codes "revision") ∷ []) (1 ∷ 2 ∷ 3 ∷ []) (refers_to 1 (codes "service") ∷ [])

abbrev pub tally : Table
tally = keyed (codes "tally")
    (words (codes "service") ∷ integer_column (codes "run") ∷ integer_column (codes "metric")
    ∷ integer_column (codes "counted") ∷ integer_column (codes "failed")
    ∷ integer_column (codes "inconclusive")
    ∷ integer_column (codes "errors") ∷ integer_column (codes "consecutive")
    ∷ integer_column (codes "passes")
    ∷ maybe (codes "last") ∷ [])
    (1 ∷ 2 ∷ 3 ∷ []) []

abbrev pub any_column : List ℕ → Column
any_column name =
    record {
      name = name;
      kind = Any;
      is_strict = false;
      not_null = false;
      default = Null;
      collation
          = Binary;
    }

-- the table in which places are counted, which comes with the first table that has them
abbrev pub sequence : Table
sequence = record {
  name = codes "sqlite_sequence";
  tree = 0;
  columns = any_column (codes "name") ∷ any_column (codes "seq") ∷ [];
  key = None;
  primary = [];
  uniques = [];
  orders = [];
  checks = [];
  references = [];
  computed = [];
  stamps = record { places = []; terms = []; formats = [] };
  is_counted = false;
}

abbrev pub by : List ℕ → ℕ → List ℕ → Index
by name table columns =
    record {
      name = name;
      tree = 0;
      table = table;
      columns = columns;
      order = plain;
      is_unique = false;
    }

-- an index by these columns of a table
abbrev pub index_at : List ℕ → ℕ → ℕ → List ℕ → Bool → Index
index_at name tree table columns is_unique =
    record {
      name = name;
      tree = tree;
      table = table;
      columns = columns;
      order = plain;
      is_unique = is_unique;
    }

-- that of a key, which stands after its table
abbrev pub key_index : List ℕ → ℕ → List ℕ → Index
key_index name table columns = index_at name (table + 1) table columns true

abbrev pub no_schema : Schema
no_schema = record { tables = []; indexes = []; views = [] }

-- The tables and indexes of a desk, in the order in which they are made.

abbrev pub early_tables : Numbers → List Table
early_tables n =
    meta ∷ record caller { tree = 1 } ∷ record kept { tree = 3 }
    ∷ record service { tree = n.service } ∷ record run { tree = n.run } ∷ []

abbrev pub late_tables : Numbers → List Table
late_tables n =
    record (measurement n.is_placed) { tree = n.measurement }
    ∷ record sequence { tree = n.sequence }
    ∷ record (history n.is_placed) { tree = n.history } ∷ record revision { tree = n.revision }
    ∷ record binding { tree = n.binding } ∷ record tally { tree = n.tally } ∷ []

-- the indexes that come with the keys
abbrev pub key_indexes : Numbers → List Index
key_indexes n =
    key_index (codes "sqlite_autoindex_caller_1") 1 (1 ∷ [])
    ∷ key_index (codes "sqlite_autoindex_kept_1") 3 (1 ∷ 2 ∷ [])
    ∷ key_index (codes "sqlite_autoindex_service_1") n.service (1 ∷ [])
    ∷ key_index (codes "sqlite_autoindex_run_1") n.run (1 ∷ 2 ∷ [])
    ∷ key_index (codes "sqlite_autoindex_measurement_1") n.measurement (2 ∷ 3 ∷ 4 ∷ 5 ∷ [])
    ∷ key_index (codes "sqlite_autoindex_revision_1") n.revision (1 ∷ 2 ∷ [])
    ∷ key_index (codes "sqlite_autoindex_binding_1") n.binding (1 ∷ 2 ∷ 3 ∷ [])
    ∷ key_index (codes "sqlite_autoindex_tally_1") n.tally (1 ∷ 2 ∷ 3 ∷ []) ∷ []

-- and the desk's own
abbrev pub added_indexes : Numbers → List Index
added_indexes n =
    index_at (codes "run_closed") n.indexes n.run (1 ∷ 5 ∷ []) false
    ∷ index_at (codes "measurement_service") (n.indexes + 1) n.measurement (2 ∷ []) false
    ∷ index_at (codes "history_service") (n.indexes + 2) n.history (2 ∷ []) false ∷ []

abbrev pub schema_of : Numbers → Schema
schema_of n =
    record {
      tables = early_tables n ++ late_tables n;
      indexes = key_indexes n ++ added_indexes n;
      views = [];
    }

-- the schema of a desk in this layout
abbrev pub schema_at : Layout → Schema
schema_at at = schema_of (numbers_at at)

-- The schema as a desk's tables are made, one after another, and then its indexes.

abbrev pub with_meta : Schema
with_meta = created no_schema meta

abbrev pub with_caller : Schema
with_caller = created with_meta caller

abbrev pub with_kept : Schema
with_kept = created with_caller kept

abbrev pub with_service : Schema
with_service = created with_kept service

abbrev pub with_run : Schema
with_run = created with_service run

abbrev pub with_measurement : Schema
with_measurement = created (created with_run (measurement true)) sequence

abbrev pub with_history : Schema
with_history = created with_measurement (history true)

abbrev pub with_revision : Schema
with_revision = created with_history revision

abbrev pub with_binding : Schema
with_binding = created with_revision binding

abbrev pub with_tally : Schema
with_tally = created with_binding tally

abbrev pub with_runs_indexed : Schema
with_runs_indexed =
    indexed with_tally (record run { tree = 7 }) (by (codes "run_closed") 7 (1 ∷ 5 ∷ []))

abbrev pub with_measurements_indexed : Schema
with_measurements_indexed =
    indexed with_runs_indexed (record (measurement true) { tree = 9 })
    (by (codes "measurement_service") 9 (2 ∷ []))
