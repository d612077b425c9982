-- The columns of a table and the indexes, as their layouts give them.
use Rattle.std.specs.Prelude.{List, [], ℕ, map, Option, Bool, false}
use Rattle.sqlite_schema.specs.declared.schema.Index.{Index}
use Rattle.sqlite.specs.Table.{Table}
use Rattle.sqlite_schema.specs.declared.schema.Column.{Column}
use Rattle.sqlite_schema.specs.declared.schema.Kind.{Kind}
use Rattle.sqlite.specs.Collation.TheVariants.{Binary}
use Rattle.sqlite.specs.declared.types.Value.TheVariants.{Null}
use Rattle.canary_tables_schema.specs.declared.columns.ColumnLayout.{ColumnLayout}
use Rattle.canary_tables_schema.specs.declared.columns.ColumnLayout.TheVariants as layout
use Rattle.canary_tables_schema.specs.declared.columns.IndexLayout.{IndexLayout}
use Rattle.canary_tables_schema.specs.declared.columns.IndexLayout.TheVariants as index
use Rattle.canary_tables_schema.specs.Schema.{words, integer_column, maybe, place, any_column, index_at, key_index}

abbrev pub column_at : List ℕ → Kind → Bool → Bool → Column
column_at name kind is_strict not_null =
    record {
      name = name;
      kind = kind;
      is_strict = is_strict;
      not_null = not_null;
      default = Null;
      collation = Binary;
    }

abbrev pub column_of : ColumnLayout → Column
column_of (layout.Words name) = words name.now
column_of (layout.Whole name) = integer_column name.now
column_of (layout.Maybe name) = maybe name.now
column_of (layout.Place is_placed) = place is_placed
column_of (layout.Any name) = any_column name.now

abbrev pub columns_of : List ColumnLayout → List Column
columns_of = map column_of

-- the table, but with this name and tree, this key, and no rules on rows
abbrev pub formed : Table → List ℕ → ℕ → Option ℕ → List ℕ → Bool → Table
formed t name tree key primary is_counted =
    record t {
      name = name;
      tree = tree;
      key = key;
      primary = primary;
      checks = [];
      computed = [];
      stamps = record { places = []; terms = []; formats = [] };
      is_counted = is_counted;
    }

abbrev pub index_of : IndexLayout → Index
index_of (index.Key name table columns) = key_index name.now table columns.now
index_of (index.Order name tree table columns) = index_at name.now tree table columns.now false

abbrev pub indexes_of : List IndexLayout → List Index
indexes_of = map index_of
