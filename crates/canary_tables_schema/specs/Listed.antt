-- What a store lists before there is a connection over it.
use Rattle.std.specs.Prelude.{◌≡◌, ℕ}
use Rattle.sqlite.specs.Tree.{Trees}
use Rattle.sqlite.specs.Schema.{Schema}
use Rattle.sqlite_catalog.specs.Listing.{Lists}
use Rattle.sqlite_trees.specs.Objects.{catalog_tree}
use Rattle.canary_tables_schema.specs.Cells.{tally_tree}

-- the trees list a schema whose tallies stand in this tree
abbrev pub ListsTally : Trees → ℕ → Type 0
ListsTally trees tree =
    (schema : Schema) × Lists (trees catalog_tree) schema × (tree ≡ tally_tree schema)
