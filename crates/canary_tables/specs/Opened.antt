-- What a file is opened as, by the first contents of the file and its log.
use Rattle.std.specs.Prelude.{◌≡◌, ◌⊎◌}
use Rattle.sqlite.specs.Files.{AreFoundIn, IsEmpty}
use Rattle.sqlite.specs.State.{State}
use Rattle.sqlite_catalog.specs.Listing.{IsSound}
use Rattle.sqlite_trees.specs.Tree.{Trees}
use Rattle.sqlite_wal.specs.Recovery.{Image}
use Rattle.canary_once.specs.Contents.{no_contents}
use Rattle.canary_tables_file.specs.Found.{HaveNoDatabase}
use Rattle.canary_tables_schema.specs.Schema.{no_schema}
use Rattle.canary_tables.specs.Desk.{contents_in}

-- the trees are those that the first contents stand for; if these have no database, they are empty
pub record AreOpenedAt (first : Image) (trees : Trees) : Type 0 where
  pub found : ¬ HaveNoDatabase first → AreFoundIn first trees
  pub made : HaveNoDatabase first → IsEmpty trees

-- The book has these trees, or they have no table, and the book contains nothing.
abbrev pub IsOpenedAt : Image → State → Type 0
IsOpenedAt first s =
    (trees : Trees) × AreOpenedAt first trees
    × ((s.now.trees ≡ trees) ⊎ (IsSound no_schema trees × (contents_in s ≡ no_contents)))
