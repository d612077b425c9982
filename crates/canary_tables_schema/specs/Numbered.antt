-- What a store shows once it is opened anew.
use Rattle.std.specs.Prelude.{◌≡◌, IsTrue}
use Rattle.sqlite.specs.State.{State}
use Rattle.sqlite_trees.specs.View.{View, IsClean}
use Rattle.canary_tables_schema.specs.Formed.{IsRising}
use Rattle.canary_tables_schema.specs.Stores.{IsUsable}

-- the connection was usable before, and shows the same database, whose rows stand in the order of
-- their rowids if it is a desk's
pub record IsOpenedAnew (old new : State) : Type 0 where
  pub was : IsUsable old
  pub same : new.now ≡ old.now
  pub numbered : IsRising new.now

-- a store that is left alone, and is still open, has the trees that the connection showed
abbrev pub IsLeft : State → View → Type 0
IsLeft old left = IsClean left → IsTrue left.is_open → IsUsable old × (left.trees ≡ old.now.trees)
