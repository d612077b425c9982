-- What is added to a desk's tables that were the first schema's.
use Rattle.std.specs.Prelude.{◌≡◌, ◌++◌, ℕ, List, [], ◌∷◌, map, IsTrue}
use Rattle.sqlite.specs.Effect.{IsDatabase}
use Rattle.sqlite.specs.State.{State}
use Rattle.canary_tables_rows.specs.Tables.{Tables}
use Rattle.canary_tables_schema.specs.Cells.{meta_rows}
use Rattle.canary_tables_schema.specs.Layout.{moved}
use Rattle.canary_tables_schema.specs.Remakes.{AreKept, AreEmpty, new_trees}
use Rattle.canary_tables_schema.specs.Schema.{schema_at}
use Rattle.canary_tables_read.specs.declared.first.TemplateRow.{TemplateRow}
use Rattle.canary_tables_read.specs.declared.first.FirstTally.{FirstTally}
use Rattle.canary_migrate.specs.Migrated.{first_revision, all_bindings, tally_of}

-- caller, kept, service, run, measurement and history
abbrev pub kept_trees : List ℕ
kept_trees = 1 ∷ 3 ∷ 7 ∷ 9 ∷ 13 ∷ 16 ∷ []

-- the tables are a desk's now: those that it had keep their rows, and the new ones are empty
pub record IsMade (old new : State) : Type 0 where
  pub live : IsTrue new.in_transaction
  pub sound : IsDatabase new.now
  pub schema : new.now.schema ≡ schema_at moved
  pub meta : new.now.trees 0 ≡ meta_rows
  pub kept : AreKept kept_trees old.now.trees new.now.trees
  pub none : AreEmpty new_trees new.now.trees

-- the tables with these templates and tallies, and what services and runs are bound to
abbrev pub filled : List TemplateRow → List FirstTally → Tables → Tables
filled templates tallies t =
    record t {
      revisions = t.revisions ++ map first_revision templates;
      bindings = t.bindings ++ all_bindings t.services t.runs;
      tallies = t.tallies ++ map (tally_of t.measurements) tallies;
    }
