-- What the texts mean that make the first schema the desk's.
use Rattle.std.proofs.Common.{◌≡◌, ◌++◌, [], ◌∷◌, codes, refl, false}
use Rattle.sqlite_tied.specs.Compute.{everything}
use Rattle.sqlite.specs.Listing.{understood}
use Rattle.canary_tables_schema.specs.First.{template, first_tally, first_schema}
use Rattle.canary_tables_schema.specs.Layout.{moved}
use Rattle.canary_tables_schema.specs.Schema.{revision, binding, tally, run, measurement, history, by, schema_at}
use Rattle.canary_tables_schema.specs.Remakes.{DropsTable, DropsIndex, AddsTable, AddsIndex, without_lines, without_measurements, first_unindexed, without_template, without_tally, moved_with_revision, moved_with_binding, moved_tables, moved_runs_indexed, moved_measurements_indexed, old_trees, new_trees}

pub drops_lines : DropsIndex first_schema (codes "DROP INDEX history_service") without_lines old_trees
unfolding understood everything
drops_lines = record { at = 9; index = record (by (codes "history_service") 16 (2 ∷ [])) { tree = 19 }; command = refl; plain = (refl, refl); there = refl; next_is = refl; among = refl }

pub drops_measurements : DropsIndex without_lines (codes "DROP INDEX measurement_service") without_measurements old_trees
unfolding understood everything
drops_measurements = record { at = 8; index = record (by (codes "measurement_service") 13 (2 ∷ [])) { tree = 18 }; command = refl; plain = (refl, refl); there = refl; next_is = refl; among = refl }

pub drops_runs : DropsIndex without_measurements (codes "DROP INDEX run_closed") first_unindexed old_trees
unfolding understood everything
drops_runs = record { at = 7; index = record (by (codes "run_closed") 9 (1 ∷ 5 ∷ [])) { tree = 17 }; command = refl; plain = (refl, refl); there = refl; next_is = refl; among = refl }

pub drops_template : DropsTable first_unindexed (codes "DROP TABLE template") without_template old_trees
unfolding understood everything
drops_template = record { at = 3; table = record template { tree = 5 }; command = refl; plain = (refl, refl); there = refl; uncounted = refl; idle = refl; next_is = refl; among = refl }

pub drops_tally : DropsTable without_template (codes "DROP TABLE tally") without_tally old_trees
unfolding understood everything
drops_tally = record { at = 5; table = record first_tally { tree = 11 }; command = refl; plain = (refl, refl); there = refl; uncounted = refl; idle = refl; next_is = refl; among = refl }

pub adds_revision : AddsTable without_tally (codes "CREATE TABLE revision (name TEXT NOT NULL, revision INTEGER NOT NULL, spec TEXT NOT NULL, PRIMARY KEY (name, revision)) STRICT") moved_with_revision old_trees 17
unfolding understood everything
adds_revision = record { table = revision; command = refl; whole = refl; plain = (refl, refl); defined = refl; counted = refl; next_is = refl; tree_is = refl; among = refl }

pub adds_binding : AddsTable moved_with_revision (codes "CREATE TABLE binding (service TEXT NOT NULL REFERENCES service (name), run INTEGER NOT NULL, template TEXT NOT NULL, revision INTEGER NOT NULL, PRIMARY KEY (service, run, template)) STRICT") moved_with_binding (old_trees ++ 17 ∷ []) 19
unfolding understood everything
adds_binding = record { table = binding; command = refl; whole = refl; plain = (refl, refl); defined = refl; counted = refl; next_is = refl; tree_is = refl; among = refl }

pub adds_tally : AddsTable moved_with_binding (codes "CREATE TABLE tally (service TEXT NOT NULL, run INTEGER NOT NULL, metric INTEGER NOT NULL, counted INTEGER NOT NULL, failed INTEGER NOT NULL, inconclusive INTEGER NOT NULL, errors INTEGER NOT NULL, consecutive INTEGER NOT NULL, passes INTEGER NOT NULL, last INTEGER, PRIMARY KEY (service, run, metric)) STRICT") moved_tables (old_trees ++ 17 ∷ 19 ∷ []) 21
unfolding understood everything
adds_tally = record { table = tally; command = refl; whole = refl; plain = (refl, refl); defined = refl; counted = refl; next_is = refl; tree_is = refl; among = refl }

pub adds_run_closed : AddsIndex moved_tables (codes "CREATE INDEX run_closed ON run (service, closed)") moved_runs_indexed (old_trees ++ new_trees)
unfolding understood everything
adds_run_closed = record { at = 4; table = record run { tree = 9 }; index = by (codes "run_closed") 9 (1 ∷ 5 ∷ []); command = refl; whole = refl; plain = (refl, refl); there = refl; defined = refl; next_is = refl; among = refl }

pub adds_measurement_service : AddsIndex moved_runs_indexed (codes "CREATE INDEX measurement_service ON measurement (service)") moved_measurements_indexed (old_trees ++ new_trees)
unfolding understood everything
adds_measurement_service = record { at = 5; table = record (measurement false) { tree = 13 }; index = by (codes "measurement_service") 13 (2 ∷ []); command = refl; whole = refl; plain = (refl, refl); there = refl; defined = refl; next_is = refl; among = refl }

pub adds_history_service : AddsIndex moved_measurements_indexed (codes "CREATE INDEX history_service ON history (service)") (schema_at moved) (old_trees ++ new_trees)
unfolding understood everything
adds_history_service = record { at = 7; table = record (history false) { tree = 16 }; index = by (codes "history_service") 16 (2 ∷ []); command = refl; whole = refl; plain = (refl, refl); there = refl; defined = refl; next_is = refl; among = refl }
