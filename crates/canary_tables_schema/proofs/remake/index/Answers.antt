use Rattle.std.proofs.Common.{arith, [], ◌∷◌, ◌++◌}
use Rattle.sqlite.specs.Held.{state}
use Rattle.sqlite.specs.State.{HasCleanDisk}
use Rattle.canary_tables_schema.specs.First.{first_schema}
use Rattle.canary_tables_schema.specs.Layout.{moved}
use Rattle.canary_tables_schema.specs.Schema.{schema_at}
use Rattle.canary_tables_schema.specs.Remakes.{without_lines, without_measurements, first_unindexed, without_template, without_tally, moved_with_revision, moved_with_binding, moved_tables, moved_runs_indexed, moved_measurements_indexed, old_trees, new_trees}
use Rattle.canary_tables_schema.proofs.Remaking.{joined, joined_ok}
use Rattle.canary_tables_schema.proofs.RemakingTexts.{adds_run_closed, adds_measurement_service, adds_history_service}
use Rattle.canary_tables_schema.proofs.remake.index.Goals as goal

pub returns-clause-made : goal.returns-clause-made
returns-clause-made g c clean live is =
    let clean1 : HasCleanDisk (state g.S.Store c.add_index-2.new.tx.conn.now) = omega (arith, c.add_index-3.ensures.writes.survives.clean, clean) in
    let clean0 : HasCleanDisk (state g.S.Store c.add_index.new.tx.conn.now) = omega (arith, c.add_index-2.ensures.writes.survives.clean, clean1) in
    let step0 = c.in_ok-add_index.ensures.made moved_tables moved_runs_indexed (old_trees ++ new_trees) adds_run_closed clean0 live is in
    let so0 = step0 in
    let step1 = c.in_ok-add_index-2.ensures.made moved_runs_indexed moved_measurements_indexed (old_trees ++ new_trees) adds_measurement_service clean1 so0.live so0.schema in
    let so1 = joined moved_runs_indexed moved_measurements_indexed (old_trees ++ new_trees) [] [] (state g.S.Store c.args.tx.now.conn.now) (state g.S.Store c.add_index.new.tx.conn.now) (state g.S.Store c.add_index-2.new.tx.conn.now) so0 step1 in
    let step2 = c.add_index-3.ensures.made moved_measurements_indexed (schema_at moved) (old_trees ++ new_trees) adds_history_service clean so1.live so1.schema in
    joined_ok c.add_index-3.result moved_measurements_indexed (schema_at moved) (old_trees ++ new_trees) [] [] (state g.S.Store c.args.tx.now.conn.now) (state g.S.Store c.add_index-2.new.tx.conn.now) (state g.S.Store c.add_index-3.new.tx.conn.now) so1 step2
