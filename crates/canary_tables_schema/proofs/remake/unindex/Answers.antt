use Rattle.std.proofs.Common.{arith, [], ◌∷◌, ◌++◌}
use Rattle.sqlite.specs.Held.{state}
use Rattle.sqlite.specs.State.{HasCleanDisk}
use Rattle.canary_tables_schema.specs.First.{first_schema}
use Rattle.canary_tables_schema.specs.Layout.{moved}
use Rattle.canary_tables_schema.specs.Schema.{schema_at}
use Rattle.canary_tables_schema.specs.Remakes.{without_lines, without_measurements, first_unindexed, without_template, without_tally, moved_with_revision, moved_with_binding, moved_tables, moved_runs_indexed, moved_measurements_indexed, old_trees, new_trees}
use Rattle.canary_tables_schema.proofs.Remaking.{joined, joined_ok}
use Rattle.canary_tables_schema.proofs.RemakingTexts.{drops_lines, drops_measurements, drops_runs}
use Rattle.canary_tables_schema.proofs.remake.unindex.Goals as goal

pub returns-clause-made : goal.returns-clause-made
returns-clause-made g c clean live is =
    let clean1 : HasCleanDisk (state g.S.Store c.drop_index-2.new.tx.conn.now) = omega (arith, c.drop_index-3.ensures.writes.survives.clean, clean) in
    let clean0 : HasCleanDisk (state g.S.Store c.drop_index.new.tx.conn.now) = omega (arith, c.drop_index-2.ensures.writes.survives.clean, clean1) in
    let step0 = c.in_ok-drop_index.ensures.made first_schema without_lines old_trees drops_lines clean0 live is in
    let so0 = step0 in
    let step1 = c.in_ok-drop_index-2.ensures.made without_lines without_measurements old_trees drops_measurements clean1 so0.live so0.schema in
    let so1 = joined without_lines without_measurements old_trees [] [] (state g.S.Store c.args.tx.now.conn.now) (state g.S.Store c.drop_index.new.tx.conn.now) (state g.S.Store c.drop_index-2.new.tx.conn.now) so0 step1 in
    let step2 = c.drop_index-3.ensures.made without_measurements first_unindexed old_trees drops_runs clean so1.live so1.schema in
    joined_ok c.drop_index-3.result without_measurements first_unindexed old_trees [] [] (state g.S.Store c.args.tx.now.conn.now) (state g.S.Store c.drop_index-2.new.tx.conn.now) (state g.S.Store c.drop_index-3.new.tx.conn.now) so1 step2
