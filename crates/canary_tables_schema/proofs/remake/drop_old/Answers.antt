use Rattle.std.proofs.Common.{arith, [], ◌∷◌, ◌++◌}
use Rattle.sqlite.specs.Held.{state}
use Rattle.sqlite.specs.State.{HasCleanDisk}
use Rattle.canary_tables_schema.specs.First.{first_schema}
use Rattle.canary_tables_schema.specs.Layout.{moved}
use Rattle.canary_tables_schema.specs.Schema.{schema_at}
use Rattle.canary_tables_schema.specs.Remakes.{without_lines, without_measurements, first_unindexed, without_template, without_tally, moved_with_revision, moved_with_binding, moved_tables, moved_runs_indexed, moved_measurements_indexed, old_trees, new_trees}
use Rattle.canary_tables_schema.proofs.Remaking.{joined, joined_ok}
use Rattle.canary_tables_schema.proofs.RemakingTexts.{drops_template, drops_tally}
use Rattle.canary_tables_schema.proofs.remake.drop_old.Goals as goal

pub returns-clause-made : goal.returns-clause-made
returns-clause-made g c clean live is =
    let clean0 : HasCleanDisk (state g.S.Store c.drop_table.new.tx.conn.now) = omega (arith, c.drop_table-2.ensures.writes.survives.clean, clean) in
    let step0 = c.in_ok-drop_table.ensures.made first_unindexed without_template old_trees drops_template clean0 live is in
    let so0 = step0 in
    let step1 = c.drop_table-2.ensures.made without_template without_tally old_trees drops_tally clean so0.live so0.schema in
    joined_ok c.drop_table-2.result without_template without_tally old_trees [] [] (state g.S.Store c.args.tx.now.conn.now) (state g.S.Store c.drop_table.new.tx.conn.now) (state g.S.Store c.drop_table-2.new.tx.conn.now) so0 step1
