use Rattle.std.proofs.Common.{arith, [], ◌∷◌, ◌++◌}
use Rattle.sqlite.specs.Held.{state}
use Rattle.sqlite.specs.State.{HasCleanDisk}
use Rattle.canary_tables_schema.specs.First.{first_schema}
use Rattle.canary_tables_schema.specs.Layout.{moved}
use Rattle.canary_tables_schema.specs.Schema.{schema_at}
use Rattle.canary_tables_schema.specs.Remakes.{without_lines, without_measurements, first_unindexed, without_template, without_tally, moved_with_revision, moved_with_binding, moved_tables, moved_runs_indexed, moved_measurements_indexed, old_trees, new_trees}
use Rattle.canary_tables_schema.proofs.Remaking.{joined, joined_ok}
use Rattle.canary_tables_schema.proofs.remake.remake.Goals as goal

pub returns-clause-made : goal.returns-clause-made
returns-clause-made g c clean live is =
    let clean2 : HasCleanDisk (state g.S.Store c.add_new.new.tx.conn.now) = omega (arith, c.index.ensures.writes.survives.clean, clean) in
    let clean1 : HasCleanDisk (state g.S.Store c.drop_old.new.tx.conn.now) = omega (arith, c.add_new.ensures.writes.survives.clean, clean2) in
    let clean0 : HasCleanDisk (state g.S.Store c.unindex.new.tx.conn.now) = omega (arith, c.drop_old.ensures.writes.survives.clean, clean1) in
    let one = c.in_ok-unindex.ensures.made clean0 live is in
    let two = c.in_ok-drop_old.ensures.made clean1 one.live one.schema in
    let three = c.in_ok-add_new.ensures.made clean2 two.live two.schema in
    let four = c.index.ensures.made clean three.live three.schema in
    let so1 = joined first_unindexed without_tally old_trees [] [] (state g.S.Store c.args.tx.now.conn.now) (state g.S.Store c.unindex.new.tx.conn.now) (state g.S.Store c.drop_old.new.tx.conn.now) one two in
    let so2 = joined without_tally moved_tables old_trees [] new_trees (state g.S.Store c.args.tx.now.conn.now) (state g.S.Store c.drop_old.new.tx.conn.now) (state g.S.Store c.add_new.new.tx.conn.now) so1 three in
    joined_ok c.index.result moved_tables (schema_at moved) old_trees new_trees [] (state g.S.Store c.args.tx.now.conn.now) (state g.S.Store c.add_new.new.tx.conn.now) (state g.S.Store c.index.new.tx.conn.now) so2 four
