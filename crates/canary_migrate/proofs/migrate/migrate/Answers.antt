use Rattle.std.proofs.Common.{rules, sym, subst, ◌∙◌}
use Rattle.sqlite.specs.Held.{state}
use Rattle.canary_tables_schema.specs.Formed.{HasRisingTables}
use Rattle.canary_tables_schema.specs.Numbered.{IsOpenedAnew}
use Rattle.canary_tables_schema.specs.Stores.{IsUsable}
use Rattle.canary_migrate.proofs.Migrating.{migrated_so, other_so, broken_so, left_so, left_anew}
use Rattle.canary_migrate.proofs.migrate.migrate.Goals as goal

pub migrate_rows-requires-clause-first : goal.migrate_rows-requires-clause-first
migrate_rows-requires-clause-first g c =
    let rising : IsUsable (state g.S.Store c.in-Ok.opened.0) → HasRisingTables (state g.S.Store c.in-Ok.opened.0).now = search rules in
    λ usable. record { schema = sym c.schema-2.ensures.value ∙ c.is_first-2.ensures.0 (search rules); rising = rising usable }

pub returns-then-not-is_first-2-clause-left : goal.returns-then-not-is_first-2-clause-left
returns-then-not-is_first-2-clause-left g c = left_anew (state g.S.Store c.args.conn) (state g.S.Store c.in-Ok.opened.0) (search rules)

pub returns-in-Ok-migrate_rows-clause-done : goal.returns-in-Ok-migrate_rows-clause-done
returns-in-Ok-migrate_rows-clause-done g c =
    migrated_so c.judging.ensures c.reads_back.ensures c.one_reading.ensures (state g.S.Store c.args.conn) (state g.S.Store c.in-Ok.opened.0) (state g.S.Store c.migrate_rows.new.conn) (search rules) c.migrate_rows.ensures.held c.in-Ok-migrate_rows.ensures.done

pub returns-in-Err-migrate_rows-clause-other : goal.returns-in-Err-migrate_rows-clause-other
returns-in-Err-migrate_rows-clause-other g c =
    λ is. other_so (state g.S.Store c.args.conn) (state g.S.Store c.in-Ok.opened.0) (state g.S.Store c.migrate_rows.new.conn) (search rules) c.migrate_rows.ensures.held (search rules)

pub returns-in-Err-migrate_rows-clause-broken : goal.returns-in-Err-migrate_rows-clause-broken
returns-in-Err-migrate_rows-clause-broken g c =
    λ is. broken_so c.judging.ensures c.exactly_those.ensures (state g.S.Store c.args.conn) (state g.S.Store c.in-Ok.opened.0) (state g.S.Store c.migrate_rows.new.conn) (sym c.schema.ensures.value ∙ c.is_first.ensures.0 (search rules)) (search rules) c.migrate_rows.ensures.held (search rules)

pub returns-in-Err-migrate_rows-clause-left : goal.returns-in-Err-migrate_rows-clause-left
returns-in-Err-migrate_rows-clause-left g c =
    left_so (state g.S.Store c.args.conn) (state g.S.Store c.in-Ok.opened.0) (state g.S.Store c.migrate_rows.new.conn) (search rules) c.migrate_rows.ensures.held (search rules)
