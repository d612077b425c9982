use Rattle.std.proofs.Common.{◌≡◌, Err, OnOk, OnErr, rules, sym, subst, ◌∙◌}
use Rattle.sqlite.specs.Held.{state}
use Rattle.sqlite.specs.Effect.{Database}
use Rattle.canary_tables_schema.specs.First.{HasFirstMeta}
use Rattle.canary_tables_read.specs.declared.fault.ReadFault.TheVariants.{Broken}
use Rattle.canary_tables_read.specs.First.{IsFirst}
use Rattle.canary_migrate.specs.Migrates.{IsRewritten, HasJudgedFirstRows}
use Rattle.canary_migrate.proofs.Migrating.{alone_row, has_row}
use Rattle.canary_migrate.proofs.migrate.migrate_rows.Goals as goal

pub rewrite-requires-clause-first : goal.rewrite-requires-clause-first
rewrite-requires-clause-first g c usable = let s = c.first_row.ensures.reads.same usable in subst IsFirst (sym s.1) (c.requires.first s.0)

pub rewrite-requires-clause-meta : goal.rewrite-requires-clause-meta
rewrite-requires-clause-meta g c usable =
    let s = c.first_row.ensures.reads.same usable in
    let rows = (state g.S.Store c.args.conn.now).now.trees 0 in
    subst (λ (db : Database). HasFirstMeta (db.trees 0)) (sym s.1) (alone_row rows c.in_ok-first_row.field-0 c.in-Alone.is (c.in_ok-first_row.ensures.found usable (c.requires.first s.0)))

pub returns-clause-done : goal.returns-clause-done
returns-clause-done g c usable =
    let s = c.first_row.ensures.reads.same (c.rewrite.ensures.held usable) in
    subst (λ (db : Database). IsRewritten db (state g.S.Store c.rewrite.new.conn).now) s.1 (c.in_ok-rewrite.ensures.done usable)

pub returns-in_err-rewrite-clause-broken : goal.returns-in_err-rewrite-clause-broken
returns-in_err-rewrite-clause-broken g c usable is =
    let broken : c.rewrite.result ≡ Err Broken = search rules in
    let mid = c.rewrite.ensures.held usable in
    let s = c.first_row.ensures.reads.same mid in
    let rows = (state g.S.Store c.args.conn.now).now.trees 0 in (
      has_row rows (alone_row rows c.in_ok-first_row.field-0 c.in-Alone.is (c.in_ok-first_row.ensures.found mid (c.requires.first s.0))),
      subst (λ (db : Database). ¬ HasJudgedFirstRows db) s.1 (c.rewrite.ensures.broken usable broken),
    )
