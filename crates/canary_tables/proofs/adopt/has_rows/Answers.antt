use Rattle.std.proofs.Common.{◌≡◌, rules, sym, subst, IsTrue, Err}
use Rattle.sqlite.specs.Held.{state}
use Rattle.sqlite.specs.Effect.{Database}
use Rattle.canary_tables_schema.specs.Formed.{IsFormed, HasRows, HasWholeTallies}
use Rattle.canary_tables_read.specs.declared.fault.ReadFault.TheVariants.{Broken}
use Rattle.canary_tables.proofs.Adopting.{alone_row, formed, has_tables, whole}
use Rattle.canary_tables.proofs.adopt.has_rows.Goals as goal

pub returns-then-not-is_whole-clause-broken : goal.returns-then-not-is_whole-clause-broken
returns-then-not-is_whole-clause-broken g c = λ usable _.
    let db = (state g.S.Store c.args.conn.now).now in
    let was = (c.desk_row.ensures.reads.same usable).0 in
    let rises = c.requires.numbered was in
    let meta = alone_row (db.trees 0) c.in_ok-desk_row.field-0 c.in-Alone.is (c.in_ok-desk_row.ensures.found usable c.requires.recognized rises) in
    (has_tables db c.requires.recognized meta, rises, λ rows. let w : IsTrue c.args.is_whole = (c.requires.whole was).1 (whole _ rows) in search rules)

pub returns-clause-formed : goal.returns-clause-formed
returns-clause-formed g c = λ usable.
    let db = (state g.S.Store c.args.conn.now).now in
    let mid = (c.check_types.ensures.reads.same usable).0 in
    let rises = c.requires.numbered (c.desk_row.ensures.reads.same mid).0 in
    let meta = alone_row (db.trees 0) c.in_ok-desk_row.field-0 c.in-Alone.is (c.in_ok-desk_row.ensures.found mid c.requires.recognized rises) in
    formed db c.requires.recognized rises meta

pub returns-clause-rows : goal.returns-clause-rows
returns-clause-rows g c = λ usable.
    let db = (state g.S.Store c.args.conn.now).now in
    let mid = (c.check_types.ensures.reads.same usable).0 in
    let was = c.desk_row.ensures.reads.same mid in
    let rises = c.requires.numbered was.0 in
    let meta = alone_row (db.trees 0) c.in_ok-desk_row.field-0 c.in-Alone.is (c.in_ok-desk_row.ensures.found mid c.requires.recognized rises) in
    let is = formed db c.requires.recognized rises meta in
    let w : IsTrue c.args.is_whole = search rules in
    subst (λ (db : Database). HasRows db) was.1
    (c.in_ok-check_types.ensures.typed usable (subst (λ (db : Database). IsFormed db) (sym was.1) is) (subst (λ (db : Database). HasWholeTallies db) (sym was.1) ((c.requires.whole was.0).0 w)))

pub returns-in_err-check_types-clause-broken : goal.returns-in_err-check_types-clause-broken
returns-in_err-check_types-clause-broken g c = λ usable is.
    let broken : c.check_types.result ≡ Err Broken = search rules in
    let db = (state g.S.Store c.args.conn.now).now in
    let mid = (c.check_types.ensures.reads.same usable).0 in
    let was = c.desk_row.ensures.reads.same mid in
    let rises = c.requires.numbered was.0 in
    let meta = alone_row (db.trees 0) c.in_ok-desk_row.field-0 c.in-Alone.is (c.in_ok-desk_row.ensures.found mid c.requires.recognized rises) in
    let form = formed db c.requires.recognized rises meta in (
      has_tables db c.requires.recognized meta,
      rises,
      λ rows. c.check_types.ensures.broken usable (subst (λ (db : Database). IsFormed db) (sym was.1) form) broken (subst (λ (db : Database). HasRows db) (sym was.1) rows),
    )
