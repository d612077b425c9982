use Rattle.std.proofs.Common.{◌≡◌, Err, OnOk, OnErr, rules, sym, ap, subst, ◌∙◌}
use Rattle.sqlite.specs.Held.{state}
use Rattle.sqlite.specs.Effect.{Database}
use Rattle.canary_tables_read.specs.declared.fault.ReadFault.TheVariants.{Broken}
use Rattle.canary_tables_read.specs.First.{IsFirst}
use Rattle.canary_migrate.specs.Migrates.{IsRewritten, HasJudgedFirstRows}
use Rattle.canary_migrate.proofs.Rewriting.{read_so, templates_broken, tallies_broken}
use Rattle.canary_migrate.proofs.migrate.rewrite.Goals as goal

pub transact-requires-clause-read : goal.transact-requires-clause-read
transact-requires-clause-read g c =
    rw (c.as_slice.ensures, c.as_slice-2.ensures) (read_so c.in_ok-templates.templates c.in_ok-tallies.tallies (state g.S.Store c.args.conn.now) (state g.S.Store c.templates.new.conn) (state g.S.Store c.tallies.new.conn) c.requires.first c.requires.meta c.templates.ensures.reads.same c.tallies.ensures.reads.same
    c.in_ok-templates.ensures.plain c.in_ok-templates.ensures.found c.in_ok-templates.ensures.only c.in_ok-tallies.ensures.found c.in_ok-tallies.ensures.only)

pub returns-clause-done : goal.returns-clause-done
returns-clause-done g c usable =
    let later = c.tallies.ensures.reads.same (c.transact.ensures.held usable) in
    let all = later.1 ∙ (c.templates.ensures.reads.same later.0).1 in
    subst (λ (db : Database). OnOk c.transact.result (IsRewritten db (state g.S.Store c.transact.new.conn).now)) all (c.transact.ensures.done usable)

pub returns-clause-broken : goal.returns-clause-broken
returns-clause-broken g c usable is =
    let later = c.tallies.ensures.reads.same (c.transact.ensures.held usable) in
    let all = later.1 ∙ (c.templates.ensures.reads.same later.0).1 in
    subst (λ (db : Database). ¬ HasJudgedFirstRows db) all (c.transact.ensures.broken usable is)

pub returns-clause-failed : goal.returns-clause-failed
returns-clause-failed g c usable =
    let later = c.tallies.ensures.reads.same (c.transact.ensures.held usable) in
    let all = later.1 ∙ (c.templates.ensures.reads.same later.0).1 in
    subst (λ (db : Database). OnErr c.transact.result ((state g.S.Store c.transact.new.conn).now ≡ db)) all (c.transact.ensures.failed usable)

pub returns-in_err-templates-clause-broken : goal.returns-in_err-templates-clause-broken
returns-in_err-templates-clause-broken g c usable is =
    let broken : c.templates.result ≡ Err Broken = search rules in
    templates_broken (state g.S.Store c.args.conn.now).now (c.templates.ensures.broken usable (c.requires.first (c.templates.ensures.reads.same usable).0) broken)

pub returns-in_err-tallies-clause-broken : goal.returns-in_err-tallies-clause-broken
returns-in_err-tallies-clause-broken g c usable is =
    let broken : c.tallies.result ≡ Err Broken = search rules in
    let mid = c.tallies.ensures.reads.same usable in
    let before = c.templates.ensures.reads.same mid.0 in
    subst (λ (db : Database). ¬ HasJudgedFirstRows db) before.1 (tallies_broken (state g.S.Store c.templates.new.conn).now (c.tallies.ensures.broken usable (subst IsFirst (sym before.1) (c.requires.first before.0)) broken))
