use Rattle.std.proofs.Common.{◌≡◌, Err, None, subst, rules}
use Rattle.canary_tables_rows.specs.Newest.{IsNewest}
use Rattle.canary_tables_read.specs.declared.fault.ReadFault.TheVariants.{Broken}
use Rattle.canary_tables_adopt.proofs.JudgedStrategies.{newest_accepted, newest_none, newest_told}
use Rattle.canary_tables_adopt.proofs.strategies.template.Goals as goal

pub returns-in_err-read-clause-broken : goal.returns-in_err-read-clause-broken
returns-in_err-read-clause-broken g c usable t has judged is within =
    let broken : c.read.result ≡ Err Broken = search rules in
    let accepted = newest_accepted t c.args.name.now c.in-Some.row judged (subst (IsNewest _) c.in-Some.is (c.in_ok-row.ensures.found usable t has)) in
    c.read.ensures.broken broken accepted.0 accepted.1

pub returns-in_err-row-clause-broken : goal.returns-in_err-row-clause-broken
returns-in_err-row-clause-broken g c usable t has judged is within =
    let broken : c.newest.result ≡ Err Broken = search rules in
    c.newest.ensures.broken usable t has broken within.revisions

pub returns-in_default-clause-found : goal.returns-in_default-clause-found
returns-in_default-clause-found g c usable t has judged =
    let none : c.in_ok-row.field-0 ≡ None = search rules in
    newest_none t c.args.name.now c.templates_found.ensures.newest judged (subst (IsNewest _) none (c.in_ok-row.ensures.found usable t has))

pub returns-clause-found : goal.returns-clause-found
returns-clause-found g c usable t has judged =
    newest_told t c.args.name.now c.in-Some.row c.in_ok-read.field-0 c.templates_found.ensures.newest judged (subst (IsNewest _) c.in-Some.is (c.in_ok-row.ensures.found usable t has)) c.in_ok-read.ensures.found
