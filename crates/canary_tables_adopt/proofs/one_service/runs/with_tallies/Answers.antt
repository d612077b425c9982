use Rattle.std.proofs.Common.{◌≡◌, true, None, Err, subst, rules}
use Rattle.canary_tables_read.specs.declared.fault.ReadFault.TheVariants.{Broken}
use Rattle.canary_tables_contents.specs.Finding.{record_of_row}
use Rattle.canary_tables_adopt.specs.OfService.{IsTold}
use Rattle.canary_tables_adopt.proofs.PlacedLemmas.{refused}
use Rattle.canary_tables_adopt.proofs.RunLemmas.{untold, told_again}
use Rattle.canary_tables_adopt.proofs.one_service.runs.with_tallies.Goals as goal

pub returns-in_err-tallies-clause-broken : goal.returns-in_err-tallies-clause-broken
returns-in_err-tallies-clause-broken c t name number sorts is has =
    c.tallies.ensures.broken t name number sorts (search rules) (has.1.tallies, has.1.are)

pub returns-in_err-run-clause-broken : goal.returns-in_err-run-clause-broken
returns-in_err-run-clause-broken c t name number sorts is has =
    let broken : c.record_of.result ≡ Err Broken = search rules in
    let none : record_of_row c.args.analysis c.in_ok-tallies.tallies c.args.row.now ≡ None = subst (IsTold (record_of_row c.args.analysis c.in_ok-tallies.tallies c.args.row.now)) broken c.record_of.ensures in
    untold name number t c.args.row.now c.args.analysis c.in_ok-tallies.tallies (c.in_ok-tallies.ensures.found t name number sorts) none has.0 has.1

pub returns-then-has_own_verdict-clause-found : goal.returns-then-has_own_verdict-clause-found
returns-then-has_own_verdict-clause-found c t name number sorts =
    let is : c.has_own_verdict.result ≡ true = search rules in
    record { tallies = c.in_ok-tallies.tallies; are = c.in_ok-tallies.ensures.found t name number sorts; told = c.in_ok-run.ensures; verdict = c.has_own_verdict.ensures.0 is }

pub returns-else-has_own_verdict-clause-broken : goal.returns-else-has_own_verdict-clause-broken
returns-else-has_own_verdict-clause-broken c t name number sorts is has =
    refused c.has_own_verdict.result c.has_own_verdict.ensures (search rules)
    (told_again name number t c.args.row.now c.args.analysis c.in_ok-tallies.tallies (c.in_ok-tallies.ensures.found t name number sorts) c.in_ok-run.run' c.in_ok-run.ensures has.0 has.1)
