use Rattle.std.proofs.Common.{◌≡◌, ◌<◌, length, filter, Err, sym, subst, rules}
use Rattle.sqlite.specs.Effect.{Database}
use Rattle.canary_tables_schema.specs.Stores.{IsHeld}
use Rattle.canary_tables_read.specs.declared.fault.ReadFault.TheVariants.{Broken}
use Rattle.canary_tables_read.specs.Sorts.{is_open}
use Rattle.canary_tables_read.proofs.Fronts.{open_found}
use Rattle.canary_tables_read.proofs.runs.open_runs.Goals as goal

pub returns-then-as_slice-lt3-clause-found : goal.returns-then-as_slice-lt3-clause-found
returns-then-as_slice-lt3-clause-found g c usable t has =
    let is : c.in_ok-open.open ≡ filter is_open c.in_ok-front.front = search rules in
    let few : length c.in_ok-open.open < 3 = search rules in
    open_found c.args.service.now t.runs c.in_ok-front.front c.in_ok-open.open c.in_ok-by_number.field-0 (c.in_ok-front.ensures.found usable t has) is few c.in_ok-by_number.ensures

pub returns-in_err-front-clause-broken : goal.returns-in_err-front-clause-broken
returns-in_err-front-clause-broken g c usable t has is within =
    let broken : c.front_runs.result ≡ Err Broken = search rules in
    c.front_runs.ensures.broken usable t has broken within

pub returns-clause-broken : goal.returns-clause-broken
returns-clause-broken g c usable t has is within =
    let before = c.front_runs.ensures.reads.same (c.all_open_runs.ensures.reads.same usable).0 in
    c.all_open_runs.ensures.broken usable t (subst (λ (db : Database). IsHeld db t) (sym before.1) has) is within
