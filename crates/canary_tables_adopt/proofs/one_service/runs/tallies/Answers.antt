use Rattle.std.proofs.Common.{◌≡◌, true, sym, subst, rules}
use Rattle.canary_tables_adopt.specs.OfService.{AreTalliesOf}
use Rattle.canary_tables_adopt.proofs.PlacedLemmas.{placed_are_tallies, tallies_are_placed, refused}
use Rattle.canary_tables_adopt.proofs.one_service.runs.tallies.Goals as goal

pub returns-then-not-are_placed-clause-broken : goal.returns-then-not-are_placed-clause-broken
returns-then-not-are_placed-clause-broken c t name number sorts told has =
    refused c.are_placed.result c.are_placed.ensures (search rules) (tallies_are_placed name number t c.args.rows.now has.0 sorts has.1)

pub returns-clause-found : goal.returns-clause-found
returns-clause-found c t name number sorts =
    let is : c.are_placed.result ≡ true = search rules in
    subst (AreTalliesOf name number t) (sym c.in_ok-counts_of.ensures) (placed_are_tallies name number t c.args.rows.now sorts (c.are_placed.ensures.0 is))
