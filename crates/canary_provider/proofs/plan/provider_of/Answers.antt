use Rattle.std.proofs.Common.{◌≡◌, Some, rules}
use Rattle.json.specs.Value.{value_view}
use Rattle.canary_provider.specs.Plans.{given_at}
use Rattle.canary_provider.proofs.NumberLemmas.{given_numbers}
use Rattle.canary_provider.proofs.plan.provider_of.Goals as goal

pub of_kind-requires : goal.of_kind-requires
of_kind-requires c =
    let found : Some (value_view c.in-Some.plan.now) ≡ given_at c.args.kind.now (value_view c.args.value.now) = search rules in
    given_numbers c.args.kind.now (value_view c.args.value.now) (value_view c.in-Some.plan.now) c.requires found
