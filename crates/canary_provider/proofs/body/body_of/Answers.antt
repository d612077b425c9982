use Rattle.std.proofs.Common.{◌≡◌, Some, codes, rules}
use Rattle.json.specs.Value.{value_view}
use Rattle.canary_provider.specs.Plans.{given_at}
use Rattle.canary_provider.proofs.NumberLemmas.{given_numbers}
use Rattle.canary_provider.proofs.body.body_of.Goals as goal

pub body_in_json-requires : goal.body_in_json-requires
body_in_json-requires c =
    let found : Some (value_view c.in-Some.json.now) ≡ given_at (codes "jsonBody") (value_view c.args.value.now) = search rules in
    given_numbers (codes "jsonBody") (value_view c.args.value.now) (value_view c.in-Some.json.now) c.requires found
