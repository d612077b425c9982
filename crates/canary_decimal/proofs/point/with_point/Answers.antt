use Rattle.std.proofs.Common.{◌≡◌, ◌<◌, ◌^◌, rules, arith}
use Rattle.std.specs.Int.RustNames.{unsigned_abs}
use Rattle.canary_decimal.specs.Points.{IsWrittenAs}
use Rattle.canary_decimal.proofs.PointLemmas.{spells}
use Rattle.canary_decimal.proofs.point.with_point.Goals as goal

pub returns-clause-exact : goal.returns-clause-exact
returns-clause-exact c =
    let size : c.unsigned_abs-size.result ≡ unsigned_abs c.args.number = search rules in
    let small : unsigned_abs c.args.number < 2 ^ 64 = omega (arith, c.unsigned_abs-size.ensures.bound) in
    let written : IsWrittenAs c.behind.result.bytes c.args.number c.args.places = search rules in
    spells c.behind.result.bytes c.args.number c.args.places small written
