use Rattle.std.proofs.Common.{◌≡◌, true, subst}
use Rattle.std.proofs.lemmas.Bool.{both_ways}
use Rattle.canary_wire.specs.Routes.{IsPart}
use Rattle.canary_wire.proofs.RouteLemmas.{one_behind}
use Rattle.canary_wire.proofs.routes.last_part.Goals as goal

pub returns-else-is_part : goal.returns-else-is_part
returns-else-is_part c = λ part p e.
    let same = one_behind c.args.path.now c.args.front.now part c.in_ok-part.part.now e c.in_ok-part.ensures in
    let yes : c.is_part.result ≡ true = c.is_part.ensures.1 (subst IsPart same p) in
    both_ways c.is_part.result c.if-is_part.false yes
