use Rattle.std.proofs.Common.{◌≡◌, true, subst}
use Rattle.std.proofs.lemmas.Bool.{both_ways}
use Rattle.canary_wire.specs.Routes.{IsPart}
use Rattle.canary_wire.proofs.RouteLemmas.{stands, one_part}
use Rattle.canary_wire.proofs.routes.part_behind.Goals as goal

pub returns-then-is_part-clause-parts : goal.returns-then-is_part-clause-parts
returns-then-is_part-clause-parts c =
    stands c.args.path.now c.args.front.now c.in_ok-behind.behind.now c.before-2.result.now c.split_at.result.0.now c.split_at.result.1.now
    c.in_ok-behind.ensures c.before-2.ensures c.split_at.ensures.front c.split_at.ensures.back (c.is_part.ensures.0 c.if-is_part.true)

pub returns-then-is_part-clause-only : goal.returns-then-is_part-clause-only
returns-then-is_part-clause-only c = λ part rest s.
    one_part c.args.path.now c.args.front.now c.in_ok-behind.behind.now c.before-2.result.now c.split_at.result.0.now c.split_at.result.1.now
    c.in_ok-behind.ensures c.before-2.ensures c.split_at.ensures.front c.split_at.ensures.back part rest s

pub returns-else-is_part-clause-parts : goal.returns-else-is_part-clause-parts
returns-else-is_part-clause-parts c = λ part rest s.
    let same =
    one_part c.args.path.now c.args.front.now c.in_ok-behind.behind.now c.before-2.result.now c.split_at.result.0.now c.split_at.result.1.now
    c.in_ok-behind.ensures c.before-2.ensures c.split_at.ensures.front c.split_at.ensures.back part rest s in
    let yes : c.is_part.result ≡ true = c.is_part.ensures.1 (subst IsPart same.0 s.part_is) in
    both_ways c.is_part.result c.if-is_part.false yes
