use Rattle.std.proofs.Common.{rules, sym, ◌∙◌}
use Rattle.canary_release.specs.Stored.{evolution_of}
use Rattle.canary_release.proofs.Loops.{goes_on, at_end}
use Rattle.canary_release.proofs.transition.Transition.follow.Goals as goal

pub loop-moment-preserved : goal.loop-moment-preserved
loop-moment-preserved c = (goes_on c.args.until c.in-Some.moment _ _ _ c.loop-moment.invariant.0 (c.in-Some.ensures.on_step (search rules)) (sym c.in-Some.ensures.moves) c.in_ok-transition.ensures.entered, search rules)

pub returns : goal.returns
returns c = at_end c.args.until (evolution_of c.args.self) (evolution_of c.loop-moment.transition) c.loop-moment.invariant.0 (sym c.next_move_by.ensures.moves ∙ c.in_default.is)
