use Rattle.std.proofs.Common.{◌∙◌, ◌∷◌, [], ◌++◌}
use Rattle.canary_agent.proofs.TakingLemmas.{left_over, taken_out}
use Rattle.canary_agent.proofs.taking.Takings.take.Goals as goal

pub loop-taking-preserved-in-Continue-1 : goal.loop-taking-preserved-in-Continue-1
loop-taking-preserved-in-Continue-1 c =
    taken_out c.args.run c.loop-taking.yielded c.in-Some.taking c.loop-taking.found.items c.loop-taking.self.list.items c.loop-taking.invariant.0 c.loop-taking.invariant.1
    c.in-There.taken _ c.in-There.ensures c.in_ok-push-in-There.ensures.items

pub loop-taking-preserved : goal.loop-taking-preserved
loop-taking-preserved c =
    left_over c.args.run c.loop-taking.yielded c.in-Some.taking c.loop-taking.found.items c.loop-taking.self.list.items c.loop-taking.invariant.0 c.loop-taking.invariant.1
    _ c.in-Left.ensures.0 (c.in_ok-push-in-Left.ensures.items ∙ (λ i. c.loop-taking.self.list.items ++ c.in-Left.ensures.1 i ∷ []))
