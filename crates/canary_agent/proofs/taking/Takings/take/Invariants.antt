use Rattle.std.proofs.Common.{◌≡◌, filter, filter_map}
use Rattle.canary_agent.specs.Takings.{is_left, taken_of}
use Rattle.canary_agent.proofs.taking.Takings.take.Given as goal

abbrev pub invariant-loop-taking : goal.invariant-loop-taking
invariant-loop-taking l = (l.found.items ≡ filter_map (taken_of l.run) l.yielded) × (l.self.list.items ≡ filter (is_left l.run) l.yielded)
