use Rattle.std.proofs.Common.{◌≡◌}
use Rattle.canary_listen.specs.Crowd.{attendance_of}
use Rattle.canary_listen.proofs.listener.Listener.comes_soon.Given as goal

abbrev pub invariant-asked : goal.invariant-asked
invariant-asked l = attendance_of l.self ≡ attendance_of l.fn.self
