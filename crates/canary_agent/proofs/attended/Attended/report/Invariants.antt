use Rattle.std.proofs.Common.{◌≡◌, IsTrue}
use Rattle.canary_agent.proofs.attended.Attended.report.Given as goal

-- a dry run has sent nothing so far
abbrev pub invariant-loop : goal.invariant-loop
invariant-loop g l = IsTrue l.fn.manner.is_dry_run → l.network ≡ l.fn.network
