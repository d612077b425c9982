use Rattle.std.proofs.Common.{◌≡◌, ◌*◌, ◌-◌, ◌^◌, min}
use Rattle.canary_argo.proofs.translating.power_of.Given as goal

abbrev pub invariant-loop : goal.invariant-loop
invariant-loop l = l.power ≡ min (2 ^ 64 - 1) (1 * 10 ^ l.counter)
