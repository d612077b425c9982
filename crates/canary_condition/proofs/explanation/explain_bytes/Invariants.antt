use Rattle.std.proofs.Common.{◌≡◌, ◌-◌, ◌≤◌, length, drop}
use Rattle.canary_condition.specs.Following.{start, explain_after}
use Rattle.canary_condition.proofs.explanation.explain_bytes.Given as goal

-- the rest comes to what the whole text comes to, and each token opens one bracket at most
abbrev pub invariant-loop-at : goal.invariant-loop-at
invariant-loop-at l = record {
  within : l.at ≤ length l.text;
  room : l.notes.opened ≤ l.at;
  leads : explain_after l.notes l.at 0 (drop l.at l.text) ≡ explain_after start 0 0 l.text;
}

abbrev pub decreases-loop-at : goal.decreases-loop-at
decreases-loop-at l = length l.text - l.at
