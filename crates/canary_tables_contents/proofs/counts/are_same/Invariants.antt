use Rattle.std.proofs.Common.{◌≡◌, ◌↔◌, length}
use Rattle.canary_tables_contents.proofs.counts.are_same.Given as goal

-- what is left says what the whole says
abbrev pub invariant-loop-ours : goal.invariant-loop-ours
invariant-loop-ours l =
    record {
      len : length l.ours-iterator.a.rest.now ≡ length l.ours-iterator.b.rest.now;
      same : (l.ours-iterator.b.rest.now ≡ l.ours-iterator.a.rest.now) ↔ (l.theirs ≡ l.ours);
    }
