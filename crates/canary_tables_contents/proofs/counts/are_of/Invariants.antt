use Rattle.std.proofs.Common.{◌≡◌, ◌↔◌, length, map}
use Rattle.canary_once.specs.declared.record.RunRecord.{RunRecord}
use Rattle.canary_tables_contents.proofs.counts.are_of.Given as goal

-- what is left says what the whole says
abbrev pub invariant-loop-counts : goal.invariant-loop-counts
invariant-loop-counts l =
    record {
      len : length l.counts-iterator.a.rest.now ≡ length l.counts-iterator.b.rest.now;
      same : (map (λ (r : RunRecord). r.tallies) l.counts-iterator.b.rest.now ≡ l.counts-iterator.a.rest.now) ↔ (map (λ (r : RunRecord). r.tallies) l.runs ≡ l.counts);
    }
