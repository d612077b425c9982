use Rattle.std.proofs.Common.{◌≡◌, false, take}
use Rattle.std.specs.List.{sum_by}
use Rattle.canary_tables_rows.specs.declared.rows.CallerRow.{CallerRow}
use Rattle.canary_tables_contents.specs.Judged.{IsCallerJudged}
use Rattle.canary_tables_adopt.proofs.Each.{EachSoFar}
use Rattle.canary_tables_adopt.proofs.Standing.{Goes}
use Rattle.canary_tables_adopt.proofs.callers.judge_each.Given as goal

abbrev pub invariant-loop-caller : goal.invariant-loop-caller
invariant-loop-caller g l =
    Goes g.Q.Reader.IsReady g.Q.Reader.place g.Q.Reader.below l.initial.conn l.conn × EachSoFar IsCallerJudged l.callers l.caller-index (g.Q.Reader.shows l.initial.conn) (g.Q.Reader.shows l.conn) × (l.settled ≡ sum_by (λ (row : CallerRow). row.settled) (take l.caller-index l.callers))
