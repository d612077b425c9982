use Rattle.std.proofs.Common.{◌≤◌, ◌-◌}
use Rattle.canary_once.specs.Records.{past_of}
use Rattle.canary_once.specs.BookCalls.{Stays}
use Rattle.canary_files.specs.Exporting.{name_of, IsLatest}
use Rattle.canary_files.proofs.ExportLemmas.{SoFar}
use Rattle.canary_files.proofs.export.write_rows.Given as goal

-- the rows so far went out
abbrev pub invariant-loop-latest : goal.invariant-loop-latest
invariant-loop-latest g l =
    let old = g.B.Book.state l.fn.book in
    let now = g.B.Book.state l.book in
    let past = past_of old.contents l.source.service in
    Stays old now
    × (l.rows ≤ 1000000000)
    × IsLatest now l.source.service l.latest
    × (now.is_honest → SoFar (g.W.Write.contents l.fn.out) (g.W.Write.contents l.out) l.source.caller l.source.service (name_of past) past.measurements l.rows)

abbrev pub decreases-loop-latest : goal.decreases-loop-latest
decreases-loop-latest g l = 1000000000 - l.rows
