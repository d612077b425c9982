use Rattle.std.proofs.Common.{◌≡◌, ◌+◌, ◌++◌, drop}
use Rattle.canary_once.specs.Records.{past_of}
use Rattle.canary_files.specs.Written.{rows_text}
use Rattle.canary_once.specs.BookCalls.{Stays}
use Rattle.canary_files.specs.Exporting.{name_of, IsLatest}
use Rattle.canary_files.proofs.export.rows_text.Given as goal

-- the rows so far, with those of the measurements that are left, are those of all
abbrev pub invariant-loop-i : goal.invariant-loop-i
invariant-loop-i g l =
    let old = g.B.Book.state l.fn.book in
    let now = g.B.Book.state l.book in
    let name = name_of (past_of old.contents l.source.service) in
    Stays old now
    × IsLatest now l.source.service l.latest
    × (now.is_honest
    → l.records ++ rows_text l.source.caller l.source.service name (l.from + l.i) (drop l.i l.page)
    ≡ rows_text l.source.caller l.source.service name l.from l.page)
