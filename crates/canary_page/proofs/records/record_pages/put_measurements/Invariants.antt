use Rattle.std.proofs.Common.{◌≤◌}
use Rattle.std.specs.Prelude.{length}
use Rattle.canary_once.specs.BookCalls.{Stays}
use Rattle.canary_files.specs.Exporting.{recorded_of}
use Rattle.canary_page.proofs.records.record_pages.put_measurements.Given as goal

-- the book contains what it did, and no more was read than the service has
abbrev pub invariant-loop : goal.invariant-loop
invariant-loop g l =
    let old = g.B.Book.state l.fn.book in
    let now = g.B.Book.state l.book in
    Stays old now × (now.is_honest → l.from ≤ length (recorded_of old.contents l.name))
