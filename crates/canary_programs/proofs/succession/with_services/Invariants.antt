use Rattle.std.proofs.Common.{◌≡◌, ◌++◌, false, take}
use Rattle.std.specs.List.{filter_map}
use Rattle.canary_once.specs.BookCalls.{Stays}
use Rattle.canary_programs.specs.Successions.{are_going_on, service_again}
use Rattle.canary_programs.proofs.succession.with_services.Given as goal

-- the commands so far are those of the names so far, after those that were there
abbrev pub invariant-loop-name : goal.invariant-loop-name
invariant-loop-name g l =
    let old = g.B.Book.state l.fn.book in
    let now = g.B.Book.state l.book in
    Stays old now
    × (now.is_honest → are_going_on old.contents.desk l.now (take l.name-index l.names) ≡ false)
    × (now.is_honest → l.commands ≡ l.fn.commands ++ filter_map (service_again old.contents.desk l.now) (take l.name-index l.names))
