use Rattle.std.proofs.Common.{◌≡◌, take}
use Rattle.std.specs.List.{filter_map}
use Rattle.canary_once.specs.BookCalls.{Stays}
use Rattle.canary_programs.specs.Successions.{template_again}
use Rattle.canary_programs.proofs.succession.with_templates.Given as goal

-- the commands so far are those of the names so far
abbrev pub invariant-loop-name : goal.invariant-loop-name
invariant-loop-name g l =
    let old = g.B.Book.state l.fn.book in
    let now = g.B.Book.state l.book in
    Stays old now × (now.is_honest → l.commands ≡ filter_map (template_again old.contents.desk) (take l.name-index l.names))
