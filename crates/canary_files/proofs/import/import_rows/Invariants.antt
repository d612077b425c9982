use Rattle.canary_once.specs.Messages.{desk_state}
use Rattle.canary_files.specs.Importing.{IsSoFar}
use Rattle.canary_files.proofs.import.import_rows.Given as goal

abbrev pub invariant-rows : goal.invariant-rows
invariant-rows g l =
    IsSoFar g.S.Read.remaining l.fn.file l.file (g.W.Write.contents l.fn.output) (g.W.Write.contents l.output)
    (desk_state (g.C.Clock.tells l.fn.clock) (g.B.Book.state l.fn.book))
    (desk_state (g.C.Clock.tells l.clock) (g.B.Book.state l.book))
    l.done
