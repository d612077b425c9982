use Rattle.canary_tables.proofs.Openings.{file_found}
use Rattle.canary_tables.proofs.open.open_file.Goals as goal

pub returns-in-Ok-clause-found : goal.returns-in-Ok-clause-found
returns-in-Ok-clause-found g c =
    file_found c.in-Ok.conn _ c.in-Ok.ensures.opened c.in-Ok.ensures.found c.in-Ok.ensures.made c.book_of.result c.book_of.ensures.made
