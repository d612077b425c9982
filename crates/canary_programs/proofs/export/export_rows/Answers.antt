use Rattle.canary_files.specs.Exporting.{file_in}
use Rattle.canary_programs.proofs.Served.{puts_done}
use Rattle.canary_programs.proofs.export.export_rows.Goals as goal

pub returns-in-Ok-clause-file : goal.returns-in-Ok-clause-file
returns-in-Ok-clause-file g c h =
    puts_done (g.W.Write.contents c.args.out.now) (g.W.Write.contents c.export.new.out) (file_in (g.B.Book.state c.args.book.now).contents c.args.service c.args.caller) c.in-Ok.rows (c.in-Ok.ensures.file h)
