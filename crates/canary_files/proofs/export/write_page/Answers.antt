use Rattle.std.proofs.Common.{rules}
use Rattle.canary_once.specs.Records.{past_of, measurements_of}
use Rattle.canary_files.specs.Written.{rows_text}
use Rattle.canary_files.specs.Exporting.{name_of}
use Rattle.canary_files.proofs.ExportLemmas.{puts_none}
use Rattle.canary_files.proofs.SureLemmas.{page_sure}
use Rattle.canary_files.proofs.export.write_page.Goals as goal

pub returns-in_err-page-clause-writes : goal.returns-in_err-page-clause-writes
returns-in_err-page-clause-writes g c h =
    let before = (g.B.Book.state c.args.book.now).contents in
    let source = c.args.source.now in
    puts_none (g.W.Write.contents c.args.out.now) (rows_text source.caller source.service (name_of (past_of before source.service)) c.args.from (measurements_of before source.service c.args.from 32768)) c.from_residual.result c.from_residual.ensures.0

pub returns-clause-sure : goal.returns-clause-sure
returns-clause-sure g c =
    let source = c.args.source.now in
    let m = c.measurements.ensures in
    page_sure (g.B.Book.state c.args.book.now) (g.B.Book.state c.measurements.new.self) (g.B.Book.state c.write_measurements.new.book) source.service c.args.from 32768 c.as_slice.result.now c.write_measurements.result
    c.write_measurements.ensures.stays.honest m.lawful m.same m.sure (search rules) c.write_measurements.ensures.sure
