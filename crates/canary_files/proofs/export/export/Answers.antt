use Rattle.std.proofs.Common.{rules}
use Rattle.canary_once.specs.Records.{past_of}
use Rattle.canary_files.specs.Rows.{header}
use Rattle.canary_files.specs.Written.{record_text, rows_text}
use Rattle.canary_files.specs.Exporting.{name_of, recorded_of, file_in}
use Rattle.canary_files.proofs.ExportLemmas.{puts_none, puts_front, puts_all, file_on}
use Rattle.canary_files.proofs.export.export.Goals as goal

pub returns-in_err-find_service-clause-file : goal.returns-in_err-find_service-clause-file
returns-in_err-find_service-clause-file g c h =
    puts_none (g.W.Write.contents c.args.out.now) (file_in (g.B.Book.state c.args.book.now).contents c.args.service c.args.caller) c.from_residual.result c.from_residual.ensures.0

pub returns-in_err-write_header-clause-file : goal.returns-in_err-write_header-clause-file
returns-in_err-write_header-clause-file g c h =
    let before = (g.B.Book.state c.args.book.now).contents in
    puts_front (g.W.Write.contents c.args.out.now) (g.W.Write.contents c.write_header.new.out) (record_text header) (rows_text c.args.caller c.args.service (name_of (past_of before c.args.service)) 0 (recorded_of before c.args.service)) c.write_header.result c.from_residual-in_err-write_header.result c.from_residual-in_err-write_header.ensures.0 c.write_header.ensures.writes

pub returns-clause-file : goal.returns-clause-file
returns-clause-file g c =
    file_on (g.B.Book.state c.args.book.now) (g.B.Book.state c.find_service.new.book) (g.B.Book.state c.write_rows.new.book) c.args.service c.args.caller (g.W.Write.contents c.args.out.now) (g.W.Write.contents c.write_header.new.out) (g.W.Write.contents c.write_rows.new.out) c.write_rows.result c.find_service.ensures.stays c.write_rows.ensures.stays (puts_all (g.W.Write.contents c.args.out.now) (g.W.Write.contents c.write_header.new.out) (record_text header) c.in_ok-write_header.field-0 c.in_ok-write_header.ensures.writes) c.write_rows.ensures.writes

pub returns-in_err-write_header-clause-sure : goal.returns-in_err-write_header-clause-sure
returns-in_err-write_header-clause-sure g c = λ h.
    (let told = c.in_err-write_header.ensures.sure (g.B.Book.state c.args.book.now).is_sure in search rules)
