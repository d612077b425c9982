use Rattle.std.proofs.Common.{refl, subst, rules}
use Rattle.csv.specs.Records.{fields_of}
use Rattle.canary_files.specs.declared.answer.RowReply.{RowReply}
use Rattle.canary_base.specs.declared.writing.WriteFault.{WriteFault}
use Rattle.canary_base.specs.Writes.{Writes}
use Rattle.canary_files.specs.Lines.{told_status, told_body, line_of}
use Rattle.canary_files.proofs.answer.answer_row.Goals as goal

pub returns : goal.returns
returns g c =
    let s = c.handle-told.ensures in
    let P : RowReply → Type 0 = λ t.
    Writes {E = WriteFault} (g.W.Write.contents c.args.writer.now) (g.W.Write.contents c.write_line.new.writer) (line_of c.args.number (told_status t) (told_body t)) c.write_line.result in (
      record { message = fields_of c.args.fields.now; moment = c.now-moment.result; disposition = s.0 },
      refl,
      record { is = s.2; moment = search rules; books = s.3 },
      subst P s.1 c.write_line.ensures,
    )
