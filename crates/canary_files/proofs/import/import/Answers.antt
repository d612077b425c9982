use Rattle.std.proofs.Common.{◌∙◌, [], sym}
use Rattle.csv.specs.Records.{fields_of}
use Rattle.canary_once.specs.Messages.{desk_state}
use Rattle.canary_files.proofs.ImportLemmas.{import_none, import_failed, import_other, has_header}
use Rattle.canary_files.proofs.import.import.Goals as goal

pub returns-in-Ok-false-clause-rows : goal.returns-in-Ok-false-clause-rows
returns-in-Ok-false-clause-rows g c = λ bytes s.
    let takes = rw (c.in-Ok-false.is, c.in-Ok-false.field-0-test) at c.next_record.ensures.next in
    import_none g.S.Read.remaining g.S.Limited.spare bytes c.args.file.now c.next_record.new.file (g.W.Write.contents c.args.output.now)
    (desk_state (g.C.Clock.tells c.args.clock.now) (g.B.Book.state c.args.book.now))
    s (fields_of c.next_record.new.fields) c.running_on.ensures (takes bytes [] s)

pub returns-in-Err-clause-rows : goal.returns-in-Err-clause-rows
returns-in-Err-clause-rows g c = λ bytes s.
    let takes = rw c.in-Err.is at c.next_record.ensures.next in
    import_failed g.S.Read.remaining g.S.Limited.spare bytes c.args.file.now c.next_record.new.file (g.W.Write.contents c.args.output.now)
    (desk_state (g.C.Clock.tells c.args.clock.now) (g.B.Book.state c.args.book.now))
    s (fields_of c.next_record.new.fields) c.running_on.ensures c.in-Err.fault (takes bytes [] s)

pub returns-then-not-is_header-clause-rows : goal.returns-then-not-is_header-clause-rows
returns-then-not-is_header-clause-rows g c = λ bytes s.
    let takes = rw (c.in-Ok-true.is, c.in-Ok-true.field-0-test) at c.next_record.ensures.next in
    import_other g.S.Read.remaining g.S.Limited.spare bytes c.args.file.now c.next_record.new.file (g.W.Write.contents c.args.output.now)
    (desk_state (g.C.Clock.tells c.args.clock.now) (g.B.Book.state c.args.book.now))
    s (fields_of c.next_record.new.fields) c.running_on.ensures (sym c.is_header.ensures ∙ c.if-not-is_header.true) (takes bytes [] s)

pub returns-clause-rows : goal.returns-clause-rows
returns-clause-rows g c = λ bytes s.
    let takes = rw (c.in-Ok-true.is, c.in-Ok-true.field-0-test) at c.next_record.ensures.next in
    c.import_rows.ensures.rows bytes (has_header g.S.Read.remaining g.S.Limited.spare bytes c.args.file.now c.next_record.new.file (g.W.Write.contents c.args.output.now)
    (desk_state (g.C.Clock.tells c.args.clock.now) (g.B.Book.state c.args.book.now))
    s (fields_of c.next_record.new.fields) (sym c.is_header.ensures ∙ c.if-not-is_header.false) (takes bytes [] s))
