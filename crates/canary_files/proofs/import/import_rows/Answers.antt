use Rattle.std.proofs.Common.{◌≡◌, ℕ, ◌+◌, ◌∷◌, [], refl, arith, subst}
use Rattle.std.specs.Prelude.{Result, Ok}
use Rattle.csv.specs.Records.{fields_of}
use Rattle.canary_base.specs.declared.writing.WriteFault.{WriteFault}
use Rattle.canary_base.specs.Writes.{Known, Writes}
use Rattle.canary_files.specs.Rows.{header}
use Rattle.canary_files.specs.Taking.{HasTaken, taken_of, spare_of}
use Rattle.canary_files.specs.Importing.{ImportsTo}
use Rattle.canary_once.specs.Messages.{desk_state}
use Rattle.canary_files.specs.RowExchanges.{told_line}
use Rattle.canary_files.proofs.ImportLemmas.{so_far_none, so_far_more, so_far_until, so_far_too_many, so_far_all, so_far_failed, keeps_more}
use Rattle.canary_files.proofs.import.import_rows.Goals as goal

pub rows-init : goal.rows-init
rows-init g c = so_far_none g.S.Read.remaining g.S.Limited.spare c.args.file.now (g.W.Write.contents c.args.output.now) (desk_state (g.C.Clock.tells c.args.clock.now) (g.B.Book.state c.args.book.now)) c.requires

pub returns-in-Ok-false-clause-rows : goal.returns-in-Ok-false-clause-rows
returns-in-Ok-false-clause-rows g c =
    let takes = rw (c.in-Ok-false.is, c.in-Ok-false.field-0-test) at c.next_record.ensures.next in
    so_far_all g.S.Read.remaining g.S.Limited.spare c.args.file.now c.rows.file c.next_record.new.file (g.W.Write.contents c.args.output.now) (g.W.Write.contents c.rows.output)
    (desk_state (g.C.Clock.tells c.args.clock.now) (g.B.Book.state c.args.book.now))
    (desk_state (g.C.Clock.tells c.rows.clock) (g.B.Book.state c.rows.book))
    c.rows.done c.rows.invariant (fields_of c.next_record.new.fields) c.running_on.ensures takes

pub returns-in-Err-clause-rows : goal.returns-in-Err-clause-rows
returns-in-Err-clause-rows g c =
    let takes = rw c.in-Err.is at c.next_record.ensures.next in
    so_far_failed g.S.Read.remaining g.S.Limited.spare c.args.file.now c.rows.file c.next_record.new.file (g.W.Write.contents c.args.output.now) (g.W.Write.contents c.rows.output)
    (desk_state (g.C.Clock.tells c.args.clock.now) (g.B.Book.state c.args.book.now))
    (desk_state (g.C.Clock.tells c.rows.clock) (g.B.Book.state c.rows.book))
    c.rows.done c.rows.invariant (fields_of c.next_record.new.fields) c.running_on.ensures c.in-Err.fault takes

pub returns-in-Err-answer_row-clause-rows : goal.returns-in-Err-answer_row-clause-rows
returns-in-Err-answer_row-clause-rows g c =
    let takes = rw (c.in-Ok-true.is, c.in-Ok-true.field-0-test) at c.next_record.ensures.next in
    let a = c.answer_row.ensures in
    let P : Result (Unit {0}) WriteFault → Type 0 = λ r. Writes (g.W.Write.contents c.rows.output) (g.W.Write.contents c.answer_row.new.writer) (told_line (c.rows.done + 1) a.0.disposition) r in
    so_far_until g.S.Read.remaining g.S.Limited.spare c.args.file.now c.rows.file c.next_record.new.file (g.W.Write.contents c.args.output.now) (g.W.Write.contents c.rows.output)
    (desk_state (g.C.Clock.tells c.args.clock.now) (g.B.Book.state c.args.book.now))
    (desk_state (g.C.Clock.tells c.rows.clock) (g.B.Book.state c.rows.book))
    c.rows.done c.rows.invariant (fields_of c.next_record.new.fields) takes (g.W.Write.contents c.answer_row.new.writer)
    (desk_state (g.C.Clock.tells c.answer_row.new.clock) (g.B.Book.state c.answer_row.new.book))
    a.0 a.1 a.2
    c.running_on.ensures c.in-Err-answer_row.field-0 (subst P c.in-Err-answer_row.is a.3)

pub returns-in-Err-answer_row-clause-kept : goal.returns-in-Err-answer_row-clause-kept
returns-in-Err-answer_row-clause-kept g c =
    let takes = rw (c.in-Ok-true.is, c.in-Ok-true.field-0-test) at c.next_record.ensures.next in
    let a = c.answer_row.ensures in
    keeps_more g.S.Read.remaining g.S.Limited.spare c.args.file.now c.rows.file c.next_record.new.file (g.W.Write.contents c.args.output.now) (g.W.Write.contents c.rows.output)
    (desk_state (g.C.Clock.tells c.args.clock.now) (g.B.Book.state c.args.book.now))
    (desk_state (g.C.Clock.tells c.rows.clock) (g.B.Book.state c.rows.book))
    c.rows.done c.rows.invariant (fields_of c.next_record.new.fields) takes (g.W.Write.contents c.answer_row.new.writer)
    (desk_state (g.C.Clock.tells c.answer_row.new.clock) (g.B.Book.state c.answer_row.new.book))
    a.0 a.1 a.2

pub rows-preserved : goal.rows-preserved
rows-preserved g c =
    let takes = rw (c.in-Ok-true.is, c.in-Ok-true.field-0-test) at c.next_record.ensures.next in
    let one = rw (c.in-Ok-true.is, c.in-Ok-true.field-0-test) at c.next_record.ensures.one in
    let a = c.answer_row.ensures in
    let P : Result (Unit {0}) WriteFault → Type 0 = λ r. Writes (g.W.Write.contents c.rows.output) (g.W.Write.contents c.answer_row.new.writer) (told_line (c.rows.done + 1) a.0.disposition) r in
    so_far_more g.S.Read.remaining g.S.Limited.spare c.args.file.now c.rows.file c.next_record.new.file (g.W.Write.contents c.args.output.now) (g.W.Write.contents c.rows.output)
    (desk_state (g.C.Clock.tells c.args.clock.now) (g.B.Book.state c.args.book.now))
    (desk_state (g.C.Clock.tells c.rows.clock) (g.B.Book.state c.rows.book))
    c.rows.done c.rows.invariant (fields_of c.next_record.new.fields) takes (g.W.Write.contents c.answer_row.new.writer)
    (desk_state (g.C.Clock.tells c.answer_row.new.clock) (g.B.Book.state c.answer_row.new.book))
    a.0 a.1 a.2 (one refl) (subst P c.in_default.is a.3)

pub returns-in-Ok-true-next_record-clause-rows : goal.returns-in-Ok-true-next_record-clause-rows
returns-in-Ok-true-next_record-clause-rows g c =
    let takes = rw (c.in-Ok-true-next_record.is, c.in-Ok-true-next_record.field-0-test) at c.next_record-2.ensures.next in
    so_far_too_many g.S.Read.remaining g.S.Limited.spare c.args.file.now c.rows.file c.next_record-2.new.file (g.W.Write.contents c.args.output.now) (g.W.Write.contents c.rows.output)
    (desk_state (g.C.Clock.tells c.args.clock.now) (g.B.Book.state c.args.book.now))
    (desk_state (g.C.Clock.tells c.rows.clock) (g.B.Book.state c.rows.book))
    c.rows.done c.rows.invariant (fields_of c.next_record-2.new.fields) takes c.running_on.ensures (let past = c.rows-test.false in let most = c.rows.auto.done-end in omega arith)

pub returns-in-Ok-false-next_record-clause-rows : goal.returns-in-Ok-false-next_record-clause-rows
returns-in-Ok-false-next_record-clause-rows g c =
    let takes = rw (c.in-Ok-false-next_record.is, c.in-Ok-false-next_record.field-0-test) at c.next_record-2.ensures.next in
    let full : c.rows.done ≡ 1000000 = (let past = c.rows-test.false in let most = c.rows.auto.done-end in omega arith) in
    let P : ℕ → Type 0 = λ n. (bytes : Known) → HasTaken g.S.Read.remaining bytes c.args.file.now (header ∷ []) → ImportsTo bytes (taken_of c.next_record-2.new.file) (spare_of g.S.Limited.spare c.next_record-2.new.file) (g.W.Write.contents c.args.output.now) (g.W.Write.contents c.rows.output)
    (desk_state (g.C.Clock.tells c.args.clock.now) (g.B.Book.state c.args.book.now))
    (desk_state (g.C.Clock.tells c.rows.clock) (g.B.Book.state c.rows.book)) (Ok n) in
    subst P full (so_far_all g.S.Read.remaining g.S.Limited.spare c.args.file.now c.rows.file c.next_record-2.new.file (g.W.Write.contents c.args.output.now) (g.W.Write.contents c.rows.output)
    (desk_state (g.C.Clock.tells c.args.clock.now) (g.B.Book.state c.args.book.now))
    (desk_state (g.C.Clock.tells c.rows.clock) (g.B.Book.state c.rows.book))
    c.rows.done c.rows.invariant (fields_of c.next_record-2.new.fields) c.running_on.ensures takes)

pub returns-in-Err-next_record-clause-rows : goal.returns-in-Err-next_record-clause-rows
returns-in-Err-next_record-clause-rows g c =
    let takes = rw c.in-Err-next_record.is at c.next_record-2.ensures.next in
    so_far_failed g.S.Read.remaining g.S.Limited.spare c.args.file.now c.rows.file c.next_record-2.new.file (g.W.Write.contents c.args.output.now) (g.W.Write.contents c.rows.output)
    (desk_state (g.C.Clock.tells c.args.clock.now) (g.B.Book.state c.args.book.now))
    (desk_state (g.C.Clock.tells c.rows.clock) (g.B.Book.state c.rows.book))
    c.rows.done c.rows.invariant (fields_of c.next_record-2.new.fields) c.running_on.ensures c.in-Err-next_record.fault takes
