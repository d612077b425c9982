use Rattle.std.proofs.Common.{refl}
use Rattle.csv.specs.Records.{fields_of}
use Rattle.canary_files.proofs.ReadLemmas.{takes_one}
use Rattle.canary_files.proofs.reading.next_record.Goals as goal

pub returns-in-Ok-true-clause-next : goal.returns-in-Ok-true-clause-next
returns-in-Ok-true-clause-next g c = λ bytes records had.
    let ready = rw c.in-Ok-true.is at c.read_byte_record.ensures.ready in
    let reads = rw (c.in-Ok-true.is, c.in-Ok-true.field-0-test) at c.read_byte_record.ensures.reads in
    takes_one g.S.Read.remaining g.S.Limited.spare bytes c.args.file.now _ records (fields_of c.read_byte_record.new.row) had
    (ready had.stands.trim) (reads had.stands.trim had.stands.ready) refl
