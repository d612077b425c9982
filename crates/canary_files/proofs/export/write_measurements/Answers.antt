use Rattle.std.proofs.Common.{rules}
use Rattle.canary_files.proofs.export.write_measurements.Goals as goal

pub returns-in_err-put-clause-sure : goal.returns-in_err-put-clause-sure
returns-in_err-put-clause-sure g c = λ h placed.
    (let told = c.in_err-put.ensures.sure (g.B.Book.state c.args.book.now).is_sure in search rules)
