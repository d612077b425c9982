use Rattle.std.proofs.Common.{rules}
use Rattle.canary_tables.proofs.book.TableBook.create.Goals as goal

pub invariant_of-result : goal.invariant_of-result
invariant_of-result g c = record { autocommit = search rules; desk = search rules; noted = search rules; kept = λ usable. c.new.ensures.kept _ }
