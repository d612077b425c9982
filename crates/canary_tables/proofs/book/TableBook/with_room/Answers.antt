use Rattle.canary_tables.proofs.book.TableBook.with_room.Goals as goal

pub invariant_of-book : goal.invariant_of-book
invariant_of-book g c = record { autocommit = c.book.invariant.autocommit; desk = c.book.invariant.desk; noted = c.book.invariant.noted; kept = λ usable. c.new.ensures.kept _ }
