use Rattle.canary_tables.proofs.Booked.{still_book}
use Rattle.canary_tables.proofs.book.TableBook.service_names.Goals as goal

pub invariant_of-self : goal.invariant_of-self
invariant_of-self g c = still_book g.S.Store c.self.inside.conn c.names.new.conn c.self.inside.notes c.self.inside.cache c.self.invariant c.names.ensures.reads.mode c.names.ensures.reads.same
