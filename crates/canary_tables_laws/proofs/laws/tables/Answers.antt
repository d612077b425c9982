use Rattle.canary_tables_laws.proofs.TableBooks.{its_tables}
use Rattle.canary_tables_laws.proofs.laws.tables.Goals as goal

pub returns : goal.returns
returns g c = its_tables g.S.Store c.args.book.now c.tables.ensures.stores c.tables.ensures.holds
