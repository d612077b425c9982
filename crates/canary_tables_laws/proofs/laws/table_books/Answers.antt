use Rattle.canary_tables_laws.proofs.TableBooks.{of_their_rows}
use Rattle.canary_tables_laws.proofs.laws.table_books.Goals as goal

pub returns : goal.returns
returns g c = of_their_rows g.S.Store
