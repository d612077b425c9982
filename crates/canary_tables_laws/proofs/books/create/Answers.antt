use Rattle.sqlite.specs.Held.{state}
use Rattle.canary_tables_laws.proofs.TableBooks.{made}
use Rattle.canary_tables_laws.proofs.books.create.Goals as goal

pub returns-clause-made : goal.returns-clause-made
returns-clause-made g c = made g.S.Store (state g.S.Store c.args.conn) c.create.result c.create.ensures.schema c.create.ensures.nothing
