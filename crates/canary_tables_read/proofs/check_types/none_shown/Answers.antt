use Rattle.std.proofs.Common.{rules}
use Rattle.canary_tables_read.proofs.Seeking.{some_row}
use Rattle.canary_tables_read.proofs.check_types.none_shown.Goals as goal

pub returns-clause-some : goal.returns-clause-some
returns-clause-some g c usable is = some_row c.args.text.now (g.Q.Reader.shows c.args.conn.now) (g.Q.Reader.shows c.ask.new.self) c.in_ok-rows.rows.items (search rules) (search rules)
