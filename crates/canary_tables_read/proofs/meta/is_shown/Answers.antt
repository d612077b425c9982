use Rattle.std.proofs.Common.{rules}
use Rattle.canary_tables_read.proofs.MetaRows.{shown_by}
use Rattle.canary_tables_read.proofs.meta.is_shown.Goals as goal

pub returns-clause-shown : goal.returns-clause-shown
returns-clause-shown g c usable =
    shown_by c.args.text.now (g.Q.Reader.shows c.args.conn.now) (g.Q.Reader.shows c.ask.new.self) c.in_ok-rows.rows.items c.is_empty.result (search rules) (c.in_ok-rows.ensures.shown usable)
