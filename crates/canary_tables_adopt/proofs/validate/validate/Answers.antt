use Rattle.canary_tables_adopt.proofs.Standing.{stores_then}
use Rattle.canary_tables_adopt.proofs.validate.validate.Goals as goal

pub returns-clause-judged : goal.returns-clause-judged
returns-clause-judged g c usable t has =
    let mid = (c.judge_all.ensures.reads.same usable).0 in
    c.judge_all.ensures.judged usable t (stores_then (g.Q.Reader.shows c.args.conn.now) (g.Q.Reader.shows c.count_rows.new.conn) t c.count_rows.ensures.reads.same mid has)

pub returns-clause-refused : goal.returns-clause-refused
returns-clause-refused g c usable t has =
    let mid = (c.judge_all.ensures.reads.same usable).0 in
    c.judge_all.ensures.refused usable t (stores_then (g.Q.Reader.shows c.args.conn.now) (g.Q.Reader.shows c.count_rows.new.conn) t c.count_rows.ensures.reads.same mid has)
