use Rattle.std.proofs.lemmas.Result.{IfOk-weaker}
use Rattle.canary_tables_adopt.proofs.Standing.{stores_then, same_then}
use Rattle.canary_tables_adopt.proofs.validate.judge_all.Goals as goal

pub returns-clause-judged : goal.returns-clause-judged
returns-clause-judged g c usable t has =
    let after = (c.validate-3.ensures.reads.same usable).0 in
    let mid = (c.validate-2.ensures.reads.same after).0 in
    let templates = c.in_ok-validate-2.ensures.judged after t (stores_then (g.Q.Reader.shows c.args.conn.now) (g.Q.Reader.shows c.validate.new.conn) t c.validate.ensures.reads.same mid has) in
    IfOk-weaker c.validate-3.result _ _ (λ done services. record { callers = c.in_ok-validate.ensures.judged mid t has; templates = templates; services = services })
    (c.validate-3.ensures.judged usable t (stores_then (g.Q.Reader.shows c.args.conn.now) (g.Q.Reader.shows c.validate-2.new.conn) t (same_then (g.Q.Reader.shows c.args.conn.now) (g.Q.Reader.shows c.validate.new.conn) (g.Q.Reader.shows c.validate-2.new.conn) c.validate.ensures.reads.same c.validate-2.ensures.reads.same) after has) templates)

pub returns-clause-refused : goal.returns-clause-refused
returns-clause-refused g c usable t has is judged =
    let after = (c.validate-3.ensures.reads.same usable).0 in
    c.validate-3.ensures.refused usable t (stores_then (g.Q.Reader.shows c.args.conn.now) (g.Q.Reader.shows c.validate-2.new.conn) t (same_then (g.Q.Reader.shows c.args.conn.now) (g.Q.Reader.shows c.validate.new.conn) (g.Q.Reader.shows c.validate-2.new.conn) c.validate.ensures.reads.same c.validate-2.ensures.reads.same) after has) judged.1.templates is judged.0 judged.1.services
