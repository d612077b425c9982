use Rattle.sqlite.specs.Held.{state}
use Rattle.canary_tables.proofs.Adopting.{believes}
use Rattle.canary_tables.proofs.adopt.validate_tables.Goals as goal

pub returns-clause-believed : goal.returns-clause-believed
returns-clause-believed g c =
    believes c.judging.ensures (state g.S.Store c.args.conn.now) (state g.S.Store c.has_rows.new.conn) (state g.S.Store c.validate.new.conn) c.has_rows.ensures.reads.same c.validate.ensures.reads.same c.in_ok-has_rows.ensures.formed c.in_ok-has_rows.ensures.rows c.in_ok-validate.ensures.judged
