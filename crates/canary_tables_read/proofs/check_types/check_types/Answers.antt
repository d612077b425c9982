use Rattle.canary_tables_read.proofs.Sequence.{all_told}
use Rattle.canary_tables_read.proofs.check_types.check_types.Goals as goal

pub returns-clause-typed : goal.returns-clause-typed
returns-clause-typed g c usable formed whole =
    let old = g.Q.Reader.shows c.args.conn.now in
    let mid = g.Q.Reader.shows c.early_typed.new.conn in
    let new = g.Q.Reader.shows c.late_typed.new.conn in
    all_told old mid new c.late_typed.result c.early_typed.ensures.reads.same c.late_typed.ensures.reads.same whole c.in_ok-early_typed.ensures.typed c.late_typed.ensures.typed usable formed
