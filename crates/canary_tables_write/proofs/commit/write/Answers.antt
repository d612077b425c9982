use Rattle.std.proofs.Common.{rules, subst}
use Rattle.sqlite.specs.Held.{state}
use Rattle.canary_tables_rows.specs.Changes.{with_kept}
use Rattle.canary_tables_schema.specs.Stores.{Wrote, WroteIf}
use Rattle.canary_tables_contents.specs.Values.{kept_row}
use Rattle.canary_tables_contents.specs.Settling.{CallerAsks, caller_settled}
use Rattle.canary_tables_write.proofs.Committing.{writes}
use Rattle.canary_tables_write.proofs.commit.write.Goals as goal

pub returns-clause-wrote : goal.returns-clause-wrote
returns-clause-wrote g c =
    let s = c.args.settlement.now in
    let settled = state g.S.Store c.settle_caller.new.tx.conn.now in
    writes s c.args.is_bound (state g.S.Store c.args.tx.now.conn.now) settled (state g.S.Store c.keep.new.tx.conn.now) (state g.S.Store c.change_desk.new.tx.conn.now)
    c.settle_caller.result c.keep.result c.change_desk.result c.in_ok-map_err.field-0 c.in_ok-keep.field-0 c.in_ok-change_desk.field-0
    (subst (λ n. WroteIf (CallerAsks s.caller n) (caller_settled s.caller n) (state g.S.Store c.args.tx.now.conn.now) settled c.settle_caller.result) c.get.ensures.value c.settle_caller.ensures.wrote)
    (subst (λ n. Wrote (with_kept (kept_row s.caller n s.receipt)) settled (state g.S.Store c.keep.new.tx.conn.now) c.keep.result) c.get-2.ensures.value c.keep.ensures.wrote)
    c.change_desk.ensures.wrote c.keep.ensures.writes.survives c.change_desk.ensures.writes.survives (search rules) (search rules) (search rules)
