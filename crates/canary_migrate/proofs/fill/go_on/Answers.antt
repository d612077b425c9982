use Rattle.std.proofs.Common.{arith, rules}
use Rattle.sqlite.specs.Held.{state}
use Rattle.sqlite.specs.State.{HasCleanDisk}
use Rattle.canary_tables_schema.specs.Stores.{IsReady}
use Rattle.canary_migrate.proofs.Written.{kept_once, kept_live, kept_both, has_id, ready_again}
use Rattle.canary_migrate.proofs.fill.go_on.Goals as goal

pub returns-clause-wrote : goal.returns-clause-wrote
returns-clause-wrote g c clean t holds =
    let clean0 : HasCleanDisk (state g.S.Store c.set_schema.new.tx.conn.now) = omega (arith, c.insert.ensures.survives.clean, clean) in
    let set = c.in_ok-set_schema.ensures.set clean0 c.in_ok-set_schema.ensures.began holds.schema (has_id _ t holds) in
    c.insert.ensures.wrote clean t (ready_again (state g.S.Store c.args.tx.now.conn.now) (state g.S.Store c.set_schema.new.tx.conn.now) t holds set)

pub returns-clause-sound : goal.returns-clause-sound
returns-clause-sound g c clean t holds =
    let clean0 : HasCleanDisk (state g.S.Store c.set_schema.new.tx.conn.now) = omega (arith, c.insert.ensures.survives.clean, clean) in
    let set = c.in_ok-set_schema.ensures.set clean0 c.in_ok-set_schema.ensures.began holds.schema (has_id _ t holds) in
    c.insert.ensures.sound clean t (ready_again (state g.S.Store c.args.tx.now.conn.now) (state g.S.Store c.set_schema.new.tx.conn.now) t holds set) set.sound

pub returns-clause-kept : goal.returns-clause-kept
returns-clause-kept g c =
    kept_both (state g.S.Store c.args.tx.now.conn.now) (state g.S.Store c.set_schema.new.tx.conn.now) (state g.S.Store c.insert.new.tx.conn.now)
    (kept_once g.S.Store c.args.tx.now.conn.now c.set_schema.new.tx.conn.now c.set_schema.ensures.writes.kept c.set_schema.ensures.ended c.set_schema.ensures.writes.survives)
    (kept_live (state g.S.Store c.set_schema.new.tx.conn.now) (state g.S.Store c.insert.new.tx.conn.now) c.insert.ensures.kept
    (λ usable. c.in_ok-set_schema.ensures.writes.live (omega (arith, c.insert.ensures.survives.clean, usable.clean)) c.in_ok-set_schema.ensures.began) c.insert.ensures.survives)

pub returns-in_err-set_schema-clause-kept : goal.returns-in_err-set_schema-clause-kept
returns-in_err-set_schema-clause-kept g c =
    kept_once g.S.Store c.args.tx.now.conn.now c.set_schema.new.tx.conn.now c.set_schema.ensures.writes.kept c.set_schema.ensures.ended c.set_schema.ensures.writes.survives
