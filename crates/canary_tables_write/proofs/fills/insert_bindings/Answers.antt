use Rattle.std.proofs.Common.{refl, rules, arith}
use Rattle.sqlite.specs.Held.{state}
use Rattle.canary_tables_rows.specs.Tables.{Tables}
use Rattle.canary_tables_write.proofs.Filled.{none_yet, row_more, all_done, sound_more}
use Rattle.canary_tables_write.proofs.fills.insert_bindings.Goals as goal

pub loop-row-init : goal.loop-row-init
loop-row-init g c = (search rules, none_yet (λ (t : Tables). t.bindings) (λ rows t. record t { bindings = rows }) (λ t. refl) c.args.rows.now (state g.S.Store c.args.tx.now.conn.now), λ clean t ready was. was)

pub loop-row-preserved : goal.loop-row-preserved
loop-row-preserved g c = (
  search rules,
  row_more (λ (t : Tables). t.bindings) (λ rows t. record t { bindings = rows }) (λ t. refl) c.args.rows.now (λ all t. refl) (λ a b t. refl) c.loop-row.row-index c.row-item.result (state g.S.Store c.args.tx.now.conn.now) (state g.S.Store c.loop-row.tx.conn.now) (state g.S.Store c.binding_row.new.tx.conn.now)
      (omega (arith, c.loop-row-test.true)) c.row-item.is c.loop-row.invariant.1 c.in_ok-binding_row.ensures.wrote c.in_ok-binding_row.ensures.writes.live c.in_ok-binding_row.ensures.writes.kept c.binding_row.ensures.writes.survives,
  sound_more _ (state g.S.Store c.args.tx.now.conn.now) (state g.S.Store c.loop-row.tx.conn.now) (state g.S.Store c.binding_row.new.tx.conn.now) c.loop-row.invariant.1 c.loop-row.invariant.2 c.in_ok-binding_row.ensures.sound c.binding_row.ensures.writes.survives,
)

pub returns-clause-wrote : goal.returns-clause-wrote
returns-clause-wrote g c clean t ready =
    all_done (λ (t : Tables). t.bindings) (λ rows t. record t { bindings = rows }) (λ t. refl) c.args.rows.now c.loop-row.row-index (state g.S.Store c.args.tx.now.conn.now) (state g.S.Store c.loop-row.tx.conn.now) c.loop-row-test.false c.loop-row.invariant.1 clean t ready

pub returns-clause-sound : goal.returns-clause-sound
returns-clause-sound g c clean t ready was = c.loop-row.invariant.2 clean t ready was
