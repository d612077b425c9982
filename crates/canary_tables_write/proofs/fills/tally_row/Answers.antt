use Rattle.std.proofs.Common.{◌≡◌, refl, rules}
use Rattle.sqlite.specs.Held.{state}
use Rattle.canary_tables_write.proofs.CountsInserted.{counts_sound, counts_inserted, moment_given}
use Rattle.canary_tables_write.proofs.fills.tally_row.Goals as goal

pub returns-clause-wrote : goal.returns-clause-wrote
returns-clause-wrote g c clean t ready =
    counts_inserted (state g.S.Store c.args.tx.now.conn.now) (state g.S.Store c.execute.new.self.conn.now) t c.args.row.now c.execute.result ready _
    (rw (c.params-to_sql.ensures, c.params-to_sql-2.ensures, c.params-to_sql-3.ensures, c.params-to_sql-4.ensures, c.params-to_sql-5.ensures, c.params-to_sql-6.ensures, c.params-to_sql-7.ensures, c.params-to_sql-8.ensures, c.params-to_sql-9.ensures, c.params-to_sql-10.ensures, c.as_str.ensures.value, c.counted.ensures.value, c.failed.ensures.value, c.inconclusive.ensures.value, c.errors.ensures.value, c.consecutive.ensures.value, c.passes.ensures.value, c.maybe_seconds.ensures, c.last.ensures, moment_given c.args.row.now.counts.last) refl)
    (c.execute.ensures.runs clean ready.live)

pub returns-clause-sound : goal.returns-clause-sound
returns-clause-sound g c clean t ready was =
    counts_sound (state g.S.Store c.args.tx.now.conn.now) (state g.S.Store c.execute.new.self.conn.now) t c.args.row.now c.execute.result ready _ (c.execute.ensures.runs clean ready.live)
