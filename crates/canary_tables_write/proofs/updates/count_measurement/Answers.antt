use Rattle.std.proofs.Common.{◌≡◌, ◌∙◌, ap, sym, rules, to_z, of_z, w64}
use Rattle.sqlite.specs.Held.{state}
use Rattle.canary_tables_write.proofs.TallyCounted.{counting, counting_others, tally_counted}
use Rattle.canary_tables_write.proofs.updates.count_measurement.Goals as goal
use Rattle.canary_tables_write.proofs.updates.count_measurement.Goals.{in-Error, in-Failed, in-Inconclusive, in-Successful, in_default}

pub returns-clause-wrote : goal.returns-clause-wrote
returns-clause-wrote g c clean t ready has =
    let back : to_z w64 (of_z w64 c.seconds.result) ≡ c.seconds.result = search rules in
    let is : c.match-phase.statement.now ≡ counting c.args.phase = elim c.match-phase.branch [
      | in-Error w ↦ ap (λ r. r.now) w.statement-is ∙ ap counting (sym w.in-Error.is)
      | in-Failed w ↦ ap (λ r. r.now) w.statement-is ∙ ap counting (sym w.in-Failed.is)
      | in-Inconclusive w ↦ ap (λ r. r.now) w.statement-is ∙ ap counting (sym w.in-Inconclusive.is)
      | in-Successful w ↦ ap (λ r. r.now) w.statement-is ∙ ap counting (sym w.in-Successful.is)
      | in_default w ↦ ap (λ r. r.now) w.statement-is ∙ counting_others c.args.phase w.in_default.not-Error w.in_default.not-Failed w.in_default.not-Inconclusive w.in_default.not-Successful
    ] in
    tally_counted (state g.S.Store c.args.tx.now.conn.now) (state g.S.Store c.execute.new.self.conn.now) t c.args.service.now c.args.run c.args.metric c.args.phase c.args.taken c.execute.result ready has
    (rw (is, c.params-to_sql.ensures, c.params-to_sql-2.ensures, c.params-to_sql-3.ensures, c.params-to_sql-4.ensures, back, c.as_str.ensures.value, c.seconds.ensures) at (c.execute.ensures.runs clean ready.live))
