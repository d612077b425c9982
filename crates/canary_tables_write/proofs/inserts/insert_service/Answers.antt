use Rattle.std.proofs.Common.{◌≡◌, ◌∙◌, ◌∷◌, [], ap, rules, to_z, of_z, w64}
use Rattle.sqlite.specs.Held.{state}
use Rattle.sqlite.specs.Values.{bound_value}
use Rattle.sqlite.specs.declared.types.Value.TheVariants.{Int, Text as Words}
use Rattle.canary_tables_write.proofs.ServiceInserted.{service_inserted}
use Rattle.canary_tables_write.proofs.inserts.insert_service.Goals as goal

pub returns-clause-wrote : goal.returns-clause-wrote
returns-clause-wrote g c clean t ready =
    let back : to_z w64 (of_z w64 c.seconds.result) ≡ c.seconds.result = search rules in
    let back2 : to_z w64 (of_z w64 c.seconds-2.result) ≡ c.seconds-2.result = search rules in
    service_inserted (state g.S.Store c.args.tx.now.conn.now) (state g.S.Store c.execute.new.self.conn.now) t (record { name = c.args.name.now; spec = c.args.spec.now; standing = c.args.standing.now }) c.execute.result ready _ (c.execute.ensures.runs clean ready.live)
    (λ i. bound_value ((c.params-to_sql.ensures ∙ ap Words c.as_str.ensures.value) i) ∷ bound_value (c.params-to_sql-2.ensures i) ∷ bound_value ((c.params-to_sql-3.ensures ∙ ap Words c.as_str-2.ensures.value) i) ∷ bound_value ((c.params-to_sql-4.ensures ∙ ap Words c.as_str-3.ensures.value) i) ∷ bound_value (c.params-to_sql-5.ensures i) ∷ bound_value (c.params-to_sql-6.ensures i) ∷ bound_value ((c.params-to_sql-7.ensures ∙ ap Int (back ∙ c.seconds.ensures)) i) ∷ bound_value (c.params-to_sql-8.ensures i) ∷ bound_value (c.params-to_sql-9.ensures i) ∷ bound_value (c.params-to_sql-10.ensures i) ∷ bound_value ((c.params-to_sql-11.ensures ∙ ap Int (back2 ∙ c.seconds-2.ensures)) i) ∷ [])
