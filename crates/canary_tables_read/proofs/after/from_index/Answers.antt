use Rattle.std.proofs.Common.{◌∷◌, rules}
use Rattle.std.proofs.lemmas.Result.{IfOk-weaker}
use Rattle.sqlite.specs.declared.types.Value.TheVariants.{Null, Text as Words}
use Rattle.canary_tables_rows.specs.Limits.{IsMeasurementWithin}
use Rattle.canary_tables_read.specs.Places.{placed_cells}
use Rattle.canary_tables_read.proofs.Breaking.{unless_broken, all_taken, all_dropped}
use Rattle.canary_tables_read.proofs.FoundPlaces.{from_query, from_rows, read_so, within_for}
use Rattle.canary_tables_read.proofs.after.from_index.Goals as goal

pub ask-requires-clause-query : goal.ask-requires-clause-query
ask-requires-clause-query g c = from_query

pub returns-clause-found : goal.returns-clause-found
returns-clause-found g c usable t has =
    let told = from_rows (g.Q.Reader.shows c.args.conn.now) (g.Q.Reader.shows c.ask.new.self) t c.args.service.now c.args.from c.args.most _ c.in_ok-rows.rows.items has (search rules) (c.in_ok-rows.ensures.shown usable) in
    IfOk-weaker c.all.result _ _
    (λ found read. read_so (λ row. Null ∷ Words c.args.service.now ∷ row) c.in_ok-rows.rows.items _ found told (rw c.as_slice.ensures.value at read)) c.all.ensures.found

pub returns-clause-broken : goal.returns-clause-broken
returns-clause-broken g c usable t has is within =
    let told = from_rows (g.Q.Reader.shows c.args.conn.now) (g.Q.Reader.shows c.ask.new.self) t c.args.service.now c.args.from c.args.most _ c.in_ok-rows.rows.items has (search rules) (c.in_ok-rows.ensures.shown usable) in
    unless_broken placed_cells (λ row. Null ∷ Words c.args.service.now ∷ row) (λ p. IsMeasurementWithin p.row) _ c.in_ok-rows.rows.items told (rw c.as_slice.ensures.value at (c.all.ensures.broken is))
    (all_taken (λ p. IsMeasurementWithin p.row) c.args.most _ (all_dropped (λ p. IsMeasurementWithin p.row) c.args.from _ (within_for IsMeasurementWithin (g.Q.Reader.shows c.args.conn.now).now t c.args.service.now has within)))
