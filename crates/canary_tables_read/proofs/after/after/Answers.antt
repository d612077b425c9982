use Rattle.std.proofs.Common.{◌≡◌, ◌∷◌, int_lt, to_z, of_z, w64, rules}
use Rattle.std.proofs.lemmas.Result.{IfOk-weaker}
use Rattle.sqlite.specs.declared.types.Value.TheVariants.{Null, Text as Words}
use Rattle.sqlite_keyed.proofs.ListLemmas.{all-filter}
use Rattle.canary_tables_rows.specs.Limits.{IsMeasurementWithin}
use Rattle.canary_tables_read.specs.Places.{placed_cells, placed_for}
use Rattle.canary_tables_read.proofs.Breaking.{unless_broken, all_taken}
use Rattle.canary_tables_read.proofs.FoundPlaces.{after_query, after_rows, read_so, within_for}
use Rattle.canary_tables_read.proofs.after.after.Goals as goal

pub ask-requires-clause-query : goal.ask-requires-clause-query
ask-requires-clause-query g c = after_query

pub returns-clause-found : goal.returns-clause-found
returns-clause-found g c usable t has =
    let back : to_z w64 (of_z w64 c.args.place) ≡ c.args.place = search rules in
    let told = after_rows (g.Q.Reader.shows c.args.conn.now) (g.Q.Reader.shows c.ask.new.self) t c.args.service.now c.args.place c.args.most _ c.in_ok-rows.rows.items has (search rules) (c.in_ok-rows.ensures.shown usable) in
    IfOk-weaker c.all.result _ _
    (λ found read. read_so (λ row. Null ∷ Words c.args.service.now ∷ row) c.in_ok-rows.rows.items _ found told (rw c.as_slice.ensures.value at read)) c.all.ensures.found

pub returns-clause-broken : goal.returns-clause-broken
returns-clause-broken g c usable t has is within =
    let back : to_z w64 (of_z w64 c.args.place) ≡ c.args.place = search rules in
    let told = after_rows (g.Q.Reader.shows c.args.conn.now) (g.Q.Reader.shows c.ask.new.self) t c.args.service.now c.args.place c.args.most _ c.in_ok-rows.rows.items has (search rules) (c.in_ok-rows.ensures.shown usable) in
    unless_broken placed_cells (λ row. Null ∷ Words c.args.service.now ∷ row) (λ p. IsMeasurementWithin p.row) _ c.in_ok-rows.rows.items told (rw c.as_slice.ensures.value at (c.all.ensures.broken is))
    (all_taken (λ p. IsMeasurementWithin p.row) c.args.most _ (all-filter (λ p. IsMeasurementWithin p.row) (λ p. int_lt c.args.place p.place) (placed_for c.args.service.now (g.Q.Reader.shows c.args.conn.now).now) (within_for IsMeasurementWithin (g.Q.Reader.shows c.args.conn.now).now t c.args.service.now has within)))
