use Rattle.std.proofs.Common.{◌≡◌, ◌+◌, ℕ, List, length, map, Err, ap, sym, subst, rules, ◌∙◌}
use Rattle.std.specs.Prelude.{IfSome}
use Rattle.std.proofs.lemmas.List.{length-map}
use Rattle.sqlite.specs.Effect.{Database}
use Rattle.canary_tables_rows.specs.declared.rows.MeasurementRow.{MeasurementRow}
use Rattle.canary_tables_contents.specs.Services.{metrics_of_runs}
use Rattle.canary_tables_read.specs.declared.fault.ReadFault.TheVariants.{Broken}
use Rattle.canary_tables_read.specs.declared.after.MeasurementAt.{MeasurementAt}
use Rattle.canary_tables_read.specs.Places.{IsMark, IsPlacedPage, row_of}
use Rattle.canary_tables_adopt.specs.Measured.{AreCountedTo}
use Rattle.canary_tables_adopt.proofs.Standing.{stores_before}
use Rattle.canary_tables_adopt.proofs.one_service.measured.count_page.Goals as goal

-- as many more as a page has
counted_to : (before after : ℕ) (rows : List MeasurementAt) (page : List MeasurementRow) → map row_of rows ≡ page → after ≡ before + length rows → after ≡ before + length page
counted_to before after rows page same more = more ∙ ap (λ n. before + n) (sym (length-map rows row_of) ∙ ap length same)

pub returns-in_err-rows-clause-broken : goal.returns-in_err-rows-clause-broken
returns-in_err-rows-clause-broken g c usable t has is counted =
    let broken : c.measurements.result ≡ Err Broken = search rules in
    c.measurements.ensures.broken usable t has broken counted.0.measurements

pub returns-in_err-counts-clause-broken : goal.returns-in_err-counts-clause-broken
returns-in_err-counts-clause-broken g c usable t has is counted =
    let broken : c.count_rows.result ≡ Err Broken = search rules in
    let page = c.in_ok-rows.ensures.found usable t has (c.requires.noted (c.measurements.ensures.reads.same usable).0 t has) in
    c.count_rows.ensures.refused broken counted.1.0.counts
    (subst (λ (xs : _). AreCountedTo (metrics_of_runs c.args.runs.now) c.args.so_far.counts xs counted.1.0.counts) (sym (ap (map row_of) c.as_slice-3.ensures ∙ page.rows)) counted.1.1.counted)

pub returns-clause-found : goal.returns-clause-found
returns-clause-found g c usable t has =
    let page = c.in_ok-rows.ensures.found usable t has (c.requires.noted (c.measurements.ensures.reads.same usable).0 t has) in
    record {
      counted = subst (λ (xs : _). AreCountedTo (metrics_of_runs c.args.runs.now) c.args.so_far.counts xs c.in_ok-counts.counts) (ap (map row_of) c.as_slice-3.ensures ∙ page.rows) c.in_ok-counts.ensures.counted;
      count = counted_to c.args.so_far.count c.in_ok-count.count c.in_ok-rows.rows _ page.rows (search rules);
    }

pub returns-clause-noted : goal.returns-clause-noted
returns-clause-noted g c usable t has =
    let old = (g.Q.Reader.shows c.args.conn.now).now in
    let same = c.measurements.ensures.reads.same usable in
    let before = stores_before (g.Q.Reader.shows c.args.conn.now) (g.Q.Reader.shows c.measurements.new.conn) t c.measurements.ensures.reads.same usable has in
    let page = subst (IsPlacedPage old t c.args.name.now c.args.so_far.count 32768) (sym c.as_slice.ensures) (c.in_ok-rows.ensures.found usable t before (c.requires.noted same.0 t before)) in
    let end : c.in_ok-count.count ≡ c.args.so_far.count + length c.as_slice.result.now = search rules in
    subst (λ (db : Database). IfSome c.last_place-place.result (IsMark db c.args.name.now c.in_ok-count.count)) (sym same.1)
    (subst (λ (n : ℕ). IfSome c.last_place-place.result (IsMark old c.args.name.now n)) (sym end) (c.last_place-place.ensures old t c.args.name.now c.args.so_far.count 32768 page))
