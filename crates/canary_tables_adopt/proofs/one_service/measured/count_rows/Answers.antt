use Rattle.std.proofs.Common.{◌≡◌, Err, arith, rules}
use Rattle.canary_tables_contents.specs.Services.{metrics_of_runs}
use Rattle.canary_tables_read.specs.declared.fault.ReadFault.TheVariants.{Broken}
use Rattle.canary_tables_read.specs.Places.{row_of}
use Rattle.canary_tables_adopt.proofs.MeasuredLemmas.{rows_more, rows_refused, rows_all}
use Rattle.canary_tables_adopt.proofs.one_service.measured.count_rows.Goals as goal

pub loop-placed-preserved : goal.loop-placed-preserved
loop-placed-preserved c =
    rows_more (metrics_of_runs c.args.runs.now) row_of c.args.rows.now c.loop-placed.placed-index c.placed-item.result c.args.first c.loop-placed.counts c.in_ok-counts.counts (omega arith) c.placed-item.is c.loop-placed.invariant c.in_ok-counts.ensures.counted

pub returns-in_err-counts-clause-refused : goal.returns-in_err-counts-clause-refused
returns-in_err-counts-clause-refused c is last whole =
    let broken : c.count_row.result ≡ Err Broken = search rules in
    rows_refused (metrics_of_runs c.args.runs.now) row_of c.args.rows.now c.loop-placed.placed-index c.placed-item.result c.args.first c.loop-placed.counts last (omega arith) c.placed-item.is c.loop-placed.invariant (c.count_row.ensures.refused broken) whole

pub returns-clause-counted : goal.returns-clause-counted
returns-clause-counted c = rows_all (metrics_of_runs c.args.runs.now) row_of c.args.rows.now c.loop-placed.placed-index c.args.first c.loop-placed.counts (omega arith) c.loop-placed.invariant
