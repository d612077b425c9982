use Rattle.std.proofs.Common.{◌≡◌, ◌++◌, [], ◌∷◌, Err, ap, rules, arith, ◌∙◌}
use Rattle.canary_tables_read.specs.declared.first.FirstTally.{FirstTally}
use Rattle.canary_tables_read.specs.declared.fault.ReadFault.TheVariants.{Broken}
use Rattle.canary_tables_rows.specs.Tables.{Tables}
use Rattle.canary_migrate.specs.Migrated.{tally_of}
use Rattle.canary_migrate.proofs.Each.{none_yet, one_more, all_found, one_each}
use Rattle.canary_migrate.proofs.Passes.{one_within}
use Rattle.canary_migrate.proofs.Standing.{stores_then, goes_first, goes_more}
use Rattle.canary_migrate.proofs.tallies.with_passes.Goals as goal

pub loop-row-init : goal.loop-row-init
loop-row-init g c = (goes_first g.Q.Reader.IsReady g.Q.Reader.place g.Q.Reader.below c.args.conn.now c.requires.ready, none_yet (λ (t : Tables) (x : FirstTally). tally_of t.measurements x ∷ []) c.args.rows.now (g.Q.Reader.shows c.args.conn.now) c.of-found.result (c.of-found.ensures ∙ c.new.ensures.items))

pub loop-row-preserved : goal.loop-row-preserved
loop-row-preserved g c = (
  goes_more g.Q.Reader.IsReady g.Q.Reader.place g.Q.Reader.below _ _ _ c.loop-row.invariant.0 c.tally.ensures.reads.mode c.tally.ensures.reads.place c.tally.ensures.reads.kept,
  one_more (λ (t : Tables) (x : FirstTally). tally_of t.measurements x ∷ []) c.args.rows.now c.loop-row.row-index c.row-item.result (g.Q.Reader.shows c.args.conn.now) (g.Q.Reader.shows c.loop-row.conn) (g.Q.Reader.shows c.tally.new.conn) c.loop-row.found (c.in_ok-tally.field-0 ∷ []) _
      (omega (arith, c.loop-row-test.true)) c.row-item.is c.loop-row.invariant.1 c.tally.ensures.reads.same (λ usable t has. ap (λ y. y ∷ []) (c.in_ok-tally.ensures.found usable t has)) c.in_ok-push.ensures.ok,
)

pub returns-in_err-tally-clause-broken : goal.returns-in_err-tally-clause-broken
returns-in_err-tally-clause-broken g c usable t has is within =
    let broken : c.tally.result ≡ Err Broken = search rules in
    c.tally.ensures.broken usable t (stores_then (g.Q.Reader.shows c.args.conn.now) (g.Q.Reader.shows c.loop-row.conn) t c.loop-row.invariant.1.same (c.tally.ensures.reads.same usable).0 has) broken
    (within.0, one_within (tally_of t.measurements) c.args.rows.now c.loop-row.row-index c.row-item.result (omega (arith, c.loop-row-test.true)) c.row-item.is within.1)

pub returns-clause-found : goal.returns-clause-found
returns-clause-found g c usable t has =
    all_found (λ (t : Tables) (x : FirstTally). tally_of t.measurements x ∷ []) c.args.rows.now c.loop-row.row-index (g.Q.Reader.shows c.args.conn.now) (g.Q.Reader.shows c.loop-row.conn) c.loop-row.found c.loop-row-test.false c.loop-row.invariant.1 usable t has
    ∙ one_each (tally_of t.measurements) c.args.rows.now
