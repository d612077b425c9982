use Rattle.std.proofs.Common.{◌≡◌, ◌++◌, Err, ap, refl, rules, arith, subst, ◌∙◌}
use Rattle.canary_tables_read.specs.declared.fault.ReadFault.TheVariants.{Broken}
use Rattle.canary_migrate.specs.Migrated.{bindings_of_runs}
use Rattle.canary_migrate.proofs.Each.{no_runs, run_more}
use Rattle.canary_migrate.proofs.Standing.{stores_then, goes_first, goes_more}
use Rattle.canary_migrate.proofs.plan.with_runs.Goals as goal

pub loop-place-init : goal.loop-place-init
loop-place-init g c = (goes_first g.Q.Reader.IsReady g.Q.Reader.place g.Q.Reader.below c.args.conn.now c.requires.ready, no_runs c.args.row.now.name c.args.made.now c.args.attempt (g.Q.Reader.shows c.args.conn.now) _ (search rules))

pub loop-place-preserved : goal.loop-place-preserved
loop-place-preserved g c = (
  goes_more g.Q.Reader.IsReady g.Q.Reader.place g.Q.Reader.below _ _ _ c.loop-place.invariant.0 c.bindings_of_run.ensures.reads.mode c.bindings_of_run.ensures.reads.place c.bindings_of_run.ensures.reads.kept,
  run_more c.args.row.now.name c.args.made.now c.args.attempt c.loop-place.place (g.Q.Reader.shows c.args.conn.now) (g.Q.Reader.shows c.loop-place.conn) (g.Q.Reader.shows c.bindings_of_run.new.conn) c.loop-place.found _ _
      c.loop-place.invariant.1 c.bindings_of_run.ensures.reads.same c.in_ok-more.ensures.found (c.in_ok-found.ensures ∙ ap (λ ys. c.loop-place.found ++ ys) c.as_slice.ensures),
)

pub returns-in_err-more-clause-broken : goal.returns-in_err-more-clause-broken
returns-in_err-more-clause-broken g c usable t has is within =
    let broken : c.bindings_of_run.result ≡ Err Broken = search rules in
    c.bindings_of_run.ensures.broken usable t (stores_then (g.Q.Reader.shows c.args.conn.now) (g.Q.Reader.shows c.loop-place.conn) t c.loop-place.invariant.1.same (c.bindings_of_run.ensures.reads.same usable).0 has) broken within

pub returns-clause-found : goal.returns-clause-found
returns-clause-found g c usable t has =
    let all : c.loop-place.place ≡ c.args.row.now.standing.runs = omega arith in
    subst (λ n. c.loop-place.found ≡ c.args.attempt ++ bindings_of_runs t.runs c.args.row.now.name c.args.made.now n) all (c.loop-place.invariant.1.value usable t has)
