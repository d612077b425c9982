use Rattle.std.proofs.Common.{◌≡◌, Err, rules}
use Rattle.canary_tables_read.specs.declared.fault.ReadFault.TheVariants.{Broken}
use Rattle.canary_tables_adopt.proofs.Standing.{same_then, stores_then}
use Rattle.canary_tables_adopt.proofs.one_service.pages.page_between.Goals as goal

pub returns-in_err-runs-clause-broken : goal.returns-in_err-runs-clause-broken
returns-in_err-runs-clause-broken g c usable t has is within =
    let broken : c.runs.result ≡ Err Broken = search rules in
    c.runs.ensures.broken usable t has broken within.runs

pub returns-in_err-bindings-clause-broken : goal.returns-in_err-bindings-clause-broken
returns-in_err-bindings-clause-broken g c usable t has is within =
    let broken : c.bindings.result ≡ Err Broken = search rules in
    let mid = (c.bindings.ensures.reads.same usable).0 in
    c.bindings.ensures.broken usable t (stores_then (g.Q.Reader.shows c.args.conn.now) (g.Q.Reader.shows c.runs.new.conn) t c.runs.ensures.reads.same mid has) broken within.bindings

pub returns-in_err-tallies-clause-broken : goal.returns-in_err-tallies-clause-broken
returns-in_err-tallies-clause-broken g c usable t has is within =
    let broken : c.tallies.result ≡ Err Broken = search rules in
    let mid = (c.tallies.ensures.reads.same usable).0 in
    let so_far = same_then (g.Q.Reader.shows c.args.conn.now) (g.Q.Reader.shows c.runs.new.conn) (g.Q.Reader.shows c.bindings.new.conn) c.runs.ensures.reads.same c.bindings.ensures.reads.same in
    c.tallies.ensures.broken usable t (stores_then (g.Q.Reader.shows c.args.conn.now) (g.Q.Reader.shows c.bindings.new.conn) t so_far mid has) broken within.tallies

pub returns-clause-found : goal.returns-clause-found
returns-clause-found g c usable t has =
    let after = (c.tallies.ensures.reads.same usable).0 in
    let between = (c.bindings.ensures.reads.same after).0 in
    let so_far = same_then (g.Q.Reader.shows c.args.conn.now) (g.Q.Reader.shows c.runs.new.conn) (g.Q.Reader.shows c.bindings.new.conn) c.runs.ensures.reads.same c.bindings.ensures.reads.same in
    record {
      runs = c.in_ok-runs.ensures.found between t has;
      bindings = c.in_ok-bindings.ensures.found after t (stores_then (g.Q.Reader.shows c.args.conn.now) (g.Q.Reader.shows c.runs.new.conn) t c.runs.ensures.reads.same between has);
      tallies = c.in_ok-tallies.ensures.found usable t (stores_then (g.Q.Reader.shows c.args.conn.now) (g.Q.Reader.shows c.bindings.new.conn) t so_far after has);
    }
