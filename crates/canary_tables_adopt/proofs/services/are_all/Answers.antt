use Rattle.std.proofs.Common.{◌≡◌, length, Err, rules}
use Rattle.std.proofs.lemmas.Result.{on_ok_weaker}
use Rattle.canary_tables_read.specs.declared.fault.ReadFault.TheVariants.{Broken}
use Rattle.canary_tables_adopt.proofs.Standing.{same_then, stores_then}
use Rattle.canary_tables_adopt.proofs.services.are_all.Goals as goal

pub returns-in_err-are_as_many-clause-refused : goal.returns-in_err-are_as_many-clause-refused
returns-in_err-are_as_many-clause-refused g c usable t has is both =
    let broken : c.are_as_many.result ≡ Err Broken = search rules in
    c.are_as_many.ensures.broken broken c.run_count.ensures.whole (length t.runs) (c.run_count.ensures.found usable t has) both.1.runs

pub returns-in_err-are_as_many-2-clause-refused : goal.returns-in_err-are_as_many-2-clause-refused
returns-in_err-are_as_many-2-clause-refused g c usable t has is both =
    let broken : c.are_as_many-2.result ≡ Err Broken = search rules in
    let mid = (c.binding_count.ensures.reads.same usable).0 in
    c.are_as_many-2.ensures.broken broken c.binding_count.ensures.whole (length t.bindings) (c.binding_count.ensures.found usable t (stores_then (g.Q.Reader.shows c.args.conn.now) (g.Q.Reader.shows c.run_count.new.conn) t c.run_count.ensures.reads.same mid has)) both.1.bindings

pub returns-in_err-are_as_many-3-clause-refused : goal.returns-in_err-are_as_many-3-clause-refused
returns-in_err-are_as_many-3-clause-refused g c usable t has is both =
    let broken : c.are_as_many-3.result ≡ Err Broken = search rules in
    let mid = (c.tally_count.ensures.reads.same usable).0 in
    c.are_as_many-3.ensures.broken broken c.tally_count.ensures.whole (length t.tallies) (c.tally_count.ensures.found usable t (stores_then (g.Q.Reader.shows c.args.conn.now) (g.Q.Reader.shows c.binding_count.new.conn) t (same_then (g.Q.Reader.shows c.args.conn.now) (g.Q.Reader.shows c.run_count.new.conn) (g.Q.Reader.shows c.binding_count.new.conn) c.run_count.ensures.reads.same c.binding_count.ensures.reads.same) mid has)) both.1.tallies

pub returns-in_err-are_as_many-4-clause-refused : goal.returns-in_err-are_as_many-4-clause-refused
returns-in_err-are_as_many-4-clause-refused g c usable t has is both =
    let broken : c.are_as_many-4.result ≡ Err Broken = search rules in
    let mid = (c.measurement_count.ensures.reads.same usable).0 in
    c.are_as_many-4.ensures.broken broken c.measurement_count.ensures.whole (length t.measurements) (c.measurement_count.ensures.found usable t (stores_then (g.Q.Reader.shows c.args.conn.now) (g.Q.Reader.shows c.tally_count.new.conn) t (same_then (g.Q.Reader.shows c.args.conn.now) (g.Q.Reader.shows c.binding_count.new.conn) (g.Q.Reader.shows c.tally_count.new.conn) (same_then (g.Q.Reader.shows c.args.conn.now) (g.Q.Reader.shows c.run_count.new.conn) (g.Q.Reader.shows c.binding_count.new.conn) c.run_count.ensures.reads.same c.binding_count.ensures.reads.same) c.tally_count.ensures.reads.same) mid has)) both.1.measurements

pub returns-clause-refused : goal.returns-clause-refused
returns-clause-refused g c usable t has is both =
    let mid = (c.history_count.ensures.reads.same usable).0 in
    c.are_as_many-5.ensures.broken is c.history_count.ensures.whole (length t.history) (c.history_count.ensures.found usable t (stores_then (g.Q.Reader.shows c.args.conn.now) (g.Q.Reader.shows c.measurement_count.new.conn) t (same_then (g.Q.Reader.shows c.args.conn.now) (g.Q.Reader.shows c.tally_count.new.conn) (g.Q.Reader.shows c.measurement_count.new.conn) (same_then (g.Q.Reader.shows c.args.conn.now) (g.Q.Reader.shows c.binding_count.new.conn) (g.Q.Reader.shows c.tally_count.new.conn) (same_then (g.Q.Reader.shows c.args.conn.now) (g.Q.Reader.shows c.run_count.new.conn) (g.Q.Reader.shows c.binding_count.new.conn) c.run_count.ensures.reads.same c.binding_count.ensures.reads.same) c.tally_count.ensures.reads.same) c.measurement_count.ensures.reads.same) mid has)) both.1.lines

pub returns-clause-judged : goal.returns-clause-judged
returns-clause-judged g c usable t has =
    let mid4 = (c.history_count.ensures.reads.same usable).0 in
    let mid3 = (c.measurement_count.ensures.reads.same mid4).0 in
    let mid2 = (c.tally_count.ensures.reads.same mid3).0 in
    let mid1 = (c.binding_count.ensures.reads.same mid2).0 in
    on_ok_weaker c.are_as_many-5.result (λ last. record {
      runs = c.in_ok-are_as_many.ensures.all (length t.runs) (c.run_count.ensures.found mid1 t has);
      bindings = c.in_ok-are_as_many-2.ensures.all (length t.bindings) (c.binding_count.ensures.found mid2 t (stores_then (g.Q.Reader.shows c.args.conn.now) (g.Q.Reader.shows c.run_count.new.conn) t c.run_count.ensures.reads.same mid1 has));
      tallies = c.in_ok-are_as_many-3.ensures.all (length t.tallies) (c.tally_count.ensures.found mid3 t (stores_then (g.Q.Reader.shows c.args.conn.now) (g.Q.Reader.shows c.binding_count.new.conn) t (same_then (g.Q.Reader.shows c.args.conn.now) (g.Q.Reader.shows c.run_count.new.conn) (g.Q.Reader.shows c.binding_count.new.conn) c.run_count.ensures.reads.same c.binding_count.ensures.reads.same) mid2 has));
      measurements = c.in_ok-are_as_many-4.ensures.all (length t.measurements) (c.measurement_count.ensures.found mid4 t (stores_then (g.Q.Reader.shows c.args.conn.now) (g.Q.Reader.shows c.tally_count.new.conn) t (same_then (g.Q.Reader.shows c.args.conn.now) (g.Q.Reader.shows c.binding_count.new.conn) (g.Q.Reader.shows c.tally_count.new.conn) (same_then (g.Q.Reader.shows c.args.conn.now) (g.Q.Reader.shows c.run_count.new.conn) (g.Q.Reader.shows c.binding_count.new.conn) c.run_count.ensures.reads.same c.binding_count.ensures.reads.same) c.tally_count.ensures.reads.same) mid3 has));
      lines = last (length t.history) (c.history_count.ensures.found usable t (stores_then (g.Q.Reader.shows c.args.conn.now) (g.Q.Reader.shows c.measurement_count.new.conn) t (same_then (g.Q.Reader.shows c.args.conn.now) (g.Q.Reader.shows c.tally_count.new.conn) (g.Q.Reader.shows c.measurement_count.new.conn) (same_then (g.Q.Reader.shows c.args.conn.now) (g.Q.Reader.shows c.binding_count.new.conn) (g.Q.Reader.shows c.tally_count.new.conn) (same_then (g.Q.Reader.shows c.args.conn.now) (g.Q.Reader.shows c.run_count.new.conn) (g.Q.Reader.shows c.binding_count.new.conn) c.run_count.ensures.reads.same c.binding_count.ensures.reads.same) c.tally_count.ensures.reads.same) c.measurement_count.ensures.reads.same) mid4 has));
    }) c.are_as_many-5.ensures.all
