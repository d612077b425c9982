use Rattle.std.proofs.Common.{◌≡◌, Err, List, sym, ap, subst, rules, ◌∙◌}
use Rattle.canary_release.specs.Parts.{is_broken}
use Rattle.canary_once.specs.declared.record.RunRecord.{RunRecord}
use Rattle.canary_tables_contents.specs.Services.{open_runs_in}
use Rattle.canary_tables_read.specs.declared.fault.ReadFault.TheVariants.{Broken}
use Rattle.canary_tables_adopt.specs.Measured.{AreMeasured}
use Rattle.canary_tables_adopt.proofs.JudgedPasts.{parts_there}
use Rattle.canary_tables_adopt.proofs.MeasuredLemmas.{are_measurements, past_measured}
use Rattle.canary_tables_adopt.proofs.LineLemmas.{history_there, lines_of_history}
use Rattle.canary_tables_adopt.proofs.JudgedServices.{past_totals}
use Rattle.canary_tables_adopt.proofs.Standing.{stores_then, same_then}
use Rattle.canary_tables_adopt.proofs.one_service.service.judge_past.Goals as goal

pub returns-in_err-runs-clause-refused : goal.returns-in_err-runs-clause-refused
returns-in_err-runs-clause-refused g c usable t has judged is within past =
    let broken : c.runs.result ≡ Err Broken = search rules in
    c.runs.ensures.broken usable t has judged broken within (past.runs, past.are)

pub returns-in_err-measurements-clause-refused : goal.returns-in_err-measurements-clause-refused
returns-in_err-measurements-clause-refused g c usable t has judged is within past =
    let broken : c.measured.result ≡ Err Broken = search rules in
    let mid = (c.measured.ensures.reads.same usable).0 in
    let are = c.in_ok-runs.ensures.found mid t has in
    c.measured.ensures.broken usable t (stores_then (g.Q.Reader.shows c.args.conn.now) (g.Q.Reader.shows c.runs.new.conn) t c.runs.ensures.reads.same mid has) broken
    (within, subst (λ rs. AreMeasured c.args.row.now.name rs t) (sym c.as_slice.ensures) (past_measured t c.args.row.now c.args.service c.in_ok-runs.runs are past))

pub returns-in_err-lines-clause-refused : goal.returns-in_err-lines-clause-refused
returns-in_err-lines-clause-refused g c usable t has judged is within past =
    let broken : c.lines.result ≡ Err Broken = search rules in
    let after = (c.lines.ensures.reads.same usable).0 in
    c.lines.ensures.broken usable t (stores_then (g.Q.Reader.shows c.args.conn.now) (g.Q.Reader.shows c.measured.new.conn) t (same_then (g.Q.Reader.shows c.args.conn.now) (g.Q.Reader.shows c.runs.new.conn) (g.Q.Reader.shows c.measured.new.conn) c.runs.ensures.reads.same c.measured.ensures.reads.same) after has) broken
    (within, lines_of_history c.args.row.now.name t past.history past.told)

pub returns-in_err-judge_parts-clause-refused : goal.returns-in_err-judge_parts-clause-refused
returns-in_err-judge_parts-clause-refused g c usable t has judged is within past =
    let broken : c.judge_parts.result ≡ Err Broken = search rules in
    let after = (c.lines.ensures.reads.same usable).0 in
    let mid = (c.measured.ensures.reads.same after).0 in
    let are = c.in_ok-runs.ensures.found mid t has in
    let parts = parts_there t c.args.row.now c.args.service c.in_ok-runs.runs are past in
    c.judge_parts.ensures.refused broken (ap (λ (rs : List RunRecord). is_broken (record { service = c.args.service; runs = record { count = c.args.row.now.standing.runs; open_runs = open_runs_in rs } })) c.as_slice-3.ensures ∙ parts)

pub returns-clause-judged : goal.returns-clause-judged
returns-clause-judged g c usable t has =
    let after = (c.lines.ensures.reads.same usable).0 in
    let mid = (c.measured.ensures.reads.same after).0 in
    let both = same_then (g.Q.Reader.shows c.args.conn.now) (g.Q.Reader.shows c.runs.new.conn) (g.Q.Reader.shows c.measured.new.conn) c.runs.ensures.reads.same c.measured.ensures.reads.same in
    let are = c.in_ok-runs.ensures.found mid t has in
    let found = c.in_ok-measurements.ensures.found after t (stores_then (g.Q.Reader.shows c.args.conn.now) (g.Q.Reader.shows c.runs.new.conn) t c.runs.ensures.reads.same mid has) in
    let taken = are_measurements c.args.row.now.name c.in_ok-runs.runs t (subst (λ rs. AreMeasured c.args.row.now.name rs t) c.as_slice.ensures found.0) in
    let lines = c.in_ok-lines.ensures.found usable t (stores_then (g.Q.Reader.shows c.args.conn.now) (g.Q.Reader.shows c.measured.new.conn) t both after has) in
    let told = history_there c.args.row.now.name t lines.0 in
    let parts = ap (λ (rs : List RunRecord). is_broken (record { service = c.args.service; runs = record { count = c.args.row.now.standing.runs; open_runs = open_runs_in rs } })) (sym c.as_slice-3.ensures) ∙ c.in_ok-judge_parts.ensures.judged in (
      record { runs = c.in_ok-runs.runs; are = are; measurements = taken.0; read = taken.1; tallied = taken.2; history = told.0; told = told.1; parts = parts },
      past_totals t c.args.row.now c.args.service c.in_ok-runs.runs are _ (search rules) (search rules) (search rules) found.1 lines.1,
    )
