use Rattle.std.proofs.Common.{◌≡◌, Err, rules}
use Rattle.std.proofs.lemmas.Result.{IfOk-weaker}
use Rattle.canary_tables_read.specs.declared.fault.ReadFault.TheVariants.{Broken}
use Rattle.canary_tables_adopt.proofs.JudgedTemplates.{revision_found, revision_alone, numbered_there}
use Rattle.canary_tables_adopt.proofs.Standing.{stores_then}
use Rattle.canary_tables_adopt.proofs.templates.judge_one.Goals as goal

pub returns-in_err-rows-clause-refused : goal.returns-in_err-rows-clause-refused
returns-in_err-rows-clause-refused g c usable t has is judged =
    let broken : c.revision_rows.result ≡ Err Broken = search rules in
    c.revision_rows.ensures.broken usable t has broken judged.0.revisions

pub returns-in_err-read_revision-clause-refused : goal.returns-in_err-read_revision-clause-refused
returns-in_err-read_revision-clause-refused g c usable t has is judged =
    let broken : c.read_revision.result ≡ Err Broken = search rules in
    c.read_revision.ensures.refused broken (revision_alone t c.args.key.now c.in_ok-rows.rows (c.in_ok-rows.ensures.found usable t has) judged.1)

pub returns-clause-judged : goal.returns-clause-judged
returns-clause-judged g c usable t has =
    let mid = (c.judge_number.ensures.reads.same usable).0 in
    IfOk-weaker c.judge_number.result _ _ (λ done numbered. revision_found t c.args.key.now c.in_ok-rows.rows (c.in_ok-rows.ensures.found mid t has) c.in_ok-read_revision.ensures.judged numbered)
    (c.judge_number.ensures.judged usable t (stores_then (g.Q.Reader.shows c.args.conn.now) (g.Q.Reader.shows c.revision_rows.new.conn) t c.revision_rows.ensures.reads.same mid has))

pub returns-clause-refused : goal.returns-clause-refused
returns-clause-refused g c usable t has is judged =
    let mid = (c.judge_number.ensures.reads.same usable).0 in
    c.judge_number.ensures.refused usable t (stores_then (g.Q.Reader.shows c.args.conn.now) (g.Q.Reader.shows c.revision_rows.new.conn) t c.revision_rows.ensures.reads.same mid has) is (judged.0, numbered_there t c.args.key.now judged.1)
