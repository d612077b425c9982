use Rattle.std.proofs.Common.{◌≡◌, Err, rules, ◌∙◌}
use Rattle.std.proofs.lemmas.Result.{IfOk-weaker}
use Rattle.canary_tables_read.specs.declared.fault.ReadFault.TheVariants.{Broken}
use Rattle.canary_tables_adopt.proofs.JudgedTemplates.{all_templates, each_template}
use Rattle.canary_tables_adopt.proofs.Standing.{stores_then}
use Rattle.canary_tables_adopt.proofs.templates.validate.Goals as goal

pub returns-in_err-keys-clause-refused : goal.returns-in_err-keys-clause-refused
returns-in_err-keys-clause-refused g c usable t has is judged =
    let broken : c.revision_keys.result ≡ Err Broken = search rules in
    c.revision_keys.ensures.broken usable t has broken judged.0.revisions

pub returns-clause-judged : goal.returns-clause-judged
returns-clause-judged g c usable t has =
    let mid = (c.judge_each.ensures.reads.same usable).0 in
    IfOk-weaker c.judge_each.result _ _ (λ done each. all_templates t c.as_slice.result.now (c.as_slice.ensures ∙ c.in_ok-keys.ensures.found mid t has) each)
    (c.judge_each.ensures.judged usable t (stores_then (g.Q.Reader.shows c.args.conn.now) (g.Q.Reader.shows c.revision_keys.new.conn) t c.revision_keys.ensures.reads.same mid has))

pub returns-clause-refused : goal.returns-clause-refused
returns-clause-refused g c usable t has is judged =
    let mid = (c.judge_each.ensures.reads.same usable).0 in
    c.judge_each.ensures.refused usable t (stores_then (g.Q.Reader.shows c.args.conn.now) (g.Q.Reader.shows c.revision_keys.new.conn) t c.revision_keys.ensures.reads.same mid has) is
    (judged.0, each_template t c.as_slice.result.now (c.as_slice.ensures ∙ c.in_ok-keys.ensures.found mid t has) judged.1)
