use Rattle.std.proofs.Common.{sym, ◌∙◌}
use Rattle.std.proofs.lemmas.Result.{IfOk-weaker}
use Rattle.canary_tables_read.proofs.FirstTexts.{templates_query, templates_shown, same_templates}
use Rattle.canary_tables_read.proofs.first.templates.Goals as goal

pub ask-requires-clause-query : goal.ask-requires-clause-query
ask-requires-clause-query g c = templates_query

pub returns-clause-found : goal.returns-clause-found
returns-clause-found g c usable first =
    let shown = templates_shown (g.Q.Reader.shows c.args.conn.now) (g.Q.Reader.shows c.ask.new.self) c.in_ok-rows.rows.items first (c.in_ok-rows.ensures.shown usable) in
    IfOk-weaker c.all.result _ _ (λ found read. sym ((rw c.as_slice.ensures.value at read) ∙ shown)) c.all.ensures.found

pub returns-clause-only : goal.returns-clause-only
returns-clause-only g c usable first all are =
    let shown = templates_shown (g.Q.Reader.shows c.args.conn.now) (g.Q.Reader.shows c.ask.new.self) c.in_ok-rows.rows.items first (c.in_ok-rows.ensures.shown usable) in
    IfOk-weaker c.all.result _ _ (λ found read. same_templates found all ((rw c.as_slice.ensures.value at read) ∙ shown ∙ are)) c.all.ensures.found

pub returns-clause-broken : goal.returns-clause-broken
returns-clause-broken g c usable first is all are within =
    let shown = templates_shown (g.Q.Reader.shows c.args.conn.now) (g.Q.Reader.shows c.ask.new.self) c.in_ok-rows.rows.items first (c.in_ok-rows.ensures.shown usable) in
    (rw c.as_slice.ensures.value at (c.all.ensures.broken is)) all (sym (shown ∙ are)) within
