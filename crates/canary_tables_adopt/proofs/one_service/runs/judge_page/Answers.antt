use Rattle.std.proofs.Common.{◌≡◌, Err, rules}
use Rattle.canary_tables_read.specs.declared.fault.ReadFault.TheVariants.{Broken}
use Rattle.canary_tables_adopt.proofs.StateLemmas.{stay}
use Rattle.canary_tables_adopt.proofs.one_service.runs.judge_page.Goals as goal

pub returns-in_err-page-clause-broken : goal.returns-in_err-page-clause-broken
returns-in_err-page-clause-broken g c usable t stores judged given told within has =
    let broken : c.page_between.result ≡ Err Broken = search rules in
    c.page_between.ensures.broken usable t stores broken within

pub returns-clause-found : goal.returns-clause-found
returns-clause-found g c usable t stores given =
    let start = (c.with_page.ensures.reads.same usable).0 in
    let page = c.in_ok-page.ensures.found start t stores in
    c.with_page.ensures.found c.args.name.now usable t (stay (g.Q.Reader.shows c.args.conn.now) (g.Q.Reader.shows c.page_between.new.conn) t c.page_between.ensures.reads.same start stores) ((given.runs, given.memo), page)

pub returns-clause-broken : goal.returns-clause-broken
returns-clause-broken g c usable t stores judged given =
    let start = (c.with_page.ensures.reads.same usable).0 in
    let page = c.in_ok-page.ensures.found start t stores in
    c.with_page.ensures.broken c.args.name.now usable t (stay (g.Q.Reader.shows c.args.conn.now) (g.Q.Reader.shows c.page_between.new.conn) t c.page_between.ensures.reads.same start stores) judged ((given.runs, given.memo), page)
