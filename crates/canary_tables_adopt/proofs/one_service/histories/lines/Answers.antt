use Rattle.std.proofs.Common.{◌≡◌, ◌+◌, ◌<◌, Err, arith, rules, ◌∙◌}
use Rattle.canary_tables_read.specs.declared.fault.ReadFault.TheVariants.{Broken}
use Rattle.canary_tables_adopt.proofs.LineLemmas.{none_so_far, pages_more, page_there, all_lines}
use Rattle.canary_tables_adopt.proofs.Standing.{goes_first, goes_more, same_then, stores_then}
use Rattle.canary_tables_adopt.proofs.one_service.histories.lines.Goals as goal

pub pages-init : goal.pages-init
pages-init g c = (goes_first g.Q.Reader.IsReady g.Q.Reader.place g.Q.Reader.below c.args.conn.now c.requires.ready, none_so_far c.args.name.now _ (g.Q.Reader.shows c.args.conn.now) (search rules))

pub pages-preserved : goal.pages-preserved
pages-preserved g c = (
  goes_more g.Q.Reader.IsReady g.Q.Reader.place g.Q.Reader.below _ _ _ c.pages.invariant.0 c.page_of_lines.ensures.reads.mode c.page_of_lines.ensures.reads.place c.page_of_lines.ensures.reads.kept,
  pages_more c.args.name.now 32768 c.pages.count c.in_ok-more.more c.in_ok-count.count (g.Q.Reader.shows c.args.conn.now) (g.Q.Reader.shows c.pages.conn) (g.Q.Reader.shows c.page_of_lines.new.conn) c.pages.invariant.1 c.page_of_lines.ensures.reads.same
      (λ usable t has. c.in_ok-more.ensures.found usable t has) c.in_ok-count.ensures.sum,
)

pub returns-in_err-more-clause-reads : goal.returns-in_err-more-clause-reads
returns-in_err-more-clause-reads g c = record {
  mode = search rules;
  place = search rules;
  kept = search rules;
  same =
      same_then (g.Q.Reader.shows c.args.conn.now) (g.Q.Reader.shows c.pages.conn) (g.Q.Reader.shows c.page_of_lines.new.conn) c.pages.invariant.1.same c.page_of_lines.ensures.reads.same;
}

pub returns-in_err-more-clause-broken : goal.returns-in_err-more-clause-broken
returns-in_err-more-clause-broken g c usable t has is all =
    let broken : c.page_of_lines.result ≡ Err Broken = search rules in
    let mid = (c.page_of_lines.ensures.reads.same usable).0 in
    c.page_of_lines.ensures.broken usable t (stores_then (g.Q.Reader.shows c.args.conn.now) (g.Q.Reader.shows c.pages.conn) t c.pages.invariant.1.same mid has) broken (all.0, page_there c.args.name.now 32768 c.pages.count t all.1)

pub returns-then-more-from-clause-found : goal.returns-then-more-from-clause-found
returns-then-more-from-clause-found g c usable t has =
    let mid = (c.page_of_lines.ensures.reads.same usable).0 in
    let page = c.in_ok-more.ensures.found usable t (stores_then (g.Q.Reader.shows c.args.conn.now) (g.Q.Reader.shows c.pages.conn) t c.pages.invariant.1.same mid has) in
    let few : c.in_ok-more.more < 32768 = omega (arith, c.if-more-from.true, c.from.ensures) in
    all_lines c.args.name.now 32768 c.pages.count c.in_ok-more.more c.in_ok-count.count t (c.pages.invariant.1.value mid t has) page c.in_ok-count.ensures.sum few
