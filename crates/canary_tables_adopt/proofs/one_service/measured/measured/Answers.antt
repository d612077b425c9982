use Rattle.std.proofs.Common.{◌≡◌, ◌<◌, length, Err, arith, rules, ◌∙◌}
use Rattle.std.proofs.lemmas.Result.{IfOk-weaker}
use Rattle.canary_tables_read.specs.declared.fault.ReadFault.TheVariants.{Broken}
use Rattle.canary_tables_adopt.specs.Measured.{page_after}
use Rattle.canary_tables_adopt.proofs.MeasuredLemmas.{none_so_far, pages_more, next_page, all_measured, tallies_there}
use Rattle.canary_tables_adopt.proofs.Standing.{goes_first, goes_more, same_then, stores_then}
use Rattle.canary_tables_adopt.proofs.one_service.measured.measured.Goals as goal

pub pages-init : goal.pages-init
pages-init g c = (goes_first g.Q.Reader.IsReady g.Q.Reader.place g.Q.Reader.below c.args.conn.now c.requires.ready, none_so_far c.args.name.now c.args.runs.now _ (g.Q.Reader.shows c.args.conn.now) (search rules) (search rules), λ usable t has. tt)

pub pages-preserved : goal.pages-preserved
pages-preserved g c = (
  goes_more g.Q.Reader.IsReady g.Q.Reader.place g.Q.Reader.below _ _ _ c.pages.invariant.0 c.count_page.ensures.reads.mode c.count_page.ensures.reads.place c.count_page.ensures.reads.kept,
  pages_more c.args.name.now c.args.runs.now 32768 c.pages.so_far c.in_ok-so_far.so_far (g.Q.Reader.shows c.args.conn.now) (g.Q.Reader.shows c.pages.conn) (g.Q.Reader.shows c.count_page.new.conn) c.pages.invariant.1 c.count_page.ensures.reads.same
      (λ usable t has. c.in_ok-so_far.ensures.found usable t has),
  c.in_ok-so_far.ensures.noted,
)

pub returns-in_err-so_far-clause-reads : goal.returns-in_err-so_far-clause-reads
returns-in_err-so_far-clause-reads g c = record {
  mode = search rules;
  place = search rules;
  kept = search rules;
  same =
      same_then (g.Q.Reader.shows c.args.conn.now) (g.Q.Reader.shows c.pages.conn) (g.Q.Reader.shows c.count_page.new.conn) c.pages.invariant.1.same c.count_page.ensures.reads.same;
}

pub returns-in_err-so_far-clause-broken : goal.returns-in_err-so_far-clause-broken
returns-in_err-so_far-clause-broken g c usable t has is measured =
    let broken : c.count_page.result ≡ Err Broken = search rules in
    let mid = (c.count_page.ensures.reads.same usable).0 in
    c.count_page.ensures.broken usable t (stores_then (g.Q.Reader.shows c.args.conn.now) (g.Q.Reader.shows c.pages.conn) t c.pages.invariant.1.same mid has) broken
    (measured.0, next_page c.args.name.now c.args.runs.now 32768 t c.pages.so_far (c.pages.invariant.1.value mid t has) measured.1)

pub returns-then-count-before-clause-reads : goal.returns-then-count-before-clause-reads
returns-then-count-before-clause-reads g c = record {
  mode = search rules;
  place = search rules;
  kept = search rules;
  same =
      same_then (g.Q.Reader.shows c.args.conn.now) (g.Q.Reader.shows c.pages.conn) (g.Q.Reader.shows c.count_page.new.conn) c.pages.invariant.1.same c.count_page.ensures.reads.same;
}

pub returns-then-count-before-clause-found : goal.returns-then-count-before-clause-found
returns-then-count-before-clause-found g c usable t has =
    let mid = (c.count_page.ensures.reads.same usable).0 in
    let before = c.pages.invariant.1.value mid t has in
    let page = c.in_ok-so_far.ensures.found usable t (stores_then (g.Q.Reader.shows c.args.conn.now) (g.Q.Reader.shows c.pages.conn) t c.pages.invariant.1.same mid has) in
    let few : length (page_after c.args.name.now 32768 c.pages.so_far.count t) < 32768 = omega (arith, page.count, c.count-before.ensures, c.count.ensures, c.from.ensures) in
    IfOk-weaker c.tallied.result _ _
    (λ count found. let all = all_measured c.args.name.now c.args.runs.now 32768 t c.pages.so_far c.in_ok-so_far.so_far before page few found.1 in (all.0, found.0 ∙ all.1)) c.tallied.ensures.found

pub returns-then-count-before-clause-broken : goal.returns-then-count-before-clause-broken
returns-then-count-before-clause-broken g c usable t has is measured =
    let mid = (c.count_page.ensures.reads.same usable).0 in
    let before = c.pages.invariant.1.value mid t has in
    let page = c.in_ok-so_far.ensures.found usable t (stores_then (g.Q.Reader.shows c.args.conn.now) (g.Q.Reader.shows c.pages.conn) t c.pages.invariant.1.same mid has) in
    let few : length (page_after c.args.name.now 32768 c.pages.so_far.count t) < 32768 = omega (arith, page.count, c.count-before.ensures, c.count.ensures, c.from.ensures) in
    c.tallied.ensures.broken is (tallies_there c.args.name.now c.args.runs.now 32768 t c.pages.so_far c.in_ok-so_far.so_far before page few measured.1)
