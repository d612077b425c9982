use Rattle.std.proofs.Common.{◌≡◌, Err, subst, rules, arith}
use Rattle.canary_tables_read.specs.declared.fault.ReadFault.TheVariants.{Broken}
use Rattle.canary_tables_adopt.specs.OfService.{AreRunsOf}
use Rattle.canary_tables_adopt.proofs.PageLemmas.{none_judged, page_more, each_there}
use Rattle.canary_tables_adopt.proofs.StateLemmas.{stay, same_then}
use Rattle.canary_tables_adopt.proofs.Standing.{goes_first, goes_more}
use Rattle.canary_tables_adopt.proofs.one_service.runs.runs.Goals as goal

pub loop-alloc-init : goal.loop-alloc-init
loop-alloc-init g c = (
  goes_first g.Q.Reader.IsReady g.Q.Reader.place g.Q.Reader.below c.args.conn.now c.requires.ready,
  omega (arith, c.none_yet-so_far.ensures.count),
  none_judged c.args.strategy.now c.args.name.now _ (g.Q.Reader.shows c.args.conn.now) c.none_yet-so_far.ensures.count c.none_yet-so_far.ensures.runs c.none_yet-so_far.ensures.memo,
)

pub loop-alloc-preserved : goal.loop-alloc-preserved
loop-alloc-preserved g c = (
  goes_more g.Q.Reader.IsReady g.Q.Reader.place g.Q.Reader.below _ _ _ c.loop-alloc.invariant.0 c.judge_page.ensures.reads.mode c.judge_page.ensures.reads.place c.judge_page.ensures.reads.kept,
  omega (arith, c.page_end-last.ensures.within, c.in_ok-so_far.ensures.count),
  page_more c.args.strategy.now c.args.name.now c.loop-alloc.so_far c.in_ok-so_far.so_far (g.Q.Reader.shows c.args.conn.now) (g.Q.Reader.shows c.loop-alloc.conn) (g.Q.Reader.shows c.judge_page.new.conn) c.loop-alloc.invariant.2 c.judge_page.ensures.reads.same
      (λ usable t has are. c.in_ok-so_far.ensures.found usable t has are),
)

pub returns-in_err-so_far-clause-reads : goal.returns-in_err-so_far-clause-reads
returns-in_err-so_far-clause-reads g c = record {
  mode = search rules;
  place = search rules;
  kept = search rules;
  same =
      same_then (g.Q.Reader.shows c.args.conn.now) (g.Q.Reader.shows c.loop-alloc.conn) (g.Q.Reader.shows c.judge_page.new.conn) c.loop-alloc.invariant.2.same c.judge_page.ensures.reads.same;
}

pub returns-in_err-so_far-clause-broken : goal.returns-in_err-so_far-clause-broken
returns-in_err-so_far-clause-broken g c usable t stores judged told within has =
    let broken : c.judge_page.result ≡ Err Broken = search rules in
    let midway = (c.judge_page.ensures.reads.same usable).0 in
    c.judge_page.ensures.broken usable t (stay (g.Q.Reader.shows c.args.conn.now) (g.Q.Reader.shows c.loop-alloc.conn) t c.loop-alloc.invariant.2.same midway stores) judged (c.loop-alloc.invariant.2.value midway t stores) broken within
    (each_there c.args.strategy.now c.args.name.now t c.args.count c.loop-alloc.so_far.count c.page_end-last.result c.page_end-last.ensures.within has)

pub returns-clause-found : goal.returns-clause-found
returns-clause-found g c usable t stores =
    let all : c.loop-alloc.so_far.count ≡ c.args.count = omega arith in
    subst (λ n. AreRunsOf c.args.strategy.now c.args.name.now n t c.loop-alloc.so_far.runs) all (c.loop-alloc.invariant.2.value usable t stores).runs
