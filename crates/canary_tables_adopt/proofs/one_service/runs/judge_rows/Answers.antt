use Rattle.std.proofs.Common.{◌≡◌, ◌+◌, [], refl, Err, subst, rules, arith}
use Rattle.canary_tables_read.specs.declared.fault.ReadFault.TheVariants.{Broken}
use Rattle.canary_tables_adopt.specs.Pages.{AreBegun}
use Rattle.canary_tables_adopt.specs.OfService.{AreRunsOf}
use Rattle.canary_tables_adopt.proofs.PageLemmas.{more_found}
use Rattle.canary_tables_adopt.proofs.StateLemmas.{stay, same_then}
use Rattle.canary_tables_adopt.proofs.Standing.{goes_first, goes_more}
use Rattle.canary_tables_adopt.proofs.one_service.runs.judge_rows.Goals as goal

pub loop-place-init : goal.loop-place-init
loop-place-init g c = (
  goes_first g.Q.Reader.IsReady g.Q.Reader.place g.Q.Reader.below c.args.conn.now c.requires.ready,
  λ name. record { same = λ usable. (usable, refl); value = λ usable t stores given. given.0 },
)

pub loop-place-preserved : goal.loop-place-preserved
loop-place-preserved g c = (
  goes_more g.Q.Reader.IsReady g.Q.Reader.place g.Q.Reader.below _ _ _ c.loop-place.invariant.0 c.run_in.ensures.reads.mode c.run_in.ensures.reads.place c.run_in.ensures.reads.kept,
  λ name. more_found c.args.strategy.now name (AreBegun c.args.strategy.now name c.args.first c.args.last c.args.runs.now c.args.memo.now c.args.page.now) c.loop-place.place (g.Q.Reader.shows c.args.conn.now) (g.Q.Reader.shows c.loop-place.conn) (g.Q.Reader.shows c.run_in.new.conn) c.loop-place.runs _ c.loop-place.memo c.run_in.new.memo c.in_ok-run.run' (c.loop-place.invariant.1 name) c.run_in.ensures.reads.same
      (λ usable t stores given are. c.in_ok-run.ensures.found name c.args.first c.args.last (omega arith) (omega arith) usable t stores (given.1, are)) c.in_ok-push.ensures.ok,
)

pub returns-in_err-run-clause-broken : goal.returns-in_err-run-clause-broken
returns-in_err-run-clause-broken g c name usable t stores judged given told within has =
    let broken : c.run_in.result ≡ Err Broken = search rules in
    let midway = (c.run_in.ensures.reads.same usable).0 in
    let now = stay (g.Q.Reader.shows c.args.conn.now) (g.Q.Reader.shows c.loop-place.conn) t (c.loop-place.invariant.1 name).same midway stores in
    let so_far = (c.loop-place.invariant.1 name).value midway t stores given in
    c.run_in.ensures.broken name c.args.first c.args.last (omega arith) (omega arith) usable t now judged (given.1, so_far.1) broken within
    (has (c.loop-place.place + 1) (omega arith) (omega arith))

pub returns-clause-found : goal.returns-clause-found
returns-clause-found g c name usable t stores given =
    let all : c.loop-place.place ≡ c.args.last = omega arith in
    let so_far = (c.loop-place.invariant.1 name).value usable t stores given in
    (subst (λ n. AreRunsOf c.args.strategy.now name n t c.loop-place.runs) all so_far.0, so_far.1)

pub returns-in_err-run-clause-reads : goal.returns-in_err-run-clause-reads
returns-in_err-run-clause-reads g c = record {
  mode = search rules;
  place = search rules;
  kept = search rules;
  same =
      same_then (g.Q.Reader.shows c.args.conn.now) (g.Q.Reader.shows c.loop-place.conn) (g.Q.Reader.shows c.run_in.new.conn) (c.loop-place.invariant.1 []).same c.run_in.ensures.reads.same;
}

pub returns-in_err-push-clause-reads : goal.returns-in_err-push-clause-reads
returns-in_err-push-clause-reads g c = record {
  mode = search rules;
  place = search rules;
  kept = search rules;
  same =
      same_then (g.Q.Reader.shows c.args.conn.now) (g.Q.Reader.shows c.loop-place.conn) (g.Q.Reader.shows c.run_in.new.conn) (c.loop-place.invariant.1 []).same c.run_in.ensures.reads.same;
}

pub returns-clause-reads : goal.returns-clause-reads
returns-clause-reads g c = record {
  mode = search rules;
  place = search rules;
  kept = search rules;
  same =
      (c.loop-place.invariant.1 []).same;
}
