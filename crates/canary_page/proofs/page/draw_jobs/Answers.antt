use Rattle.std.proofs.Common.{rules}
use Rattle.canary_page.proofs.DrawnLemmas.{one_more, then_failed}
use Rattle.canary_page.proofs.page.draw_jobs.Goals as goal

-- what went out before this part, and the first bytes of it
pub returns-in_err-put_job-clause-drawn : goal.returns-in_err-put_job-clause-drawn
returns-in_err-put_job-clause-drawn g c =
    then_failed (g.W.Write.contents c.args.out.now) (g.W.Write.contents c.loop-job.out) (g.W.Write.contents c.put_job.new.out) _ c.from_residual.result c.from_residual.ensures.0 c.loop-job.invariant.1 c.in_err-put_job.ensures.drawn

pub loop-job-preserved : goal.loop-job-preserved
loop-job-preserved g c = (
  search rules,
  one_more (g.W.Write.contents c.args.out.now) (g.W.Write.contents c.loop-job.out) (g.W.Write.contents c.put_job.new.out) c.loop-job.invariant.1 c.in_ok-put_job.ensures.drawn,
)
