use Rattle.canary_page.proofs.DrawnLemmas.{none_drawn}
use Rattle.canary_page.proofs.page.put_job.Goals as goal

pub returns-in_err-page-clause-drawn : goal.returns-in_err-page-clause-drawn
returns-in_err-page-clause-drawn g c = none_drawn (g.W.Write.contents c.args.out.now) _
