use Rattle.std.proofs.Common.{◌∙◌, sym}
use Rattle.canary_cli.proofs.LeftUnclear.{unclear_run}
use Rattle.canary_cli.proofs.perform.run.Goals as goal

pub returns-in-Some-clause-ran : goal.returns-in-Some-clause-ran
returns-in-Some-clause-ran g c =
    unclear_run c.args.program c.in-Some.what (g.R.Read.remaining c.args.input.now) (g.W.Write.contents c.args.output.now) (sym c.unclear_of.ensures ∙ c.in-Some.is)
