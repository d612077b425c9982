use Rattle.std.proofs.Common.{◌≡◌, sym, subst, IfOk}
use Rattle.canary_release.specs.Rules.Reports.{consequence}
use Rattle.canary_release.specs.Stored.{evolution_of}
use Rattle.canary_release.proofs.transition.Transition.consequence.Goals as goal

pub returns-in-Inconclusive-clause-brought : goal.returns-in-Inconclusive-clause-brought
returns-in-Inconclusive-clause-brought c =
    subst (λ v. IfOk c.hold.result (λ transition. evolution_of transition ≡ consequence (evolution_of c.args.self) c.args.run c.args.step v c.args.at)) (sym c.in-Inconclusive.is) (c.hold.ensures.held c.args.run)

pub returns-in-Successful-clause-brought : goal.returns-in-Successful-clause-brought
returns-in-Successful-clause-brought c =
    subst (λ v. IfOk c.pass_step.result (λ transition. evolution_of transition ≡ consequence (evolution_of c.args.self) c.args.run c.args.step v c.args.at)) (sym c.in-Successful.is) (c.pass_step.ensures.passed c.args.run)
