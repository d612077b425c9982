use Rattle.std.proofs.Common.{subst, arith}
use Rattle.std.specs.Prelude.{All}
use Rattle.std.proofs.lemmas.List.{take_all}
use Rattle.canary_programs.specs.Successions.{IsAccepted}
use Rattle.canary_programs.proofs.Again.{one_accepted}
use Rattle.canary_programs.proofs.succession.are_accepted.Goals as goal

pub loop-answer-preserved : goal.loop-answer-preserved
loop-answer-preserved c =
    one_accepted c.args.answers.now c.loop-answer.answer-index c.answer-item.result (omega arith) c.answer-item.is c.loop-answer.invariant c.in_ok-is_accepted.ensures.ok

pub returns-clause-ok : goal.returns-clause-ok
returns-clause-ok c = subst (All IsAccepted) (take_all c.loop-answer.answer-index c.args.answers.now (omega arith)) c.loop-answer.invariant
