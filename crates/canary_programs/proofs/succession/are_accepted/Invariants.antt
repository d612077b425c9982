use Rattle.std.proofs.Common.{take}
use Rattle.std.specs.Prelude.{All}
use Rattle.canary_programs.specs.Successions.{IsAccepted}
use Rattle.canary_programs.proofs.succession.are_accepted.Given as goal

abbrev pub invariant-loop-answer : goal.invariant-loop-answer
invariant-loop-answer l = All IsAccepted (take l.answer-index l.answers)
