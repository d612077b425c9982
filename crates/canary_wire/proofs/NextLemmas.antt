-- What stands first is rejected.
use Rattle.std.proofs.Common.{ℕ, Bool, List}
use Rattle.std.specs.Prelude.{Ok, Err}
use Rattle.canary_wire.specs.declared.rejection.Rejection.{Rejection}
use Rattle.canary_base.specs.declared.writing.WriteFault.{WriteFault}
use Rattle.canary_wire.specs.declared.serve.Turn.{Turn}
use Rattle.canary_wire.specs.declared.serve.Turn.TheVariants.{Continues, Ends}
use Rattle.canary_wire.specs.Cut.{IsRejected, rejecting}
use Rattle.canary_base.specs.Writes.{Known}
use Rattle.canary_once.specs.Messages.{DeskState}
use Rattle.canary_wire.specs.Serving.{last_reply, AnswersAll, AnswersUntil, RejectsAll}
use Rattle.canary_wire.proofs.ServeLemmas.{answers_none, answers_rejected}

module _ (w w1 : Known) (p : DeskState) (bytes : List ℕ) (r : Rejection) (bare : Bool) (is : IsRejected bytes r bare) where
  -- with its reply whole
  pub rejected_whole : (turn : Turn) → RejectsAll w w1 (last_reply (rejecting r bare)) (Ok turn) → AnswersAll w w1 p p bytes
  rejected_whole Continues wrote = absurd wrote
  rejected_whole Ends wrote = answers_rejected w w w1 p p bytes bytes bytes r bare (Ok Ends) (answers_none w p bytes) is wrote

  -- or with a front of it
  pub rejected_short : (fault : WriteFault) → RejectsAll w w1 (last_reply (rejecting r bare)) (Err fault) → AnswersUntil w w1 p p bytes
  rejected_short fault wrote = answers_rejected w w w1 p p bytes bytes bytes r bare (Err fault) (answers_none w p bytes) is wrote
