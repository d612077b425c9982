use Rattle.canary_once.specs.Contents.{with_settlement}
use Rattle.canary_once.proofs.Events.{keep_keeps}
use Rattle.canary_once.proofs.Keeping.{keeps_contents, keeps_soundness}
use Rattle.canary_once.proofs.laws.settlements.Goals as goal

pub returns : goal.returns
returns c = λ k s few settling are. record {
  lawful = keeps_contents c.in_order.ensures.keeping c.refusals.ensures k s few settling are;
  sound = λ sound. keeps_soundness c.sound.ensures.keeping k s settling are sound;
  receipts = keep_keeps k (with_settlement k s).desk s.caller s.receipt;
}
