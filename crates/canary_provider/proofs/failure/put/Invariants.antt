use Rattle.canary_provider.specs.Texts.{IsShown}
use Rattle.canary_provider.proofs.failure.put.Given as goal

abbrev pub invariant-loop-character : goal.invariant-loop-character
invariant-loop-character l = IsShown l.words.bytes
