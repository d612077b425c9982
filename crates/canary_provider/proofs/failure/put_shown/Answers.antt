use Rattle.std.proofs.Common.{sym, subst}
use Rattle.canary_provider.specs.Texts.{IsShown}
use Rattle.canary_provider.proofs.ShownLemmas.{both_shown}
use Rattle.canary_provider.proofs.failure.put_shown.Goals as goal

pub returns : goal.returns
returns c = subst IsShown (sym c.push_str.ensures.bytes) (both_shown c.args.words.now.bytes c.args.text.now c.requires.before c.requires.text)
