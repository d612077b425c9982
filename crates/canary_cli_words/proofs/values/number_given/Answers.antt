use Rattle.std.specs.Str.Parse.{ExplainsUnsignedError, HasUnsignedDigitsIfOk, ParsesUnsigned}
use Rattle.clap.specs.Words.{found_of}
use Rattle.canary_cli_words.proofs.Getting.{optional_read}
use Rattle.canary_cli_words.proofs.values.number_given.Goals as goal

pub returns : goal.returns
returns c =
    optional_read _ (λ bs r. ParsesUnsigned 64 10 bs r × ExplainsUnsignedError 10 bs r × HasUnsignedDigitsIfOk bs r) (found_of c.args.matches.now) c.args.name.now c.get_one.result c.requires c.get_one.ensures.none c.get_one.ensures.value (λ t x g. g.0)
