use Rattle.clap.specs.Words.{found_of}
use Rattle.canary_cli_words.proofs.Getting.{flag_read}
use Rattle.canary_cli_words.proofs.values.flag_given.Goals as goal

pub returns : goal.returns
returns c =
    flag_read (found_of c.args.matches.now) c.args.name.now c.get_flag.result c.requires c.get_flag.ensures.none c.get_flag.ensures.value c.get_flag.ensures.other
