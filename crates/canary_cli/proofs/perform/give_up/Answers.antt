use Rattle.std.specs.Prelude.{map, string_bytes}
use Rattle.canary_cli_words.specs.CommandLine.{faults_of, program_of}
use Rattle.canary_cli.proofs.TurnedAway.{given_up, turned_away}
use Rattle.canary_cli.proofs.perform.give_up.Goals as goal

pub returns-clause-turned_away : goal.returns-clause-turned_away
returns-clause-turned_away g c some =
    turned_away _ c.read_words-asked.result _ _ _ some c.read_words-asked.ensures.taken c.read_words-asked.ensures.fault c.end_unasked.ensures.told

pub returns-clause-given_up : goal.returns-clause-given_up
returns-clause-given_up g c none =
    let words = map string_bytes c.args.words.now in
    let ended = given_up (faults_of words) (program_of words) c.read_words-asked.result _ _ c.end_unasked.result none c.read_words-asked.ensures.program c.read_words-asked.ensures.fault (c.read_words-asked.ensures.spelled none) c.end_unasked.ensures.unopened c.end_unasked.ensures.told in
    ended.0

pub returns-clause-unshown : goal.returns-clause-unshown
returns-clause-unshown g c none =
    let words = map string_bytes c.args.words.now in
    let ended = given_up (faults_of words) (program_of words) c.read_words-asked.result _ _ c.end_unasked.result none c.read_words-asked.ensures.program c.read_words-asked.ensures.fault (c.read_words-asked.ensures.spelled none) c.end_unasked.ensures.unopened c.end_unasked.ensures.told in
    ended.1
