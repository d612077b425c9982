use Rattle.std.proofs.Common.{◌≡◌, ◌∙◌, [], option_and_then, ap, map, subst, sym, refl, string_bytes}
use Rattle.clap.specs.Words.{App, HasKind, fault_of, is_simple, is_simple_and_free, subcommand_of}
use Rattle.canary_cli_words.specs.CommandLine.{faults_of, program_in, HasProgram}
use Rattle.canary_cli_words.proofs.Spelled.{desk_is_simple, some_program, spelled}
use Rattle.canary_cli_words.proofs.words.read_words.Goals as goal

pub program_of-requires : goal.program_of-requires
program_of-requires c =
    let words = map string_bytes c.args.words.now in
    let ours = c.in-Ok.ensures in
    let none = subst (λ (a : App). fault_of a words ≡ []) ours (c.in-Ok-try_get_matches_from.ensures.kinds (ap is_simple_and_free ours ∙ desk_is_simple)) in
    let met = (c.in-Ok-try_get_matches_from.ensures.matches (ap is_simple ours ∙ refl)).1 in
    subst HasProgram (sym (met ∙ ap (λ (a : App). subcommand_of a words) ours)) (spelled words none)

pub returns-clause-fault : goal.returns-clause-fault
returns-clause-fault c =
    let words = map string_bytes c.args.words.now in
    let ours = c.in-Ok.ensures in
    c.fault_of.ensures (faults_of words)
    (subst (λ (a : App). HasKind (fault_of a words) c.in-Err.error) ours (c.in-Err.ensures.kinds (ap is_simple_and_free ours ∙ desk_is_simple)))

pub returns-in_default-clause-spelled : goal.returns-in_default-clause-spelled
returns-in_default-clause-spelled c = some_program (map string_bytes c.args.words.now)

pub returns-in-Ok-try_get_matches_from-clause-spelled : goal.returns-in-Ok-try_get_matches_from-clause-spelled
returns-in-Ok-try_get_matches_from-clause-spelled c = some_program (map string_bytes c.args.words.now)

pub returns-clause-spelled : goal.returns-clause-spelled
returns-clause-spelled c = some_program (map string_bytes c.args.words.now)

pub returns-in-Ok-program_of-clause-program : goal.returns-in-Ok-program_of-clause-program
returns-in-Ok-program_of-clause-program c =
    let words = map string_bytes c.args.words.now in
    let ours = c.in-Ok.ensures in
    let met = (c.in-Ok-try_get_matches_from.ensures.matches (ap is_simple ours ∙ refl)).1 in
    ap (option_and_then program_in) (sym (met ∙ ap (λ (a : App). subcommand_of a words) ours)) ∙ c.in-Ok-program_of.ensures

pub returns-in-Ok-program_of-clause-taken : goal.returns-in-Ok-program_of-clause-taken
returns-in-Ok-program_of-clause-taken c =
    let words = map string_bytes c.args.words.now in
    let ours = c.in-Ok.ensures in
    subst (λ (a : App). fault_of a words ≡ []) ours (c.in-Ok-try_get_matches_from.ensures.kinds (ap is_simple_and_free ours ∙ desk_is_simple))

pub returns-in-Ok-program_of-clause-spelled : goal.returns-in-Ok-program_of-clause-spelled
returns-in-Ok-program_of-clause-spelled c = some_program (map string_bytes c.args.words.now)
