-- The command lines that the desk takes, by clap's definition of a simple command.
use Rattle.std.specs.Prelude.{◌≡◌, ◌≢◌, ◌⊎◌, ℕ, Bool, true, false, List, [], ◌∷◌, Option, Some}
use Rattle.std.specs.Prelude.{None, codes, option_map, option_and_then, unwrap_or, IfSome}
use Rattle.std.specs.Prelude.{if◌then◌else◌}
use Rattle.std.specs.Option.{option_map_or}
use Rattle.std.specs.Str.{bytes_eq}
use Rattle.std.specs.Str.Parse.{digits_value, without_leading_plus}
use Rattle.clap.specs.Words.{App, Kinds, IsAmong, IsUnsignedIn, Row, Rule, Text, fault_of, new_app}
use Rattle.clap.specs.Words.{all_of, first_of, new_rule, one_of, subcommand_of, with_rule}
use Rattle.clap.specs.Words.{with_subcommand}
use Rattle.clap.specs.Simple.{on_top}
use Rattle.clap.specs.Lexer.{usize_max}
use Rattle.clap.specs.declared.builder.range.ValueRange.{ValueRange}
use Rattle.clap.specs.declared.builder.action.ArgAction.TheVariants.{Set, SetTrue}
use Rattle.clap.specs.declared.builder.value_parser.ValueParser.TheVariants.{Unsigned}
use Rattle.clap.specs.declared.error.kind.ErrorKind.{ErrorKind}
use Rattle.clap.specs.declared.error.kind.ErrorKind.TheVariants.{DisplayHelp, DisplayVersion}
use Rattle.canary_cli_words.specs.declared.commands.ArgumentSpec.{ArgumentSpec}
use Rattle.canary_cli_words.specs.declared.commands.ArgumentSpec.TheVariants as part
use Rattle.canary_cli_words.specs.declared.commands.CommandSpec.{CommandSpec}
use Rattle.canary_cli_words.specs.declared.words.ClientCall.TheVariants.{Do, Get, Watch, Send, Due, Agent}
use Rattle.canary_cli_words.specs.declared.words.AskedCommand.{AskedCommand}
use Rattle.canary_cli_words.specs.declared.words.AskedDesk.{AskedDesk}
use Rattle.canary_cli_words.specs.declared.words.AskedLimits.{AskedLimits}
use Rattle.canary_cli_words.specs.declared.words.Program.{Program}
use Rattle.canary_cli_words.specs.declared.words.Program.TheVariants.{Pipe, Serve, Import, History}
use Rattle.canary_cli_words.specs.declared.words.Program.TheVariants.{Export, Status, Page, Backup}
use Rattle.canary_cli_words.specs.declared.words.Program.TheVariants.{Migrate, Succeed, Check, Argo}
use Rattle.canary_cli_words.specs.declared.words.Program.TheVariants.{Ask}
use Rattle.canary_cli_words.specs.declared.words.WordsFault.{WordsFault}
use Rattle.canary_cli_words.specs.declared.words.WordsFault.TheVariants.{Help, Usage, Memory}

-- ---- what the desk takes

-- one value or more
abbrev pub one_or_more : ValueRange
one_or_more = record { start_inclusive = 1; end_inclusive = usize_max }

-- what has a value, any text, which has to be given if `is_required`
abbrev pub with_value : Text → Bool → Rule
with_value name is_required = record (new_rule name) {
  action = Some Set;
  value_names = 1;
  required = is_required;
}

-- the word `VALUE`, which has to be given
abbrev pub text_word : Text → Rule
text_word name = with_value name true

-- the words `VALUE..`, of which at least one has to be given
abbrev pub text_words : Text → Rule
text_words name = record (text_word name) { range = Some one_or_more }

-- the word `VALUE`, which may be given
abbrev pub optional_word : Text → Rule
optional_word name = with_value name false

-- the words `VALUE..`, of which any number may be given
abbrev pub more_words : Text → Rule
more_words name = record (optional_word name) { range = Some one_or_more }

-- the option `--NAME VALUE`, which has to be given if `is_required`
abbrev pub text_option : Text → Bool → Rule
text_option name is_required = record (with_value name is_required) { long = Some name }

-- with whole numbers from `least` to `most` as its values
abbrev pub with_numbers : Rule → ℕ → ℕ → Rule
with_numbers rule least most = record rule { parser = Some (Unsigned least most) }

-- the option `--NAME SECONDS`, which has to be given, with the seconds of a moment
abbrev pub moment_option : Text → Rule
moment_option name = with_numbers (text_option name true) 0 253370764799

-- the option `--NAME VALUE`, which may be given, with a whole number from 1 to `most`
abbrev pub number_option : Text → ℕ → Rule
number_option name most = with_numbers (text_option name false) 1 most

-- the flag `--NAME`, which may be given, and has no value
abbrev pub flag : Text → Rule
flag name = record (new_rule name) {
  long = Some name;
  action = Some SetTrue;
}

-- the rule of a row in the code's tables of options and words
abbrev pub rule_for : ArgumentSpec → Rule
rule_for (part.Moment name _) = moment_option name.now
rule_for (part.Number name _ most _) = number_option name.now most
rule_for (part.Flag name _) = flag name.now
rule_for (part.Needed name _ _) = text_option name.now true
rule_for (part.Optional name _ _) = text_option name.now false
rule_for (part.Word name _ _) = text_word name.now
rule_for (part.OptionalWord name _ _) = optional_word name.now
rule_for (part.SomeWords name _ _) = text_words name.now
rule_for (part.MoreWords name _ _) = more_words name.now

-- with these rows, in turn
abbrev pub with_parts : App → List ArgumentSpec → App
with_parts a [] = a
with_parts a (p ∷ ps) = with_parts (with_rule a (rule_for p)) ps

-- the command of a row in the code's tables of commands
abbrev pub command_for : CommandSpec → App
command_for c = with_parts (new_app c.name.now) c.parts.now

-- with the commands of these rows, in turn
abbrev pub with_commands : App → List CommandSpec → App
with_commands a [] = a
with_commands a (c ∷ cs) = with_commands (with_subcommand a (command_for c).top) cs

-- `--db FILE`, which has to be given
abbrev pub db_option : Rule
db_option = text_option (codes "db") true

-- `--db FILE`, which may be given
abbrev pub optional_db : Rule
optional_db = text_option (codes "db") false

-- `--cache BYTES`
abbrev pub cache_option : Rule
cache_option = number_option (codes "cache") 68719476736

-- `pipe --at SECONDS --step SECONDS --db FILE --cache BYTES`
abbrev pub pipe_command : App
pipe_command = with_rule (with_rule (with_rule (with_rule (new_app (codes "pipe"))
    (moment_option (codes "at"))) (moment_option (codes "step"))) optional_db) cache_option

-- `--max-unsent BYTES --max-unsent-total BYTES`
abbrev pub with_unsent : App → App
with_unsent a = with_rule (with_rule a (number_option (codes "max-unsent") 1073741824))
    (number_option (codes "max-unsent-total") 68719476736)

-- `--read-timeout SECONDS --idle-timeout SECONDS --max-clients N`, and the options of what is
-- unsent
abbrev pub with_limits : App → App
with_limits a = with_unsent (with_rule (with_rule (with_rule a
    (number_option (codes "read-timeout") 86400)) (number_option (codes "idle-timeout") 86400))
    (number_option (codes "max-clients") 65536))

-- `serve --listen ADDRESS --db FILE --cache BYTES --connections N`, with limits
abbrev pub serve_command : App
serve_command = with_limits (with_rule (with_rule (with_rule (with_rule (new_app (codes "serve"))
    (text_option (codes "listen") true)) optional_db) cache_option)
    (number_option (codes "connections") 1000000))

-- `import --db FILE --cache BYTES CSV`
abbrev pub import_command : App
import_command = with_rule (with_rule (with_rule (new_app (codes "import")) db_option)
    cache_option) (text_word (codes "csv"))

-- `history --db FILE SERVICE`
abbrev pub history_command : App
history_command =
    with_rule (with_rule (new_app (codes "history")) db_option) (text_word (codes "service"))

-- `export --db FILE --caller NAME SERVICE`
abbrev pub export_command : App
export_command = with_rule (with_rule (with_rule (new_app (codes "export")) db_option)
    (text_option (codes "caller") true)) (text_word (codes "service"))

-- `--watch SECONDS`, from one time to the next
abbrev pub watch_option : Rule
watch_option = number_option (codes "watch") 86400

-- `status --db FILE --watch SECONDS --json --prometheus`
abbrev pub status_command : App
status_command = with_rule (with_rule (with_rule (with_rule (new_app (codes "status")) db_option)
    watch_option) (flag (codes "json"))) (flag (codes "prometheus"))

-- `page --db FILE --watch SECONDS --json FOLDER OUT`
abbrev pub page_command : App
page_command = with_rule (with_rule (with_rule (with_rule (new_app (codes "page")) db_option)
    watch_option) (text_option (codes "json") false)) (text_word (codes "out"))

-- `backup --db FILE --every SECONDS --keep N COPY`
abbrev pub backup_command : App
backup_command = with_rule (with_rule (with_rule (with_rule (new_app (codes "backup")) db_option)
    (number_option (codes "every") 31536000)) (number_option (codes "keep") 10000))
    (text_word (codes "copy"))

-- `migrate --db FILE --dry-run`
abbrev pub migrate_command : App
migrate_command =
    with_rule (with_rule (new_app (codes "migrate")) db_option) (flag (codes "dry-run"))

-- `succeed --db OLD NEW`
abbrev pub succeed_command : App
succeed_command =
    with_rule (with_rule (new_app (codes "succeed")) db_option) (text_word (codes "new"))

-- `check FILE --strict`, or `check --request FILE --strict`
abbrev pub check_command : App
check_command = with_rule (with_rule (with_rule (new_app (codes "check"))
    (text_option (codes "request") false)) (flag (codes "strict"))) (optional_word (codes "file"))

-- `argo --out FOLDER --json FILE..`
abbrev pub argo_command : App
argo_command = with_rule (with_rule (with_rule (new_app (codes "argo"))
    (text_option (codes "out") false)) (flag (codes "json"))) (text_words (codes "file"))

-- `--desk HOST:PORT --tries N --timeout SECONDS`
abbrev pub with_desk_options : App → App
with_desk_options a = with_rule (with_rule (with_rule a (text_option (codes "desk") false))
    (number_option (codes "tries") 1000)) (number_option (codes "timeout") 86400)

-- `COMMAND FIRST SECOND THIRD FOURTH MORE..`, of which only the first has to be given
abbrev pub with_command_words : App → App
with_command_words a = with_rule (with_rule (with_rule (with_rule (with_rule (with_rule a
    (text_word (codes "command"))) (optional_word (codes "first")))
    (optional_word (codes "second"))) (optional_word (codes "third")))
    (optional_word (codes "fourth"))) (more_words (codes "more"))

-- `--as NAME --journal FILE --once KEY --instead --argo --failure TEXT`
abbrev pub with_do_options : App → App
with_do_options a = with_rule (with_rule (with_rule (with_rule (with_rule (with_rule a
    (text_option (codes "as") false)) (text_option (codes "journal") false))
    (text_option (codes "once") false)) (flag (codes "instead"))) (flag (codes "argo")))
    (text_option (codes "failure") false)

-- `do COMMAND`, with its options and the words of the command
abbrev pub do_command : App
do_command = with_command_words (with_do_options (with_desk_options (new_app (codes "do"))))

-- `get SERVICE PART`
abbrev pub get_command : App
get_command = with_rule (with_rule (with_desk_options (new_app (codes "get")))
    (text_word (codes "service"))) (optional_word (codes "part"))

-- `watch --until STATUS,.. --json --forever SERVICE`
abbrev pub watch_command : App
watch_command = with_rule (with_rule (with_rule (with_rule (with_desk_options
    (new_app (codes "watch"))) (text_option (codes "until") false)) (flag (codes "json")))
    (flag (codes "forever"))) (text_word (codes "service"))

-- `send CSV`
abbrev pub send_command : App
send_command = with_rule (with_desk_options (new_app (codes "send"))) (text_word (codes "csv"))

-- `due --wait --late SECONDS SERVICE..`
abbrev pub due_command : App
due_command = with_rule (with_rule (with_rule (with_desk_options (new_app (codes "due")))
    (flag (codes "wait"))) (number_option (codes "late") 31536000)) (text_words (codes "service"))

-- `--desk HOST:PORT --journals FOLDER --as PREFIX --once --dry-run`
abbrev pub with_agent_manner : App → App
with_agent_manner a = with_rule (with_rule (with_rule (with_rule (with_rule a
    (text_option (codes "desk") false)) (text_option (codes "journals") false))
    (text_option (codes "as") false)) (flag (codes "once"))) (flag (codes "dry-run"))

-- `--values FILE --abort-late SECONDS --health FILE --timeout SECONDS`
abbrev pub with_agent_limits : App → App
with_agent_limits a = with_rule (with_rule (with_rule (with_rule a
    (text_option (codes "values") false)) (number_option (codes "abort-late") 31536000))
    (text_option (codes "health") false)) (number_option (codes "timeout") 86400)

-- `agent FILE..`, with its options
abbrev pub agent_command : App
agent_command = with_rule (with_agent_limits (with_agent_manner (new_app (codes "agent"))))
    (text_words (codes "file"))

-- with the commands that answer requests
abbrev pub with_serving_commands : App → App
with_serving_commands a = with_subcommand (with_subcommand a pipe_command.top) serve_command.top

-- with those for measurements and what happened
abbrev pub with_history_commands : App → App
with_history_commands a = with_subcommand (with_subcommand (with_subcommand a import_command.top)
    history_command.top) export_command.top

-- with those that say how services stand
abbrev pub with_status_commands : App → App
with_status_commands a = with_subcommand (with_subcommand a status_command.top) page_command.top

-- with those that copy the records
abbrev pub with_copy_commands : App → App
with_copy_commands a = with_subcommand (with_subcommand (with_subcommand a backup_command.top)
    migrate_command.top) succeed_command.top

-- with those that read manifests
abbrev pub with_manifest_commands : App → App
with_manifest_commands a = with_subcommand (with_subcommand a check_command.top) argo_command.top

-- with those that ask a desk once
abbrev pub with_asking_commands : App → App
with_asking_commands a = with_subcommand (with_subcommand a do_command.top) get_command.top

-- with those that send rows, and that wait
abbrev pub with_waiting_commands : App → App
with_waiting_commands a = with_subcommand (with_subcommand (with_subcommand a watch_command.top)
    send_command.top) due_command.top

-- with that of the agent
abbrev pub with_agent_command : App → App
with_agent_command a = with_subcommand a agent_command.top

-- the desk without its commands, after no name of the program; `--version` is taken too
abbrev pub bare_desk : App
bare_desk = on_top (λ s. record s {
  no_binary_name = true;
  has_version = true;
  subcommand_required = true;
}) (new_app (codes "canary"))

-- one of the commands
abbrev pub desk_command : App
desk_command = with_agent_command (with_waiting_commands (with_asking_commands
    (with_manifest_commands (with_copy_commands (with_status_commands (with_history_commands
    (with_serving_commands bare_desk)))))))

-- what clap finds in the words after the program's name: the kind of the first mistake, or of a
-- request for help or for the version, and nothing if the desk takes them
abbrev pub faults_of : List Text → Kinds
faults_of = fault_of desk_command

-- ---- what the words spell

-- the number that the text given for an option spells
abbrev pub number_given : Text → List Row → Option ℕ
number_given name rows =
    option_map (λ text. digits_value 10 (without_leading_plus text)) (one_of name rows)

-- whether the flag was given: then clap has `true` for it, and else `false`
abbrev pub flag_given : Text → List Row → Bool
flag_given name rows = option_map_or (bytes_eq (codes "true")) (one_of name rows) false

-- the text that was given
abbrev pub text_given : Text → List Row → Option Text
text_given = first_of

-- the texts that were given
abbrev pub texts_given : Text → List Row → Option (List Text)
texts_given = all_of

-- the texts that were given, and none if there are none
abbrev pub texts_or_none : Text → List Row → List Text
texts_or_none name rows = unwrap_or (texts_given name rows) []

abbrev pub piped : Option ℕ → Option ℕ → Option Text → Option ℕ → Option Program
piped (Some at) (Some step) db cache = Some (Pipe at step db cache)
piped _ _ db cache = None

abbrev pub pipe_of : List Row → Option Program
pipe_of rows = piped (number_given (codes "at") rows) (number_given (codes "step") rows)
    (text_given (codes "db") rows) (number_given (codes "cache") rows)

-- the limits of a listener that were given
abbrev pub limits_of : List Row → AskedLimits
limits_of rows = record {
  read_timeout = number_given (codes "read-timeout") rows;
  idle_timeout = number_given (codes "idle-timeout") rows;
  max_clients = number_given (codes "max-clients") rows;
  max_unsent = number_given (codes "max-unsent") rows;
  max_unsent_total = number_given (codes "max-unsent-total") rows;
}

abbrev pub serve_of : List Row → Option Program
serve_of rows = option_map (λ address. Serve address (text_given (codes "db") rows)
    (number_given (codes "cache") rows) (number_given (codes "connections") rows)
    (limits_of rows)) (text_given (codes "listen") rows)

-- what two texts make, if both were given
abbrev pub of_two : (Text → Text → Program) → Option Text → Option Text → Option Program
of_two make (Some a) (Some b) = Some (make a b)
of_two make _ _ = None

-- what is made of the file of the records and of the text under this name
abbrev pub with_db : (Text → Text → Program) → Text → List Row → Option Program
with_db make name rows = of_two make (text_given (codes "db") rows) (text_given name rows)

abbrev pub import_of : List Row → Option Program
import_of rows =
    with_db (λ db csv. Import db (number_given (codes "cache") rows) csv) (codes "csv") rows

abbrev pub history_of : List Row → Option Program
history_of = with_db History (codes "service")

abbrev pub exported : Option Text → Option Text → Option Text → Option Program
exported (Some db) (Some caller) (Some service) = Some (Export db caller service)
exported _ _ _ = None

abbrev pub export_of : List Row → Option Program
export_of rows = exported (text_given (codes "db") rows) (text_given (codes "caller") rows)
    (text_given (codes "service") rows)

abbrev pub status_of : List Row → Option Program
status_of rows = option_map (λ db. Status db (number_given (codes "watch") rows)
    (flag_given (codes "json") rows) (flag_given (codes "prometheus") rows))
    (text_given (codes "db") rows)

abbrev pub page_of : List Row → Option Program
page_of rows = with_db (λ db out. Page db out (number_given (codes "watch") rows)
    (text_given (codes "json") rows)) (codes "out") rows

abbrev pub backup_of : List Row → Option Program
backup_of rows = with_db (λ db copy. Backup db copy (number_given (codes "every") rows)
    (number_given (codes "keep") rows)) (codes "copy") rows

abbrev pub migrate_of : List Row → Option Program
migrate_of rows = option_map (λ db. Migrate db (flag_given (codes "dry-run") rows))
    (text_given (codes "db") rows)

abbrev pub succeed_of : List Row → Option Program
succeed_of = with_db Succeed (codes "new")

abbrev pub check_of : List Row → Option Program
check_of rows = Some (Check (text_given (codes "file") rows) (text_given (codes "request") rows)
    (flag_given (codes "strict") rows))

abbrev pub argo_of : List Row → Option Program
argo_of rows = option_map (λ files. Argo files (text_given (codes "out") rows)
    (flag_given (codes "json") rows)) (texts_given (codes "file") rows)

-- where the desk is, and how patiently it is asked, as far as it was given
abbrev pub desk_of : List Row → AskedDesk
desk_of rows = record {
  desk = text_given (codes "desk") rows;
  tries = number_given (codes "tries") rows;
  timeout = number_given (codes "timeout") rows;
}

-- the command that is asked, word by word
abbrev pub command_of : List Row → Option AskedCommand
command_of rows = option_map (λ kind. record {
  kind = kind;
  first = text_given (codes "first") rows;
  second = text_given (codes "second") rows;
  third = text_given (codes "third") rows;
  fourth = text_given (codes "fourth") rows;
  more = texts_or_none (codes "more") rows;
  failure = text_given (codes "failure") rows;
}) (text_given (codes "command") rows)

abbrev pub do_of : List Row → Option Program
do_of rows = option_map (λ command. Ask (Do record {
  desk = desk_of rows;
  caller = text_given (codes "as") rows;
  journal = text_given (codes "journal") rows;
  key = text_given (codes "once") rows;
  is_instead = flag_given (codes "instead") rows;
  is_argo = flag_given (codes "argo") rows;
  command = command;
})) (command_of rows)

abbrev pub get_of : List Row → Option Program
get_of rows =
    option_map (λ service. Ask (Get (desk_of rows) service (text_given (codes "part") rows)))
    (text_given (codes "service") rows)

abbrev pub watch_of : List Row → Option Program
watch_of rows = option_map (λ service. Ask (Watch (desk_of rows)
    (text_given (codes "until") rows) (flag_given (codes "json") rows)
    (flag_given (codes "forever") rows) service)) (text_given (codes "service") rows)

abbrev pub send_of : List Row → Option Program
send_of rows = option_map (λ csv. Ask (Send (desk_of rows) csv)) (text_given (codes "csv") rows)

abbrev pub due_of : List Row → Option Program
due_of rows = option_map (λ services. Ask (Due (desk_of rows)
    (flag_given (codes "wait") rows) (number_given (codes "late") rows) services))
    (texts_given (codes "service") rows)

-- where the desk of an agent is, which sends a message once, and how long it waits for a reply
abbrev pub agent_desk_of : List Row → AskedDesk
agent_desk_of rows = record {
  desk = text_given (codes "desk") rows;
  tries = None;
  timeout = number_given (codes "timeout") rows;
}

abbrev pub agent_of : List Row → Option Program
agent_of rows = option_map (λ files. Ask (Agent record {
  desk = agent_desk_of rows;
  journals = text_given (codes "journals") rows;
  caller = text_given (codes "as") rows;
  is_once = flag_given (codes "once") rows;
  is_dry_run = flag_given (codes "dry-run") rows;
  values = text_given (codes "values") rows;
  abort_late = number_given (codes "abort-late") rows;
  health = text_given (codes "health") rows;
  files = files;
})) (texts_given (codes "file") rows)

-- the program of the command that asks a desk
abbrev pub client_program_in : Text × List Row → Option Program
client_program_in p = if bytes_eq p.0 (codes "do") then do_of p.1
    else if bytes_eq p.0 (codes "get") then get_of p.1
    else if bytes_eq p.0 (codes "watch") then watch_of p.1
    else if bytes_eq p.0 (codes "send") then send_of p.1
    else if bytes_eq p.0 (codes "due") then due_of p.1
    else if bytes_eq p.0 (codes "agent") then agent_of p.1 else None

-- the program of the command of this name with these matches
abbrev pub program_in : Text × List Row → Option Program
program_in p = if bytes_eq p.0 (codes "pipe") then pipe_of p.1
    else if bytes_eq p.0 (codes "serve") then serve_of p.1
    else if bytes_eq p.0 (codes "import") then import_of p.1
    else if bytes_eq p.0 (codes "history") then history_of p.1
    else if bytes_eq p.0 (codes "export") then export_of p.1
    else if bytes_eq p.0 (codes "status") then status_of p.1
    else if bytes_eq p.0 (codes "page") then page_of p.1
    else if bytes_eq p.0 (codes "backup") then backup_of p.1
    else if bytes_eq p.0 (codes "migrate") then migrate_of p.1
    else if bytes_eq p.0 (codes "succeed") then succeed_of p.1
    else if bytes_eq p.0 (codes "check") then check_of p.1
    else if bytes_eq p.0 (codes "argo") then argo_of p.1
    else client_program_in p

-- the program of the words that the desk takes
abbrev pub program_of : List Text → Option Program
program_of words = option_and_then program_in (subcommand_of desk_command words)

-- ---- faults

-- for help, or for the version
abbrev pub AsksForHelp : Kinds → Type 0
AsksForHelp kinds = IsAmong DisplayHelp kinds ⊎ IsAmong DisplayVersion kinds

abbrev pub HasMistake : Kinds → Type 0
HasMistake kinds =
    (k : ErrorKind) × IsAmong k kinds × (k ≢ DisplayHelp) × (k ≢ DisplayVersion)

-- help is answered only if it is asked for, and usage only if the words have a mistake
abbrev pub IsFor : Kinds → WordsFault → Type 0
IsFor kinds (Help text) = AsksForHelp kinds
IsFor kinds (Usage text) = HasMistake kinds
IsFor kinds Memory = Unit {0}

-- ---- what the matches hold

-- the option was given, with the seconds of a moment
abbrev pub HasMoment : Text → List Row → Type 0
HasMoment name rows =
    (text : Text) × (one_of name rows ≡ Some text) × IsUnsignedIn 0 253370764799 text

-- the text was given
abbrev pub HasText : Text → List Row → Type 0
HasText name rows = (text : Text) × (text_given name rows ≡ Some text)

-- if the option was given, then with a number from 1 to `most`
abbrev pub MayHaveNumber : Text → ℕ → List Row → Type 0
MayHaveNumber name most rows = IfSome (one_of name rows) (IsUnsignedIn 1 most)

-- what clap has for a flag
abbrev pub IsTrueOrFalse : Text → Type 0
IsTrueOrFalse text = (text ≡ codes "true") ⊎ (text ≡ codes "false")

-- if clap has a text for the flag, then `true` or `false`
abbrev pub MayHaveFlag : Text → List Row → Type 0
MayHaveFlag name rows = IfSome (one_of name rows) IsTrueOrFalse

abbrev pub HasCache : List Row → Type 0
HasCache rows = MayHaveNumber (codes "cache") 68719476736 rows

abbrev pub HasMoments : List Row → Type 0
HasMoments rows = HasMoment (codes "at") rows × HasMoment (codes "step") rows

abbrev pub HasPipe : List Row → Type 0
HasPipe rows = HasMoments rows × HasCache rows

abbrev pub HasLimits : List Row → Type 0
HasLimits rows = MayHaveNumber (codes "read-timeout") 86400 rows
    × MayHaveNumber (codes "idle-timeout") 86400 rows
    × MayHaveNumber (codes "max-clients") 65536 rows
    × MayHaveNumber (codes "max-unsent") 1073741824 rows
    × MayHaveNumber (codes "max-unsent-total") 68719476736 rows

abbrev pub HasListener : List Row → Type 0
HasListener rows = HasText (codes "listen") rows × HasCache rows
    × MayHaveNumber (codes "connections") 1000000 rows × HasLimits rows

-- the file of the records and the text of this name were given
abbrev pub HasTexts : Text → List Row → Type 0
HasTexts name rows = HasText (codes "db") rows × HasText name rows

abbrev pub HasImport : List Row → Type 0
HasImport rows = HasTexts (codes "csv") rows × HasCache rows

abbrev pub HasExport : List Row → Type 0
HasExport rows = HasText (codes "db") rows × HasText (codes "caller") rows
    × HasText (codes "service") rows

abbrev pub HasStatus : List Row → Type 0
HasStatus rows = HasText (codes "db") rows × MayHaveNumber (codes "watch") 86400 rows
    × MayHaveFlag (codes "json") rows × MayHaveFlag (codes "prometheus") rows

abbrev pub HasPage : List Row → Type 0
HasPage rows = HasTexts (codes "out") rows × MayHaveNumber (codes "watch") 86400 rows

abbrev pub HasBackup : List Row → Type 0
HasBackup rows = HasTexts (codes "copy") rows × MayHaveNumber (codes "every") 31536000 rows
    × MayHaveNumber (codes "keep") 10000 rows

abbrev pub HasMigrate : List Row → Type 0
HasMigrate rows = HasText (codes "db") rows × MayHaveFlag (codes "dry-run") rows

abbrev pub HasCheck : List Row → Type 0
HasCheck rows = MayHaveFlag (codes "strict") rows

abbrev pub HasArgo : List Row → Type 0
HasArgo rows = HasText (codes "file") rows × MayHaveFlag (codes "json") rows

abbrev pub HasDesk : List Row → Type 0
HasDesk rows = MayHaveNumber (codes "tries") 1000 rows × MayHaveNumber (codes "timeout") 86400 rows

-- what a desk is asked for was given under this name
abbrev pub HasAsked : Text → List Row → Type 0
HasAsked name rows = HasDesk rows × HasText name rows

abbrev pub HasDo : List Row → Type 0
HasDo rows = HasAsked (codes "command") rows × MayHaveFlag (codes "instead") rows
    × MayHaveFlag (codes "argo") rows

abbrev pub HasWatch : List Row → Type 0
HasWatch rows = HasAsked (codes "service") rows × MayHaveFlag (codes "json") rows
    × MayHaveFlag (codes "forever") rows

abbrev pub HasDue : List Row → Type 0
HasDue rows = HasAsked (codes "service") rows × MayHaveFlag (codes "wait") rows
    × MayHaveNumber (codes "late") 31536000 rows

-- how long an agent waits for a reply was given as a number, if it was
abbrev pub HasTimeout : List Row → Type 0
HasTimeout rows = MayHaveNumber (codes "timeout") 86400 rows

abbrev pub HasAgent : List Row → Type 0
HasAgent rows = HasTimeout rows × HasText (codes "file") rows
    × MayHaveFlag (codes "once") rows × MayHaveFlag (codes "dry-run") rows
    × MayHaveNumber (codes "abort-late") 31536000 rows

-- the command of this name was met, with rows of which this holds
abbrev pub Meets : Text → (List Row → Type 0) → Option (Text × List Row) → Type 0
Meets name Holds met = (rows : List Row) × (met ≡ Some (name, rows)) × Holds rows

-- one of the commands on the file of a desk's records was met, with all that it has to be given
abbrev pub HasRecordsProgram : Option (Text × List Row) → Type 0
HasRecordsProgram met = Meets (codes "import") HasImport met
    ⊎ (Meets (codes "history") (HasTexts (codes "service")) met
    ⊎ (Meets (codes "export") HasExport met ⊎ (Meets (codes "status") HasStatus met
    ⊎ (Meets (codes "page") HasPage met ⊎ (Meets (codes "backup") HasBackup met
    ⊎ (Meets (codes "migrate") HasMigrate met
    ⊎ Meets (codes "succeed") (HasTexts (codes "new")) met))))))

-- one of the commands that ask a desk was met, with all that it has to be given
abbrev pub HasClientProgram : Option (Text × List Row) → Type 0
HasClientProgram met = Meets (codes "do") HasDo met
    ⊎ (Meets (codes "get") (HasAsked (codes "service")) met
    ⊎ (Meets (codes "watch") HasWatch met
    ⊎ (Meets (codes "send") (HasAsked (codes "csv")) met ⊎ (Meets (codes "due") HasDue met
    ⊎ Meets (codes "agent") HasAgent met))))

-- one of the commands that read manifests, or that ask a desk, was met, with all of this
abbrev pub HasFurtherProgram : Option (Text × List Row) → Type 0
HasFurtherProgram met = Meets (codes "check") HasCheck met ⊎ (Meets (codes "argo") HasArgo met
    ⊎ HasClientProgram met)

-- one of the commands was met, with all that it has to be given
abbrev pub HasProgram : Option (Text × List Row) → Type 0
HasProgram met = Meets (codes "pipe") HasPipe met
    ⊎ (Meets (codes "serve") HasListener met ⊎ (HasRecordsProgram met ⊎ HasFurtherProgram met))
