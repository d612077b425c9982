-- What the words spell if clap finds no fault in them: one of the commands, with all that it has to be given.
use Rattle.std.proofs.Common.{inl, inr, ◌≡◌, ◌↔◌, IfOk, ℕ, Result, ◌∙◌, ap, subst, sym, ◌||◌, Bool, true, false, cond, List, [], ◌∷◌, Option, Some, None, is_some, codes, refl}
use Rattle.std.specs.Prelude.{find, slice_get, IfSome, IsSome, unwrap_or, option_and_then, option_map}
use Rattle.std.specs.Option.{option_map_or}
use Rattle.std.specs.Str.{bytes_eq}
use Rattle.std.specs.Str.Parse.{digits_value, without_leading_plus}
use Rattle.std.specs.Borrow.{Bor}
use Rattle.std.specs.Box.{box_value}
use Rattle.std.proofs.lemmas.Slice.Eq.{bytes_eq-Decides}
use Rattle.clap.specs.Words.{Row, Shape, Text, built, found_of, is_simple_and_free, rows_of, subcommand_name_of, subcommand_of, subcommand_rows_of}
use Rattle.clap.specs.Walk.{answers_to, nothing_held, rows_after, stop_after}
use Rattle.clap.specs.Simple.{argument_words, entered, label_of, names_of, rows_at}
use Rattle.clap.specs.Faults.{check_fault, entered_fault, level_fault}
use Rattle.clap.specs.declared.error.kind.ErrorKind.{ErrorKind}
use Rattle.clap.specs.declared.error.kind.ErrorKind.TheVariants.{MissingSubcommand}
use Rattle.clap.specs.declared.parser.matches.ArgMatches.{ArgMatches}
use Rattle.clap.specs.declared.parser.matches.ArgMatches.TheViews.{out-ArgMatches, out-SubCommand}
use Rattle.canary_cli_words.specs.CommandLine.{desk_command, faults_of, exported, export_of, flag_given, limits_of, number_given, of_two, pipe_of, piped, program_in, program_of, text_given, texts_given, with_db, HasAgent, HasArgo, HasAsked, HasBackup, HasCheck, HasClientProgram, HasDo, HasDue, HasExport, HasFurtherProgram, HasImport, HasListener, HasMigrate, HasMoment, HasPipe, HasPage, HasProgram, HasRecordsProgram, HasStatus, HasText, HasTexts, HasWatch}
use Rattle.canary_cli_words.specs.CommandLine.{command_of, desk_of, do_of}
use Rattle.canary_cli_words.specs.declared.words.Program.{Program}
use Rattle.canary_cli_words.specs.declared.words.ClientCall.TheVariants.{Get, Watch, Send}
use Rattle.canary_cli_words.specs.declared.words.Program.TheVariants.{Serve, Import, History, Status, Page, Backup, Migrate, Succeed, Ask}
use Rattle.canary_cli_words.proofs.Chains.{ok_then}
use Rattle.canary_cli_words.proofs.Given.{agent, agent_rows, argo, argo_rows, backup, backup_rows, check, check_rows, desk, do_rows, due, due_rows, export, export_rows, get, get_rows, history, history_rows, import, import_rows, migrate, migrate_rows, page, page_rows, pipe, pipe_rows, send, send_rows, serve, serve_rows, status, status_rows, succeed, succeed_rows, asking, watch, watch_rows}
use Rattle.canary_cli_words.proofs.Walks.{IsNoHelp, below_none, stop-no_help}

pub desk_is_simple : is_simple_and_free desk_command ≡ true
desk_is_simple = refl

-- ---- which command was met

never : {P : Type 0} (k : ErrorKind) → k ∷ [] ≡ [] → P
never k none = cc

no_help : (name : Text) → bytes_eq name (codes "help") ≡ false → answers_to name (codes "help", []) ≡ false
no_help name other = go (bytes_eq (codes "help") name) (bytes_eq-Decides (codes "help") name).0
  where
    go : (b : Bool) → (b ≡ true → codes "help" ≡ name) → (b || false) ≡ false
    go true same =
        let is_help : bytes_eq (codes "help") (codes "help") ≡ false = subst (λ (n : Text). bytes_eq n (codes "help") ≡ false) (sym (same refl)) other in
        cc
    go false same = refl

-- the first of these commands that the name is of
abbrev named : Text → List Shape → Option Shape
named name commands = find (λ s. answers_to name (label_of s)) commands

-- the command, if it is met with no fault, has all that it has to be given
abbrev IsGiven : Shape → List Text → Type 0
IsGiven s words = level_fault s [] nothing_held words false [] ≡ [] → HasProgram (Some (rows_at s words))

-- and so has each of these commands, if the name is its own
abbrev AreGiven : Text → List Text → List Shape → Type 0
AreGiven name words [] = Unit {0}
AreGiven name words (s ∷ rest) = (answers_to name (label_of s) ≡ true → IsGiven s words) × AreGiven name words rest

-- and so has the one that the name is of
met_among : (name : Text) (words : List Text) (rows : List Row) (commands : List Shape) → AreGiven name words commands
    → check_fault desk rows (is_some (option_map (λ s. rows_at s words) (named name commands))) ≡ []
    → option_map_or (λ s. level_fault s [] nothing_held words false []) (named name commands) [] ≡ []
    → HasProgram (option_map (λ s. rows_at s words) (named name commands))
met_among name words rows [] given checks none = never MissingSubcommand checks
met_among name words rows (s ∷ rest) given checks none = go (answers_to name (label_of s)) refl checks none (met_among name words rows rest given.1)
  where
    go : (b : Bool) → answers_to name (label_of s) ≡ b
        → check_fault desk rows (is_some (option_map (λ s. rows_at s words) (cond b (Some s) (named name rest)))) ≡ []
        → option_map_or (λ s. level_fault s [] nothing_held words false []) (cond b (Some s) (named name rest)) [] ≡ []
        → (check_fault desk rows (is_some (option_map (λ s. rows_at s words) (named name rest))) ≡ []
        → option_map_or (λ s. level_fault s [] nothing_held words false []) (named name rest) [] ≡ []
        → HasProgram (option_map (λ s. rows_at s words) (named name rest)))
        → HasProgram (option_map (λ s. rows_at s words) (cond b (Some s) (named name rest)))
    go true is checks none more = given.0 is none
    go false is checks none more = more checks none

-- a command on the file of a desk's records
of_records : (met : Option (Text × List Row)) → HasRecordsProgram met → HasProgram met
of_records met h = inr (inr (inl h))

-- a command that asks a desk
of_client : (met : Option (Text × List Row)) → HasClientProgram met → HasProgram met
of_client met h = inr (inr (inr (inr (inr h))))

pipe_met : (words : List Text) → IsGiven pipe words
pipe_met words none = inl (rows_after pipe.rules [] words, refl, pipe_rows words none)

serve_met : (words : List Text) → IsGiven serve words
serve_met words none = inr (inl (rows_after serve.rules [] words, refl, serve_rows words none))

import_met : (words : List Text) → IsGiven import words
import_met words none = of_records (Some (rows_at import words)) (inl (rows_after import.rules [] words, refl, import_rows words none))

history_met : (words : List Text) → IsGiven history words
history_met words none = of_records (Some (rows_at history words)) (inr (inl (rows_after history.rules [] words, refl, history_rows words none)))

export_met : (words : List Text) → IsGiven export words
export_met words none = of_records (Some (rows_at export words)) (inr (inr (inl (rows_after export.rules [] words, refl, export_rows words none))))

status_met : (words : List Text) → IsGiven status words
status_met words none = of_records (Some (rows_at status words)) (inr (inr (inr (inl (rows_after status.rules [] words, refl, status_rows words none)))))

page_met : (words : List Text) → IsGiven page words
page_met words none = of_records (Some (rows_at page words)) (inr (inr (inr (inr (inl (rows_after page.rules [] words, refl, page_rows words none))))))

backup_met : (words : List Text) → IsGiven backup words
backup_met words none = of_records (Some (rows_at backup words)) (inr (inr (inr (inr (inr (inl (rows_after backup.rules [] words, refl, backup_rows words none)))))))

migrate_met : (words : List Text) → IsGiven migrate words
migrate_met words none = of_records (Some (rows_at migrate words)) (inr (inr (inr (inr (inr (inr (inl (rows_after migrate.rules [] words, refl, migrate_rows words none))))))))

succeed_met : (words : List Text) → IsGiven succeed words
succeed_met words none = of_records (Some (rows_at succeed words)) (inr (inr (inr (inr (inr (inr (inr (rows_after succeed.rules [] words, refl, succeed_rows words none))))))))

check_met : (words : List Text) → IsGiven check words
check_met words none = inr (inr (inr (inl (rows_after check.rules [] words, refl, check_rows words none))))

argo_met : (words : List Text) → IsGiven argo words
argo_met words none = inr (inr (inr (inr (inl (rows_after argo.rules [] words, refl, argo_rows words none)))))

asking_met : (words : List Text) → IsGiven asking words
asking_met words none = of_client (Some (rows_at asking words)) (inl (rows_after asking.rules [] words, refl, do_rows words none))

get_met : (words : List Text) → IsGiven get words
get_met words none = of_client (Some (rows_at get words)) (inr (inl (rows_after get.rules [] words, refl, get_rows words none)))

watch_met : (words : List Text) → IsGiven watch words
watch_met words none = of_client (Some (rows_at watch words)) (inr (inr (inl (rows_after watch.rules [] words, refl, watch_rows words none))))

send_met : (words : List Text) → IsGiven send words
send_met words none = of_client (Some (rows_at send words)) (inr (inr (inr (inl (rows_after send.rules [] words, refl, send_rows words none)))))

due_met : (words : List Text) → IsGiven due words
due_met words none = of_client (Some (rows_at due words)) (inr (inr (inr (inr (inl (rows_after due.rules [] words, refl, due_rows words none))))))

agent_met : (words : List Text) → IsGiven agent words
agent_met words none = of_client (Some (rows_at agent words)) (inr (inr (inr (inr (inr (rows_after agent.rules [] words, refl, agent_rows words none))))))

-- the desk's commands, in their order; the last one is `help`
each_given : (name : Text) (words : List Text) → answers_to name (codes "help", []) ≡ false → AreGiven name words (built desk_command).subs
each_given name words other = (λ _. pipe_met words, (λ _. serve_met words, (λ _. import_met words, (λ _. history_met words, (λ _. export_met words, (λ _. status_met words, (λ _. page_met words, (λ _. backup_met words, (λ _. migrate_met words, (λ _. succeed_met words, (λ _. check_met words, (λ _. argo_met words, (λ _. asking_met words, (λ _. get_met words, (λ _. watch_met words, (λ _. send_met words, (λ _. due_met words, (λ _. agent_met words, (λ is none. let bad : true ≡ false = sym is ∙ other in cc, tt)))))))))))))))))))

met : (o : Option (Text × List Text)) (words : List Text) → IsNoHelp o
    → level_fault desk (names_of (built desk_command)) nothing_held words (is_some (entered (built desk_command) o)) (entered_fault (built desk_command) o) ≡ []
    → HasProgram (entered (built desk_command) o)
met None words other none =
    let checks = (below_none desk (names_of (built desk_command)) words false [] none).1 in
    never MissingSubcommand checks
met (Some p) words other none =
    let top = below_none desk (names_of (built desk_command)) words _ _ none in
    met_among p.0 p.1 (rows_after desk.rules (names_of (built desk_command)) words) (built desk_command).subs (each_given p.0 p.1 (no_help p.0 other)) top.1 top.0

-- ---- the program

-- if clap finds no fault, the words have met one of the commands
pub spelled : (words : List Text) → faults_of words ≡ [] → HasProgram (subcommand_of desk_command words)
spelled words none =
    let stop = stop_after desk.rules (names_of (built desk_command)) (argument_words desk_command words) in
    met stop (argument_words desk_command words) (stop-no_help desk (names_of (built desk_command)) (argument_words desk_command words) _ _ refl none) none

number_is : (name : Text) (rows : List Row) (h : HasMoment name rows) → number_given name rows ≡ Some (digits_value 10 (without_leading_plus h.0))
number_is name rows h = ap (option_map (λ text. digits_value 10 (without_leading_plus text))) h.1

-- the moments of `pipe` spell its program
pipe_spelled : (rows : List Row) → HasPipe rows → IsSome (pipe_of rows)
pipe_spelled rows h =
    let at : ℕ = digits_value 10 (without_leading_plus h.0.0.0) in
    let step : ℕ = digits_value 10 (without_leading_plus h.0.1.0) in
    let db : Option Text = text_given (codes "db") rows in
    let cache : Option ℕ = number_given (codes "cache") rows in
    let is : pipe_of rows ≡ piped (Some at) (Some step) db cache =
    ap (λ o. piped o (number_given (codes "step") rows) db cache) (number_is (codes "at") rows h.0.0) ∙ ap (λ o. piped (Some at) o db cache) (number_is (codes "step") rows h.0.1) in
    subst IsSome (sym is) refl

-- a text that was given is made into something
made : {X : Type 0} (f : Text → X) (name : Text) (rows : List Row) → HasText name rows → IsSome (option_map f (text_given name rows))
made f name rows h = subst (λ (o : Option Text). IsSome (option_map f o)) (sym h.1) refl

made_of : {X Y : Type 0} (f : X → Y) (o : Option X) → IsSome o → IsSome (option_map f o)
made_of f (Some x) some = refl
made_of f None some = some

-- and so are the file of the records and another text
two_made : (f : Text → Text → Program) (name : Text) (rows : List Row) → HasTexts name rows → IsSome (with_db f name rows)
two_made f name rows h =
    let is : with_db f name rows ≡ of_two f (Some h.0.0) (Some h.1.0) =
    ap (λ o. of_two f o (text_given name rows)) h.0.1 ∙ ap (of_two f (Some h.0.0)) h.1.1 in
    subst IsSome (sym is) refl

-- what `export` is given spells its program
export_spelled : (rows : List Row) → HasExport rows → IsSome (export_of rows)
export_spelled rows h =
    let caller : Option Text = text_given (codes "caller") rows in
    let service : Option Text = text_given (codes "service") rows in
    let is : export_of rows ≡ exported (Some h.0.0) (Some h.1.0) (Some h.2.0) =
    ap (λ o. exported o caller service) h.0.1 ∙ (ap (λ o. exported (Some h.0.0) o service) h.1.1 ∙ ap (exported (Some h.0.0) (Some h.1.0)) h.2.1) in
    subst IsSome (sym is) refl

-- what `do` is given spells its program
do_spelled : (rows : List Row) → HasDo rows → IsSome (do_of rows)
do_spelled rows h = made_of _ (command_of rows) (made _ (codes "command") rows h.0.1)

-- what has a first text has texts
texts_there : (name : Text) (rows : List Row) → HasText name rows → IsSome (texts_given name rows)
texts_there name rows has = go (find (λ r. bytes_eq r.id name) rows) has.1
  where
    go : (o : Option Row) → option_and_then (λ r. slice_get r.values 0) o ≡ Some has.0 → IsSome (option_map (λ r. r.values) o)
    go None is = cc
    go (Some r) is = refl

-- what was met with these rows spells a program
met_so : (o : Option (Text × List Row)) (name : Text) (rows : List Row) → o ≡ Some (name, rows) → IsSome (program_in (name, rows)) → IsSome (option_and_then program_in o)
met_so o name rows is some = subst (λ (o : Option (Text × List Row)). IsSome (option_and_then program_in o)) (sym is) some

-- what was met of the commands that ask a desk spells a program
client_met : (met : Option (Text × List Row)) → HasClientProgram met → IsSome (option_and_then program_in met)
client_met met (inl h) = met_so met _ h.0 h.1 (do_spelled h.0 h.2)
client_met met (inr (inl h)) = met_so met _ h.0 h.1 (made (λ service. Ask (Get (desk_of h.0) service (text_given (codes "part") h.0))) (codes "service") h.0 h.2.1)
client_met met (inr (inr (inl h))) = met_so met _ h.0 h.1 (made (λ service. Ask (Watch (desk_of h.0) (text_given (codes "until") h.0) (flag_given (codes "json") h.0) (flag_given (codes "forever") h.0) service)) (codes "service") h.0 h.2.0.1)
client_met met (inr (inr (inr (inl h)))) = met_so met _ h.0 h.1 (made (λ csv. Ask (Send (desk_of h.0) csv)) (codes "csv") h.0 h.2.1)
client_met met (inr (inr (inr (inr (inl h))))) = met_so met _ h.0 h.1 (made_of _ (texts_given (codes "service") h.0) (texts_there (codes "service") h.0 h.2.0.1))
client_met met (inr (inr (inr (inr (inr h))))) = met_so met _ h.0 h.1 (made_of _ (texts_given (codes "file") h.0) (texts_there (codes "file") h.0 h.2.1))

-- what was met spells a program
program_met : (met : Option (Text × List Row)) → HasProgram met → IsSome (option_and_then program_in met)
program_met met (inl h) = met_so met _ h.0 h.1 (pipe_spelled h.0 h.2)
program_met met (inr (inl h)) =
    met_so met _ h.0 h.1 (made (λ address. Serve address (text_given (codes "db") h.0) (number_given (codes "cache") h.0) (number_given (codes "connections") h.0) (limits_of h.0)) (codes "listen") h.0 h.2.0)
program_met met (inr (inr (inl (inl h)))) = met_so met _ h.0 h.1 (two_made (λ db csv. Import db (number_given (codes "cache") h.0) csv) (codes "csv") h.0 h.2.0)
program_met met (inr (inr (inl (inr (inl h))))) = met_so met _ h.0 h.1 (two_made History (codes "service") h.0 h.2)
program_met met (inr (inr (inl (inr (inr (inl h)))))) = met_so met _ h.0 h.1 (export_spelled h.0 h.2)
program_met met (inr (inr (inl (inr (inr (inr (inl h))))))) =
    met_so met _ h.0 h.1 (made (λ db. Status db (number_given (codes "watch") h.0) (flag_given (codes "json") h.0) (flag_given (codes "prometheus") h.0)) (codes "db") h.0 h.2.0)
program_met met (inr (inr (inl (inr (inr (inr (inr (inl h)))))))) =
    met_so met _ h.0 h.1 (two_made (λ db out. Page db out (number_given (codes "watch") h.0) (text_given (codes "json") h.0)) (codes "out") h.0 h.2.0)
program_met met (inr (inr (inl (inr (inr (inr (inr (inr (inl h))))))))) = met_so met _ h.0 h.1 (two_made (λ db copy. Backup db copy (number_given (codes "every") h.0) (number_given (codes "keep") h.0)) (codes "copy") h.0 h.2.0)
program_met met (inr (inr (inl (inr (inr (inr (inr (inr (inr (inl h)))))))))) =
    met_so met _ h.0 h.1 (made (λ db. Migrate db (flag_given (codes "dry-run") h.0)) (codes "db") h.0 h.2.0)
program_met met (inr (inr (inl (inr (inr (inr (inr (inr (inr (inr h)))))))))) = met_so met _ h.0 h.1 (two_made Succeed (codes "new") h.0 h.2)
program_met met (inr (inr (inr (inl h)))) = met_so met _ h.0 h.1 refl
program_met met (inr (inr (inr (inr (inl h))))) = met_so met _ h.0 h.1 (made_of _ (texts_given (codes "file") h.0) (texts_there (codes "file") h.0 h.2.0))
program_met met (inr (inr (inr (inr (inr h))))) = client_met met h

-- so they spell a program
pub some_program : (words : List Text) → faults_of words ≡ [] → IsSome (program_of words)
some_program words none = program_met (subcommand_of desk_command words) (spelled words none)

-- ---- the matches of the command that was met

abbrev choose : Bool → Type 0 → Type 0 → Type 0
choose true a b = a
choose false a b = b

-- what the command of this name that asks a desk has to be given
abbrev pub IsAskedFor : Text → List Row → Type 0
IsAskedFor name rows = choose (bytes_eq name (codes "do")) (HasDo rows)
    (choose (bytes_eq name (codes "get")) (HasAsked (codes "service") rows)
    (choose (bytes_eq name (codes "watch")) (HasWatch rows)
    (choose (bytes_eq name (codes "send")) (HasAsked (codes "csv") rows)
    (choose (bytes_eq name (codes "due")) (HasDue rows)
    (choose (bytes_eq name (codes "agent")) (HasAgent rows) ⊥)))))

-- what the command of this name has to be given
abbrev pub IsGivenFor : Text → List Row → Type 0
IsGivenFor name rows = choose (bytes_eq name (codes "pipe")) (HasPipe rows)
    (choose (bytes_eq name (codes "serve")) (HasListener rows)
    (choose (bytes_eq name (codes "import")) (HasImport rows)
    (choose (bytes_eq name (codes "history")) (HasTexts (codes "service") rows)
    (choose (bytes_eq name (codes "export")) (HasExport rows)
    (choose (bytes_eq name (codes "status")) (HasStatus rows)
    (choose (bytes_eq name (codes "page")) (HasPage rows)
    (choose (bytes_eq name (codes "backup")) (HasBackup rows)
    (choose (bytes_eq name (codes "migrate")) (HasMigrate rows)
    (choose (bytes_eq name (codes "succeed")) (HasTexts (codes "new") rows)
    (choose (bytes_eq name (codes "check")) (HasCheck rows)
    (choose (bytes_eq name (codes "argo")) (HasArgo rows) (IsAskedFor name rows))))))))))))

-- what was met is met under one name
given_as : (o : Option (Text × List Row)) (n name : Text) (r rows : List Row) → o ≡ Some (n, r) → o ≡ Some (name, rows) → IsGivenFor n r → IsGivenFor name rows
given_as o n name r rows a b given = subst (λ (p : Text × List Row). IsGivenFor p.0 p.1) (ap (λ m. unwrap_or m (n, r)) (sym a ∙ b)) given

-- what the command of this name was given that asks a desk
pub client_given_for : (o : Option (Text × List Row)) (name : Text) (rows : List Row) → HasClientProgram o → o ≡ Some (name, rows) → IsGivenFor name rows
client_given_for o name rows (inl h) is = given_as o (codes "do") name h.0 rows h.1 is h.2
client_given_for o name rows (inr (inl h)) is = given_as o (codes "get") name h.0 rows h.1 is h.2
client_given_for o name rows (inr (inr (inl h))) is = given_as o (codes "watch") name h.0 rows h.1 is h.2
client_given_for o name rows (inr (inr (inr (inl h)))) is = given_as o (codes "send") name h.0 rows h.1 is h.2
client_given_for o name rows (inr (inr (inr (inr (inl h))))) is = given_as o (codes "due") name h.0 rows h.1 is h.2
client_given_for o name rows (inr (inr (inr (inr (inr h))))) is = given_as o (codes "agent") name h.0 rows h.1 is h.2

-- and of one that reads manifests, or asks a desk
pub further_given_for : (o : Option (Text × List Row)) (name : Text) (rows : List Row) → HasFurtherProgram o → o ≡ Some (name, rows) → IsGivenFor name rows
further_given_for o name rows (inl h) is = given_as o (codes "check") name h.0 rows h.1 is h.2
further_given_for o name rows (inr (inl h)) is = given_as o (codes "argo") name h.0 rows h.1 is h.2
further_given_for o name rows (inr (inr h)) is = client_given_for o name rows h is

pub given_for : (o : Option (Text × List Row)) (name : Text) (rows : List Row) → HasProgram o → o ≡ Some (name, rows) → IsGivenFor name rows
given_for o name rows (inl h) is = given_as o (codes "pipe") name h.0 rows h.1 is h.2
given_for o name rows (inr (inl h)) is = given_as o (codes "serve") name h.0 rows h.1 is h.2
given_for o name rows (inr (inr (inl (inl h)))) is = given_as o (codes "import") name h.0 rows h.1 is h.2
given_for o name rows (inr (inr (inl (inr (inl h))))) is = given_as o (codes "history") name h.0 rows h.1 is h.2
given_for o name rows (inr (inr (inl (inr (inr (inl h)))))) is = given_as o (codes "export") name h.0 rows h.1 is h.2
given_for o name rows (inr (inr (inl (inr (inr (inr (inl h))))))) is = given_as o (codes "status") name h.0 rows h.1 is h.2
given_for o name rows (inr (inr (inl (inr (inr (inr (inr (inl h)))))))) is = given_as o (codes "page") name h.0 rows h.1 is h.2
given_for o name rows (inr (inr (inl (inr (inr (inr (inr (inr (inl h))))))))) is = given_as o (codes "backup") name h.0 rows h.1 is h.2
given_for o name rows (inr (inr (inl (inr (inr (inr (inr (inr (inr (inl h)))))))))) is = given_as o (codes "migrate") name h.0 rows h.1 is h.2
given_for o name rows (inr (inr (inl (inr (inr (inr (inr (inr (inr (inr h)))))))))) is = given_as o (codes "succeed") name h.0 rows h.1 is h.2
given_for o name rows (inr (inr (inr h))) is = further_given_for o name rows h is

named_so : {B : Type 0} (o : Option B) (f : B → Text × List Row) (name : Text) (rows : List Row) → option_map (λ b. (f b).0) o ≡ Some name → option_map (λ p. p.1) (option_map f o) ≡ Some rows
    → option_map f o ≡ Some (name, rows)
named_so None f name rows named has = cc
named_so (Some b) f name rows named has =
    let same_name : (f b).0 ≡ name = ap (λ o. unwrap_or o name) named in
    let same_rows : (f b).1 ≡ rows = ap (λ o. unwrap_or o rows) has in
    ap (λ n. Some (n, (f b).1)) same_name ∙ ap (λ r. Some (name, r)) same_rows

-- the matches that were found under this name are those of the command that was met
pub met_by : (m : ArgMatches) (name : Text) (r : Option (Bor ArgMatches)) (s : Bor ArgMatches) → (IsSome r ↔ (subcommand_name_of m ≡ Some name))
    → IfSome r (λ x. option_map (λ p. p.1) (subcommand_rows_of m) ≡ Some (rows_of (found_of x.now))) → r ≡ Some s
    → subcommand_rows_of m ≡ Some (name, rows_of (found_of s.now))
met_by m name r s found rows is =
    let named = found.0 (subst IsSome (sym is) refl) in
    let has = subst (λ (o : Option (Bor ArgMatches)). IfSome o (λ x. option_map (λ p. p.1) (subcommand_rows_of m) ≡ Some (rows_of (found_of x.now)))) is rows in
    named_so (out-ArgMatches m).subcommand (λ b. ((out-SubCommand (box_value b)).name.now, rows_of (found_of (out-SubCommand (box_value b)).matches))) name _ named has

-- the program of that command is that of all matches
pub program_so : {E : Type 0} (o : Option (Text × List Row)) (name : Text) (rows : List Row) (r : Result Program E) → o ≡ Some (name, rows) → IfOk r (λ p. program_in (name, rows) ≡ Some p)
    → IfOk r (λ p. option_and_then program_in o ≡ Some p)
program_so o name rows r is each = ok_then r _ _ (λ p made. ap (option_and_then program_in) is ∙ made) each

-- ---- the commands that ask a desk

-- no command of this name was met
abbrev pub IsMissed : ArgMatches → Text → Type 0
IsMissed m name = (rows : List Row) → subcommand_rows_of m ≡ Some (name, rows) → ⊥

name_so : {B : Type 0} (o : Option B) (f : B → Text × List Row) (name : Text) (rows : List Row) → option_map f o ≡ Some (name, rows) → option_map (λ b. (f b).0) o ≡ Some name
name_so None f name rows is = cc
name_so (Some b) f name rows is = ap (option_map (λ p. p.0)) is

-- what is not found under a name was not met
pub missed : (m : ArgMatches) (name : Text) (r : Option (Bor ArgMatches)) → (IsSome r ↔ (subcommand_name_of m ≡ Some name)) → r ≡ None → IsMissed m name
missed m name r found is = λ rows met.
    let named = name_so (out-ArgMatches m).subcommand (λ b. ((out-SubCommand (box_value b)).name.now, rows_of (found_of (out-SubCommand (box_value b)).matches))) name rows met in
    let none : false ≡ true = subst IsSome is (found.1 named) in
    cc

-- if no command on records was met, nor one that serves a desk, a further one was
pub further_left : (m : ArgMatches) → HasProgram (subcommand_rows_of m)
    → IsMissed m (codes "pipe") × IsMissed m (codes "serve") × IsMissed m (codes "import") × IsMissed m (codes "history") × IsMissed m (codes "export") × IsMissed m (codes "status") × IsMissed m (codes "page") × IsMissed m (codes "backup") × IsMissed m (codes "migrate") × IsMissed m (codes "succeed")
    → HasFurtherProgram (subcommand_rows_of m)
further_left m (inl h) missed = absurd (missed.0 h.0 h.1)
further_left m (inr (inl h)) missed = absurd (missed.1 h.0 h.1)
further_left m (inr (inr (inl (inl h)))) missed = absurd (missed.2 h.0 h.1)
further_left m (inr (inr (inl (inr (inl h))))) missed = absurd (missed.3 h.0 h.1)
further_left m (inr (inr (inl (inr (inr (inl h)))))) missed = absurd (missed.4 h.0 h.1)
further_left m (inr (inr (inl (inr (inr (inr (inl h))))))) missed = absurd (missed.5 h.0 h.1)
further_left m (inr (inr (inl (inr (inr (inr (inr (inl h)))))))) missed = absurd (missed.6 h.0 h.1)
further_left m (inr (inr (inl (inr (inr (inr (inr (inr (inl h))))))))) missed = absurd (missed.7 h.0 h.1)
further_left m (inr (inr (inl (inr (inr (inr (inr (inr (inr (inl h)))))))))) missed = absurd (missed.8 h.0 h.1)
further_left m (inr (inr (inl (inr (inr (inr (inr (inr (inr (inr h)))))))))) missed = absurd (missed.9 h.0 h.1)
further_left m (inr (inr (inr h))) missed = h

-- if neither that reads manifests was met, one that asks a desk was
pub client_left : (m : ArgMatches) → HasFurtherProgram (subcommand_rows_of m) → IsMissed m (codes "check") × IsMissed m (codes "argo") → HasClientProgram (subcommand_rows_of m)
client_left m (inl h) missed = absurd (missed.0 h.0 h.1)
client_left m (inr (inl h)) missed = absurd (missed.1 h.0 h.1)
client_left m (inr (inr h)) missed = h
