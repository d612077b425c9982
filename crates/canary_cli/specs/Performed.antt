-- What a command line comes to: what is read, what is written, and the exit status.
use Rattle.std.specs.Prelude.{◌≡◌, ◌⊎◌, ℕ, List, [], Option, Some, None, Result, Ok, Err, codes, string_bytes}
use Rattle.std.specs.Io.KnownBytes.{Appends}
use Rattle.clap.specs.Words.{Kinds, Text}
use Rattle.canary_base.specs.Writes.{Known}
use Rattle.canary_programs.specs.declared.fault.Fault.{Fault}
use Rattle.canary_cli.specs.declared.perform.ProgramExit.{ProgramExit}
use Rattle.canary_cli.specs.declared.perform.ProgramExit.TheVariants.{Done, Findings, Unclear, Asked}
use Rattle.canary_client.specs.Outcomes as client
use Rattle.canary_client.specs.declared.outcome.ClientExit as client_outcome
use Rattle.canary_cli_words.specs.declared.words.Program.{Program}
use Rattle.canary_cli_words.specs.declared.words.Program.TheVariants.{Pipe, Serve, Import, History, Export, Status, Page, Backup, Migrate, Succeed, Check, Argo, Ask}
use Rattle.canary_cli_words.specs.declared.words.WordsFault.{WordsFault}
use Rattle.canary_cli_words.specs.declared.words.WordsFault.TheVariants.{Help, Usage, Memory as NoMemory}
use Rattle.canary_cli_words.specs.CommandLine.{IsFor, faults_of, program_of}
use Rattle.canary_cli_desk.specs.Run.{IsPiped, MayTell}
use Rattle.canary_cli_client.specs.Asked.{IsAsked}
use Rattle.canary_cli_client.specs.declared.exit.ManifestExit.{ManifestExit}
use Rattle.canary_cli_client.specs.declared.exit.ManifestExit.TheVariants as manifest

-- ---- faults and statuses

-- what comes of a program of the desk
abbrev pub outcome_of : Result (Unit {0}) Fault → Result ProgramExit Fault
outcome_of (Ok _) = Ok Done
outcome_of (Err f) = Err f

-- what comes of a program that reads manifests
abbrev pub checked_of : Result ManifestExit Fault → Result ProgramExit Fault
checked_of (Ok manifest.Done) = Ok Done
checked_of (Ok manifest.Findings) = Ok Findings
checked_of (Err f) = Err f

-- 0 if it was done, 1 for findings or a fault, and 2 if the words leave unclear what is
-- asked; of a client that of its outcome
abbrev pub status_of : Result ProgramExit Fault → ℕ
status_of (Ok Done) = 0
status_of (Ok Findings) = 1
status_of (Ok (Unclear what)) = 2
status_of (Ok (Asked outcome)) = client.status_of outcome
status_of (Err f) = 1

-- a check is no client of a desk
abbrev pub IsNoClient : Result ProgramExit Fault → Type 0
IsNoClient done = (outcome : client_outcome.ClientExit) → done ≡ Ok (Asked outcome) → ⊥

-- if a check found nothing, it wrote `ok`
abbrev pub IsChecked : Known → Known → Result ProgramExit Fault → Type 0
IsChecked w new_w done = done ≡ Ok Done → Appends w new_w (codes "ok\n")

-- the program was run so; `pipe`, `import`, `argo`, `send` and `agent` alone may read the input
abbrev pub IsRun : Known → Known → Known → Known → Program → Result ProgramExit Fault → Type 0
IsRun r new_r w new_w (Pipe at step None cache) done =
    (piped : Result (Unit {0}) Fault) × (done ≡ outcome_of piped)
    × IsPiped r new_r w new_w at step piped
IsRun r new_r w new_w (Pipe at step (Some db) cache) done = Unit {0}
IsRun r new_r w new_w (Serve listen db cache connections limits) done = new_r ≡ r
IsRun r new_r w new_w (Import db cache csv) done = Unit {0}
IsRun r new_r w new_w (History db service) done = new_r ≡ r
IsRun r new_r w new_w (Export db caller service) done = new_r ≡ r
IsRun r new_r w new_w (Status db watch json prometheus) done = new_r ≡ r
IsRun r new_r w new_w (Page db out watch json) done = new_r ≡ r
IsRun r new_r w new_w (Backup db copy every keep) done = new_r ≡ r
IsRun r new_r w new_w (Migrate db dry_run) done = new_r ≡ r
IsRun r new_r w new_w (Succeed db new) done = new_r ≡ r
IsRun r new_r w new_w (Check file request strict) done =
    (new_r ≡ r) × IsChecked w new_w done × IsNoClient done
IsRun r new_r w new_w (Argo files out json) done = IsNoClient done
IsRun r new_r w new_w (Ask asked) done = IsAsked r new_r asked

-- it asks no desk
abbrev pub AsksNoDesk : Program → Type 0
AsksNoDesk (Ask asked) = ⊥
AsksNoDesk _ = Unit {0}

-- the program was run so, and ended with this exit status
abbrev pub IsRunTo : Known → Known → Known → Known → Program → ℕ → Type 0
IsRunTo r new_r w new_w program status =
    (done : Result ProgramExit Fault) × (status ≡ status_of done)
    × IsRun r new_r w new_w program done

-- `pipe` in memory ended with this exit status
abbrev pub IsPipedTo : Known → Known → Known → Known → ℕ → ℕ → ℕ → Type 0
IsPipedTo r new_r w new_w at step status = (piped : Result (Unit {0}) Fault)
    × (status ≡ status_of (outcome_of piped)) × IsPiped r new_r w new_w at step piped

abbrev pub IsOneThatTells : Option Program → Type 0
IsOneThatTells None = ⊥
IsOneThatTells (Some program) = MayTell program

-- the words are those of a program that may
abbrev pub AsksForOneThatTells : List Text → Type 0
AsksForOneThatTells words = (faults_of words ≡ []) × IsOneThatTells (program_of words)

-- ---- what comes of words that have no program

-- help goes out whole, with status 0, or the output fails; why the words have no program leaves the
-- output as it was
abbrev pub IsTold : WordsFault → Known → Known → ℕ → Type 0
IsTold (Help text) w new_w status =
    ((status ≡ 0) × Appends w new_w (string_bytes text)) ⊎ (status ≡ 1)
IsTold (Usage text) w new_w status = (status ≡ 2) × (new_w ≡ w)
IsTold NoMemory w new_w status = (status ≡ 1) × (new_w ≡ w)

-- help is shown only if it is asked for, and a mistake only if the words have one
abbrev pub IsTurnedAway : Kinds → Known → Known → ℕ → Type 0
IsTurnedAway kinds w new_w status =
    (fault : WordsFault) × IsFor kinds fault × IsTold fault w new_w status

-- ---- what comes of words if no file may be opened

-- a client of a desk ends as for a file that fails, and any other program with a fault
abbrev pub unopened_status : Program → ℕ
unopened_status (Ask asked) = 5
unopened_status _ = 1

-- the program was given up, or memory ran out
abbrev pub IsGivenUp : Option Program → ℕ → Type 0
IsGivenUp None status = ⊥
IsGivenUp (Some program) status = (status ≡ unopened_status program) ⊎ (status ≡ 1)
