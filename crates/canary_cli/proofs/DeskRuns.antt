-- What comes of a program of the desk.
use Rattle.std.proofs.Common.{◌≡◌, Result, Some, None, refl}
use Rattle.canary_base.specs.Writes.{Known}
use Rattle.canary_programs.specs.declared.fault.Fault.{Fault}
use Rattle.canary_cli_words.specs.declared.words.Program.{Program}
use Rattle.canary_cli_words.specs.declared.words.Program.TheVariants.{Pipe, Serve, Import, History, Export, Status, Page, Backup, Migrate, Succeed, Check, Argo, Ask}
use Rattle.canary_cli_desk.specs.Run.{IsDeskRun}
use Rattle.canary_cli.specs.Performed.{outcome_of, IsRun}

pub desk_run : (program : Program) (r new_r w new_w : Known) (ended : Result (Unit {0}) Fault) → IsDeskRun r new_r w new_w program ended → IsRun r new_r w new_w program (outcome_of ended)
desk_run (Pipe at step None cache) r new_r w new_w ended run = (ended, refl, run)
desk_run (Pipe at step (Some db) cache) r new_r w new_w ended run = run
desk_run (Serve listen db cache connections limits) r new_r w new_w ended run = run
desk_run (Import db cache csv) r new_r w new_w ended run = run
desk_run (History db service) r new_r w new_w ended run = run
desk_run (Export db caller service) r new_r w new_w ended run = run
desk_run (Status db watch json prometheus) r new_r w new_w ended run = run
desk_run (Page db out watch json) r new_r w new_w ended run = run
desk_run (Backup db copy every keep) r new_r w new_w ended run = run
desk_run (Migrate db dry_run) r new_r w new_w ended run = run
desk_run (Succeed db new) r new_r w new_w ended run = run
desk_run (Check file request strict) r new_r w new_w ended run = absurd run
desk_run (Argo files out json) r new_r w new_w ended run = absurd run
desk_run (Ask asked) r new_r w new_w ended run = absurd run
