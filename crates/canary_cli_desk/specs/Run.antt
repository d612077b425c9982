-- What the desk's programs read and write.
use Rattle.std.specs.Prelude.{◌≡◌, ℕ, Bool, true, Option, Some, None, Result, Ok, Err, unwrap_or}
use Rattle.canary_once.specs.Contents.{Contents, no_contents}
use Rattle.canary_once.specs.Ticks.{TellsSteps}
use Rattle.canary_once.specs.Messages.{DeskState, desk_state}
use Rattle.canary_wire.specs.Serving.{ServesTo, ServesSome, ServesUntil}
use Rattle.canary_base.specs.Writes.{Known}
use Rattle.canary_wire.specs.declared.serve.Ended.{Ended}
use Rattle.canary_wire.specs.declared.serve.ServeFault.{ServeFault}
use Rattle.canary_wire.specs.declared.serve.ServeFault.TheVariants.{Read, Write, Memory}
use Rattle.canary_programs.specs.declared.fault.Fault.{Fault}
use Rattle.canary_programs.specs.Faults.{done_of}
use Rattle.canary_listen.specs.declared.limits.Limits.{Limits}
use Rattle.canary_cli_words.specs.declared.words.AskedLimits.{AskedLimits}
use Rattle.canary_cli_words.specs.declared.words.Program.{Program}
use Rattle.canary_cli_words.specs.declared.words.Program.TheVariants.{Pipe, Serve, Import, History, Export, Status, Page, Backup, Migrate, Succeed, Check, Argo, Ask}

-- ---- which programs are the desk's

-- it serves a desk, or works on a desk's file
abbrev pub IsOfDesk : Program → Type 0
IsOfDesk (Check file request strict) = ⊥
IsOfDesk (Argo files out json) = ⊥
IsOfDesk (Ask asked) = ⊥
IsOfDesk _ = Unit {0}

-- it shows what is in the file of a desk's records, or makes that one of this version, or a new one
-- of it
abbrev pub IsOfRecords : Program → Type 0
IsOfRecords (History db service) = Unit {0}
IsOfRecords (Export db caller service) = Unit {0}
IsOfRecords (Status db watch json prometheus) = Unit {0}
IsOfRecords (Page db out watch json) = Unit {0}
IsOfRecords (Migrate db dry_run) = Unit {0}
IsOfRecords (Succeed db new) = Unit {0}
IsOfRecords _ = ⊥

-- ---- what `serve` is given

-- the limits of a listener: those that were asked for, and the others as by default
abbrev pub limits_of : AskedLimits → Limits
limits_of asked = record {
  message_seconds = unwrap_or asked.read_timeout 10;
  idle_seconds = unwrap_or asked.idle_timeout 60;
  clients = unwrap_or asked.max_clients 1000;
  owed_bytes = unwrap_or asked.max_unsent 65536;
  unsent_total_bytes = unwrap_or asked.max_unsent_total 67108864;
}

-- ---- what `pipe` does

-- a desk in memory whose clock ticks from `at` by `step`, and which contains this
pub record Standing : Type 0 where
  pub at : ℕ
  pub step : ℕ
  pub contents : Contents

-- nothing else writes its book, whose store is in memory and can't fail
abbrev pub point_of : Standing → DeskState
point_of s =
    desk_state (TellsSteps s.at s.step)
    (record
    { contents = s.contents; is_honest = Unit {0}; is_in_memory = Unit {0}; is_sure = true })

abbrev pub fresh : ℕ → ℕ → Standing
fresh at step = record { at = at; step = step; contents = no_contents }

-- (here `r` is what the input has left, `w` what the output holds)
-- the input was served on the output by such a desk, and this is how it ended
abbrev pub IsServed : Known → Known → Known → Known → Standing → Result Ended ServeFault → Type 0
IsServed r new_r w new_w start (Ok ended) =
    (end : Standing) × ServesTo r new_r w new_w (point_of start) (point_of end) ended
IsServed r new_r w new_w start (Err Read) =
    (end : Standing) × ServesSome r new_r w new_w (point_of start) (point_of end)
IsServed r new_r w new_w start (Err Write) =
    (end : Standing) × ServesUntil r new_r w new_w (point_of start) (point_of end)
IsServed r new_r w new_w start (Err Memory) = (new_r ≡ r) × (new_w ≡ w)

-- `pipe` served its input on its output from a fresh desk in memory, and this says whether to its
-- end
abbrev pub IsPiped : Known → Known → Known → Known → ℕ → ℕ → Result (Unit {0}) Fault → Type 0
IsPiped r new_r w new_w at step done = (served : Result Ended ServeFault)
    × (done ≡ done_of served) × IsServed r new_r w new_w (fresh at step) served

-- the program was run so; `pipe` and `import` alone may read the input
abbrev pub IsDeskRun : Known → Known → Known → Known → Program → Result (Unit {0}) Fault → Type 0
IsDeskRun r new_r w new_w (Pipe at step None cache) done = IsPiped r new_r w new_w at step done
IsDeskRun r new_r w new_w (Pipe at step (Some db) cache) done = Unit {0}
IsDeskRun r new_r w new_w (Import db cache csv) done = Unit {0}
IsDeskRun r new_r w new_w (Serve listen db cache connections limits) done = new_r ≡ r
IsDeskRun r new_r w new_w (History db service) done = new_r ≡ r
IsDeskRun r new_r w new_w (Export db caller service) done = new_r ≡ r
IsDeskRun r new_r w new_w (Status db watch json prometheus) done = new_r ≡ r
IsDeskRun r new_r w new_w (Page db out watch json) done = new_r ≡ r
IsDeskRun r new_r w new_w (Backup db copy every keep) done = new_r ≡ r
IsDeskRun r new_r w new_w (Migrate db dry_run) done = new_r ≡ r
IsDeskRun r new_r w new_w (Succeed db new) done = new_r ≡ r
IsDeskRun r new_r w new_w (Check file request strict) done = ⊥
IsDeskRun r new_r w new_w (Argo files out json) done = ⊥
IsDeskRun r new_r w new_w (Ask asked) done = ⊥

-- it may write on the error stream though it is done: what a desk in memory says of itself, how
-- connections ended, how far it has come, that it made a file, or what a check warns of
abbrev pub MayTell : Program → Type 0
MayTell (Pipe at step None cache) = ⊥
MayTell (Backup db copy every keep) = ⊥
MayTell _ = Unit {0}
