-- The numbers of states, holds, phases and truth values in rows, and what has this number.
use Rattle.std.specs.Prelude.{ℕ, ◌==◌, if◌then◌else◌, Bool, true, false, Option, Some, None, unwrap_or}
use Rattle.canary_condition.specs.declared.outcome.Phase.{Phase}
use Rattle.canary_condition.specs.PhaseTexts.{phase_number}
use Rattle.canary_release.specs.declared.state.ReleaseState.{ReleaseState}
use Rattle.canary_release.specs.declared.state.ReleaseState.TheVariants.{InProgress, Aborted, Done}
use Rattle.canary_release.specs.declared.reply.ReplyStatus.{ReplyStatus}
use Rattle.canary_release.specs.declared.reply.ReplyStatus.TheVariants.{Accepted, Refused}

abbrev pub state_number : ReleaseState → ℕ
state_number InProgress = 0
state_number Aborted = 1
state_number Done = 2

abbrev pub state_of : ℕ → Option ReleaseState
state_of n =
    if n == 0 then Some InProgress
    else (if n == 1 then Some Aborted else (if n == 2 then Some Done else None))

abbrev pub bit : Bool → ℕ
bit false = 0
bit true = 1

abbrev pub truth_of : ℕ → Option Bool
truth_of n = if n == 0 then Some false else (if n == 1 then Some true else None)

-- the hold of the step, and that of the background
abbrev pub hold_number : Bool → Bool → ℕ
hold_number false false = 0
hold_number true false = 1
hold_number false true = 2
hold_number true true = 3

abbrev pub hold_of : ℕ → Option (Bool × Bool)
hold_of n =
    if n == 0 then Some (false, false)
    else (if n == 1 then Some (true, false)
    else (if n == 2 then Some (false, true)
    else (if n == 3 then Some (true, true)
    else None)))

-- 5, which is no phase's number, stands for Pending, which is never kept
abbrev pub phase_column : Phase → ℕ
phase_column phase = unwrap_or (phase_number phase) 5

-- the status of a reply that is kept
abbrev pub status_of : ℕ → Option ReplyStatus
status_of n = if n == 200 then Some Accepted else (if n == 422 then Some Refused else None)
