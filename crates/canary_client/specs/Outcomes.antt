-- How a call of the client ends.
use Rattle.std.specs.Prelude.{ℕ, ◌==◌, if◌then◌else◌}
use Rattle.canary_client.specs.declared.outcome.ClientExit.{ClientExit}
use Rattle.canary_client.specs.declared.outcome.ClientExit.TheVariants.{Done, Refused, Words, Pending, Contradiction, Local, Late, Held, RowsRefused}
use Rattle.canary_client.specs.declared.outcome.Stop.{Stop}
use Rattle.canary_client.specs.declared.outcome.Stop.TheVariants as stop

-- the exit status
abbrev pub status_of : ClientExit → ℕ
status_of Done = 0
status_of Refused = 1
status_of Words = 2
status_of Pending = 3
status_of Contradiction = 4
status_of Local = 5
status_of Late = 6
status_of Held = 7
status_of RowsRefused = 8

-- how a call of `send` ends of whose rows so many were refused, and each was answered
abbrev pub rows_outcome : ℕ → ClientExit
rows_outcome refused = if refused == 0 then Done else RowsRefused

-- how a call ends that stopped
abbrev pub outcome_of : Stop → ClientExit
-- by the words of the call, or a variable in their place: nothing was sent
outcome_of stop.Address = Words
outcome_of stop.NoCaller = Words
outcome_of stop.BadCaller = Words
outcome_of stop.NoJournal = Words
outcome_of stop.DeskNotUtf8 = Words
outcome_of stop.CallerNotUtf8 = Words
outcome_of stop.JournalNotUtf8 = Words
outcome_of stop.JournalsNotUtf8 = Words
outcome_of stop.Command = Words
outcome_of stop.NoVersion = Words
outcome_of stop.BadVersion = Words
outcome_of stop.BadMetric = Words
outcome_of stop.Result = Words
outcome_of stop.Failure = Words
outcome_of stop.Run = Words
outcome_of stop.BadService = Words
outcome_of stop.Part = Words
outcome_of stop.Status = Words
outcome_of stop.ForeverUntil = Words
outcome_of stop.Manifest = Words
outcome_of stop.Argo = Words
outcome_of stop.ArgoCommand = Words
outcome_of stop.ArgoNothing = Words
outcome_of stop.Header = Words
outcome_of stop.OtherCaller = Words
outcome_of stop.ReportInstead = Words
outcome_of stop.KeyInstead = Words
outcome_of stop.KeyEmpty = Words
-- by the desk, which has no such thing
outcome_of stop.NoService = Refused
outcome_of stop.NoRun = Refused
outcome_of stop.NoMetric = Refused
outcome_of stop.Query = Refused
-- no answer came: the same call again finds out
outcome_of stop.NotBegun = Pending
outcome_of stop.DeskName = Pending
outcome_of stop.NoDesk = Pending
outcome_of stop.Unanswered = Pending
outcome_of stop.RowUnanswered = Pending
outcome_of stop.TimeOut = Pending
-- the desk, the journal or the file contradict each other, or the journal this call; or nobody can
-- read what the desk says
outcome_of stop.ReplyUnread = Contradiction
outcome_of stop.RowReused = Contradiction
outcome_of stop.RowAhead = Contradiction
outcome_of stop.RowUnread = Contradiction
outcome_of stop.Reused = Contradiction
outcome_of stop.Ahead = Contradiction
outcome_of stop.Unread = Contradiction
outcome_of stop.KeyUsed = Contradiction
outcome_of stop.Replaced = Contradiction
outcome_of stop.Spent = Contradiction
outcome_of stop.Refused = Contradiction
-- by this machine: the journal's file, another file, the output, the clock, memory
outcome_of stop.InUse = Local
outcome_of stop.Journal = Local
outcome_of stop.JournalFull = Local
outcome_of stop.JournalBroken = Local
outcome_of stop.JournalNoFile = Local
outcome_of stop.JournalEmptied = Local
outcome_of stop.File = Local
outcome_of stop.ArgoFile = Local
outcome_of stop.RowsSpent = Local
outcome_of stop.Output = Local
outcome_of stop.Clock = Local
outcome_of stop.LateClock = Local
outcome_of stop.Memory = Local
