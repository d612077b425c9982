-- How a call of `do` ends by what settled a number.
use Rattle.std.specs.Prelude.{◌==◌, ◌||◌, Bool, true, false, if◌then◌else◌, is_none}
use Rattle.canary_client_journal.specs.declared.entry.SettledNumber.{SettledNumber}
use Rattle.canary_client_journal.specs.declared.entry.SettledReply.{SettledReply}
use Rattle.canary_client.specs.declared.outcome.ClientExit.{ClientExit}
use Rattle.canary_client.specs.declared.outcome.ClientExit.TheVariants.{Done, Refused, Late}

-- the wish acted, and not what was asked in its place: nothing was, or it came too late
abbrev pub acted : SettledNumber → Bool
acted k = is_none k.asked.instead || k.reply.is_late

-- by the reply to the command that acted
abbrev pub by_reply : SettledReply → ClientExit
by_reply reply = if reply.status == 200 then Done else Refused

-- of the wish, or of what was asked in its place: one of the two acted
abbrev pub outcome_by : Bool → SettledNumber → ClientExit
outcome_by true k = if acted k then by_reply k.reply else Late
outcome_by false k = if acted k then Late else by_reply k.reply
