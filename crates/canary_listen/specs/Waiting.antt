-- How long a client is waited for.
use Rattle.std.specs.Prelude.{ℕ, nat_lt, Option, Some, None, if◌then◌else◌}
use Rattle.canary_wire.specs.declared.conversation.Cause.{Cause}
use Rattle.canary_wire.specs.declared.conversation.Cause.TheVariants as cause
use Rattle.canary_listen.specs.declared.limits.Limits.{Limits}
use Rattle.canary_listen.specs.declared.wait.Awaited.{Awaited}
use Rattle.canary_listen.specs.declared.wait.Awaited.TheVariants as awaited

-- the cause, if so many seconds are more than the most
abbrev pub cause_beyond : ℕ → ℕ → Cause → Option Cause
cause_beyond seconds most cause = if nat_lt most seconds then Some cause else None

-- why a client is let go that was waited for so many seconds; one that waits for others is not
abbrev pub cause_after : ℕ → Limits → Awaited → Option Cause
cause_after seconds l awaited.Message = cause_beyond seconds l.idle_seconds cause.EndOfInput
cause_after seconds l awaited.Rest = cause_beyond seconds l.message_seconds cause.Truncated
cause_after seconds l awaited.Reading = cause_beyond seconds l.idle_seconds cause.Write
cause_after seconds l awaited.Leaving = cause_beyond seconds l.message_seconds cause.EndOfInput
cause_after seconds l awaited.Room = None
cause_after seconds l awaited.Queue = None
