-- What a reply means for the row of a measurement file that it answers.
use Rattle.std.specs.Prelude.{Option, Some, None}
use Rattle.canary_client_journal.specs.declared.meaning.Meaning.{Meaning}
use Rattle.canary_client_journal.specs.declared.meaning.Meaning.TheVariants as means
use Rattle.canary_client_journal.specs.declared.network.RetryReason.{RetryReason}
use Rattle.canary_client_journal.specs.declared.network.RetryReason.TheVariants as why

-- why a row is sent again that got such a reply: the desk could not do it, or it was no desk's;
-- each other reply is the desk's answer
abbrev pub row_again : Meaning → Option RetryReason
row_again means.Unavailable = Some why.Unavailable
row_again means.Foreign = Some why.Foreign
row_again means.Settled = None
row_again means.Reused = None
row_again (means.Ahead next) = None
row_again means.Unread = None
