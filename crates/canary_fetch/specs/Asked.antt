-- The messages of the code, by their tokens.
use Rattle.std.specs.Prelude.{ℕ, List, Bool, is_some, Option, option_map, unwrap_or, Result, Err}
use Rattle.std.specs.Ordering.{nat_cmp}
use Rattle.std.specs.BTreeMap.{get}
use Rattle.std.specs.declared.net.socket_addr.SocketAddr.{SocketAddr}
use Rattle.canary_fetch.specs.declared.fault.ExchangeFault.{ExchangeFault}
use Rattle.canary_fetch.specs.declared.fault.ExchangeFault.TheVariants.{Timeout}
use Rattle.canary_fetch.specs.declared.fetcher.Fetcher.{Fetcher}
use Rattle.canary_fetch.specs.declared.local.LocalFault.{LocalFault}
use Rattle.canary_fetch.specs.declared.query.PendingMessage.{PendingMessage}
use Rattle.canary_fetch.specs.declared.reply.HttpReply.{HttpReply}
use Rattle.canary_fetch.specs.declared.underway.Underway.{Underway}

-- a message has this token, and was not answered yet
abbrev pub is_there : Underway → ℕ → Bool
is_there u token = is_some (get nat_cmp u.queries token)

-- a connection was begun for it
abbrev pub is_begun : Underway → ℕ → Bool
is_begun u token = is_some (get nat_cmp u.flights token)

-- where a message goes, and its bytes
abbrev pub message_of : PendingMessage → SocketAddr × List ℕ
message_of q = (q.address, q.message.items)

-- the message with this token
abbrev pub message_at : Underway → ℕ → Option (SocketAddr × List ℕ)
message_at u token = option_map message_of (get nat_cmp u.queries token)

-- what a message came to
abbrev pub outcome_of : PendingMessage → Result HttpReply ExchangeFault
outcome_of q = unwrap_or q.outcome (Err Timeout)

-- what the message with this token came to
abbrev pub outcome_at : Underway → ℕ → Option (Result HttpReply ExchangeFault)
outcome_at u token = option_map outcome_of (get nat_cmp u.queries token)

abbrev pub is_asked : Fetcher → ℕ → Bool
is_asked f token = is_there f.underway token

abbrev pub asked_outcome : Fetcher → ℕ → Option (Result HttpReply ExchangeFault)
asked_outcome f token = outcome_at f.underway token

abbrev pub asked_message : Fetcher → ℕ → Option (SocketAddr × List ℕ)
asked_message f token = message_at f.underway token

-- the most connections at a time
abbrev pub most_connections : Fetcher → ℕ
most_connections f = f.underway.most

-- the last fault of this machine
abbrev pub hindrance_of : Fetcher → Option LocalFault
hindrance_of f = f.underway.hindrance
