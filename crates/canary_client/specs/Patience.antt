-- Where a desk is, and how patiently it is asked.
use Rattle.std.specs.Prelude.{ℕ, ◌*◌, ◌-◌, ◌^◌, min, List, Option, Some, None, codes, unwrap_or}

-- if no words and no variable name one
abbrev pub address_of : Option (List ℕ) → List ℕ
address_of given = unwrap_or given (codes "127.0.0.1:8080")

-- without --tries a message is sent ten times at most
abbrev pub tries_of : Option ℕ → ℕ
tries_of asked = min 4294967295 (unwrap_or asked 10)

-- without --timeout a reply is waited for five seconds
abbrev pub reply_seconds_of : Option ℕ → ℕ
reply_seconds_of asked = unwrap_or asked 5

-- the milliseconds before a message is sent again that was sent so often, once at least: a tenth of
-- a second, then twice as long each time, five seconds at most
abbrev pub pause_after : ℕ → ℕ
pause_after tried = min 5000 (50 * 2 ^ tried)

-- what may be taken of a time in which so much has passed of the most there is, if there is a most
abbrev pub left_of : Option ℕ → ℕ → ℕ → ℕ
left_of None passed time = time
left_of (Some most) passed time = min (most - passed) time
