-- What the head of a message says of its body and of the stream (RFC 9112, sections 6 and 9.3).
use Rattle.std.specs.Prelude.{ℕ, ◌≤◌, Bool, true, false, not, ◌&&◌, ◌||◌, ◌==◌, List, [], ◌∷◌, map, length, nat_lt, if◌then◌else◌, codes, bytes_eq, flat_map}
use Rattle.std.specs.List.{list_all}
use Rattle.std.specs.Char.{is_ascii_digit, to_ascii_lowercase}
use Rattle.std.specs.Str.Parse.{digits_value}
use Rattle.httparse.specs.Grammar.{RequestHead}
use Rattle.httparse.specs.Spans.{name_and_value}
use Rattle.http1.specs.Fields.{elements_named, has_option}
use Rattle.canary_wire.specs.declared.rejection.Rejection.TheVariants.{Malformed, Length, TooLong}
use Rattle.canary_wire.specs.declared.framing.Framing.{Framing}
use Rattle.canary_wire.specs.declared.framing.Framing.TheVariants.{Body, Rejected}

-- a name and a value
abbrev pub Header : Type 0
Header = List ℕ × List ℕ

-- the name is this one, which is in lower case
abbrev pub is_named : List ℕ → Header → Bool
is_named name h = bytes_eq (map to_ascii_lowercase h.0) name

-- the value of each field with this name, in order
abbrev pub values_named : List ℕ → List Header → List (List ℕ)
values_named name headers = flat_map (λ h. if is_named name h then h.1 ∷ [] else []) headers

-- digits alone
abbrev pub is_digits : List ℕ → Bool
is_digits v = nat_lt 0 (length v) && list_all is_ascii_digit v

-- how long the body is, by one value of `Content-Length`
abbrev pub framing_one : List ℕ → Bool → Framing
framing_one v coded =
    if not (is_digits v) then Rejected Malformed
    else (if coded then Rejected Length
    else (if nat_lt 65536 (digits_value 10 v) then Rejected TooLong else Body (digits_value 10 v)))

-- how long the body is, by all of them, whether coded or not, for a method that needs a length
-- or not
abbrev pub framing : Bool → List (List ℕ) → Bool → Framing
framing needs [] coded = if coded || needs then Rejected Length else Body 0
framing needs (v ∷ []) coded = framing_one v coded
framing needs (v ∷ w ∷ vs) coded = Rejected Malformed

-- a list has an element
abbrev pub has_any : List (List ℕ) → Bool
has_any [] = false
has_any (v ∷ vs) = true

abbrev pub framing_of : List ℕ → List Header → Framing
framing_of method headers =
    framing (bytes_eq method (codes "PUT")) (values_named (codes "content-length") headers)
    (has_any (values_named (codes "transfer-encoding") headers))

-- a body within the limit
abbrev pub IsSmall : Framing → Type 0
IsSmall (Body n) = n ≤ 65536
IsSmall (Rejected r) = Unit {0}

-- a `Connection` field lists `close`
unfoldable pub asks_to_close : List Header → Bool
asks_to_close headers = has_option (codes "close") (elements_named (codes "connection") headers)

-- the names and the values of a head's fields
abbrev pub headers_of : RequestHead → List Header
headers_of h = map name_and_value h.fields

-- how long the body of this head's message is
abbrev pub head_framing : RequestHead → Framing
head_framing h = framing_of h.method (headers_of h)

-- the stream ends after the reply: the head is of HTTP/1.0, or it asks for that
abbrev pub closes : RequestHead → Bool
closes h = h.minor == 0 || asks_to_close (headers_of h)

-- the reply to this head is its own head alone
abbrev pub is_bare : RequestHead → Bool
is_bare h = bytes_eq h.method (codes "HEAD")
