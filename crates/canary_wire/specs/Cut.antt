-- How a stream is cut into messages, over the grammar of a request's head that `httparse` reads
-- (RFC 9112).
use Rattle.std.specs.Prelude.{◌≡◌, ℕ, ◌<◌, ◌≤◌, ◌⊎◌, Bool, true, false, ◌||◌, ◌==◌, List, [], ◌∷◌, ◌++◌, length, drop, if◌then◌else◌, flat_map, slice_range}
use Rattle.std.specs.List.{list_all, AllByRecursion}
use Rattle.httparse.specs.Grammar.{RequestHead, print_request, IsRequestHead, ReadsRequest, HasNoRequest, NeverHasRequest, EndsInTarget, MayBecomeRequest}
use Rattle.httparse.specs.Spans.{span_bytes, RequestExceeds}
use Rattle.canary_wire.specs.declared.rejection.Rejection.{Rejection}
use Rattle.canary_wire.specs.declared.rejection.Rejection.TheVariants.{Malformed}
use Rattle.canary_wire.specs.declared.framing.Framing.TheVariants.{Body, Rejected}
use Rattle.canary_wire.specs.declared.cut.FirstMessage.{FirstMessage}
use Rattle.canary_wire.specs.declared.cut.FirstMessage.TheVariants as next
use Rattle.canary_wire.specs.declared.cut.MessageSpans.{MessageSpans}
use Rattle.canary_wire.specs.Heads.{head_framing, closes, is_bare}

-- ---- messages

pub record Message : Type 0 where
  pub head : RequestHead
  pub body : List ℕ

abbrev pub message_bytes : Message → List ℕ
message_bytes m = print_request m.head ++ m.body

-- a head of the grammar, within the limits
pub record IsHead (h : RequestHead) : Type 0 where
  pub valid : IsRequestHead h
  pub lines : length h.fields ≤ 64
  pub short : length (print_request h) ≤ 16384

-- a head, and a body as long as the head says
pub record IsMessage (m : Message) : Type 0 where
  pub head : IsHead m.head
  pub framed : head_framing m.head ≡ Body (length m.body)

-- a message, after whose reply the stream goes on
pub record KeepsOpen (m : Message) : Type 0 where
  pub is : IsMessage m
  pub stays : closes m.head ≡ false

-- ---- what stands first if no message does

-- the bytes begin with this head, within the limits
abbrev pub HasHead : List ℕ → RequestHead → List ℕ → Type 0
HasHead bytes h after = IsHead h × (bytes ≡ print_request h ++ after)

abbrev pub HasNoHead : List ℕ → Type 0
HasNoHead bytes = (h : RequestHead) (after : List ℕ) → HasHead bytes h after → ⊥

-- whatever follows
abbrev pub NeverHasHead : List ℕ → Type 0
NeverHasHead bytes = (more : List ℕ) → HasNoHead (bytes ++ more)

-- a head of the grammar that is too long, or has too many lines
abbrev pub HasHeadBeyond : List ℕ → Type 0
HasHeadBeyond bytes =
    (h : RequestHead) × (after : List ℕ) × ReadsRequest bytes h after
    × ((64 < length h.fields) ⊎ (16384 < length (print_request h)))

-- why bytes without a head never begin with one
pub data Hopeless (bytes : List ℕ) : Type 0 where
  long : 16384 ≤ length bytes → Hopeless bytes
  beyond : HasHeadBeyond bytes → Hopeless bytes
  never : NeverHasRequest bytes → Hopeless bytes
  -- they end past the 64th header line
  lines : RequestExceeds 64 bytes → Hopeless bytes

-- the bytes begin with what is rejected so; the reply is its head alone, or not
pub data IsRejected (bytes : List ℕ) : Rejection → Bool → Type 0 where
  malformed : NeverHasHead bytes → Hopeless bytes → IsRejected bytes Malformed false
  framed : (h : RequestHead) (after : List ℕ) (r : Rejection) → HasHead bytes h after
      → head_framing h ≡ Rejected r → IsRejected bytes r (is_bare h)

-- no whole message, and more bytes may make one
pub data IsUnfinished (bytes : List ℕ) : Type 0 where
  head : HasNoRequest bytes → length bytes < 16384 → MayBecomeRequest bytes → IsUnfinished bytes
  body : (h : RequestHead) (after : List ℕ) (n : ℕ) → HasHead bytes h after
      → head_framing h ≡ Body n → n ≤ 65536 → length after < n → IsUnfinished bytes

-- ---- a whole stream

-- CR or LF
abbrev pub is_newline : ℕ → Bool
is_newline b = b == 13 || b == 10

-- how the cutting ends: with nothing left but line ends, in the midst of a message, after a message
-- that closes the stream, or at a rejection
pub data Ending : Type 0 where
  idle cut_off closing : Ending
  rejecting : Rejection → Bool → Ending

-- the bytes begin with these messages, after each of which the stream goes on
pub record Begins (bytes : List ℕ) (ms : List Message) (rest : List ℕ) : Type 0 where
  pub whole : bytes ≡ flat_map message_bytes ms ++ rest
  pub each : AllByRecursion KeepsOpen ms

-- the messages of a stream up to its end, the first message that closes it or the first rejection
pub data IsCut (bytes : List ℕ) : List Message → Ending → Type 0 where
  unfinished : (ms : List Message) (rest : List ℕ) → Begins bytes ms rest → IsUnfinished rest
      → IsCut bytes ms (if list_all is_newline rest then idle else cut_off)
  closed : (ms : List Message) (last : Message) (rest : List ℕ)
      → Begins bytes ms (message_bytes last ++ rest) → IsMessage last → closes last.head ≡ true
      → IsCut bytes (ms ++ last ∷ []) closing
  rejected : (ms : List Message) (rest : List ℕ) (r : Rejection) (bare : Bool)
      → Begins bytes ms rest → IsRejected rest r bare
      → IsCut bytes ms (rejecting r bare)

-- bytes that end inside the target of a request or after the 64th header line
abbrev pub IsInDoubt : List ℕ → Type 0
IsInDoubt rest = EndsInTarget rest ⊎ RequestExceeds 64 rest

-- two ends of one stream after these messages are the same, but if what is left is in doubt, it
-- may be cut off or rejected
abbrev pub SameEnding : List ℕ → List Message → Ending → Ending → Type 0
SameEnding bytes ms e f =
    (e ≡ f)
    ⊎ (((rest : List ℕ) × Begins bytes ms rest × IsInDoubt rest)
    × (((e ≡ cut_off) × (f ≡ rejecting Malformed false))
    ⊎ ((f ≡ cut_off) × (e ≡ rejecting Malformed false))))

-- ---- what the code finds first

-- a message with its parts at these places
pub record IsFirst (bytes : List ℕ) (p : MessageSpans) (m : Message) : Type 0 where
  pub is : IsMessage m
  pub whole : bytes ≡ message_bytes m ++ drop p.end bytes
  pub fits : p.end ≤ length bytes
  pub end : p.end ≡ length (message_bytes m)
  pub ordered : p.len ≤ p.end
  pub method_within : (p.method.start ≤ p.method.end) × (p.method.end ≤ p.len)
  pub target_within : (p.target.start ≤ p.target.end) × (p.target.end ≤ p.len)
  pub method : span_bytes bytes p.method ≡ m.head.method
  pub target : span_bytes bytes p.target ≡ m.head.target
  pub body : slice_range bytes p.len p.end ≡ m.body
  pub is_last : p.is_last ≡ closes m.head
  pub head_alone : p.head_alone ≡ is_bare m.head

abbrev pub Cuts : List ℕ → FirstMessage → Type 0
Cuts bytes (next.Message p) = (m : Message) × IsFirst bytes p m
Cuts bytes (next.Rejected r bare) = IsRejected bytes r bare
Cuts bytes next.Unfinished = IsUnfinished bytes
