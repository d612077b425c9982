-- Which reply the bytes of a connection begin with (RFC 9112), within the limits that are read.
use Rattle.std.specs.Prelude.{◌≡◌, ℕ, ◌≤◌, Bool, ◌&&◌, not, false, IsTrue, List, [], ◌∷◌, ◌++◌, length, Ok, nat_lt, nat_le, ◌==◌}
use Rattle.httparse.specs.Grammar.{ResponseHead, print_response, ReadsResponse, status_code}
use Rattle.http1.specs.declared.conn.Limits.{Limits}
use Rattle.http1.specs.declared.framing.Framing.{Framing}
use Rattle.http1.specs.declared.framing.MethodKind.TheVariants.{Other}
use Rattle.http1.specs.Framing.{response_framing}
use Rattle.http1.specs.Message.{known_of}
use Rattle.http1.specs.Body.{Body, ReadsBody}

-- ---- a reply

pub record Heard : Type 0 where
  pub status : ℕ
  pub body : List ℕ

abbrev pub response : ℕ → List ℕ → Heard
response status body = record { status = status; body = body }

-- ---- its head

-- the stream begins with this head, of 16,384 bytes and 64 fields at most
pub record ReadsHead (stream : List ℕ) (h : ResponseHead) (rest : List ℕ) : Type 0 where
  pub reads : ReadsResponse stream h rest
  pub short : length (print_response h) ≤ 16384
  pub few : length h.fields ≤ 64

-- another head follows one with this status; 101 would answer an upgrade, which nobody asks for
abbrev pub is_interim : ℕ → Bool
is_interim status = nat_le 100 status && (nat_lt status 200 && not (status == 101))

-- the stream begins with these heads, which others follow
abbrev pub ReadsInterim : List ResponseHead → List ℕ → List ℕ → Type 0
ReadsInterim [] stream rest = stream ≡ rest
ReadsInterim (h ∷ hs) stream rest =
    IsTrue (is_interim (status_code h)) × (after : List ℕ) × ReadsHead stream h after
    × ReadsInterim hs after rest

-- the head of a reply with this status, whose fields say that the body ends so: after a length,
-- with the last chunk, or with the connection; and that it is coded no further
pub record IsFinal (h : ResponseHead) (status : ℕ) (framing : Framing) : Type 0 where
  pub told : status ≡ status_code h
  pub final : 200 ≤ status
  pub plain : (known_of h.fields).other_coding ≡ false
  pub framed : response_framing Other status h.minor (known_of h.fields) ≡ Ok framing

-- ---- the whole

-- the most bytes of the extensions of all chunks, and of the fields after them
abbrev pub limits : Limits
limits = record { max_head_len = 16384; max_extensions_len = 16384; max_trailers_len = 16384 }

-- a body of 1,048,576 bytes at most, with 16 fields after the chunks at most
pub record IsSmall (bytes : List ℕ) (b : Body) : Type 0 where
  pub within : length bytes ≤ 1048576
  pub fields : length b.trailers ≤ 16

-- the stream begins with a head that no other follows, and with the body that it says: so many
-- bytes, what the chunks have in order, or all that comes until the connection ends
pub record ReadsFinal (stream : List ℕ) (reply : Heard) (rest : List ℕ) : Type 0 where
  pub head : ResponseHead
  pub framing : Framing
  pub body : Body
  pub after : List ℕ
  pub reads : ReadsHead stream head after
  pub final : IsFinal head reply.status framing
  pub has : ReadsBody limits framing after body rest
  pub is : reply.body ≡ body.bytes
  pub small : IsSmall reply.body body

-- the stream begins with this reply, and the rest follows it
pub record ReadsReply (stream : List ℕ) (reply : Heard) (rest : List ℕ) : Type 0 where
  pub interim : List ResponseHead
  pub after : List ℕ
  pub skips : ReadsInterim interim stream after
  pub reads : ReadsFinal after reply rest

-- no reply is whole
abbrev pub HasNoReply : List ℕ → Type 0
HasNoReply stream = (reply : Heard) (rest : List ℕ) → ¬ (ReadsReply stream reply rest)

-- whatever follows, there is no reply
abbrev pub NeverReplies : List ℕ → Type 0
NeverReplies stream = (more : List ℕ) (reply : Heard) (rest : List ℕ)
    → ¬ (ReadsReply (stream ++ more) reply rest)
