-- What the reader of heads finds.
use Rattle.std.specs.Prelude.{ℕ, ◌≤◌, IsTrue, List, length, drop}
use Rattle.httparse.specs.Grammar.{ResponseHead, HasNoResponse, status_code}
use Rattle.canary_fetch.specs.declared.heads.Front.{Front}
use Rattle.canary_fetch.specs.declared.heads.Front.TheVariants.{Part, Interim, Final}
use Rattle.canary_fetch.specs.Replies.{ReadsHead, is_interim, IsFinal}

-- the first bytes are this head
pub record IsHeadAt (bytes : List ℕ) (len : ℕ) (h : ResponseHead) : Type 0 where
  pub reads : ReadsHead bytes h (drop len bytes)
  pub within : len ≤ length bytes

abbrev pub IsFront : List ℕ → Front → Type 0
IsFront bytes Part = HasNoResponse bytes
IsFront bytes (Interim len) =
    (h : ResponseHead) × IsTrue (is_interim (status_code h)) × IsHeadAt bytes len h
IsFront bytes (Final head) =
    (h : ResponseHead) × IsFinal h head.status head.framing × IsHeadAt bytes head.len h
