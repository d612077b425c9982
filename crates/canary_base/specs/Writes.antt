-- What went out of a text that was to be written.
use Rattle.std.specs.Prelude.{◌≡◌, ℕ, ◌<◌, List, [], ◌++◌, length, Option, Result, OnOk, OnErr}
use Rattle.std.specs.Io.KnownBytes.{Appends}

-- the bytes that a reader has left or that a writer holds, if they are known
abbrev pub Known : Type 0
Known = Option (List ℕ)

-- the first bytes of the text went out: all of them, or on a fault less
pub record Writes {E : Type 0} (old new : Known) (text : List ℕ)
    (result : Result (Unit {0}) E) : Type 0 where
  pub front : List ℕ
  pub back : List ℕ
  pub parts : text ≡ front ++ back
  pub written : Appends old new front
  pub all : OnOk result (back ≡ [])
  pub short : OnErr result (0 < length back)
