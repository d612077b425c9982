-- What a book in a file is to the book that it watches.
use Rattle.std.specs.Prelude.{◌≡◌, false}
use Rattle.canary_once.specs.BookCalls.{BookState}

-- it contains what the other contains, and is honest, and in memory, exactly if that is; it is
-- never sure
pub record IsOver (inner outer : BookState) : Type 0 where
  pub contents : outer.contents ≡ inner.contents
  pub honest : outer.is_honest → inner.is_honest
  pub kept_honest : inner.is_honest → outer.is_honest
  pub in_memory : outer.is_in_memory → inner.is_in_memory
  pub kept_in_memory : inner.is_in_memory → outer.is_in_memory
  pub unsure : outer.is_sure ≡ false
