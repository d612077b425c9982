-- Which messages were taken in and not answered yet, by their tokens.
use Rattle.std.specs.Prelude.{◌≡◌, ◌≢◌, ℕ, Bool, true, false}

-- the same messages
abbrev pub AreSame : (ℕ → Bool) → (ℕ → Bool) → Type 0
AreSame old new = (token : ℕ) → new token ≡ old token

-- one message more
pub record Comes (old new : ℕ → Bool) (token : ℕ) : Type 0 where
  pub fresh : old token ≡ false
  pub there : new token ≡ true
  pub others : (other : ℕ) → other ≢ token → new other ≡ old other

-- one message less
pub record Goes (old new : ℕ → Bool) (token : ℕ) : Type 0 where
  pub was : old token ≡ true
  pub gone : new token ≡ false
  pub others : (other : ℕ) → other ≢ token → new other ≡ old other
