-- Rows of which there is to be just one.
use Rattle.std.specs.Prelude.{◌≡◌, ℕ, List, [], ◌∷◌, Option, Some, None}

abbrev pub only : {R : Type 0} → List R → Option R
only (row ∷ []) = Some row
only rows = None

-- there is one row, of which this is so
pub record IsAlone {R : Type 0} (P : R → Type 0) (rows : List R) : Type 0 where
  pub row : R
  pub one : rows ≡ row ∷ []
  pub has : P row

-- there is a row of that name, of which this is so
pub record IsNamed {R : Type 0} (name : R → List ℕ) (P : R → Type 0) (own : List ℕ) : Type 0 where
  pub row : R
  pub named : name row ≡ own
  pub has : P row

-- something is read of a row
abbrev pub HasValue : {R A : Type 0} → (R → Option A) → R → Type 0
HasValue {R} {A} value row = (read : A) × (value row ≡ Some read)
