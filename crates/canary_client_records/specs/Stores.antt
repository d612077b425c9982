-- A store of texts over a device.
use Rattle.std.specs.Prelude.{◌≡◌, ◌⊎◌, ℕ, ◌+◌, ◌^◌, ◌<◌, ◌≤◌, List, [], ◌∷◌, ◌++◌, length, Some, unwrap_or}
use Rattle.std.specs.List.{AllByRecursion}
use Rattle.canary_client_records.specs.Devices.{Only}
use Rattle.canary_client_records.specs.Texts.{texts_of, records, IsLine}

-- the texts of a file
abbrev pub held : List ℕ → List (List ℕ)
held file = unwrap_or (texts_of file) []

-- the file is its texts, with open gates, and then a closed gate
pub record IsAtRest (file : List ℕ) : Type 0 where
  pub is : file ≡ records (held file) ++ 45 ∷ []
  pub lines : AllByRecursion IsLine (held file)

-- the file is at rest, with its closed gate at this place, and all of it is on the disk
pub record IsSettled {D : Type 0} (seen : D → List ℕ) (may_leave : D → List ℕ → Type 0)
    (device : D) (gate : ℕ) : Type 0 where
  pub rest : IsAtRest (seen device)
  pub place : gate ≡ length (records (held (seen device)))
  pub durable : Only (seen device) (may_leave device)

-- the file has these texts, with one more or without it
abbrev pub IsBeforeOrAfter : List (List ℕ) → List ℕ → List ℕ → Type 0
IsBeforeOrAfter texts text file =
    (texts_of file ≡ Some texts) ⊎ (texts_of file ≡ Some (texts ++ text ∷ []))

-- one of these contents, or what a step that a crash cuts short leaves of it
abbrev pub LeftBy : (List ℕ → List ℕ → Type 0) → (List ℕ → Type 0) → List ℕ → Type 0
LeftBy step before file = before file ⊎ ((d : List ℕ) × before d × step d file)

-- there is no room after so many bytes for a text of so many: the file would be too long, or it is
-- a first text, and longer than such a one may be
abbrev pub HasNoRoom : (gate size : ℕ) → Type 0
HasNoRoom gate size = (2 ^ 60 ≤ gate + size) ⊎ ((gate ≡ 0) × (107 < size))
