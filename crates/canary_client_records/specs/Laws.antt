-- What holds of every file of texts.
use Rattle.std.specs.Prelude.{◌≡◌, ◌≢◌, ◌⊎◌, ◌<◌, ◌≤◌, ℕ, List, [], ◌∷◌, ◌++◌, length, take, Some, None}
use Rattle.std.specs.List.{AllByRecursion}
use Rattle.canary_client_records.specs.Devices.{Torn}
use Rattle.canary_client_records.specs.Texts.{texts_of, records, IsLine}

-- texts with open gates are read back, whatever stands after the closed gate; if that is the
-- first gate, at most as much as adding a first text may leave
abbrev pub ReadsBack : Type 0
ReadsBack =
    (texts : List (List ℕ)) (after : List ℕ) → AllByRecursion IsLine texts
    → (texts ≡ [] → length after ≤ 109)
    → texts_of (records texts ++ 45 ∷ after) ≡ Some texts

-- a file that is cut short before its closed gate is refused, unless one byte is left at most
abbrev pub RefusesCut : Type 0
RefusesCut =
    (texts : List (List ℕ)) (kept : ℕ) → AllByRecursion IsLine texts
    → 1 < kept → kept ≤ length (records texts) → texts_of (take kept (records texts)) ≡ None

-- a file of more than one byte that has another byte in the place of a gate is refused
abbrev pub RefusesGate : Type 0
RefusesGate =
    (texts : List (List ℕ)) (gate : ℕ) (after : List ℕ) → AllByRecursion IsLine texts
    → gate ≢ 43 → gate ≢ 45 → 1 < length (records texts ++ gate ∷ after)
    → texts_of (records texts ++ gate ∷ after) ≡ None

-- what a crash may leave of a new file until its first text counts: nothing, or what it leaves of
-- the write of the closed gate, or of that of a text of 107 bytes at most after the gate
abbrev pub IsLeftOfNew : List ℕ → Type 0
IsLeftOfNew file =
    (file ≡ []) ⊎ (Torn 0 (45 ∷ []) [] file
    ⊎ ((text : List ℕ) × (length text ≤ 107) × Torn 1 (text ++ 10 ∷ 45 ∷ []) (45 ∷ []) file))

-- these are the files without a text, and no other file is taken for one
abbrev pub OnlyNew : Type 0
OnlyNew = (file : List ℕ) → texts_of file ≡ Some [] → IsLeftOfNew file

abbrev pub TakesNew : Type 0
TakesNew = (file : List ℕ) → IsLeftOfNew file → texts_of file ≡ Some []
