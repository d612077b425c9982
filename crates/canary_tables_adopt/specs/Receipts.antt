-- Receipts of a caller, one after another.
use Rattle.std.specs.Prelude.{◌≡◌, ◌<◌, ◌≤◌, ℕ, suc, List, [], ◌∷◌}
use Rattle.canary_tables_rows.specs.declared.rows.KeptRow.{KeptRow}
use Rattle.canary_tables_rows.specs.Tables.{Tables, is_kept}
use Rattle.canary_tables_contents.specs.Values.{receipt_of_row}
use Rattle.canary_tables_contents.specs.Judged.{IsOneRead}
use Rattle.canary_tables_adopt.specs.Alone.{HasValue}

-- each has the number after that of the one before it, the first of them the one after `before`,
-- the last has the number `last`, and this is so of each
abbrev pub AreFrom : {X : Type 0} → (X → ℕ) → (X → Type 0) → ℕ → ℕ → List X → Type 0
AreFrom key P before last [] = before ≡ last
AreFrom key P before last (x ∷ xs) =
    (key x ≡ suc before) × P x × AreFrom key P (suc before) last xs

-- rows of receipts, whose numbers follow one another
abbrev pub AreReceipts : ℕ → ℕ → List KeptRow → Type 0
AreReceipts = AreFrom (λ (row : KeptRow). row.number) (HasValue receipt_of_row)

-- each of the caller's numbers above `before`, up to `last`, has one row, which is read
abbrev pub AreReceived : List ℕ → ℕ → ℕ → Tables → Type 0
AreReceived caller before last t =
    (number : ℕ) → before < number → number ≤ last
    → IsOneRead (is_kept caller number) receipt_of_row t.kept
