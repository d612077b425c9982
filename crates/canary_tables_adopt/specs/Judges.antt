-- What judging tables reports: that what is judged is so, or that it is not.
use Rattle.std.specs.Prelude.{Result, OnOk}
use Rattle.sqlite.specs.State.{State}
use Rattle.canary_tables_rows.specs.Limits.{AreWithin}
use Rattle.canary_tables_rows.specs.Tables.{Tables}
use Rattle.canary_tables_schema.specs.Stores.{IsUsable, Stores}
use Rattle.canary_tables_read.specs.declared.fault.ReadFault.{ReadFault}
use Rattle.canary_tables_read.specs.Breaks.{BreaksUnless}

-- if it succeeds, this is so of the tables
abbrev pub FindsThat : {Q A F : Type 0} → (Tables → Type 0) → (Q → State) → Q → Q → Result A F
    → Type 0
FindsThat P shows old new result =
    IsUsable (shows new) → (t : Tables) → Stores (shows old) t → OnOk result (P t)

-- it reports that the tables are broken only if a program cannot hold a row of theirs, or this is
-- not so of them
abbrev pub RefusesUnless : {Q A : Type 0} → (Tables → Type 0) → (Q → State) → Q → Q
    → Result A ReadFault → Type 0
RefusesUnless P shows old new result = BreaksUnless (λ t. AreWithin t × P t) shows old new result
