-- When a read reports that a row is not one that a program can hold.
use Rattle.std.specs.Prelude.{◌≡◌, ℕ, Result, Err}
use Rattle.std.specs.List.{AllByRecursion}
use Rattle.sqlite.specs.State.{State}
use Rattle.sqlite_value.specs.declared.value.Value.{Value}
use Rattle.sqlite_value.specs.Order.{Row, column}
use Rattle.canary_tables_rows.specs.Limits.{IsCallerWithin, IsKeptWithin, IsRevisionWithin, IsServiceWithin, IsBindingWithin, IsRunWithin, IsTallyWithin, IsMeasurementWithin, IsLineWithin}
use Rattle.canary_tables_rows.specs.Tables.{Tables}
use Rattle.canary_tables_schema.specs.Stores.{IsUsable, Stores}
use Rattle.canary_tables_read.specs.declared.fault.ReadFault.{ReadFault}
use Rattle.canary_tables_read.specs.declared.fault.ReadFault.TheVariants.{Broken}

-- only if the tables are not within these limits
abbrev pub BreaksUnless : {Q A : Type 0} → (Tables → Type 0) → (Q → State) → Q → Q
    → Result A ReadFault → Type 0
BreaksUnless Within shows old new result =
    IsUsable (shows new) → (t : Tables) → Stores (shows old) t → result ≡ Err Broken → ¬ Within t

-- only if none that is so fits
abbrev pub BreaksIfNone : {A X : Type 0} → Result A ReadFault → (X → Type 0) → (X → Type 0) → Type 0
BreaksIfNone {X = X} result Is Fits = result ≡ Err Broken → (x : X) → Is x → ¬ Fits x

-- only if none that the column is fits
abbrev pub BreaksAt : {A X : Type 0} → Result A ReadFault → Row → ℕ → (X → Value) → (X → Type 0)
    → Type 0
BreaksAt result row at cell Fits = BreaksIfNone result (λ x. column row at ≡ cell x) Fits

-- each row of a table is within its limits
abbrev pub CallersWithin : Tables → Type 0
CallersWithin t = AllByRecursion IsCallerWithin t.callers

abbrev pub KeptWithin : Tables → Type 0
KeptWithin t = AllByRecursion IsKeptWithin t.kept

abbrev pub RevisionsWithin : Tables → Type 0
RevisionsWithin t = AllByRecursion IsRevisionWithin t.revisions

abbrev pub ServicesWithin : Tables → Type 0
ServicesWithin t = AllByRecursion IsServiceWithin t.services

abbrev pub BindingsWithin : Tables → Type 0
BindingsWithin t = AllByRecursion IsBindingWithin t.bindings

abbrev pub RunsWithin : Tables → Type 0
RunsWithin t = AllByRecursion IsRunWithin t.runs

abbrev pub TalliesWithin : Tables → Type 0
TalliesWithin t = AllByRecursion IsTallyWithin t.tallies

abbrev pub MeasurementsWithin : Tables → Type 0
MeasurementsWithin t = AllByRecursion IsMeasurementWithin t.measurements

abbrev pub LinesWithin : Tables → Type 0
LinesWithin t = AllByRecursion IsLineWithin t.history
