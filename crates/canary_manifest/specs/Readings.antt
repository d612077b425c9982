-- What a body reads as, and what a reader answers.
use Rattle.std.specs.Prelude.{◌≡◌, Bool, if◌then◌else◌, Option, Some, None, Result, Ok, Err}
use Rattle.canary_canonical.specs.declared.form.FormFault.{FormFault}
use Rattle.canary_canonical.specs.declared.form.FormFault.TheVariants as form
use Rattle.canary_manifest.specs.declared.command.WireFault.{WireFault}
use Rattle.canary_manifest.specs.declared.command.WireFault.TheVariants.{Unreadable, Unsupported, Memory}

-- it asks for what the desk does not do, or it can't be read, or it reads as this
pub data Reading (A : Type 0) : Type 0 where
  unsupported : Reading A
  unreadable : Reading A
  readable : A → Reading A

-- readable as what a form gives, if it gives anything
abbrev pub reading_of_form : {A : Type 0} → Option A → Reading A
reading_of_form None = unreadable
reading_of_form (Some a) = readable a

-- what is unsupported goes before what is unreadable
abbrev pub reading_unless : {A : Type 0} → Bool → Option A → Reading A
reading_unless is_unsupported form = if is_unsupported then unsupported else reading_of_form form

-- what a fault of a form is reported as
abbrev pub wire_fault : FormFault → WireFault
wire_fault form.Unreadable = Unreadable
wire_fault form.Memory = Memory

-- the answer gives this reading, or that memory ran out
abbrev pub IsReading : {A : Type 0} → Reading A → Result A WireFault → Type 0
IsReading reading (Ok a) = reading ≡ readable a
IsReading reading (Err Unreadable) = reading ≡ unreadable
IsReading reading (Err Unsupported) = reading ≡ unsupported
IsReading reading (Err Memory) = Unit {0}
