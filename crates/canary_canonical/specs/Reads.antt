-- What a reader of JSON answers.
use Rattle.std.specs.Prelude.{◌≡◌, Option, Some, None, Result, Ok, Err}
use Rattle.canary_canonical.specs.declared.form.FormFault.{FormFault}
use Rattle.canary_canonical.specs.declared.form.FormFault.TheVariants.{Unreadable, Memory}

-- the answer is what a form gives, or Unreadable if it gives nothing, or that memory ran out
abbrev pub IsRead : {A : Type 0} → Option A → Result A FormFault → Type 0
IsRead form (Ok a) = form ≡ Some a
IsRead form (Err Unreadable) = form ≡ None
IsRead form (Err Memory) = Unit {0}
