-- What it is to read a row.
use Rattle.std.specs.Prelude.{◌≡◌, ◌≢◌, ℕ, Option, Some, None, Result, Ok, Err}
use Rattle.canary_canonical.specs.declared.form.FormFault.{FormFault}
use Rattle.canary_canonical.specs.declared.form.FormFault.TheVariants as form
use Rattle.canary_plan.specs.declared.template.Template.{Template}
use Rattle.canary_plan.specs.declared.command.Command.{Command}
use Rattle.canary_plan.specs.declared.command.Command.TheVariants as command
use Rattle.canary_plan.specs.Plans.{template_of}
use Rattle.canary_plan.specs.PlanRefusals.{template_refusal}
use Rattle.canary_tables_contents.specs.declared.fault.RowFault.{RowFault}
use Rattle.canary_tables_contents.specs.declared.fault.RowFault.TheVariants.{Broken, Memory}

abbrev pub fault_of : FormFault → RowFault
fault_of form.Unreadable = Broken
fault_of form.Memory = Memory

-- the value is read that there is, or there is none; out of memory at any point
abbrev pub IsRowRead : {A : Type 0} → Option A → Result A RowFault → Type 0
IsRowRead value (Ok found) = value ≡ Some found
IsRowRead value (Err Broken) = value ≡ None
IsRowRead value (Err Memory) = Unit {0}

-- so, of what takes no memory
abbrev pub IsRowTold : {A : Type 0} → Option A → Result A RowFault → Type 0
IsRowTold value (Ok found) = value ≡ Some found
IsRowTold value (Err Broken) = value ≡ None
IsRowTold value (Err Memory) = ⊥

-- a command's template is read as that revision, if nothing refuses it
abbrev pub IsRevisionRead : ℕ → Option Command → Result Template RowFault → Type 0
IsRevisionRead revision (Some (command.Template spec)) (Ok template) =
    (template_refusal spec ≡ None) × (template ≡ template_of spec revision)
IsRevisionRead revision (Some (command.Template spec)) (Err Broken) = template_refusal spec ≢ None
IsRevisionRead revision other (Ok template) = ⊥
IsRevisionRead revision other (Err Broken) = Unit {0}
IsRevisionRead revision other (Err Memory) = Unit {0}
