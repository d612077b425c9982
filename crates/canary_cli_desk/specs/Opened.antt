-- Why a desk's file was not opened.
use Rattle.std.specs.Prelude.{◌≡◌, ◌⊎◌}
use Rattle.canary_tables.specs.declared.fault.TableFault.{TableFault}
use Rattle.canary_tables.specs.declared.fault.TableFault.TheVariants as tables
use Rattle.canary_programs.specs.declared.fault.Fault.{Fault}
use Rattle.canary_programs.specs.declared.fault.Fault.TheVariants as fault

-- the faults of the tables, each under one name of its own
abbrev pub of_tables : TableFault → Fault
of_tables tables.Memory = fault.Memory
of_tables tables.Storage = fault.Storage
of_tables tables.InUse = fault.InUse
of_tables tables.OtherSchema = fault.OtherSchema
of_tables tables.BrokenRow = fault.BrokenRow

-- a fault is one of those of looking at names before a file is opened
abbrev pub IsOfLook : Fault → Type 0
IsOfLook f = (f ≡ fault.Memory) ⊎ ((f ≡ fault.Storage) ⊎ (f ≡ fault.LogAlone))
