-- What a program holds of a row that a query shows: none if a value is not one that it can hold.
use Rattle.std.specs.Prelude.{◌^◌, ◌==◌, ℕ, pos, List, length, Option, Some, None, if◌then◌else◌, nat_lt}
use Rattle.sqlite_value.specs.declared.value.Value.{Value}
use Rattle.sqlite_value.specs.declared.value.Value.TheVariants.{Int, Text as Words}
use Rattle.sqlite_value.specs.Order.{Row, column}
use Rattle.canary_base.specs.Names.{is_name}
use Rattle.canary_tables_rows.specs.declared.rows.CallerRow.{CallerRow}
use Rattle.canary_tables_read.specs.declared.lists.RevisionKey.{RevisionKey}

abbrev pub name_in : Value → Option (List ℕ)
name_in (Words name) = if is_name name then Some name else None
name_in value = None

abbrev pub number_in : Value → Option ℕ
number_in (Int (pos n)) = if nat_lt n (2 ^ 32) then Some n else None
number_in value = None

-- a name alone in its row
abbrev pub name_of : Row → Option (List ℕ)
name_of row = if length row == 1 then name_in (column row 0) else None

abbrev pub caller_with : Option (List ℕ) → Option ℕ → Option CallerRow
caller_with None settled = None
caller_with (Some name) None = None
caller_with (Some name) (Some settled) = Some (record { name = name; settled = settled })

abbrev pub caller_of : Row → Option CallerRow
caller_of row =
    if length row == 2 then caller_with (name_in (column row 0)) (number_in (column row 1))
    else None

abbrev pub key_with : Option (List ℕ) → Option ℕ → Option RevisionKey
key_with None revision = None
key_with (Some name) None = None
key_with (Some name) (Some revision) = Some (record { name = name; revision = revision })

abbrev pub revision_key_of : Row → Option RevisionKey
revision_key_of row =
    if length row == 2 then key_with (name_in (column row 0)) (number_in (column row 1)) else None
