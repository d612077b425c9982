-- Rows of a table whose numbers are above one number, and at most another.
use Rattle.std.specs.Prelude.{ℕ, ◌&&◌, Bool, List, nat_le, nat_lt}
use Rattle.std.specs.Str.{bytes_eq}
use Rattle.canary_tables_rows.specs.declared.rows.KeptRow.{KeptRow}
use Rattle.canary_tables_rows.specs.declared.rows.RunRow.{RunRow}
use Rattle.canary_tables_rows.specs.declared.rows.BindingRow.{BindingRow}
use Rattle.canary_tables_rows.specs.declared.rows.TallyRow.{TallyRow}

abbrev pub is_kept_between : List ℕ → ℕ → ℕ → KeptRow → Bool
is_kept_between caller after last row =
    bytes_eq caller row.caller && (nat_lt after row.number && nat_le row.number last)

abbrev pub number_of_kept : KeptRow → ℕ
number_of_kept row = row.number

-- of a service's runs

abbrev pub is_run_between : List ℕ → ℕ → ℕ → RunRow → Bool
is_run_between service after last row =
    bytes_eq service row.service && (nat_lt after row.number && nat_le row.number last)

abbrev pub is_binding_between : List ℕ → ℕ → ℕ → BindingRow → Bool
is_binding_between service after last row =
    bytes_eq service row.service && (nat_lt after row.run && nat_le row.run last)

abbrev pub is_tally_between : List ℕ → ℕ → ℕ → TallyRow → Bool
is_tally_between service after last row =
    bytes_eq service row.service && (nat_lt after row.run && nat_le row.run last)
