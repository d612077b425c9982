-- Rows in the order in which a query asks for them. Rows of one key stand in any order.
use Rattle.std.specs.Prelude.{List}
use Rattle.std.specs.List.Sorted.{IsNonDecreasingBy}
use Rattle.canary_tables_rows.specs.declared.rows.RunRow.{RunRow}
use Rattle.canary_tables_rows.specs.declared.rows.TallyRow.{TallyRow}

abbrev pub AscendByMetric : List TallyRow → Type 0
AscendByMetric rows = IsNonDecreasingBy (λ (row : TallyRow). row.metric) rows

abbrev pub AscendByNumber : List RunRow → Type 0
AscendByNumber rows = IsNonDecreasingBy (λ (row : RunRow). row.number) rows
