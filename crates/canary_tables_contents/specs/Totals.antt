-- How many tallies and rows of binding the runs of services have, added up service by service.
use Rattle.std.specs.Prelude.{◌≡◌, ℕ, zero, suc, ◌+◌, List, length, filter}
use Rattle.std.specs.List.{AllByRecursion, sum_by}
use Rattle.canary_tables_rows.specs.declared.rows.BindingRow.{BindingRow}
use Rattle.canary_tables_rows.specs.declared.rows.RunRow.{RunRow}
use Rattle.canary_tables_rows.specs.declared.rows.ServiceRow.{ServiceRow}
use Rattle.canary_tables_rows.specs.declared.rows.TallyRow.{TallyRow}
use Rattle.canary_tables_rows.specs.Tables.{Tables, is_binding_of, is_tally_of}
use Rattle.canary_tables_contents.specs.Services.{IsServiceJudged}

-- those of its runs 1 to n
abbrev pub tallies_to : List TallyRow → List ℕ → ℕ → ℕ
tallies_to tallies name zero = 0
tallies_to tallies name (suc n) =
    tallies_to tallies name n + length (filter (is_tally_of name (suc n)) tallies)

-- those of all its runs
abbrev pub tallies_under : Tables → ServiceRow → ℕ
tallies_under t row = tallies_to t.tallies row.name row.standing.runs

-- those of its runs 1 to n
abbrev pub bindings_to : List BindingRow → List ℕ → ℕ → ℕ
bindings_to bindings name zero = 0
bindings_to bindings name (suc n) =
    bindings_to bindings name n + length (filter (is_binding_of name (suc n)) bindings)

-- those of its present attempt, which run 0 stands for, and those of all its runs
abbrev pub bindings_under : Tables → ServiceRow → ℕ
bindings_under t row =
    length (filter (is_binding_of row.name 0) t.bindings)
    + bindings_to t.bindings row.name row.standing.runs

-- the law: if each service is judged, and there are no more runs than theirs, the tallies of all
-- runs are those of the services' runs
abbrev pub RunsAreSummedByService : Type 0
RunsAreSummedByService =
    (t : Tables) → AllByRecursion (IsServiceJudged t) t.services
    → sum_by (λ (row : ServiceRow). row.standing.runs) t.services ≡ length t.runs
    → sum_by (λ (row : RunRow). length (filter (is_tally_of row.service row.number) t.tallies))
    t.runs ≡ sum_by (tallies_under t) t.services

-- the law: and so are the rows of binding, those of present attempts included
abbrev pub BindingsAreSummedByService : Type 0
BindingsAreSummedByService =
    (t : Tables) → AllByRecursion (IsServiceJudged t) t.services
    → sum_by (λ (row : ServiceRow). row.standing.runs) t.services ≡ length t.runs
    → sum_by (λ (row : ServiceRow). length (filter (is_binding_of row.name 0) t.bindings))
    t.services
    + sum_by (λ (row : RunRow). length (filter (is_binding_of row.service row.number) t.bindings))
    t.runs ≡ sum_by (bindings_under t) t.services
