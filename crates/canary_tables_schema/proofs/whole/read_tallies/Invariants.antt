use Rattle.std.proofs.Common.{◌↔◌, length, IsSome, ◌≡◌}
use Rattle.std.specs.List.{AllByRecursion}
use Rattle.sqlite_trees.specs.View.{IsClean, IsQuiet}
use Rattle.sqlite_exec.specs.Calls.{OnlyReads}
use Rattle.sqlite_exec.specs.Loops.{left_of}
use Rattle.canary_tables_schema.specs.Formed.{AreWhole}
use Rattle.canary_tables_schema.proofs.whole.read_tallies.Given as goal

-- the rows that are left are whole exactly if all are
abbrev pub invariant-rows : goal.invariant-rows
invariant-rows g l =
    let old = g.S.Store.view l.fn.store in
    let now = g.S.Store.view l.store in
    IsSome (now.cursors 0) × (IsClean now → OnlyReads old now) × IsQuiet g.S.Store.view g.S.Store.faults g.S.Store.recovers g.S.Store.is_shielded l.fn.store l.store
    × (IsClean now → AreWhole l.tally old.trees ↔ AllByRecursion (λ row. length row ≡ 11) (left_of now 0))
