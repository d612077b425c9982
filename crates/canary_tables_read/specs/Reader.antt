-- How a reader of tables stands.
use Rattle.std.specs.Prelude.{◌≡◌, ℕ, List, false, [], ◌&&◌}
use Rattle.sqlite.specs.declared.error.Error.{Error}
use Rattle.sqlite.specs.State.{State, FailsToQuery}
use Rattle.sqlite_value.specs.Order.{Row}
use Rattle.canary_tables_schema.specs.declared.fault.StoreFault.{StoreFault}
use Rattle.canary_tables_schema.specs.Faults.{fault_of}
use Rattle.canary_tables_schema.specs.Stores.{IsUsable}
use Rattle.canary_tables_read.specs.Finds.{IsSame}

-- A transaction that goes on, as a connection outside of one would show it: what it has written so
-- far stands there. One that has ended shows as shut.
abbrev pub seen_inside : State → State
seen_inside s = record s {
  committed = s.now;
  in_transaction = false;
  marks = [];
  is_open = s.is_open && s.in_transaction;
}

-- what was committed stays
abbrev pub IsKept : State → State → Type 0
IsKept old new = IsUsable new → IsUsable old × (new.committed ≡ old.committed)

-- A read leaves what it asks ready, in its place, with what was committed, and unchanged.
pub record Reads {Q : Type 0} (IsReady : Q → Type 0) (place_of : Q → ℕ) (below shows : Q → State)
    (old new : Q) : Type 0 where
  pub mode : IsReady new
  pub place : place_of new ≡ place_of old
  pub kept : IsKept (below old) (below new)
  pub same : IsSame (shows old) (shows new)

-- the text failed there, by an error that is reported as this fault
abbrev pub FailsAs : List ℕ → Row → State → State → StoreFault → Type 0
FailsAs text params old new fault =
    (error : Error) × (FailsToQuery text params old new error × (fault ≡ fault_of error))
