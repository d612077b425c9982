-- What one read after another says of a database that stays as it is.
use Rattle.std.proofs.Common.{◌≡◌, Result, sym, subst, ◌∙◌}
use Rattle.std.specs.Result.{OnOk}
use Rattle.std.proofs.lemmas.Result.{IfOk-weaker}
use Rattle.sqlite.specs.Effect.{Database}
use Rattle.sqlite.specs.State.{State}
use Rattle.canary_tables_schema.specs.Layout.{Layout}
use Rattle.canary_tables_schema.specs.Schema.{schema_at}
use Rattle.canary_tables_schema.specs.Formed.{IsFormed, HasRows, HasWholeTallies}
use Rattle.canary_tables_schema.specs.Stores.{IsUsable, AreNumbered}
use Rattle.canary_tables_schema.specs.Cells.{meta_rows}
use Rattle.canary_tables_read.specs.declared.fault.ReadFault.{ReadFault}
use Rattle.canary_tables_read.specs.Finds.{IsSame}
use Rattle.canary_tables_read.specs.TreeRows.{HasEarlyRows, HasLateRows}

pub same_both : (old mid new : State) → IsSame old mid → IsSame mid new → IsSame old new
same_both old mid new first second usable = let s = second usable in let f = first s.0 in (f.0, s.1 ∙ f.1)

-- what a read between two states assures
abbrev AssuresBetween : {A : Type 0} → (Layout → Database → Type 0) → State → State → Result A ReadFault → Type 0
AssuresBetween Holds old new result = IsUsable new → (at : Layout) → old.now.schema ≡ schema_at at → OnOk result (Holds at old.now)

-- what is reported after a read is reported from before it
module _ {A : Type 0} (Holds : Layout → Database → Type 0) (old mid new : State) (r : Result A ReadFault) (first : IsSame old mid) (second : IsSame mid new) where
  pub assures_before : AssuresBetween Holds mid new r → AssuresBetween Holds old new r
  assures_before h usable at schema =
      let is : mid.now ≡ old.now = (first (second usable).0).1 in
      subst (λ (db : Database). OnOk r (Holds at db)) is (h usable at (subst (λ (db : Database). db.schema ≡ schema_at at) (sym is) schema))

-- the rows of all tables
pub all_told : (s0 s1 s2 : State) (r : Result (Unit {0}) ReadFault) → IsSame s0 s1 → IsSame s1 s2 → HasWholeTallies s0.now → (IsUsable s1 → (at : Layout) → s0.now.schema ≡ schema_at at → HasEarlyRows at s0.now)
    → AssuresBetween (λ at db. HasWholeTallies db → HasLateRows at db) s1 s2 r → IsUsable s2 → IsFormed s0.now → OnOk r (HasRows s0.now)
all_told s0 s1 s2 r first second whole early late usable formed =
    let at = formed.layout in
    let e = early (second usable).0 at formed.schema in
    IfOk-weaker r _ _
    (λ _ l. all_rows s0.now at formed.schema formed.numbered formed.meta e (l whole))
    (assures_before (λ at db. HasWholeTallies db → HasLateRows at db) s0 s1 s2 r first second late usable at formed.schema)
  where
    all_rows : (db : Database) (at : Layout) → db.schema ≡ schema_at at → AreNumbered at db.trees → db.trees 0 ≡ meta_rows → HasEarlyRows at db → HasLateRows at db → HasRows db
    all_rows db at schema numbered meta e l = (
      record {
        callers = e.callers.0;
        kept = e.kept.0;
        revisions = l.revisions.0;
        services = e.services.0;
        bindings = l.bindings.0;
        runs = e.runs.0;
        tallies = l.tallies.0;
        measurements = l.measurements.0;
        history = l.history.0;
      },
      record {
        layout = at;
        holds = record {
          schema = schema;
          numbered = numbered;
          meta = meta;
          callers = e.callers.1;
          kept = e.kept.1;
          services = e.services.1;
          runs = e.runs.1;
          measurements = l.measurements.1;
          history = l.history.1;
          revisions = l.revisions.1;
          bindings = l.bindings.1;
          tallies = l.tallies.1;
        };
      },
    )
