-- If the rows of one table change, the others are as they were.
use Rattle.std.proofs.Common.{◌≡◌, ◌≢◌, ◌⊎◌, inl, inr, ◌==◌, ◌&&◌, not, ℕ, zero, suc, List, [], ◌∷◌, map, Bool, true, false, IsTrue, refl, sym, ap, subst, ◌∙◌}
use Rattle.std.proofs.lemmas.Bool.Decides.{eqb_tells}
use Rattle.std.specs.List.{AllByRecursion, list_all}
use Rattle.sqlite.specs.Order.{Row}
use Rattle.sqlite.specs.State.{State}
use Rattle.sqlite.specs.Tree.{Trees}
use Rattle.canary_tables_rows.specs.declared.rows.CallerRow.{CallerRow}
use Rattle.canary_tables_rows.specs.declared.rows.KeptRow.{KeptRow}
use Rattle.canary_tables_rows.specs.declared.rows.ServiceRow.{ServiceRow}
use Rattle.canary_tables_rows.specs.declared.rows.RunRow.{RunRow}
use Rattle.canary_tables_rows.specs.declared.rows.MeasurementRow.{MeasurementRow}
use Rattle.canary_tables_rows.specs.declared.rows.HistoryRow.{HistoryRow}
use Rattle.canary_tables_rows.specs.declared.rows.RevisionRow.{RevisionRow}
use Rattle.canary_tables_rows.specs.declared.rows.BindingRow.{BindingRow}
use Rattle.canary_tables_rows.specs.declared.rows.TallyRow.{TallyRow}
use Rattle.canary_tables_rows.specs.Tables.{Tables}
use Rattle.canary_tables_schema.specs.Layout.{Layout, made, moved, packed, desk_trees, service_at, run_at, measurement_at, sequence_at, history_at, revision_at, binding_at, tally_at}
use Rattle.canary_tables_schema.specs.Cells.{cells_of, caller_cells, kept_cells, service_cells, run_cells, measurement_cells, history_cells, revision_cells, binding_cells, tally_cells}
use Rattle.canary_tables_schema.specs.Stores.{IsNumbered, Holds, IsReady}

-- the trees of the desk's ten tables are the same but for one
abbrev pub Spares : Layout → ℕ → Trees → Trees → Type 0
Spares at tree old new = AllByRecursion (λ k. k ≢ tree → new k ≡ old k) (desk_trees at)

-- the rows of one table are these now, and the others are as they were
pub record Changed {R : Type 0} (at : Layout) (tree : ℕ) (cells : R → Row) (rows : List R) (old new : State) : Type 0 where
  pub live : IsTrue new.in_transaction
  pub schema : new.now.schema ≡ old.now.schema
  pub spares : Spares at tree old.now.trees new.now.trees
  pub numbered : IsNumbered (new.now.trees tree)
  pub stored : cells_of (new.now.trees tree) ≡ map cells rows

-- Numbers that are apart, by a test that computes.

and_first : (a b : Bool) → (a && b) ≡ true → a ≡ true
and_first true b h = refl
and_first false b h = h

and_second : (a b : Bool) → (a && b) ≡ true → b ≡ true
and_second true b h = h
and_second false b h = absurd cc

other : (k tree : ℕ) → not (k == tree) ≡ true → k ≢ tree
other k tree h = by_cases (eqb_tells k tree)
  where
    by_cases : ((k == tree) ≡ true) × (k ≡ tree) ⊎ ((k == tree) ≡ false) × (k ≢ tree) → k ≢ tree
    by_cases (inl same) = absurd (let e = sym h ∙ ap not same.0 in cc)
    by_cases (inr apart) = apart.1

abbrev pub are_apart : ℕ → List ℕ → Bool
are_apart tree trees = list_all (λ k. not (k == tree)) trees

pub all_apart : (tree : ℕ) (trees : List ℕ) → are_apart tree trees ≡ true → AllByRecursion (λ k. k ≢ tree) trees
all_apart tree [] h = tt
all_apart tree (k ∷ trees) h = (other k tree (and_first _ _ h), all_apart tree trees (and_second _ _ h))

-- a list without what stands at this place
abbrev left_out : ℕ → List ℕ → List ℕ
left_out place [] = []
left_out zero (k ∷ trees) = trees
left_out (suc place) (k ∷ trees) = k ∷ left_out place trees

-- so all others are the same
others_same : (tree place : ℕ) (trees : List ℕ) (old new : Trees) → are_apart tree (left_out place trees) ≡ true → AllByRecursion (λ k. k ≢ tree → new k ≡ old k) trees → AllByRecursion (λ k. new k ≡ old k) (left_out place trees)
others_same tree place [] old new h same = tt
others_same tree zero (k ∷ trees) old new h same = go trees h same.1
  where
    go : (trees : List ℕ) → are_apart tree trees ≡ true → AllByRecursion (λ k. k ≢ tree → new k ≡ old k) trees → AllByRecursion (λ k. new k ≡ old k) trees
    go [] h same = tt
    go (k ∷ trees) h same = (same.0 (other k tree (and_first _ _ h)), go trees (and_second _ _ h) same.1)
others_same tree (suc place) (k ∷ trees) old new h same = (same.0 (other k tree (and_first _ _ h)), others_same tree place trees old new (and_second _ _ h) same.1)

-- the trees are apart, in each layout

caller_apart : (at : Layout) → are_apart 1 (left_out 1 (desk_trees at)) ≡ true
caller_apart made = refl
caller_apart moved = refl
caller_apart packed = refl

kept_apart : (at : Layout) → are_apart 3 (left_out 2 (desk_trees at)) ≡ true
kept_apart made = refl
kept_apart moved = refl
kept_apart packed = refl

service_apart : (at : Layout) → are_apart (service_at at) (left_out 3 (desk_trees at)) ≡ true
service_apart made = refl
service_apart moved = refl
service_apart packed = refl

run_apart : (at : Layout) → are_apart (run_at at) (left_out 4 (desk_trees at)) ≡ true
run_apart made = refl
run_apart moved = refl
run_apart packed = refl

measurement_apart : (at : Layout) → are_apart (measurement_at at) (left_out 5 (desk_trees at)) ≡ true
measurement_apart made = refl
measurement_apart moved = refl
measurement_apart packed = refl

history_apart : (at : Layout) → are_apart (history_at at) (left_out 6 (desk_trees at)) ≡ true
history_apart made = refl
history_apart moved = refl
history_apart packed = refl

revision_apart : (at : Layout) → are_apart (revision_at at) (left_out 7 (desk_trees at)) ≡ true
revision_apart made = refl
revision_apart moved = refl
revision_apart packed = refl

binding_apart : (at : Layout) → are_apart (binding_at at) (left_out 8 (desk_trees at)) ≡ true
binding_apart made = refl
binding_apart moved = refl
binding_apart packed = refl

tally_apart : (at : Layout) → are_apart (tally_at at) (left_out 9 (desk_trees at)) ≡ true
tally_apart made = refl
tally_apart moved = refl
tally_apart packed = refl

pub sequence_apart : (at : Layout) → are_apart (sequence_at at) (desk_trees at) ≡ true
sequence_apart made = refl
sequence_apart moved = refl
sequence_apart packed = refl

all_numbered : (tree : ℕ) (old new : Trees) (trees : List ℕ) → AllByRecursion (λ k. k ≢ tree → new k ≡ old k) trees → IsNumbered (new tree) → AllByRecursion (λ k. IsNumbered (old k)) trees → AllByRecursion (λ k. IsNumbered (new k)) trees
all_numbered tree old new [] spares put up = tt
all_numbered tree old new (k ∷ trees) spares put up = (one (eqb_tells k tree), all_numbered tree old new trees spares.1 put up.1)
  where
    one : ((k == tree) ≡ true) × (k ≡ tree) ⊎ ((k == tree) ≡ false) × (k ≢ tree) → IsNumbered (new k)
    one (inl same) = subst (λ n. IsNumbered (new n)) (sym same.1) put
    one (inr other) = subst IsNumbered (sym (spares.0 other.1)) up.0

-- the tables in which the rows of one have become these

module _ (at : Layout) (old new : State) (t : Tables) (has : Holds at old.now t) where
  pub callers_now : (rows : List CallerRow) → Changed at 1 caller_cells rows old new → IsReady new (record t { callers = rows })
  callers_now rows c =
      let k = others_same 1 1 (desk_trees at) old.now.trees new.now.trees (caller_apart at) c.spares in
      record {
        live = c.live;
        stores = record {
          layout = at;
          holds = record {
            schema = c.schema ∙ has.schema;
            numbered = all_numbered 1 old.now.trees new.now.trees (desk_trees at) c.spares c.numbered has.numbered;
            meta = k.0 ∙ has.meta;
            callers = c.stored;
            kept = ap cells_of k.1.0 ∙ has.kept;
            services = ap cells_of k.1.1.0 ∙ has.services;
            runs = ap cells_of k.1.1.1.0 ∙ has.runs;
            measurements = ap cells_of k.1.1.1.1.0 ∙ has.measurements;
            history = ap cells_of k.1.1.1.1.1.0 ∙ has.history;
            revisions = ap cells_of k.1.1.1.1.1.1.0 ∙ has.revisions;
            bindings = ap cells_of k.1.1.1.1.1.1.1.0 ∙ has.bindings;
            tallies = ap cells_of k.1.1.1.1.1.1.1.1.0 ∙ has.tallies;
          };
        };
      }

  pub kept_now : (rows : List KeptRow) → Changed at 3 kept_cells rows old new → IsReady new (record t { kept = rows })
  kept_now rows c =
      let k = others_same 3 2 (desk_trees at) old.now.trees new.now.trees (kept_apart at) c.spares in
      record {
        live = c.live;
        stores = record {
          layout = at;
          holds = record {
            schema = c.schema ∙ has.schema;
            numbered = all_numbered 3 old.now.trees new.now.trees (desk_trees at) c.spares c.numbered has.numbered;
            meta = k.0 ∙ has.meta;
            callers = ap cells_of k.1.0 ∙ has.callers;
            kept = c.stored;
            services = ap cells_of k.1.1.0 ∙ has.services;
            runs = ap cells_of k.1.1.1.0 ∙ has.runs;
            measurements = ap cells_of k.1.1.1.1.0 ∙ has.measurements;
            history = ap cells_of k.1.1.1.1.1.0 ∙ has.history;
            revisions = ap cells_of k.1.1.1.1.1.1.0 ∙ has.revisions;
            bindings = ap cells_of k.1.1.1.1.1.1.1.0 ∙ has.bindings;
            tallies = ap cells_of k.1.1.1.1.1.1.1.1.0 ∙ has.tallies;
          };
        };
      }

  pub services_now : (rows : List ServiceRow) → Changed at (service_at at) service_cells rows old new → IsReady new (record t { services = rows })
  services_now rows c =
      let k = others_same (service_at at) 3 (desk_trees at) old.now.trees new.now.trees (service_apart at) c.spares in
      record {
        live = c.live;
        stores = record {
          layout = at;
          holds = record {
            schema = c.schema ∙ has.schema;
            numbered = all_numbered (service_at at) old.now.trees new.now.trees (desk_trees at) c.spares c.numbered has.numbered;
            meta = k.0 ∙ has.meta;
            callers = ap cells_of k.1.0 ∙ has.callers;
            kept = ap cells_of k.1.1.0 ∙ has.kept;
            services = c.stored;
            runs = ap cells_of k.1.1.1.0 ∙ has.runs;
            measurements = ap cells_of k.1.1.1.1.0 ∙ has.measurements;
            history = ap cells_of k.1.1.1.1.1.0 ∙ has.history;
            revisions = ap cells_of k.1.1.1.1.1.1.0 ∙ has.revisions;
            bindings = ap cells_of k.1.1.1.1.1.1.1.0 ∙ has.bindings;
            tallies = ap cells_of k.1.1.1.1.1.1.1.1.0 ∙ has.tallies;
          };
        };
      }

  pub runs_now : (rows : List RunRow) → Changed at (run_at at) run_cells rows old new → IsReady new (record t { runs = rows })
  runs_now rows c =
      let k = others_same (run_at at) 4 (desk_trees at) old.now.trees new.now.trees (run_apart at) c.spares in
      record {
        live = c.live;
        stores = record {
          layout = at;
          holds = record {
            schema = c.schema ∙ has.schema;
            numbered = all_numbered (run_at at) old.now.trees new.now.trees (desk_trees at) c.spares c.numbered has.numbered;
            meta = k.0 ∙ has.meta;
            callers = ap cells_of k.1.0 ∙ has.callers;
            kept = ap cells_of k.1.1.0 ∙ has.kept;
            services = ap cells_of k.1.1.1.0 ∙ has.services;
            runs = c.stored;
            measurements = ap cells_of k.1.1.1.1.0 ∙ has.measurements;
            history = ap cells_of k.1.1.1.1.1.0 ∙ has.history;
            revisions = ap cells_of k.1.1.1.1.1.1.0 ∙ has.revisions;
            bindings = ap cells_of k.1.1.1.1.1.1.1.0 ∙ has.bindings;
            tallies = ap cells_of k.1.1.1.1.1.1.1.1.0 ∙ has.tallies;
          };
        };
      }

  pub measurements_now : (rows : List MeasurementRow) → Changed at (measurement_at at) measurement_cells rows old new → IsReady new (record t { measurements = rows })
  measurements_now rows c =
      let k = others_same (measurement_at at) 5 (desk_trees at) old.now.trees new.now.trees (measurement_apart at) c.spares in
      record {
        live = c.live;
        stores = record {
          layout = at;
          holds = record {
            schema = c.schema ∙ has.schema;
            numbered = all_numbered (measurement_at at) old.now.trees new.now.trees (desk_trees at) c.spares c.numbered has.numbered;
            meta = k.0 ∙ has.meta;
            callers = ap cells_of k.1.0 ∙ has.callers;
            kept = ap cells_of k.1.1.0 ∙ has.kept;
            services = ap cells_of k.1.1.1.0 ∙ has.services;
            runs = ap cells_of k.1.1.1.1.0 ∙ has.runs;
            measurements = c.stored;
            history = ap cells_of k.1.1.1.1.1.0 ∙ has.history;
            revisions = ap cells_of k.1.1.1.1.1.1.0 ∙ has.revisions;
            bindings = ap cells_of k.1.1.1.1.1.1.1.0 ∙ has.bindings;
            tallies = ap cells_of k.1.1.1.1.1.1.1.1.0 ∙ has.tallies;
          };
        };
      }

  pub history_now : (rows : List HistoryRow) → Changed at (history_at at) history_cells rows old new → IsReady new (record t { history = rows })
  history_now rows c =
      let k = others_same (history_at at) 6 (desk_trees at) old.now.trees new.now.trees (history_apart at) c.spares in
      record {
        live = c.live;
        stores = record {
          layout = at;
          holds = record {
            schema = c.schema ∙ has.schema;
            numbered = all_numbered (history_at at) old.now.trees new.now.trees (desk_trees at) c.spares c.numbered has.numbered;
            meta = k.0 ∙ has.meta;
            callers = ap cells_of k.1.0 ∙ has.callers;
            kept = ap cells_of k.1.1.0 ∙ has.kept;
            services = ap cells_of k.1.1.1.0 ∙ has.services;
            runs = ap cells_of k.1.1.1.1.0 ∙ has.runs;
            measurements = ap cells_of k.1.1.1.1.1.0 ∙ has.measurements;
            history = c.stored;
            revisions = ap cells_of k.1.1.1.1.1.1.0 ∙ has.revisions;
            bindings = ap cells_of k.1.1.1.1.1.1.1.0 ∙ has.bindings;
            tallies = ap cells_of k.1.1.1.1.1.1.1.1.0 ∙ has.tallies;
          };
        };
      }

  pub revisions_now : (rows : List RevisionRow) → Changed at (revision_at at) revision_cells rows old new → IsReady new (record t { revisions = rows })
  revisions_now rows c =
      let k = others_same (revision_at at) 7 (desk_trees at) old.now.trees new.now.trees (revision_apart at) c.spares in
      record {
        live = c.live;
        stores = record {
          layout = at;
          holds = record {
            schema = c.schema ∙ has.schema;
            numbered = all_numbered (revision_at at) old.now.trees new.now.trees (desk_trees at) c.spares c.numbered has.numbered;
            meta = k.0 ∙ has.meta;
            callers = ap cells_of k.1.0 ∙ has.callers;
            kept = ap cells_of k.1.1.0 ∙ has.kept;
            services = ap cells_of k.1.1.1.0 ∙ has.services;
            runs = ap cells_of k.1.1.1.1.0 ∙ has.runs;
            measurements = ap cells_of k.1.1.1.1.1.0 ∙ has.measurements;
            history = ap cells_of k.1.1.1.1.1.1.0 ∙ has.history;
            revisions = c.stored;
            bindings = ap cells_of k.1.1.1.1.1.1.1.0 ∙ has.bindings;
            tallies = ap cells_of k.1.1.1.1.1.1.1.1.0 ∙ has.tallies;
          };
        };
      }

  pub bindings_now : (rows : List BindingRow) → Changed at (binding_at at) binding_cells rows old new → IsReady new (record t { bindings = rows })
  bindings_now rows c =
      let k = others_same (binding_at at) 8 (desk_trees at) old.now.trees new.now.trees (binding_apart at) c.spares in
      record {
        live = c.live;
        stores = record {
          layout = at;
          holds = record {
            schema = c.schema ∙ has.schema;
            numbered = all_numbered (binding_at at) old.now.trees new.now.trees (desk_trees at) c.spares c.numbered has.numbered;
            meta = k.0 ∙ has.meta;
            callers = ap cells_of k.1.0 ∙ has.callers;
            kept = ap cells_of k.1.1.0 ∙ has.kept;
            services = ap cells_of k.1.1.1.0 ∙ has.services;
            runs = ap cells_of k.1.1.1.1.0 ∙ has.runs;
            measurements = ap cells_of k.1.1.1.1.1.0 ∙ has.measurements;
            history = ap cells_of k.1.1.1.1.1.1.0 ∙ has.history;
            revisions = ap cells_of k.1.1.1.1.1.1.1.0 ∙ has.revisions;
            bindings = c.stored;
            tallies = ap cells_of k.1.1.1.1.1.1.1.1.0 ∙ has.tallies;
          };
        };
      }

  pub tallies_now : (rows : List TallyRow) → Changed at (tally_at at) tally_cells rows old new → IsReady new (record t { tallies = rows })
  tallies_now rows c =
      let k = others_same (tally_at at) 9 (desk_trees at) old.now.trees new.now.trees (tally_apart at) c.spares in
      record {
        live = c.live;
        stores = record {
          layout = at;
          holds = record {
            schema = c.schema ∙ has.schema;
            numbered = all_numbered (tally_at at) old.now.trees new.now.trees (desk_trees at) c.spares c.numbered has.numbered;
            meta = k.0 ∙ has.meta;
            callers = ap cells_of k.1.0 ∙ has.callers;
            kept = ap cells_of k.1.1.0 ∙ has.kept;
            services = ap cells_of k.1.1.1.0 ∙ has.services;
            runs = ap cells_of k.1.1.1.1.0 ∙ has.runs;
            measurements = ap cells_of k.1.1.1.1.1.0 ∙ has.measurements;
            history = ap cells_of k.1.1.1.1.1.1.0 ∙ has.history;
            revisions = ap cells_of k.1.1.1.1.1.1.1.0 ∙ has.revisions;
            bindings = ap cells_of k.1.1.1.1.1.1.1.1.0 ∙ has.bindings;
            tallies = c.stored;
          };
        };
      }
