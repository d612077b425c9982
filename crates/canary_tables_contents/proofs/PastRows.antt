-- The rows of one service's past, and what effects make of them.
use Rattle.std.specs.Prelude.{◌≡◌, ℕ, suc, false, List, map, find, filter}
use Rattle.std.specs.Str.{bytes_eq}
use Rattle.std.specs.List.{AllByRecursion}
use Rattle.canary_plan.specs.declared.strategy.CheckedStrategy.{CheckedStrategy}
use Rattle.canary_release.specs.declared.effect.Effect.{Effect}
use Rattle.canary_release.specs.Effects.{AreAllowed}
use Rattle.canary_release.specs.Order.{AreNumbered}
use Rattle.canary_release.specs.Pasts.{Run, Past, past_with_all, tracked}
use Rattle.canary_release.specs.Desks.{RevisionMap}
use Rattle.canary_tables_rows.specs.declared.rows.BindingRow.{BindingRow}
use Rattle.canary_tables_rows.specs.Tables.{Tables, is_binding, is_run, is_tally, is_measurement_of, is_line_of}
use Rattle.canary_tables_contents.specs.Values.{binding_row, measurement_row, history_row}
use Rattle.canary_tables_contents.specs.Tables.{row_if, run_at, is_of_template, revisions_of_run, run_rows, tally_rows, IsReadablePast}
use Rattle.canary_tables_contents.specs.Settling.{all_happened, AllAsk, IsReadableEffect}

-- the row that says to which revision of a template a run is bound
abbrev pub bound_rows : List ℕ → ℕ → List ℕ → List Run → List BindingRow
bound_rows name number template runs = row_if (binding_row name number) (find (is_of_template template) (revisions_of_run (run_at number runs)))

-- under the keys of this service the tables have the rows of this past
pub record ArePastRows (t : Tables) (name : List ℕ) (p : Past) : Type 0 where
  pub runs : (number : ℕ) → filter (is_run name number) t.runs ≡ run_rows name number p.runs
  pub bindings : (place : ℕ) (template : List ℕ) → filter (is_binding name (suc place) template) t.bindings ≡ bound_rows name (suc place) template p.runs
  pub tallies : (number metric : ℕ) → filter (is_tally name number metric) t.tallies ≡ tally_rows name number metric p.runs
  pub measurements : filter (is_measurement_of name) t.measurements ≡ map (measurement_row name) p.measurements
  pub history : filter (is_line_of name) t.history ≡ map (history_row name) p.history

-- under the keys of another service they have the rows that they had
pub record AreOthersRows (old new : Tables) (q : List ℕ) : Type 0 where
  pub runs : (number : ℕ) → filter (is_run q number) new.runs ≡ filter (is_run q number) old.runs
  pub bindings : (place : ℕ) (template : List ℕ) → filter (is_binding q (suc place) template) new.bindings ≡ filter (is_binding q (suc place) template) old.bindings
  pub tallies : (number metric : ℕ) → filter (is_tally q number metric) new.tallies ≡ filter (is_tally q number metric) old.tallies
  pub measurements : filter (is_measurement_of q) new.measurements ≡ filter (is_measurement_of q) old.measurements
  pub history : filter (is_line_of q) new.history ≡ filter (is_line_of q) old.history

-- and the rows that are of no service's past are as they were
pub record AreElseSame (old new : Tables) : Type 0 where
  pub callers : new.callers ≡ old.callers
  pub kept : new.kept ≡ old.kept
  pub revisions : new.revisions ≡ old.revisions
  pub services : new.services ≡ old.services
  pub attempts : (q template : List ℕ) → filter (is_binding q 0 template) new.bindings ≡ filter (is_binding q 0 template) old.bindings

-- effects that may happen, one after another
pub record Happens (name : List ℕ) (effects : List Effect) (t : Tables) (p : Past) : Type 0 where
  pub rows : ArePastRows (all_happened name effects t) name (past_with_all p effects)
  pub asks : AllAsk name effects t
  pub others : (q : List ℕ) → bytes_eq q name ≡ false → AreOthersRows t (all_happened name effects t) q
  pub rest : AreElseSame t (all_happened name effects t)

abbrev pub EffectsHappen : Type 0
EffectsHappen = (name : List ℕ) (templates : RevisionMap) (strategy : CheckedStrategy) (effects : List Effect) (t : Tables) (p : Past)
    → ArePastRows t name p → AreNumbered 1 p.runs → AreAllowed templates strategy (tracked p) effects → Happens name effects t p

-- and what is read back stays so
abbrev pub EffectsStayReadable : Type 0
EffectsStayReadable = (effects : List Effect) (p : Past) → IsReadablePast p → AllByRecursion IsReadableEffect effects → IsReadablePast (past_with_all p effects)
