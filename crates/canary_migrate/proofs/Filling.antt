-- From the statements that fill the tables to their rows.
use Rattle.std.proofs.Common.{◌≡◌, ◌++◌, [], ◌∷◌, List, map, IsTrue, Ok, refl, sym, ap, subst, ◌∙◌, arith}
use Rattle.std.specs.List.{AllByRecursion}
use Rattle.sqlite.specs.State.{State, HasCleanDisk}
use Rattle.sqlite.specs.Effect.{Database, IsDatabase}
use Rattle.canary_tables_rows.specs.declared.rows.BindingRow.{BindingRow}
use Rattle.canary_tables_rows.specs.declared.rows.RevisionRow.{RevisionRow}
use Rattle.canary_tables_rows.specs.declared.rows.TallyRow.{TallyRow}
use Rattle.canary_tables_rows.specs.Limits.{AreWithin, IsServiceWithin, IsRunWithin, IsMeasurementWithin, IsTallyWithin}
use Rattle.canary_tables_rows.specs.Tables.{Tables}
use Rattle.canary_tables_schema.specs.Layout.{moved}
use Rattle.canary_tables_schema.specs.Stores.{IsUsable, IsHeld, Holds, Stores, IsReady}
use Rattle.canary_tables_write.specs.Fills.{with_revisions, with_bindings, with_tallies}
use Rattle.canary_tables_read.specs.declared.first.TemplateRow.{TemplateRow}
use Rattle.canary_tables_read.specs.declared.first.FirstTally.{FirstTally}
use Rattle.canary_tables_read.specs.Finds.{IsSame}
use Rattle.canary_tables_read.specs.Reader.{IsKept, seen_inside}
use Rattle.canary_migrate.specs.Migrated.{first_revision, all_bindings, tally_of}
use Rattle.canary_migrate.specs.Fills.{filled}
use Rattle.canary_migrate.proofs.Moved.{usable_inside, usable_seen}

-- before the first read, after it, after the second, and after the rows are written
module _ (old one two new : State) (first : IsSame (seen_inside old) (seen_inside one)) (second : IsSame (seen_inside one) (seen_inside two)) (kept : IsKept two new) (began : IsTrue two.in_transaction) where
  pub was_two : IsUsable (seen_inside new) → IsUsable (seen_inside two)
  was_two usable = usable_seen two (kept (usable_inside new usable).0).0 began

  pub was_before : IsUsable (seen_inside new) → IsUsable (seen_inside old)
  was_before usable = (first (second (was_two usable)).0).0

  stands : IsUsable (seen_inside new) → two.now ≡ old.now
  stands usable = let s = second (was_two usable) in s.1 ∙ (first s.0).1

  pub sound_so : (HasCleanDisk new → (t : Tables) → Holds moved two.now t → IsDatabase new.now) → IsUsable (seen_inside new) → (t : Tables) → Holds moved old.now t → IsDatabase new.now
  sound_so sound usable t holds = sound usable.clean t (subst (λ (db : Database). Holds moved db t) (sym (stands usable)) holds)

  pub filled_so : (templates : List TemplateRow) (tallies : List FirstTally) (bindings : List BindingRow) (counted : List TallyRow) (revisions : List RevisionRow)
      → (IsUsable (seen_inside one) → (t : Tables) → Stores old t → bindings ≡ all_bindings t.services t.runs)
      → (IsUsable (seen_inside two) → (t : Tables) → Stores one t → counted ≡ map (tally_of t.measurements) tallies)
      → revisions ≡ map first_revision templates
      → (HasCleanDisk new → (t : Tables) → Holds moved two.now t → IsReady new (with_tallies counted (with_bindings bindings (with_revisions revisions t))))
      → IsUsable (seen_inside new) → (t : Tables) → Holds moved old.now t → Stores new (filled templates tallies t)
  filled_so templates tallies bindings counted revisions bound counts first_ones wrote usable t holds =
      let u2 = was_two usable in
      let s = second u2 in
      let held : IsHeld old.now t = record { layout = moved; holds = holds } in
      let held_one : IsHeld one.now t = subst (λ (db : Database). IsHeld db t) (sym (first s.0).1) held in
      let ready = wrote usable.clean t (subst (λ (db : Database). Holds moved db t) (sym (stands usable)) holds) in
      let b = bound s.0 t held in
      let k = counts u2 t held_one in
      subst (λ ks. Stores new (with_tallies ks (with_bindings (all_bindings t.services t.runs) (with_revisions (map first_revision templates) t)))) k
      (subst (λ bs. Stores new (with_tallies counted (with_bindings bs (with_revisions (map first_revision templates) t)))) b
      (subst (λ rs. Stores new (with_tallies counted (with_bindings bindings (with_revisions rs t)))) first_ones ready.stores))

-- what a read refuses is beyond what a program can hold
pub bindings_broken : (templates : List TemplateRow) (tallies : List FirstTally) (t : Tables) → AreWithin (filled templates tallies t) → ((AllByRecursion IsServiceWithin t.services × AllByRecursion IsRunWithin t.runs) → ⊥) → ⊥
bindings_broken templates tallies t within broken = broken (within.services, within.runs)

behind : {X : Type 0} (P : X → Type 0) (xs ys : List X) → AllByRecursion P (xs ++ ys) → AllByRecursion P ys
behind P [] ys h = h
behind P (x ∷ xs) ys h = behind P xs ys h.1

pub tallies_broken : (templates : List TemplateRow) (tallies : List FirstTally) (t : Tables) → AreWithin (filled templates tallies t)
    → ((AllByRecursion IsMeasurementWithin t.measurements × AllByRecursion IsTallyWithin (map (tally_of t.measurements) tallies)) → ⊥) → ⊥
tallies_broken templates tallies t within broken = broken (within.measurements, behind IsTallyWithin t.tallies (map (tally_of t.measurements) tallies) within.tallies)
