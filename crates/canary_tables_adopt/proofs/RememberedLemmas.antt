-- Templates that were asked for before, and those that rows of binding name.
use Rattle.std.proofs.Common.{◌≡◌, ℕ, ◌+◌, ◌<◌, ◌≤◌, ◌==◌, List, length, take, get_or, Bool, true, false, refl, sym, ap, ◌∙◌, subst, eqb-true}
use Rattle.std.specs.Prelude.{Option, Some, None, cond, filter, option_and_then}
use Rattle.std.specs.FinMap.{get, insert, empty}
use Rattle.std.specs.Str.{bytes_eq}
use Rattle.std.proofs.lemmas.List.{take_all}
use Rattle.sqlite.specs.State.{State}
use Rattle.canary_plan.specs.declared.command.Command.{Command}
use Rattle.canary_plan.specs.declared.command.Command.TheVariants as command
use Rattle.canary_plan.specs.declared.strategy.CheckedStrategy.{CheckedStrategy}
use Rattle.canary_plan.specs.declared.analysis_parts.AnalysisParts.{AnalysisParts}
use Rattle.canary_plan.specs.declared.bound.BoundParts.{BoundParts}
use Rattle.canary_plan.specs.declared.template.Template.{Template}
use Rattle.canary_plan.specs.Plans.{Templates, bound_of, analysis_at, distinct}
use Rattle.canary_canonical.specs.Readings.{canonical_in}
use Rattle.canary_tables_rows.specs.declared.rows.BindingRow.{BindingRow}
use Rattle.canary_tables_rows.specs.declared.rows.RevisionRow.{RevisionRow}
use Rattle.canary_tables_rows.specs.Tables.{Tables, is_revision, is_binding_of}
use Rattle.canary_tables_schema.specs.Stores.{IsUsable, Stores}
use Rattle.canary_tables_contents.specs.Values.{revision_from, revision_of_row}
use Rattle.canary_tables_contents.specs.Reading.{first_row, known_in}
use Rattle.canary_tables_read.specs.Finds.{IsSame}
use Rattle.canary_tables_adopt.specs.Bindings.{IsBinding, IsTemplateOf, known_of, AreBindings, IsKnownBy, IsRunBound}
use Rattle.canary_tables_adopt.specs.Remembered.{Memo, revision_in, AreRevisions}
use Rattle.canary_tables_adopt.proofs.Each.{one_of_all}
use Rattle.canary_tables_adopt.proofs.JudgedStrategies.{judged_at}
use Rattle.canary_tables_adopt.proofs.KnownAmong.{Found, got_more}
use Rattle.canary_tables_adopt.proofs.KnownBindings.{AreFound, none_yet, one_new, one_old, taken_more, of_run}
use Rattle.canary_tables_adopt.proofs.Names.{equal_names}
use Rattle.canary_tables_adopt.proofs.PlacedLemmas.{passing, both}
use Rattle.canary_tables_adopt.proofs.Standing.{same_then, stores_then}

-- A revision is found under its number.

some_same : {A : Type 0} (x y : A) → Some x ≡ Some y → x ≡ y
some_same x y e = cc e

read_number : (revision : ℕ) (o : Option Command) (template : Template) → revision_from revision o ≡ Some template → template.revision ≡ revision
read_number revision (Some (command.Template spec)) template e = sym (ap (λ (x : Template). x.revision) (some_same _ template e))
read_number revision other template e = absurd (cc)

row_number : (t : Tables) (name : List ℕ) (number : ℕ) (o : Option RevisionRow) (template : Template) → first_row (filter (is_revision name number) t.revisions) ≡ o → option_and_then revision_of_row o ≡ Some template → template.revision ≡ number
row_number t name number None template there e = absurd (cc)
row_number t name number (Some row) template there e =
    let is : is_revision name number row ≡ true = judged_at (λ (r : RevisionRow). is_revision name number r ≡ true) (filter (is_revision name number) t.revisions) 0 row (passing (is_revision name number) t.revisions) there in
    let own : number ≡ row.revision = eqb-true number row.revision (both (bytes_eq name row.name) (number == row.revision) is).1 in
    read_number row.revision (canonical_in row.spec) template e ∙ sym own

found_number : (t : Tables) (name : List ℕ) (number : ℕ) (template : Template) → revision_in t name number ≡ Some template → template.revision ≡ number
found_number t name number template e = row_number t name number (first_row (filter (is_revision name number) t.revisions)) template refl e

-- what is kept of the row's revision is its template
pub kept_still : (t : Tables) (row : BindingRow) (memo : Memo) (template : Template) → AreRevisions memo t → get memo row.template ≡ Some template → template.revision ≡ row.revision → IsTemplateOf row t (Some template)
kept_still t row memo template are there same = subst (λ n. revision_in t row.template n ≡ Some template) same (are row.template template there)

-- one more is kept
kept_under : (t : Tables) (row : BindingRow) (memo : Memo) (x y : Template) (q : List ℕ) → AreRevisions memo t → IsTemplateOf row t (Some x) → (b : Bool) → bytes_eq q row.template ≡ b → cond b (Some x) (get memo q) ≡ Some y → revision_in t q y.revision ≡ Some y
kept_under t row memo x y q are is true own e =
    let number : x.revision ≡ row.revision = found_number t row.template row.revision x is in
    let there : revision_in t q x.revision ≡ Some x = ap (λ n. revision_in t n x.revision) (equal_names q row.template own) ∙ ap (revision_in t row.template) number ∙ is in
    subst (λ (z : Template). revision_in t q z.revision ≡ Some z) (some_same x y e) there
kept_under t row memo x y q are is false other e = are q y e

pub one_kept : (t : Tables) (row : BindingRow) (memo more : Memo) (template : Template) → AreRevisions memo t → IsTemplateOf row t (Some template) → more ≡ insert memo row.template template → AreRevisions more t
one_kept t row memo more template are is put =
    subst (λ (m : Memo). AreRevisions m t) (sym put) (λ q y e. kept_under t row memo template y q are is (bytes_eq q row.template) refl (sym (got_more memo row.template template q) ∙ e))

-- The rows so far.

pub record RememberedSoFar (rows : List BindingRow) (i : ℕ) (first : Memo) (old now : State) (found : Found) (memo : Memo) : Type 0 where
  pub same : IsSame old now
  pub value : IsUsable now → (t : Tables) → Stores old t → AreRevisions first t → AreFound t (take i rows) found × AreRevisions memo t

pub at_first : (rows : List BindingRow) (first : Memo) (old : State) (found : Found) → found ≡ empty → RememberedSoFar rows 0 first old old found first
at_first rows first old found is = record { same = λ usable. (usable, refl); value = λ usable t has are. (none_yet t found is, are) }

pub one_asked : (rows : List BindingRow) (i : ℕ) (row : BindingRow) (first : Memo) (old between new : State) (found more : Found) (memo kept : Memo) (x : Template) → i < length rows → row ≡ get_or rows i row → RememberedSoFar rows i first old between found memo → IsSame between new → get found row.template ≡ None
    → (IsUsable new → (t : Tables) → Stores between t → AreRevisions memo t → IsTemplateOf row t (Some x) × AreRevisions kept t) → more ≡ insert found row.template x → RememberedSoFar rows (i + 1) first old new more kept
one_asked rows i row first old between new found more memo kept x below at before same fresh is put =
    record {
      same = same_then old between new before.same same;
      value = λ usable t has are.
          let mid = (same usable).0 in
          let so_far = before.value mid t has are in
          let one = is usable t (stores_then old between t before.same mid has) so_far.1 in
          (taken_more t rows i row more below at (one_new t (take i rows) row found more x so_far.0 fresh one.0 put), one.1);
    }

pub one_there : (rows : List BindingRow) (i : ℕ) (row : BindingRow) (first : Memo) (old between : State) (found more : Found) (memo : Memo) (x : Template) → i < length rows → row ≡ get_or rows i row → RememberedSoFar rows i first old between found memo → get found row.template ≡ Some x → more ≡ found
    → RememberedSoFar rows (i + 1) first old between more memo
one_there rows i row first old between found more memo x below at before there stays =
    record { same = before.same; value = λ usable t has are. let so_far = before.value usable t has are in (taken_more t rows i row more below at (one_old t (take i rows) row found more x so_far.0 there stays), so_far.1) }

pub all_known : (rows : List BindingRow) (i : ℕ) (first : Memo) (old now : State) (found : Found) (memo : Memo) → RememberedSoFar rows i first old now found memo → length rows ≤ i → IsUsable now → (t : Tables) → Stores old t → AreRevisions first t → (get found ≡ known_of t rows) × AreRevisions memo t
all_known rows i first old now found memo so_far all usable t has are = let known = so_far.value usable t has are in (known.0.value ∙ ap (known_of t) (take_all i rows all), known.1)

-- if a row names none, not all do
pub one_unbound : (t : Tables) (rows : List BindingRow) (i : ℕ) (row : BindingRow) → i < length rows → row ≡ get_or rows i row → IsTemplateOf row t None → IsKnownBy rows t None
one_unbound t rows i row below at none all = none (one_of_all (IsBinding t) rows i row below at all)

-- Those of a run.

pub of_this_run : (t : Tables) (name : List ℕ) (number : ℕ) (rows : List BindingRow) (strategy : CheckedStrategy) (bound : BoundParts) → rows ≡ filter (is_binding_of name number) t.bindings → bound ≡ bound_of (known_of t rows) strategy → bound ≡ bound_of (known_in t name number) strategy
of_this_run t name number rows strategy bound are is = is ∙ ap (λ (k : Templates). bound_of k strategy) (ap (known_of t) are ∙ of_run t name number)

pub all_named : (t : Tables) (name : List ℕ) (number : ℕ) (rows : List BindingRow) → rows ≡ filter (is_binding_of name number) t.bindings → AreBindings t (filter (is_binding_of name number) t.bindings) → AreBindings t rows
all_named t name number rows are all = subst (AreBindings t) (sym are) all

-- the one analysis that its rows of binding bind has so many revisions
pub so_many : (t : Tables) (name : List ℕ) (number : ℕ) (strategy : CheckedStrategy) (step : Option ℕ) (own other : AnalysisParts) (rows : ℕ) → analysis_at (bound_of (known_in t name number) strategy) step ≡ Some own → IsRunBound name number strategy step t other
    → rows ≡ length (filter (is_binding_of name number) t.bindings) → rows ≡ length (distinct own.revisions)
so_many t name number strategy step own other rows is bound many = many ∙ bound.rows ∙ ap (λ (a : AnalysisParts). length (distinct a.revisions)) (some_same other own (sym bound.is ∙ is))
