-- The templates that rows of binding name, found one after another.
use Rattle.std.proofs.Common.{◌≡◌, Bor, inl, inr, ℕ, zero, suc, ◌+◌, ◌<◌, ◌≤◌, ◌==◌, List, [], ◌∷◌, ◌++◌, length, take, get_or, Bool, true, false, Some, None, refl, sym, ap, ◌∙◌, subst}
use Rattle.std.specs.Prelude.{Option, ◌&&◌, cond, filter, is_some, is_none, option_map, option_and_then, slice_get}
use Rattle.std.specs.Option.{option_copied}
use Rattle.std.specs.Str.{bytes_eq}
use Rattle.std.specs.List.{AllByRecursion}
use Rattle.std.specs.FinMap.{get, insert, empty, get-empty}
use Rattle.std.specs.Ordering.{nat_cmp}
use Rattle.std.specs.Cmp.Lexicographic.{slice_cmp}
use Rattle.std.proofs.lemmas.List.{take_more, take_all}
use Rattle.std.proofs.lemmas.List.Elements.{filter-append}
use Rattle.sqlite.specs.State.{State}
use Rattle.canary_plan.specs.declared.analysis_parts.AnalysisParts.{AnalysisParts}
use Rattle.canary_plan.specs.declared.bound.BoundParts.{BoundParts}
use Rattle.canary_plan.specs.declared.strategy.CheckedStrategy.{CheckedStrategy}
use Rattle.canary_plan.specs.declared.template.Template.{Template}
use Rattle.canary_plan.specs.Plans.{Templates, bound_of, analysis_at}
use Rattle.canary_tables_rows.specs.declared.rows.BindingRow.{BindingRow}
use Rattle.canary_tables_rows.specs.declared.rows.RevisionRow.{RevisionRow}
use Rattle.canary_tables_rows.specs.Tables.{Tables, is_revision, is_binding, is_binding_of}
use Rattle.canary_tables_schema.specs.Stores.{IsUsable, Stores}
use Rattle.canary_tables_contents.specs.Values.{revision_of_row}
use Rattle.canary_tables_contents.specs.Reading.{first_row, revision_bound, known_in}
use Rattle.canary_tables_contents.specs.Judged.{AreTemplatesJudged, IsRevisionJudged}
use Rattle.canary_tables_contents.specs.JudgedLaws.{NameRevisions, AttemptsNameRevisions, RunsNameRevisions}
use Rattle.canary_tables_read.specs.Finds.{IsSame}
use Rattle.canary_tables_adopt.specs.Bindings.{IsBinding, IsTemplateOf, known_of, AreBindings, IsKnownBy, IsBoundWhole, IsKnownIn, IsAttemptBound, IsRunBound}
use Rattle.canary_tables_adopt.specs.Templates.{IsReadAs}
use Rattle.canary_tables_adopt.proofs.Each.{one_of_all}
use Rattle.canary_tables_adopt.proofs.JudgedStrategies.{kept_judged, judged_at}
use Rattle.canary_tables_adopt.proofs.KnownAmong.{Found, got_more}
use Rattle.canary_tables_adopt.proofs.PlacedLemmas.{filter_twice}
use Rattle.canary_tables_adopt.proofs.Names.{equal_names, same_name}
use Rattle.canary_tables_adopt.proofs.Standing.{same_then, stores_then}

-- One row.

pub no_template_there : (t : Tables) (row : BindingRow) → None ≡ first_row (filter (is_revision row.template row.revision) t.revisions) → IsTemplateOf row t None
no_template_there t row none is = let no_value : None ≡ Some is.template = ap (option_and_then revision_of_row) none ∙ is.is in cc

pub template_found : (t : Tables) (row : BindingRow) (found : RevisionRow) (read : Option Template) → Some found ≡ first_row (filter (is_revision row.template row.revision) t.revisions) → IsReadAs found read → IsTemplateOf row t read
template_found t row found (Some template) there read = ap (option_and_then revision_of_row) (sym there) ∙ read.is
template_found t row found None there read = λ is. read is.template (record { is = ap (option_and_then revision_of_row) there ∙ is.is; accepted = is.accepted })

-- Row after row.

abbrev names : List ℕ → BindingRow → Bool
names q row = bytes_eq q row.template

-- what is found, and there is no row of a name under which nothing is
pub record AreFound (t : Tables) (rows : List BindingRow) (found : Found) : Type 0 where
  pub value : get found ≡ known_of t rows
  pub none : (q : List ℕ) → get found q ≡ None → filter (names q) rows ≡ []

pub none_yet : (t : Tables) (found : Found) → found ≡ empty → AreFound t [] found
none_yet t found is = record { value = λ i q. (ap (λ (m : Found). get m q) is ∙ get-empty (slice_cmp nat_cmp) q) i; none = λ q e. refl }

some_first : {X Y : Type 0} (f : X → Option Y) (xs ys : List X) (y : Y) → option_and_then f (first_row xs) ≡ Some y → option_and_then f (first_row (xs ++ ys)) ≡ Some y
some_first f [] ys y e = absurd (cc)
some_first f (x ∷ xs) ys y e = e

no_more : {X : Type 0} (xs : List X) → xs ++ [] ≡ xs
no_more [] = refl
no_more (x ∷ xs) = ap (λ (ys : List _). x ∷ ys) (no_more xs)

-- under another name nothing changes
other_name : (q : List ℕ) (rows : List BindingRow) (row : BindingRow) → bytes_eq q row.template ≡ false → filter (names q) (rows ++ row ∷ []) ≡ filter (names q) rows
other_name q rows row other = filter-append (names q) rows (row ∷ []) ∙ ap (λ b. filter (names q) rows ++ cond b (row ∷ []) []) other ∙ no_more (filter (names q) rows)

own_name : (q : List ℕ) (rows : List BindingRow) (row : BindingRow) → bytes_eq q row.template ≡ true → filter (names q) (rows ++ row ∷ []) ≡ filter (names q) rows ++ row ∷ []
own_name q rows row own = filter-append (names q) rows (row ∷ []) ∙ ap (λ b. filter (names q) rows ++ cond b (row ∷ []) []) own

abbrev first_named : Tables → List BindingRow → Option Template
first_named t rows = option_and_then (revision_bound t.revisions) (first_row rows)

-- one whose name is new
new_value : (t : Tables) (rows : List BindingRow) (row : BindingRow) (found : Found) (x : Template) → AreFound t rows found → get found row.template ≡ None → revision_bound t.revisions row ≡ Some x → (q : List ℕ) (b : Bool) → bytes_eq q row.template ≡ b
    → (cond b (Some x) (get found q) ≡ known_of t (rows ++ row ∷ []) q) × (cond b (Some x) (get found q) ≡ None → filter (names q) (rows ++ row ∷ []) ≡ [])
new_value t rows row found x are fresh is q true own =
    let none : filter (names q) rows ≡ [] = are.none q (ap (get found) (equal_names q row.template own) ∙ fresh) in
    let alone : filter (names q) (rows ++ row ∷ []) ≡ row ∷ [] = own_name q rows row own ∙ ap (λ (l : List BindingRow). l ++ row ∷ []) none in
    (sym (ap (first_named t) alone ∙ is), λ e. cc)
new_value t rows row found x are fresh is q false other =
    let same : filter (names q) (rows ++ row ∷ []) ≡ filter (names q) rows = other_name q rows row other in
    ((λ i. are.value i q) ∙ sym (ap (first_named t) same), λ e. same ∙ are.none q e)

pub one_new : (t : Tables) (rows : List BindingRow) (row : BindingRow) (found more : Found) (x : Template) → AreFound t rows found → get found row.template ≡ None → revision_bound t.revisions row ≡ Some x → more ≡ insert found row.template x → AreFound t (rows ++ row ∷ []) more
one_new t rows row found more x are fresh is put =
    subst (AreFound t (rows ++ row ∷ [])) (sym put) (record {
      value = λ i q. (got_more found row.template x q ∙ (new_value t rows row found x are fresh is q (bytes_eq q row.template) refl).0) i;
      none = λ q e. (new_value t rows row found x are fresh is q (bytes_eq q row.template) refl).1 (sym (got_more found row.template x q) ∙ e);
    })

-- one whose name was there
old_value : (t : Tables) (rows : List BindingRow) (row : BindingRow) (found : Found) (x : Template) → AreFound t rows found → get found row.template ≡ Some x → (q : List ℕ) (b : Bool) → bytes_eq q row.template ≡ b
    → (get found q ≡ known_of t (rows ++ row ∷ []) q) × (get found q ≡ None → filter (names q) (rows ++ row ∷ []) ≡ [])
old_value t rows row found x are there q true own =
    let value : get found q ≡ Some x = ap (get found) (equal_names q row.template own) ∙ there in
    let first : first_named t (filter (names q) rows) ≡ Some x = sym (λ i. are.value i q) ∙ value in
    (value ∙ sym (ap (first_named t) (own_name q rows row own) ∙ some_first (revision_bound t.revisions) (filter (names q) rows) (row ∷ []) x first), λ e. (let no_value : None ≡ Some x = sym e ∙ value in cc))
old_value t rows row found x are there q false other =
    let same : filter (names q) (rows ++ row ∷ []) ≡ filter (names q) rows = other_name q rows row other in
    ((λ i. are.value i q) ∙ sym (ap (first_named t) same), λ e. same ∙ are.none q e)

pub one_old : (t : Tables) (rows : List BindingRow) (row : BindingRow) (found more : Found) (x : Template) → AreFound t rows found → get found row.template ≡ Some x → more ≡ found → AreFound t (rows ++ row ∷ []) more
one_old t rows row found more x are there stays =
    subst (AreFound t (rows ++ row ∷ [])) (sym stays) (record {
      value = λ i q. (old_value t rows row found x are there q (bytes_eq q row.template) refl).0 i;
      none = λ q. (old_value t rows row found x are there q (bytes_eq q row.template) refl).1;
    })

-- What stands under a name.

pub copied_none : {T : Type 0} (r : Option (Bor T)) (o : Option T) → option_copied r ≡ o → is_some r ≡ false → o ≡ None
copied_none None o is e = sym is
copied_none (Some x) o is e = absurd (cc)

pub copied_some : {T : Type 0} (r : Option (Bor T)) (o : Option T) → option_copied r ≡ o → is_some r ≡ true → (x : T) × (o ≡ Some x)
copied_some None o is e = absurd (cc)
copied_some (Some x) o is e = (x.now, sym is)

-- The rows so far.

pub record KnownSoFar (rows : List BindingRow) (i : ℕ) (old now : State) (found : Found) : Type 0 where
  pub same : IsSame old now
  pub value : IsUsable now → (t : Tables) → Stores old t → AreFound t (take i rows) found

pub known_at_first : (rows : List BindingRow) (old : State) (found : Found) → found ≡ empty → KnownSoFar rows 0 old old found
known_at_first rows old found is = record { same = λ usable. (usable, refl); value = λ usable t has. none_yet t found is }

pub taken_more : (t : Tables) (rows : List BindingRow) (i : ℕ) (row : BindingRow) (found : Found) → i < length rows → row ≡ get_or rows i row → AreFound t (take i rows ++ row ∷ []) found → AreFound t (take (i + 1) rows) found
taken_more t rows i row found below at are = subst (λ rs. AreFound t rs found) (sym (take_more rows i row below ∙ ap (λ (r : BindingRow). take i rows ++ r ∷ []) (sym at))) are

pub known_new : (rows : List BindingRow) (i : ℕ) (row : BindingRow) (old between new : State) (found more : Found) (x : Template) → i < length rows → row ≡ get_or rows i row → KnownSoFar rows i old between found → IsSame between new → get found row.template ≡ None
    → (IsUsable new → (t : Tables) → Stores between t → IsTemplateOf row t (Some x)) → more ≡ insert found row.template x → KnownSoFar rows (i + 1) old new more
known_new rows i row old between new found more x below at before same fresh is put =
    record {
      same = same_then old between new before.same same;
      value = λ usable t has.
          let mid = (same usable).0 in
          taken_more t rows i row more below at (one_new t (take i rows) row found more x (before.value mid t has) fresh (is usable t (stores_then old between t before.same mid has)) put);
    }

pub known_old : (rows : List BindingRow) (i : ℕ) (row : BindingRow) (old between : State) (found more : Found) (x : Template) → i < length rows → row ≡ get_or rows i row → KnownSoFar rows i old between found → get found row.template ≡ Some x → more ≡ found
    → KnownSoFar rows (i + 1) old between more
known_old rows i row old between found more x below at before there stays =
    record { same = before.same; value = λ usable t has. taken_more t rows i row more below at (one_old t (take i rows) row found more x (before.value usable t has) there stays) }

pub known_done : (rows : List BindingRow) (i : ℕ) (old now : State) (found : Found) → KnownSoFar rows i old now found → length rows ≤ i → IsUsable now → (t : Tables) → Stores old t → get found ≡ known_of t rows
known_done rows i old now found so_far all usable t has = (so_far.value usable t has).value ∙ ap (known_of t) (take_all i rows all)

-- if a row names none, not all do
pub row_unbound : (rows : List BindingRow) (i : ℕ) (row : BindingRow) (old between new : State) → i < length rows → row ≡ get_or rows i row → IsSame old between → IsSame between new → IsUsable new → ((t : Tables) → Stores between t → IsTemplateOf row t None)
    → (t : Tables) → Stores old t → IsKnownBy rows t None
row_unbound rows i row old between new below at before same usable none t has all = none t (stores_then old between t before (same usable).0 has) (one_of_all (IsBinding t) rows i row below at all)

-- Those of a run.

in_turn : (a b c : Bool) → (a && b) && c ≡ a && (b && c)
in_turn true b c = refl
in_turn false b c = refl

pub by_template : (t : Tables) (name : List ℕ) (number : ℕ) (q : List ℕ) → filter (names q) (filter (is_binding_of name number) t.bindings) ≡ filter (is_binding name number q) t.bindings
by_template t name number q =
    filter_twice (names q) (is_binding_of name number) t.bindings ∙ (λ i. filter (λ (row : BindingRow). in_turn (bytes_eq name row.service) (number == row.run) (bytes_eq q row.template) i) t.bindings)

pub of_run : (t : Tables) (name : List ℕ) (number : ℕ) → known_of t (filter (is_binding_of name number) t.bindings) ≡ known_in t name number
of_run t name number = λ i q. first_named t (by_template t name number q i)

pub known_told : (t : Tables) (name : List ℕ) (number : ℕ) (rows : List BindingRow) (known : Option Templates) → rows ≡ filter (is_binding_of name number) t.bindings → IsKnownBy rows t known → IsKnownIn name number t known
known_told t name number rows (Some known) are is = is ∙ ap (known_of t) are ∙ of_run t name number
known_told t name number rows None are is = λ whole. is (subst (AreBindings t) (sym are) whole)

pub bound_told : (t : Tables) (name : List ℕ) (number : ℕ) (rows : List BindingRow) (known : Found) (strategy : CheckedStrategy) (bound : BoundParts) → rows ≡ filter (is_binding_of name number) t.bindings → IsKnownBy rows t (Some (get known)) → bound ≡ bound_of (get known) strategy
    → bound ≡ bound_of (known_in t name number) strategy
bound_told t name number rows known strategy bound are is to = to ∙ ap (λ (k : Templates). bound_of k strategy) (known_told t name number rows (Some (get known)) are is)

-- If templates are judged, a row that names a revision names an accepted one.

accepted_row : (t : Tables) → AreTemplatesJudged t → (row : BindingRow) (o : Option RevisionRow) → first_row (filter (is_revision row.template row.revision) t.revisions) ≡ o → is_some (option_and_then revision_of_row o) ≡ true → IsBinding t row
accepted_row t judged row None there some = absurd (cc)
accepted_row t judged row (Some found) there some =
    let is : IsRevisionJudged t found = judged_at (IsRevisionJudged t) (filter (is_revision row.template row.revision) t.revisions) 0 found (kept_judged (IsRevisionJudged t) (is_revision row.template row.revision) t.revisions judged) there in
    record { template = is.read; is = ap (option_and_then revision_of_row) there ∙ is.is; accepted = is.accepted }

all_accepted : (t : Tables) → AreTemplatesJudged t → (rows : List BindingRow) → AllByRecursion (λ (row : BindingRow). is_some (revision_bound t.revisions row) ≡ true) rows → AreBindings t rows
all_accepted t judged [] all = tt
all_accepted t judged (row ∷ rows) all =
    (accepted_row t judged row (first_row (filter (is_revision row.template row.revision) t.revisions)) refl all.0, all_accepted t judged rows all.1)

pub attempt_whole : (t : Tables) (name : List ℕ) (strategy : CheckedStrategy) (bound : BoundParts) → AttemptsNameRevisions → AreTemplatesJudged t → IsAttemptBound name strategy t bound → IsBoundWhole name 0 t
attempt_whole t name strategy bound law judged is =
    let own : IsAttemptBound name strategy t (bound_of (known_in t name 0) strategy) = subst (IsAttemptBound name strategy t) is.is is in
    all_accepted t judged (filter (is_binding_of name 0) t.bindings) (law t name strategy own.rows)

pub run_whole : (t : Tables) (name : List ℕ) (number : ℕ) (strategy : CheckedStrategy) (step : Option ℕ) (analysis : AnalysisParts) → RunsNameRevisions → AreTemplatesJudged t → IsRunBound name number strategy step t analysis → IsBoundWhole name number t
run_whole t name number strategy step analysis law judged is = all_accepted t judged (filter (is_binding_of name number) t.bindings) (law t name number strategy step analysis is.is is.rows)
