-- What the queries on `revision`, on `service` and on `binding` find.
use Rattle.std.proofs.Common.{◌≡◌, ◌≤◌, ◌∷◌, ◌==◌, [], ℕ, List, map, filter, take, length, not, Bool, true, false, refl, sym, ap, subst, ◌∙◌, arith}
use Rattle.std.specs.List.{list_any}
use Rattle.sqlite_keyed.proofs.ListLemmas.{none_counted, ascending_weaker}
use Rattle.sqlite.specs.declared.types.Value.TheVariants.{Text as Words}
use Rattle.sqlite.specs.Order.{Row, column}
use Rattle.sqlite.specs.State.{State, Shown}
use Rattle.canary_tables_rows.specs.declared.rows.RevisionRow.{RevisionRow}
use Rattle.canary_tables_rows.specs.declared.rows.BindingRow.{BindingRow}
use Rattle.canary_tables_rows.specs.Tables.{Tables, is_revision, is_revision_of, is_service, is_binding_of}
use Rattle.canary_tables_schema.specs.Layout.{service_at, revision_at, binding_at}
use Rattle.canary_tables_schema.specs.Cells.{integer, revision_cells, revision_in, service_cells, binding_cells}
use Rattle.canary_tables_schema.specs.Stores.{Stores}
use Rattle.canary_tables_read.specs.Finds.{TellsCells}
use Rattle.canary_tables_read.specs.Parts.{standing_cells}
use Rattle.canary_tables_read.proofs.Answer.{passes, shows}
use Rattle.canary_tables_read.proofs.Asking.{all_found}
use Rattle.canary_tables_read.proofs.Newest.{IsFirst}
use Rattle.canary_tables_read.proofs.Ordering.{NotBehind, not_above, listed_found}
use Rattle.canary_tables_read.proofs.Tests.{and_true, words_same, same_words, both_same, first_same}
use Rattle.canary_tables_read.proofs.Texts.{revision_text, revision_tests, revision_shown, revision_asks, newest_text, newest_tests, newest_asks, only_one, bindings_text, bindings_tests, bindings_shown, bindings_asks, has_bindings_text, has_bindings_tests, has_bindings_shown, has_bindings_asks, service_text, service_tests, service_shown, service_asks}
use Rattle.canary_tables_read.proofs.TypedRows.{Tells, taken}

tells_revision : (name : List ℕ) (number : ℕ) → Tells revision_cells (is_revision name number) revision_cells (λ row. Words name ∷ row) (passes revision_tests (Words name ∷ integer number ∷ [])) (shows revision_shown (Words name ∷ integer number ∷ []))
tells_revision name number = record {
  filled = λ x. (_, _, refl);
  tests = λ id x. both_same x.name name x.revision number;
  shown = λ id x h. ap (λ n. Words n ∷ integer x.revision ∷ Words x.spec ∷ []) (first_same name x.name _ h);
}

-- what is shown are the rows of the revision
pub revision_rows : (old new : State) (t : Tables) (name : List ℕ) (number : ℕ) (params : Row) (rows : List Row) → Stores old t → params ≡ Words name ∷ integer number ∷ [] → Shown revision_text params old new rows
    → TellsCells revision_cells (λ row. Words name ∷ row) (filter (is_revision name number) t.revisions) rows
revision_rows old new t name number params rows has given h =
    all_found revision_text revision_at revision_tests revision_shown revision_asks revision_cells (is_revision name number) revision_cells (λ row. Words name ∷ row) (Words name ∷ integer number ∷ []) (tells_revision name number) t.revisions rows
    (record { old = old; new = new; layout = has.layout; schema = has.holds.schema; numbered = has.holds.numbered.1.1.1.1.1.1.1.0; stored = has.holds.revisions; shows_rows = subst (λ p. Shown revision_text p old new rows) given h })

tells_newest : (name : List ℕ) → Tells revision_cells (is_revision_of name) revision_cells (λ row. Words name ∷ row) (passes newest_tests (Words name ∷ [])) (shows revision_shown (Words name ∷ []))
tells_newest name = record {
  filled = λ x. (_, _, refl);
  tests = λ id x. and_true _ ∙ words_same x.name name;
  shown = λ id x h. ap (λ n. Words n ∷ integer x.revision ∷ Words x.spec ∷ []) (same_words name x.name h);
}

revision_numbered : (name : List ℕ) (x : RevisionRow) (row : Row) → revision_cells x ≡ Words name ∷ row → column row 0 ≡ integer x.revision
revision_numbered name x [] e = absurd (cc)
revision_numbered name x (v ∷ row) e = cc

-- what is shown is the first of the template's revisions, in falling order
pub newest_rows : (old new : State) (t : Tables) (name : List ℕ) (params : Row) (rows : List Row) → Stores old t → params ≡ Words name ∷ [] → Shown newest_text params old new rows
    → (found : List RevisionRow) × IsFirst (filter (is_revision_of name) t.revisions) found × TellsCells revision_cells (λ row. Words name ∷ row) found rows
newest_rows old new t name params rows has given h =
    let l = listed_found revision_cells (λ row. Words name ∷ row) (λ x. integer x.revision) 0 (revision_numbered name) revision_in (λ x. refl) newest_text revision_at newest_tests revision_shown true 2 only_one newest_asks (is_revision_of name)
    (Words name ∷ []) (tells_newest name) (λ row. refl) t.revisions rows
    (record { old = old; new = new; layout = has.layout; schema = has.holds.schema; numbered = has.holds.numbered.1.1.1.1.1.1.1.0; stored = has.holds.revisions; shows_rows = subst (λ p. Shown newest_text p old new rows) given h }) in
    let cut : rows ≡ take 1 l.0 = l.1 in (
      take 1 l.2.ordered,
      record {
        ordered = l.2.ordered;
        same = l.2.same;
        falling = ascending_weaker (λ x y. NotBehind true (integer x.revision) (integer y.revision)) (λ x y. y.revision ≤ x.revision) (λ x y b. not_above y.revision x.revision b) l.2.ordered l.2.rising;
        are = refl;
      },
      ap (map (λ row. Words name ∷ row)) cut ∙ taken (λ row. Words name ∷ row) 1 l.0 ∙ ap (take 1) (sym l.2.are) ∙ sym (taken revision_cells 1 l.2.ordered),
    )

tells_service : (name : List ℕ) → Tells service_cells (is_service name) service_cells (λ row. Words name ∷ row) (passes service_tests (Words name ∷ [])) (shows service_shown (Words name ∷ []))
tells_service name = record {
  filled = λ x. (_, _, refl);
  tests = λ id x. and_true _ ∙ words_same x.name name;
  shown = λ id x h. ap (λ n. Words n ∷ Words x.spec ∷ standing_cells x.standing) (same_words name x.name h);
}

-- what is shown are the rows of the service
pub service_rows : (old new : State) (t : Tables) (name : List ℕ) (params : Row) (rows : List Row) → Stores old t → params ≡ Words name ∷ [] → Shown service_text params old new rows → TellsCells service_cells (λ row. Words name ∷ row) (filter (is_service name) t.services) rows
service_rows old new t name params rows has given h =
    all_found service_text service_at service_tests service_shown service_asks service_cells (is_service name) service_cells (λ row. Words name ∷ row) (Words name ∷ []) (tells_service name) t.services rows
    (record { old = old; new = new; layout = has.layout; schema = has.holds.schema; numbered = has.holds.numbered.1.1.1.0; stored = has.holds.services; shows_rows = subst (λ p. Shown service_text p old new rows) given h })

tells_binding : (service : List ℕ) (run : ℕ) → Tells binding_cells (is_binding_of service run) binding_cells (λ row. Words service ∷ row) (passes bindings_tests (Words service ∷ integer run ∷ [])) (shows bindings_shown (Words service ∷ integer run ∷ []))
tells_binding service run = record {
  filled = λ x. (_, _, refl);
  tests = λ id x. both_same x.service service x.run run;
  shown = λ id x h. ap (λ n. Words n ∷ integer x.run ∷ Words x.template ∷ integer x.revision ∷ []) (first_same service x.service _ h);
}

-- what is shown are the rows that bind the run
pub binding_rows : (old new : State) (t : Tables) (service : List ℕ) (run : ℕ) (params : Row) (rows : List Row) → Stores old t → params ≡ Words service ∷ integer run ∷ [] → Shown bindings_text params old new rows
    → TellsCells binding_cells (λ row. Words service ∷ row) (filter (is_binding_of service run) t.bindings) rows
binding_rows old new t service run params rows has given h =
    all_found bindings_text binding_at bindings_tests bindings_shown bindings_asks binding_cells (is_binding_of service run) binding_cells (λ row. Words service ∷ row) (Words service ∷ integer run ∷ []) (tells_binding service run) t.bindings rows
    (record { old = old; new = new; layout = has.layout; schema = has.holds.schema; numbered = has.holds.numbered.1.1.1.1.1.1.1.1.0; stored = has.holds.bindings; shows_rows = subst (λ p. Shown bindings_text p old new rows) given h })

same_length : {A B C : Type 0} (f : A → C) (g : B → C) (xs : List A) (ys : List B) → map f xs ≡ map g ys → length xs ≡ length ys
same_length f g [] [] e = refl
same_length f g [] (y ∷ ys) e = absurd (cc)
same_length f g (x ∷ xs) [] e = absurd (cc)
same_length f g (x ∷ xs) (y ∷ ys) e = let later : map f xs ≡ map g ys = cc in let more = same_length f g xs ys later in omega (arith, more)

twice : (b : Bool) → not (not b) ≡ b
twice true = refl
twice false = refl

-- a row is shown if one passes the test
some_shown : {X : Type 0} (whole : Row → Row) (told : X → Row) (test : X → Bool) (xs : List X) (rows : List Row) → map whole rows ≡ map told (filter test xs) → not (length rows == 0) ≡ list_any test xs
some_shown whole told test xs rows found = ap (λ n. not (n == 0)) (same_length whole told rows (filter test xs) found) ∙ ap not (none_counted test xs) ∙ twice _

abbrev template_of : BindingRow → Row
template_of x = Words x.template ∷ []

tells_bound : (service : List ℕ) → Tells binding_cells (is_binding_of service 0) template_of (λ row. row) (passes has_bindings_tests (Words service ∷ [])) (shows has_bindings_shown (Words service ∷ []))
tells_bound service = record {
  filled = λ x. (_, _, refl);
  tests = λ id x. both_same x.service service x.run 0;
  shown = λ id x h. refl;
}

-- a row is shown if the attempt is bound
pub has_bindings_found : (old new : State) (t : Tables) (service : List ℕ) (params : Row) (rows : List Row) → Stores old t → params ≡ Words service ∷ [] → Shown has_bindings_text params old new rows
    → not (length rows == 0) ≡ list_any (is_binding_of service 0) t.bindings
has_bindings_found old new t service params rows has given h =
    let found = all_found has_bindings_text binding_at has_bindings_tests has_bindings_shown has_bindings_asks binding_cells (is_binding_of service 0) template_of (λ row. row) (Words service ∷ []) (tells_bound service) t.bindings rows
    (record { old = old; new = new; layout = has.layout; schema = has.holds.schema; numbered = has.holds.numbered.1.1.1.1.1.1.1.1.0; stored = has.holds.bindings; shows_rows = subst (λ p. Shown has_bindings_text p old new rows) given h }) in
    some_shown (λ row. row) template_of (is_binding_of service 0) t.bindings rows found
