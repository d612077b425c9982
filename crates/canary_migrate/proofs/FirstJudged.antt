-- Rows of the first schema whose migration is sound are those of contents of its time, if no metric
-- has `passAfter`; and the other way round.
use Rattle.std.proofs.Common.{◌≡◌, ◌-◌, ℕ, zero, suc, List, [], ◌∷◌, ◌++◌, length, Bool, true, false, IsTrue, Some, None, refl, sym, ap, ◌∙◌, subst, arith}
use Rattle.std.specs.Prelude.{Option, cond, ◌&&◌, ◌||◌, ◌==◌, not, nat_lt, map, filter, find, flat_map, slice_get, unwrap_or, is_none}
use Rattle.std.specs.List.{AllByRecursion, list_all, list_any}
use Rattle.std.specs.FinMap.{get}
use Rattle.std.specs.Cmp.Lexicographic.{pointwise}
use Rattle.std.specs.Str.{bytes_eq}
use Rattle.canary_plan.specs.declared.analysis_parts.AnalysisParts.{AnalysisParts}
use Rattle.canary_plan.specs.declared.bound.BoundParts.{BoundParts}
use Rattle.canary_plan.specs.declared.command.Command.TheVariants as command
use Rattle.canary_plan.specs.declared.refusal.Refusal.TheVariants.{UnknownTemplate, BadStrategy}
use Rattle.canary_plan.specs.declared.service.ServiceSpec.{ServiceSpec}
use Rattle.canary_plan.specs.declared.strategy.CheckedStrategy.{CheckedStrategy}
use Rattle.canary_plan.specs.declared.template.Template.{Template}
use Rattle.canary_plan.specs.Commands.{all_names}
use Rattle.canary_plan.specs.PlanRefusals.{analyses, is_bad_strategy, strategy_refusal}
use Rattle.canary_plan.specs.Plans.{Templates, bound_of, strategy_of, revisions_if, all_revisions, is_within_limits, is_background_within_limits, has_unknown}
use Rattle.canary_plan.specs.Refusals.{first_that_holds}
use Rattle.canary_canonical.specs.Readings.{canonical_in}
use Rattle.canary_canonical.specs.Texts.{command_text}
use Rattle.canary_release.specs.declared.state.ServiceState.{ServiceState}
use Rattle.canary_release.specs.Desks.{ModelService, revisions_of, newest}
use Rattle.canary_release.specs.Order.{IsInOrder, IsInRevisions, known_by}
use Rattle.canary_release.specs.declared.service.ServiceParts.{ServiceParts}
use Rattle.canary_release.specs.Parts.{is_bound, is_unbound, is_step_bound, is_background_bound, is_broken, is_misbound, is_refused, runs_wanted, is_misplaced, is_misnumbered, repeats_number, has_wrong_tallies, has_other_revisions, is_background_run, is_step_run, has_background_run, is_astray, is_judged}
use Rattle.canary_release.specs.Rules.Passing.{next_move, is_by}
use Rattle.canary_release.specs.Services.{is_done, is_in_progress, is_held}
use Rattle.canary_release.specs.Stored.{stored_form}
use Rattle.canary_once.specs.Contents.{Contents}
use Rattle.canary_once.specs.Sound.{AreContents}
use Rattle.canary_tables_rows.specs.declared.rows.BindingRow.{BindingRow}
use Rattle.canary_tables_rows.specs.declared.rows.RevisionRow.{RevisionRow}
use Rattle.canary_tables_rows.specs.Limits.{AreWithin, IsBindingWithin, IsRevisionWithin, IsTallyWithin}
use Rattle.canary_tables_rows.specs.Tables.{Tables, is_revision, is_binding}
use Rattle.canary_tables_contents.specs.Tables.{AreRows, IsReadable, row_if, revision_rows, is_of_template, binding_rows}
use Rattle.canary_tables_contents.specs.Values.{revision_row, service_row, binding_row, made_from}
use Rattle.canary_tables_read.specs.declared.first.TemplateRow.{TemplateRow}
use Rattle.canary_migrate.specs.Migrated.{FirstTables, first_revision, first_of, bindings_to, bindings_of_runs, all_bindings, tally_of, migrated}
use Rattle.canary_migrate.specs.FirstContents.{is_plain, is_plain_command, is_plain_row, AreFirstContents, template_row, first_tally, first_rows}
use Rattle.canary_migrate.proofs.Filters.{own_name, own_number, all_passing, by_tests, none_pass, map_back}
use Rattle.canary_migrate.proofs.FirstBound.{alone_bound}
use Rattle.canary_migrate.proofs.FirstBindings.{own_rows, attempt_alone, bound_of_service}
use Rattle.canary_migrate.proofs.FirstMigrates.{revisions_back, tallies_back, bindings_are}
use Rattle.std.proofs.lemmas.List.Elements.{filter-append}
use Rattle.std.proofs.lemmas.List.{append-nil}

-- What the first schema has of migrated rows is the rows that were migrated.

each : {X : Type 0} (P : X → Type 0) → ((x : X) → P x) → (xs : List X) → AllByRecursion P xs
each P h [] = tt
each P h (x ∷ xs) = (h x, each P h xs)

pub first_of_migrated : (f : FirstTables) → first_rows (migrated f) ≡ f
first_of_migrated f =
    let templates : map template_row (map first_revision f.templates) ≡ f.templates = map_back first_revision template_row f.templates (each (λ row. template_row (first_revision row) ≡ row) (λ row. refl) f.templates) in
    let tallies : map first_tally (map (tally_of f.measurements) f.tallies) ≡ f.tallies = map_back (tally_of f.measurements) first_tally f.tallies (each (λ row. first_tally (tally_of f.measurements row) ≡ row) (λ row. refl) f.tallies) in
    λ i. record f { templates = templates i; tallies = tallies i }

-- Booleans.

or_left : (a b : Bool) → (a || b) ≡ false → a ≡ false
or_left true b e = cc e
or_left false b e = refl

or_right : (a b : Bool) → (a || b) ≡ false → b ≡ false
or_right true b e = cc e
or_right false b e = e

not_off : (b : Bool) → not b ≡ false → b ≡ true
not_off true e = refl
not_off false e = cc e

and_left : (a b : Bool) → (a && b) ≡ true → a ≡ true
and_left true b e = refl
and_left false b e = cc e

and_right : (a b : Bool) → (a && b) ≡ true → b ≡ true
and_right true b e = e
and_right false b e = cc e

all_true : {X : Type 0} (p : X → Bool) (xs : List X) → IsTrue (list_all p xs) → AllByRecursion (λ x. IsTrue (p x)) xs
all_true p [] e = tt
all_true p (x ∷ xs) e = (and_left (p x) (list_all p xs) e, all_true p xs (and_right (p x) (list_all p xs) e))

true_all : {X : Type 0} (p : X → Bool) (xs : List X) → AllByRecursion (λ x. IsTrue (p x)) xs → IsTrue (list_all p xs)
true_all p [] all = refl
true_all p (x ∷ xs) all = both (p x) (list_all p xs) all.0 (true_all p xs all.1)
  where
    both : (a b : Bool) → a ≡ true → b ≡ true → (a && b) ≡ true
    both true b ea eb = eb
    both false b ea eb = cc ea

-- Unbroken parts are bound to their own templates, or to none.

all_false : (bs : List Bool) → list_any (λ (b : Bool). b) bs ≡ false → AllByRecursion (λ (b : Bool). b ≡ false) bs
all_false [] e = tt
all_false (b ∷ bs) e = (or_left b (list_any (λ (b : Bool). b) bs) e, all_false bs (or_right b (list_any (λ (b : Bool). b) bs) e))

own_or_none : (a b c d : Bool) → (not (a || (b && c)) || d) ≡ false → a ≡ false → c ≡ true
own_or_none true b c d e off = cc off
own_or_none false b c d e off = and_right b c (not_off (b && c) (or_left (not (b && c)) d e))

-- why parts make no service, one cause after another
abbrev causes : ServiceParts → List Bool
causes s =
    let service = s.service in
    let going = is_in_progress service.state in
    let runs = s.runs.open_runs in
    is_misplaced service
    ∷ nat_lt service.last service.entered
    ∷ nat_lt 1000000 s.runs.count
    ∷ (going && nat_lt (1000000 - s.runs.count) (runs_wanted s))
    ∷ list_any (is_misnumbered s.runs.count) runs
    ∷ repeats_number runs
    ∷ list_any has_wrong_tallies runs
    ∷ (not going && nat_lt 0 (length runs))
    ∷ nat_lt 1 (length (filter is_background_run runs))
    ∷ nat_lt 1 (length (filter is_step_run runs))
    ∷ list_any (is_astray service) runs
    ∷ (has_background_run s && (not service.background || service.background_hold))
    ∷ (is_held service && not going)
    ∷ (service.background && is_none service.strategy.background)
    ∷ (service.background_hold && not service.background)
    ∷ list_any is_judged runs
    ∷ is_by service.last (next_move service)
    ∷ is_misbound service
    ∷ list_any (has_other_revisions service) runs
    ∷ []

unbound_if : (s : ModelService) → is_broken (stored_form s) ≡ false → is_bound s.service ≡ false → is_unbound s.service ≡ true
unbound_if s e off =
    let f = all_false (causes (stored_form s)) e in
    let misbound : is_misbound s.service ≡ false = f.1.1.1.1.1.1.1.1.1.1.1.1.1.1.1.1.1.0 in
    own_or_none (is_bound s.service) (is_done s.service.state) (is_unbound s.service) (is_refused s.service.bound) misbound off

no_revisions : (steps : List (Option AnalysisParts)) → list_all (λ (a : Option AnalysisParts). is_none a) steps ≡ true → flat_map revisions_if steps ≡ []
no_revisions [] e = refl
no_revisions (None ∷ steps) e = no_revisions steps e
no_revisions (Some a ∷ steps) e = cc e

none_if : (a : Option AnalysisParts) → is_none a ≡ true → revisions_if a ≡ []
none_if None e = refl
none_if (Some a) e = cc e

none_bound : (st : ServiceState) → is_unbound st ≡ true → all_revisions st.bound ≡ []
none_bound st e =
    let none = and_right (length st.bound.steps == length st.strategy.steps) (list_all (λ (a : Option AnalysisParts). is_none a) st.bound.steps && is_none st.bound.background) e in
    λ i. no_revisions st.bound.steps (and_left (list_all (λ (a : Option AnalysisParts). is_none a) st.bound.steps) (is_none st.bound.background) none) i
    ++ none_if st.bound.background (and_right (list_all (λ (a : Option AnalysisParts). is_none a) st.bound.steps) (is_none st.bound.background) none) i

not_bad : (a b : Bool) → first_that_holds ((a, UnknownTemplate) ∷ (b, BadStrategy) ∷ []) ≡ None → b ≡ false
not_bad true b e = cc e
not_bad false true e = cc e
not_bad false false e = refl

within_limits : (known : Templates) (made : ServiceSpec) → strategy_refusal known made ≡ None → (list_all is_within_limits made.steps && is_background_within_limits made.background) ≡ true
within_limits known made accepted =
    let fine : is_bad_strategy made ≡ false = not_bad (list_any (has_unknown known) (analyses made)) (is_bad_strategy made) accepted in
    not_off (list_all is_within_limits made.steps && is_background_within_limits made.background) (or_right (nat_lt 64 (length made.steps)) (not (list_all is_within_limits made.steps && is_background_within_limits made.background)) fine)

-- From rows whose migration is that of contents.

all_after : {X Y : Type 0} (P : Y → Type 0) (f : X → Y) (xs : List X) → AllByRecursion (λ x. P (f x)) xs → AllByRecursion P (map f xs)
all_after P f [] all = tt
all_after P f (x ∷ xs) all = (all.0, all_after P f xs all.1)

-- `is_bound`, of the parts of a stand
abbrev is_bound_by : CheckedStrategy → BoundParts → Bool
is_bound_by st b = pointwise is_step_bound st.steps b.steps && is_background_bound st.background b.background

module _ (f : FirstTables) (c : Contents) (rows : AreRows (migrated f) c) (readable : IsReadable c) (lawful : AreContents c) (plain : IsTrue (list_all is_plain_row f.templates)) where
  abbrev IsPlain : RevisionRow → Type 0
  IsPlain row = IsTrue (is_plain_command (canonical_in row.spec))

  plain_rows : AllByRecursion IsPlain (map first_revision f.templates)
  plain_rows = all_after IsPlain first_revision f.templates (all_true is_plain_row f.templates plain)

  revisions_are : (name : List ℕ) (ts : List Template) → get c.desk.templates name ≡ Some ts → (number : ℕ) → filter (is_revision name number) (map first_revision f.templates) ≡ revision_rows name number ts
  revisions_are name ts e number = rows.revisions name number ∙ ap (λ (o : Option (List Template)). revision_rows name number (unwrap_or o [])) e

  no_second : (name : List ℕ) → filter (is_revision name 2) (map first_revision f.templates) ≡ []
  no_second name = none_pass (is_revision name 2) (map first_revision f.templates) (all_after (λ (row : RevisionRow). is_revision name 2 row ≡ false) first_revision f.templates (each (λ (row : TemplateRow). is_revision name 2 (first_revision row) ≡ false) (λ row. off (bytes_eq name row.name)) f.templates))
    where
      off : (b : Bool) → (b && (2 == 1)) ≡ false
      off true = refl
      off false = refl

  templates_first : (name : List ℕ) (ts : List Template) → get c.desk.templates name ≡ Some ts → (t : Template) × (ts ≡ t ∷ []) × IsTrue (is_plain t.spec)
  templates_first name [] e = let is : IsInRevisions name [] = lawful.desk.templates name [] e in absurd (omega (arith, is.some))
  templates_first name (t ∷ []) e =
      let passing : AllByRecursion IsPlain (revision_rows name 1 (t ∷ [])) = subst (AllByRecursion IsPlain) (revisions_are name (t ∷ []) e 1) (all_passing IsPlain (is_revision name 1) (map first_revision f.templates) plain_rows) in
      let read : canonical_in (command_text (command.Template t.spec)) ≡ Some (command.Template t.spec) =
      (subst (λ (o : Option (List Template)). AllByRecursion (λ (x : Template). canonical_in (command_text (command.Template x.spec)) ≡ Some (command.Template x.spec)) (unwrap_or o [])) e (readable.templates name)).0 in
      (t, refl, subst (λ o. IsTrue (is_plain_command o)) read passing.0)
  templates_first name (t ∷ u ∷ ts) e = let no : [] ≡ revision_row name u ∷ [] = sym (no_second name) ∙ revisions_are name (t ∷ u ∷ ts) e 2 in cc no

  attempt_rows : (name : List ℕ) (s : ModelService) → get c.desk.services name ≡ Some s → (template : List ℕ)
      → row_if (binding_row name 0) (find (is_of_template template) (map first_of (all_names (analyses s.made)))) ≡ row_if (binding_row name 0) (find (is_of_template template) (all_revisions s.service.bound))
  attempt_rows name s e template =
      let names = all_names (analyses s.made) in
      sym (
      bound_of_service f.services f.runs name 0 template (service_row name s) s.made (rows.services name ∙ ap (row_if (service_row name)) e) (ap made_from (readable.made name s e))
      ∙ filter-append (is_binding name 0 template) (bindings_to name 0 names) (bindings_of_runs f.runs name s.made (length s.past.runs))
      ∙ (λ i. own_rows name 0 template (map first_of names) i ++ attempt_alone f.runs name s.made (length s.past.runs) template i)
      ∙ append-nil (row_if (binding_row name 0) (find (is_of_template template) (map first_of names)))
      )
      ∙ rows.bindings name 0 template ∙ ap (binding_rows name 0 template) e

  none_named : (name : List ℕ) (s : ModelService) → get c.desk.services name ≡ Some s → all_revisions s.service.bound ≡ [] → all_names (analyses s.made) ≡ []
  none_named name s e none = by_names (all_names (analyses s.made)) (λ template. attempt_rows name s e template ∙ ap (λ rs. row_if (binding_row name 0) (find (is_of_template template) rs)) none)
    where
      by_names : (names : List (List ℕ)) → ((template : List ℕ) → row_if (binding_row name 0) (find (is_of_template template) (map first_of names)) ≡ []) → names ≡ []
      by_names [] all = refl
      by_names (n ∷ ns) all =
          let found : binding_row name 0 (first_of n) ∷ [] ≡ [] = sym (ap (λ b. row_if (binding_row name 0) (cond b (Some (first_of n)) (find (is_of_template n) (map first_of ns)))) (own_name n)) ∙ all n in
          cc found

  services_first : (name : List ℕ) (s : ModelService) → get c.desk.services name ≡ Some s → IsTrue (is_bound s.service)
  services_first name s e = by_test (is_bound s.service) refl
    where
      by_test : (b : Bool) → is_bound s.service ≡ b → is_bound s.service ≡ true
      by_test true is = is
      by_test false off =
          let o : IsInOrder c.desk.templates name s = lawful.desk.services name s e in
          let known : Templates = known_by c.desk.templates o.bound.binding in
          let to : s.service.bound ≡ bound_of known (strategy_of s.made) = o.bound.bound ∙ ap (bound_of known) o.strategy in
          let none : all_names (analyses s.made) ≡ [] = none_named name s e (none_bound s.service (unbound_if s o.parts off)) in
          (λ i. is_bound_by (o.strategy i) (to i)) ∙ alone_bound known s.made (within_limits (newest c.desk.templates) s.made o.accepted) none

  pub contents_first : AreFirstContents c
  contents_first = record { templates = templates_first; services = services_first }

-- To rows that are judged once they are migrated.

module _ (t : Tables) (c : Contents) (rows : AreRows t c) (readable : IsReadable c) (lawful : AreContents c) (firsts : AreFirstContents c) where
  plain_at : (o : Option (List Template)) → ((ts : List Template) → o ≡ Some ts → (x : Template) × (ts ≡ x ∷ []) × IsTrue (is_plain x.spec)) → (place : ℕ) (x : Template) → slice_get (unwrap_or o []) place ≡ Some x → IsTrue (is_plain x.spec)
  plain_at None is place x at = cc at
  plain_at (Some ts) is place x at = let h = is ts refl in by_list h.0 h.2 place (subst (λ us. slice_get us place ≡ Some x) h.1 at)
    where
      by_list : (y : Template) → IsTrue (is_plain y.spec) → (place : ℕ) → slice_get (y ∷ []) place ≡ Some x → IsTrue (is_plain x.spec)
      by_list y plain zero at = let same : y ≡ x = cc at in subst (λ (z : Template). IsTrue (is_plain z.spec)) same plain
      by_list y plain (suc place) at = cc at

  read_at : (ts : List Template) → AllByRecursion (λ (x : Template). canonical_in (command_text (command.Template x.spec)) ≡ Some (command.Template x.spec)) ts → (place : ℕ) (x : Template) → slice_get ts place ≡ Some x → canonical_in (command_text (command.Template x.spec)) ≡ Some (command.Template x.spec)
  read_at [] all place x at = cc at
  read_at (y ∷ ts) all zero x at = let same : y ≡ x = cc at in subst (λ (z : Template). canonical_in (command_text (command.Template z.spec)) ≡ Some (command.Template z.spec)) same all.0
  read_at (y ∷ ts) all (suc place) x at = read_at ts all.1 place x at

  abbrev IsPlainRevision : RevisionRow → Type 0
  IsPlainRevision row = IsTrue (is_plain_row (template_row row))

  plain_under : (name : List ℕ) (number : ℕ) → AllByRecursion IsPlainRevision (revision_rows name number (revisions_of c.desk.templates name))
  plain_under name zero = tt
  plain_under name (suc place) = by_place (slice_get (revisions_of c.desk.templates name) place) refl
    where
      by_place : (o : Option Template) → slice_get (revisions_of c.desk.templates name) place ≡ o → AllByRecursion IsPlainRevision (row_if (revision_row name) o)
      by_place None at = tt
      by_place (Some x) at =
          let plain : IsTrue (is_plain x.spec) = plain_at (get c.desk.templates name) (λ ts e. firsts.templates name ts e) place x at in
          (subst (λ o. IsTrue (is_plain_command o)) (sym (read_at (revisions_of c.desk.templates name) (readable.templates name) place x at)) plain, tt)

  pub plain_templates : IsTrue (list_all is_plain_row (map template_row t.revisions))
  plain_templates =
      true_all is_plain_row (map template_row t.revisions) (all_after (λ (row : TemplateRow). IsTrue (is_plain_row row)) template_row t.revisions
      (by_tests (λ (x : RevisionRow). is_revision x.name x.revision) IsPlainRevision (λ x i. own_name x.name i && own_number x.revision i) t.revisions
      (λ x. subst (AllByRecursion IsPlainRevision) (sym (rows.revisions x.name x.revision)) (plain_under x.name x.revision))))

  -- a program can hold what it could hold, and the rows of binding are the same in another order
  pub migrated_within : AreWithin t → AreWithin (migrated (first_rows t))
  migrated_within w = record {
    callers = w.callers;
    kept = w.kept;
    revisions = subst (AllByRecursion IsRevisionWithin) (sym (revisions_back t c rows readable lawful firsts)) w.revisions;
    services = w.services;
    bindings =
        by_tests (λ (x : BindingRow). is_binding x.service x.run x.template) IsBindingWithin (λ x i. own_name x.service i && (own_number x.run i && own_name x.template i)) (all_bindings t.services t.runs)
        (λ x. subst (AllByRecursion IsBindingWithin) (rows.bindings x.service x.run x.template ∙ sym (bindings_are t c rows readable lawful firsts x.service x.run x.template))
        (all_passing IsBindingWithin (is_binding x.service x.run x.template) t.bindings w.bindings));
    runs = w.runs;
    tallies = subst (AllByRecursion IsTallyWithin) (sym (tallies_back t c rows readable lawful firsts)) w.tallies;
    measurements = w.measurements;
    history = w.history;
  }
