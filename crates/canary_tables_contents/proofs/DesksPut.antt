-- A template that is added, and a service that is made or changed: the rows of both.
use Rattle.std.proofs.Common.{◌≡◌, ℕ, zero, suc, ◌+◌, List, [], ◌∷◌, ◌++◌, length, Bool, true, false, Some, None, refl, sym, ap, ◌∙◌, append-nil}
use Rattle.std.specs.Prelude.{Option, cond, if◌then◌else◌, ◌==◌, ◌&&◌, filter, unwrap_or}
use Rattle.std.specs.Str.{bytes_eq}
use Rattle.std.specs.FinMap.{get, insert}
use Rattle.std.proofs.lemmas.List.Elements.{filter-append}
use Rattle.canary_plan.specs.declared.template.Template.{Template}
use Rattle.canary_plan.specs.declared.command.Command.{Command}
use Rattle.canary_plan.specs.declared.command.Command.TheVariants as command
use Rattle.canary_canonical.specs.Texts.{command_text}
use Rattle.canary_release.specs.declared.effect.Effect.{Effect}
use Rattle.canary_release.specs.declared.service.ServiceParts.{ServiceParts}
use Rattle.canary_release.specs.Desks.{ModelService, RevisionMap, revisions_of, with_revision as one_more, after, made_as}
use Rattle.canary_tables_rows.specs.declared.rows.ServiceColumns.{ServiceColumns}
use Rattle.canary_tables_rows.specs.declared.rows.RevisionRow.{RevisionRow}
use Rattle.canary_tables_rows.specs.declared.rows.ServiceRow.{ServiceRow}
use Rattle.canary_tables_rows.specs.Tables.{Tables, is_revision, is_service}
use Rattle.canary_tables_rows.specs.Changes.{with_revision, with_service, with_standing, change_where, HasService}
use Rattle.canary_tables_contents.specs.Values.{revision_row, service_row, standing_of}
use Rattle.canary_tables_contents.specs.Tables.{row_if, revision_rows}
use Rattle.canary_tables_contents.specs.Settling.{makes_service, service_put}
use Rattle.canary_tables_contents.proofs.SettledKeys.{NameMap, equal_names, own_name, other_name, at_name, same_value, changed_under}
use Rattle.canary_tables_contents.proofs.Pushed.{rows_at, pushed}
use Rattle.canary_tables_contents.proofs.SettledPasts.{HaveSamePasts}
use Rattle.canary_tables_contents.proofs.DesksRuled.{IsUpdate}

-- One row more, if there was none of its name.

pub row_added : {A R : Type 0} (row : List ℕ → A → R) (k q : List ℕ) (x : A) (o there : Option A) (b : Bool) → bytes_eq q k ≡ b → (b ≡ true → o ≡ there) → there ≡ None
    → row_if (row q) o ++ cond b (row k x ∷ []) [] ≡ row_if (row q) (cond b (Some x) o)
row_added row k q x o there true e at none = λ i. row_if (row q) ((at refl ∙ none) i) ++ row (sym (equal_names q k e) i) x ∷ []
row_added row k q x o there false e at none = append-nil _

-- A template.

template_asked : (template : Template) (asked : Command) → asked ≡ command.Template template.spec
    → ◌≡◌ {A = RevisionRow} (record { name = template.spec.name; revision = template.revision; spec = command_text asked }) (revision_row template.spec.name template)
template_asked template asked is i = record { name = template.spec.name; revision = template.revision; spec = command_text (is i) }

revisions_as : (q : List ℕ) (number : ℕ) (ts : List Template) → revision_rows q number ts ≡ rows_at (λ (n : ℕ). revision_row q) number ts
revisions_as q zero ts = refl
revisions_as q (suc place) ts = refl

revision_pushed : (ts : List Template) (x : Template) (q : List ℕ) (number n : ℕ) → n ≡ length ts + 1 → revision_rows q number ts ++ cond (number == n) (revision_row q x ∷ []) [] ≡ revision_rows q number (ts ++ x ∷ [])
revision_pushed ts x q number n last =
    ap (λ (rows : List RevisionRow). rows ++ cond (number == n) (revision_row q x ∷ []) []) (revisions_as q number ts)
    ∙ pushed (λ (n : ℕ). revision_row q) ts x number n last
    ∙ sym (revisions_as q number (ts ++ x ∷ []))

revision_put : (templates : RevisionMap) (k q : List ℕ) (x : Template) (n number : ℕ) (b : Bool) → bytes_eq q k ≡ b → n ≡ length (revisions_of templates k) + 1
    → revision_rows q number (revisions_of templates q) ++ cond (b && (number == n)) (revision_row k x ∷ []) [] ≡ revision_rows q number (unwrap_or (cond b (Some (revisions_of templates k ++ x ∷ [])) (get templates q)) [])
revision_put templates k q x n number true e last =
    let same : q ≡ k = equal_names q k e in
    (λ i. revision_rows q number (revisions_of templates (same i)) ++ cond (number == n) (revision_row (sym same i) x ∷ []) [])
    ∙ revision_pushed (revisions_of templates k) x q number n last
revision_put templates k q x n number false e last = append-nil _

pub revision_added : (t : Tables) (templates : RevisionMap) (template : Template) (asked : Command) (q : List ℕ) (number : ℕ) → asked ≡ command.Template template.spec → template.revision ≡ length (revisions_of templates template.spec.name) + 1
    → filter (is_revision q number) t.revisions ≡ revision_rows q number (revisions_of templates q)
    → filter (is_revision q number) (with_revision (record { name = template.spec.name; revision = template.revision; spec = command_text asked }) t).revisions ≡ revision_rows q number (revisions_of (one_more templates template.spec.name template) q)
revision_added t templates template asked q number is last are =
    let k : List ℕ = template.spec.name in
    let new : RevisionRow = revision_row k template in
    ap (λ (row : RevisionRow). filter (is_revision q number) (t.revisions ++ row ∷ [])) (template_asked template asked is)
    ∙ filter-append (is_revision q number) t.revisions (new ∷ [])
    ∙ ap (λ (rows : List RevisionRow). rows ++ cond (bytes_eq q k && (number == template.revision)) (new ∷ []) []) are
    ∙ revision_put templates k q template template.revision number (bytes_eq q k) refl last
    ∙ ap (λ (o : Option (List Template)). revision_rows q number (unwrap_or o [])) (sym (at_name templates k (revisions_of templates k ++ template ∷ []) q))

-- A service.

-- a service that was not there is made by its command
new_row : (found : Option ModelService) (asked : Command) (s : ServiceParts) (effects : List Effect) → found ≡ None → asked ≡ command.Service (made_as s.service) → s.runs.count ≡ length (after found s.service effects).past.runs
    → ◌≡◌ {A = ServiceRow} (record { name = s.service.name; spec = command_text asked; standing = standing_of s.service s.runs.count }) (service_row s.service.name (after found s.service effects))
new_row None asked s effects none made count = λ i. record { name = s.service.name; spec = command_text (made i); standing = standing_of s.service (count i) }
new_row (Some m) asked s effects none made count = let never : ⊥ = cc none in absurd never

-- and one that was there stands otherwise
old_row : (q : List ℕ) (found : Option ModelService) (m : ModelService) (s : ServiceParts) (effects : List Effect) → found ≡ Some m → s.runs.count ≡ length (after found s.service effects).past.runs
    → ◌≡◌ {A = ServiceRow} (record (service_row q m) { standing = standing_of s.service s.runs.count }) (service_row q (after found s.service effects))
old_row q None m s effects some count = let never : ⊥ = cc some in absurd never
old_row q (Some x) m s effects some count =
    let same : x ≡ m = cc some in
    λ i. record { name = q; spec = command_text (command.Service (sym same i).made); standing = standing_of s.service (count i) }

-- the row of a service stands so, if its name passes
abbrev pub stood : List ℕ → ServiceColumns → List ServiceRow → List ServiceRow
stood k standing rows = change_where (is_service k) (λ (row : ServiceRow). record row { standing = standing }) rows

stood_row : (k q : List ℕ) (standing : ServiceColumns) (m : ModelService) (b : Bool) → bytes_eq k q ≡ b → stood k standing (service_row q m ∷ []) ≡ cond b (record (service_row q m) { standing = standing } ∷ []) (service_row q m ∷ [])
stood_row k q standing m true e = λ i. (if e i then record (service_row q m) { standing = standing } else service_row q m) ∷ []
stood_row k q standing m false e = λ i. (if e i then record (service_row q m) { standing = standing } else service_row q m) ∷ []

stood_other : (k q : List ℕ) (standing : ServiceColumns) (o : Option ModelService) → bytes_eq q k ≡ false → stood k standing (row_if (service_row q) o) ≡ row_if (service_row q) o
stood_other k q standing None apart = refl
stood_other k q standing (Some m) apart = stood_row k q standing m false (other_name q k (bytes_eq k q) refl apart)

stood_after : (k q : List ℕ) (standing : ServiceColumns) (o there : Option ModelService) (old new : ModelService) (b : Bool) → bytes_eq q k ≡ b → (b ≡ true → o ≡ there) → there ≡ Some old → record (service_row q old) { standing = standing } ≡ service_row q new
    → stood k standing (row_if (service_row q) o) ≡ row_if (service_row q) (cond b (Some new) o)
stood_after k q standing o there old new true e at is stands =
    ap (λ (o : Option ModelService). stood k standing (row_if (service_row q) o)) (at refl ∙ is)
    ∙ stood_row k q standing old true (ap (λ (n : List ℕ). bytes_eq n q) (sym (equal_names q k e)) ∙ own_name q)
    ∙ ap (λ (row : ServiceRow). row ∷ []) stands
stood_after k q standing o there old new false e at is stands = stood_other k q standing o e

-- the tables apart from that of services
pub record HaveSameElse (old new : Tables) : Type 0 where
  pub callers : new.callers ≡ old.callers
  pub kept : new.kept ≡ old.kept
  pub revisions : new.revisions ≡ old.revisions
  pub pasts : HaveSamePasts old new

else_same : (t : Tables) (k : List ℕ) (standing : ServiceColumns) (row : ServiceRow) (makes : Bool) → HaveSameElse t (if makes then with_service row t else with_standing k standing t)
else_same t k standing row true = record { callers = refl; kept = refl; revisions = refl; pasts = record { bindings = refl; runs = refl; tallies = refl; measurements = refl; history = refl } }
else_same t k standing row false = record { callers = refl; kept = refl; revisions = refl; pasts = record { bindings = refl; runs = refl; tallies = refl; measurements = refl; history = refl } }

pub put_leaves : (asked : Command) (s : ServiceParts) (t : Tables) → HaveSameElse t (service_put asked s t)
put_leaves asked s t = else_same t s.service.name (standing_of s.service s.runs.count) (record { name = s.service.name; spec = command_text asked; standing = standing_of s.service s.runs.count }) (makes_service asked)

put_by : (templates : RevisionMap) (t : Tables) (services : NameMap ModelService) (asked : Command) (s : ServiceParts) (effects : List Effect) (q : List ℕ) (makes : Bool)
    → makes_service asked ≡ makes → IsUpdate templates (get services s.service.name) asked s effects
    → filter (is_service q) t.services ≡ row_if (service_row q) (get services q)
    → filter (is_service q) (if makes then with_service (record { name = s.service.name; spec = command_text asked; standing = standing_of s.service s.runs.count }) t else with_standing s.service.name (standing_of s.service s.runs.count) t).services
    ≡ row_if (service_row q) (cond (bytes_eq q s.service.name) (Some (after (get services s.service.name) s.service effects)) (get services q))
put_by templates t services asked s effects q true makes is are =
    let k : List ℕ = s.service.name in
    let m : ModelService = after (get services k) s.service effects in
    let none : get services k ≡ None = is.new makes in
    ap (λ (row : ServiceRow). filter (is_service q) (t.services ++ row ∷ [])) (new_row (get services k) asked s effects none (is.made none) is.count)
    ∙ filter-append (is_service q) t.services (service_row k m ∷ [])
    ∙ ap (λ (rows : List ServiceRow). rows ++ cond (bytes_eq q k) (service_row k m ∷ []) []) are
    ∙ row_added service_row k q m (get services q) (get services k) (bytes_eq q k) refl (same_value services q k (bytes_eq q k) refl) none
put_by templates t services asked s effects q false makes is are =
    let k : List ℕ = s.service.name in
    let standing : ServiceColumns = standing_of s.service s.runs.count in
    let some = is.there makes in
    changed_under (is_service q) (is_service k) (λ (row : ServiceRow). record row { standing = standing }) (λ row. refl) t.services
    ∙ ap (stood k standing) are
    ∙ stood_after k q standing (get services q) (get services k) some.0 (after (get services k) s.service effects) (bytes_eq q k) refl (same_value services q k (bytes_eq q k) refl) some.1
    (old_row q (get services k) some.0 s effects some.1 is.count)

-- with the service that it comes to
pub service_puts : (templates : RevisionMap) (t : Tables) (services : NameMap ModelService) (asked : Command) (s : ServiceParts) (effects : List Effect) (q : List ℕ) → IsUpdate templates (get services s.service.name) asked s effects
    → ((q : List ℕ) → filter (is_service q) t.services ≡ row_if (service_row q) (get services q))
    → filter (is_service q) (service_put asked s t).services ≡ row_if (service_row q) (get (insert services s.service.name (after (get services s.service.name) s.service effects)) q)
service_puts templates t services asked s effects q is are =
    put_by templates t services asked s effects q (makes_service asked) refl is (are q)
    ∙ ap (row_if (service_row q)) (sym (at_name services s.service.name (after (get services s.service.name) s.service effects) q))

-- the service that an UPDATE looks for stands in one row
pub service_asks : (templates : RevisionMap) (t : Tables) (services : NameMap ModelService) (asked : Command) (s : ServiceParts) (effects : List Effect) → IsUpdate templates (get services s.service.name) asked s effects
    → filter (is_service s.service.name) t.services ≡ row_if (service_row s.service.name) (get services s.service.name) → makes_service asked ≡ false → HasService s.service.name t
service_asks templates t services asked s effects is are makes =
    let k : List ℕ = s.service.name in
    let some = is.there makes in (service_row k some.0, are ∙ ap (row_if (service_row k)) some.1)
