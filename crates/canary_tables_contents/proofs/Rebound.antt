-- A present attempt is bound, or bound anew: the rows of its bindings, and what the statements ask.
use Rattle.std.proofs.Common.{◌≡◌, inl, inr, ℕ, zero, List, [], ◌∷◌, ◌++◌, map, Bool, true, false, Some, None, refl, sym, ap, ◌∙◌, subst, append-nil, eqb-true, eq-eqb, true≢false}
use Rattle.std.specs.Prelude.{Option, cond, if◌then◌else◌, ◌||◌, ◌&&◌, ◌==◌, filter, find, is_some}
use Rattle.std.specs.Str.{bytes_eq}
use Rattle.std.specs.List.{list_any, AllByRecursion}
use Rattle.std.proofs.lemmas.List.Elements.{filter-append}
use Rattle.canary_plan.specs.declared.analysis_parts.Revision.{Revision}
use Rattle.canary_plan.specs.declared.bound.BoundParts.{BoundParts}
use Rattle.canary_plan.specs.declared.strategy.CheckedStrategy.{CheckedStrategy}
use Rattle.canary_plan.specs.declared.command.Command.{Command}
use Rattle.canary_plan.specs.declared.command.Command.TheVariants as command
use Rattle.canary_plan.specs.Commands.{all_names}
use Rattle.canary_plan.specs.Plans.{Templates, strategy_of, bound_of, all_revisions, distinct}
use Rattle.canary_plan.specs.PlanRefusals.{analyses, bound_refusal}
use Rattle.canary_plan.proofs.Distinct.{all_distinct}
use Rattle.canary_release.specs.declared.effect.Effect.{Effect}
use Rattle.canary_release.specs.declared.service.ServiceParts.{ServiceParts}
use Rattle.canary_release.specs.Desks.{ModelService, RevisionMap, newest, before}
use Rattle.canary_release.specs.Effects.{bound_before, bound_after}
use Rattle.canary_release.specs.Order.{IsInOrder}
use Rattle.canary_tables_rows.specs.declared.rows.BindingRow.{BindingRow}
use Rattle.canary_tables_rows.specs.Tables.{Tables, is_binding, is_binding_of}
use Rattle.canary_tables_rows.specs.Changes.{change_where, with_bound, HasBinding}
use Rattle.canary_tables_contents.specs.Values.{binding_row}
use Rattle.canary_tables_contents.specs.Tables.{row_if, is_of_template, revisions_bound, binding_rows}
use Rattle.canary_tables_contents.specs.Settling.{all_bound, all_rebound, begins, has_bindings, attempt_bound, bindings_put, AllRebind, BindingsAsk}
use Rattle.canary_tables_contents.proofs.Keys.{optional, equal_keys, own_key}
use Rattle.canary_tables_contents.proofs.InOrder.{first_left}
use Rattle.canary_tables_contents.proofs.Filters.{other_name, turned, changed_under, left_alone, first_holds, apart_by_name}
use Rattle.canary_tables_contents.proofs.BindingsBack.{find_holds, any_found, each_found}
use Rattle.canary_tables_contents.proofs.BindingsPut.{filter_distinct, new_bindings, bound_one_by_one, new_under}
use Rattle.canary_tables_contents.proofs.BoundWholly.{neither, both, templates_in, same_found, unbound_none, wholly, newly}
use Rattle.canary_tables_contents.proofs.DesksRuled.{IsUpdate}

-- A present attempt has these rows, and all others are as they were.
pub record AttemptBound (name : List ℕ) (rs : List Revision) (old new : Tables) : Type 0 where
  pub callers : new.callers ≡ old.callers
  pub kept : new.kept ≡ old.kept
  pub revisions : new.revisions ≡ old.revisions
  pub services : new.services ≡ old.services
  pub runs : new.runs ≡ old.runs
  pub tallies : new.tallies ≡ old.tallies
  pub measurements : new.measurements ≡ old.measurements
  pub history : new.history ≡ old.history
  pub own : (template : List ℕ) → filter (is_binding name 0 template) new.bindings ≡ row_if (binding_row name 0) (find (is_of_template template) rs)
  pub others : (q : List ℕ) (number : ℕ) (template : List ℕ) → (bytes_eq q name && (number == 0)) ≡ false → filter (is_binding q number template) new.bindings ≡ filter (is_binding q number template) old.bindings

with_rows : (name : List ℕ) (rs : List Revision) (t : Tables) (rows : List BindingRow) → ((template : List ℕ) → filter (is_binding name 0 template) rows ≡ row_if (binding_row name 0) (find (is_of_template template) rs))
    → ((q : List ℕ) (number : ℕ) (template : List ℕ) → (bytes_eq q name && (number == 0)) ≡ false → filter (is_binding q number template) rows ≡ filter (is_binding q number template) t.bindings) → AttemptBound name rs t (record t { bindings = rows })
with_rows name rs t rows own others = record {
  callers = refl;
  kept = refl;
  revisions = refl;
  services = refl;
  runs = refl;
  tallies = refl;
  measurements = refl;
  history = refl;
  own = own;
  others = others;
}

-- Rows that are there, or not.

key_holds : (a b c : Bool) → (a && (b && c)) ≡ true → (a && b) ≡ true
key_holds true true c e = refl
key_holds true false c e = e
key_holds false b c e = e

last_holds : (a b c : Bool) → (a && (b && c)) ≡ true → c ≡ true
last_holds true true c e = e
last_holds true false c e = absurd (cc)
last_holds false b c e = absurd (cc)

-- what no test passes, no narrower one does
none_passes : {X : Type 0} (p q : X → Bool) → ((x : X) → q x ≡ true → p x ≡ true) → (xs : List X) → list_any p xs ≡ false → filter q xs ≡ []
none_passes p q so [] e = refl
none_passes p q so (x ∷ xs) e =
    let parts = neither (p x) (list_any p xs) e in
    first_left q x xs (fails (q x) refl parts.0) ∙ none_passes p q so xs parts.1
  where
    fails : (b : Bool) → q x ≡ b → p x ≡ false → b ≡ false
    fails true is failed = sym (so x is) ∙ failed
    fails false is failed = refl

cut_off : {X : Type 0} (x : X) (xs : List X) (b : Bool) → cond b (x ∷ xs) xs ≡ [] → (b ≡ false) × (xs ≡ [])
cut_off x xs true e = absurd (cc)
cut_off x xs false e = (refl, e)

-- an attempt that has no row under any template has none
no_bindings : (name : List ℕ) (rows : List BindingRow) → ((template : List ℕ) → filter (is_binding name 0 template) rows ≡ []) → list_any (is_binding_of name 0) rows ≡ false
no_bindings name [] none = refl
no_bindings name (row ∷ rows) none =
    let parts = λ (template : List ℕ). cut_off row (filter (is_binding name 0 template) rows) (is_binding name 0 template row) (none template) in
    let here : is_binding_of name 0 row ≡ false = without (bytes_eq name row.service) (zero == row.run) (bytes_eq row.template row.template) (own_key row.template) (parts row.template).0 in
    ap (λ b. b || list_any (is_binding_of name 0) rows) here ∙ no_bindings name rows (λ template. (parts template).1)
  where
    without : (a b c : Bool) → c ≡ true → (a && (b && c)) ≡ false → (a && b) ≡ false
    without true true c is e = sym is ∙ e
    without true false c is e = refl
    without false b c is e = refl

-- One more binding for each template.

abbrev bound_rows : List ℕ → List Revision → List BindingRow
bound_rows name rs = new_bindings name 0 (distinct rs)

bound_first : (name : List ℕ) (rs : List Revision) (t : Tables) → has_bindings name t ≡ false → AttemptBound name rs t (all_bound name 0 (distinct rs) t)
bound_first name rs t none =
    subst (AttemptBound name rs t) (sym (bound_one_by_one name 0 (distinct rs) t))
    (with_rows name rs t (t.bindings ++ bound_rows name rs)
    (λ template.
    filter-append (is_binding name 0 template) t.bindings (bound_rows name rs)
    ∙ (λ i. none_passes (is_binding_of name 0) (is_binding name 0 template) (λ row. key_holds (bytes_eq name row.service) (zero == row.run) (bytes_eq template row.template)) t.bindings none i
    ++ new_under name name 0 0 template rs true true (own_key name) (eq-eqb 0 0 refl) i))
    (λ q number template apart.
    filter-append (is_binding q number template) t.bindings (bound_rows name rs)
    ∙ ap (λ (more : List BindingRow). filter (is_binding q number template) t.bindings ++ more)
    (new_under q name number 0 template rs (bytes_eq q name) (number == 0) refl refl ∙ ap (λ b. cond b (row_if (binding_row name 0) (find (is_of_template template) rs)) []) apart)
    ∙ append-nil (filter (is_binding q number template) t.bindings)))

-- Bindings that are there, bound anew.

abbrev renumbered : Revision → BindingRow → BindingRow
renumbered r row = record row { revision = r.number }

abbrev all_changed : List ℕ → List Revision → List BindingRow → List BindingRow
all_changed name [] rows = rows
all_changed name (r ∷ rs) rows = all_changed name rs (change_where (is_binding name 0 r.template) (renumbered r) rows)

rebound_one_by_one : (name : List ℕ) (rs : List Revision) (t : Tables) → all_rebound name 0 rs t ≡ record t { bindings = all_changed name rs t.bindings }
rebound_one_by_one name [] t = refl
rebound_one_by_one name (r ∷ rs) t = rebound_one_by_one name rs (with_bound name 0 r.template r.number t)

abbrev all_renumbered : List Revision → List BindingRow → List BindingRow
all_renumbered [] rows = rows
all_renumbered (r ∷ rs) rows = all_renumbered rs (map (renumbered r) rows)

changed_all : {R : Type 0} (test : R → Bool) (change : R → R) (rows : List R) → change_where test change (filter test rows) ≡ map change (filter test rows)
changed_all test change [] = refl
changed_all {R} test change (row ∷ rows) =
    let behind = changed_all test change rows in
    elim (test row)
    as (λ b. test row ≡ b → change_where test change (cond b (row ∷ filter test rows) (filter test rows)) ≡ map change (cond b (row ∷ filter test rows) (filter test rows))) [
      | true ↦ λ e. λ i. (if e i then change row else row) ∷ behind i
      | false ↦ λ e. behind
    ] refl

own_changed : (name template : List ℕ) (r : Revision) (rows : List BindingRow) → template ≡ r.template
    → filter (is_binding name 0 template) (change_where (is_binding name 0 r.template) (renumbered r) rows) ≡ map (renumbered r) (filter (is_binding name 0 template) rows)
own_changed name template r rows same =
    subst (λ (n : List ℕ). filter (is_binding name 0 template) (change_where (is_binding name 0 n) (renumbered r) rows) ≡ map (renumbered r) (filter (is_binding name 0 template) rows)) same
    (changed_under (is_binding name 0 template) (is_binding name 0 template) (renumbered r) (λ row. refl) rows ∙ changed_all (is_binding name 0 template) (renumbered r) rows)

never : (a b : Bool) → (a && (b && false)) ≡ false
never true true = refl
never true false = refl
never false b = refl

-- the rows of another template are left alone
other_template : (name template : List ℕ) (r : Revision) (row : BindingRow) → is_of_template template r ≡ false → is_binding name 0 template row ≡ true → is_binding name 0 r.template row ≡ false
other_template name template r row differ is =
    let same : template ≡ row.template = equal_keys template row.template (last_holds (bytes_eq name row.service) (zero == row.run) (bytes_eq template row.template) is) in
    ap (λ b. bytes_eq name row.service && ((zero == row.run) && b)) (ap (bytes_eq r.template) (sym same) ∙ other_name template r.template differ)
    ∙ never (bytes_eq name row.service) (zero == row.run)

renumbered_under : (name template : List ℕ) (rs : List Revision) (rows : List BindingRow) → filter (is_binding name 0 template) (all_changed name rs rows) ≡ all_renumbered (filter (is_of_template template) rs) (filter (is_binding name 0 template) rows)
renumbered_under name template [] rows = refl
renumbered_under name template (r ∷ rs) rows =
    let changed : List BindingRow = change_where (is_binding name 0 r.template) (renumbered r) rows in
    let rest : List Revision = filter (is_of_template template) rs in
    let old : List BindingRow = filter (is_binding name 0 template) rows in
    renumbered_under name template rs changed
    ∙ elim (is_of_template template r)
    as (λ b. is_of_template template r ≡ b → all_renumbered rest (filter (is_binding name 0 template) changed) ≡ all_renumbered (cond b (r ∷ rest) rest) old) [
      | true ↦ λ e. ap (all_renumbered rest) (own_changed name template r rows (equal_keys template r.template e))
      | false ↦ λ e. ap (all_renumbered rest) (left_alone (is_binding name 0 template) (is_binding name 0 r.template) (renumbered r) (λ row. refl) (λ row. other_template name template r row e) rows)
    ] refl

-- and so are those of another service, and of runs
other_attempt : (q name : List ℕ) (number : ℕ) (template changed : List ℕ) (row : BindingRow) (b : Bool) → bytes_eq q name ≡ b → (b && (number == 0)) ≡ false → is_binding q number template row ≡ true → is_binding name 0 changed row ≡ false
other_attempt q name number template changed row false e apart is =
    ap (λ b. b && ((zero == row.run) && bytes_eq changed row.template)) (apart_by_name q name row.service e (first_holds (bytes_eq q row.service) ((number == row.run) && bytes_eq template row.template) is))
other_attempt q name number template changed row true e apart is =
    let parts = both (bytes_eq q row.service) ((number == row.run) && bytes_eq template row.template) is in
    let own : (number == row.run) ≡ true = first_holds (number == row.run) (bytes_eq template row.template) parts.1 in
    let here : (zero == row.run) ≡ false = ap (λ n. zero == n) (sym (eqb-true number row.run own)) ∙ turned number 0 false apart in
    ap (λ b. bytes_eq name row.service && (b && bytes_eq changed row.template)) here ∙ none (bytes_eq name row.service)
  where
    none : (a : Bool) → (a && false) ≡ false
    none true = refl
    none false = refl

others_changed : (q name : List ℕ) (number : ℕ) (template : List ℕ) → (bytes_eq q name && (number == 0)) ≡ false → (rs : List Revision) (rows : List BindingRow) → filter (is_binding q number template) (all_changed name rs rows) ≡ filter (is_binding q number template) rows
others_changed q name number template apart [] rows = refl
others_changed q name number template apart (r ∷ rs) rows =
    others_changed q name number template apart rs (change_where (is_binding name 0 r.template) (renumbered r) rows)
    ∙ left_alone (is_binding q number template) (is_binding name 0 r.template) (renumbered r) (λ row. refl) (λ row. other_attempt q name number template r.template row (bytes_eq q name) refl apart) rows

one_renumbered : (name template : List ℕ) (old new : List Revision) (o n : Option Revision) → find (is_of_template template) old ≡ o → find (is_of_template template) new ≡ n → is_some o ≡ is_some n
    → all_renumbered (optional n) (row_if (binding_row name 0) o) ≡ row_if (binding_row name 0) n
one_renumbered name template old new None None e f same = refl
one_renumbered name template old new None (Some b) e f same = absurd (cc)
one_renumbered name template old new (Some a) None e f same = absurd (cc)
one_renumbered name template old new (Some a) (Some b) e f same =
    let of_a : template ≡ a.template = equal_keys template a.template (find_holds (is_of_template template) old a e) in
    let of_b : template ≡ b.template = equal_keys template b.template (find_holds (is_of_template template) new b f) in
    ap (λ (n : List ℕ). binding_row name 0 (record { template = n; number = b.number }) ∷ []) (sym of_a ∙ of_b)

bound_again : (name : List ℕ) (old new : List Revision) (t : Tables) → ((template : List ℕ) → filter (is_binding name 0 template) t.bindings ≡ row_if (binding_row name 0) (find (is_of_template template) old))
    → ((template : List ℕ) → is_some (find (is_of_template template) old) ≡ is_some (find (is_of_template template) new)) → AttemptBound name new t (all_rebound name 0 (distinct new) t)
bound_again name old new t are same =
    subst (AttemptBound name new t) (sym (rebound_one_by_one name (distinct new) t))
    (with_rows name new t (all_changed name (distinct new) t.bindings)
    (λ template.
    renumbered_under name template (distinct new) t.bindings
    ∙ (λ i. all_renumbered (filter_distinct template new i) (are template i))
    ∙ one_renumbered name template old new (find (is_of_template template) old) (find (is_of_template template) new) refl refl (same template))
    (λ q number template apart. others_changed q name number template apart (distinct new) t.bindings))

-- each is there
still_one : (name changed : List ℕ) (r : Revision) (t : Tables) → HasBinding name 0 changed t → HasBinding name 0 changed (with_bound name 0 r.template r.number t)
still_one name changed r t one = (
  if is_binding name 0 r.template one.0 then renumbered r one.0 else one.0,
  changed_under (is_binding name 0 changed) (is_binding name 0 r.template) (renumbered r) (λ row. refl) t.bindings ∙ ap (change_where (is_binding name 0 r.template) (renumbered r)) one.1,
)

all_rebind : (name : List ℕ) (rs : List Revision) (t : Tables) → AllByRecursion (λ (r : Revision). HasBinding name 0 r.template t) rs → AllRebind name 0 rs t
all_rebind name [] t all = tt
all_rebind name (r ∷ rs) t all = (all.0, all_rebind name rs (with_bound name 0 r.template r.number t) (each rs all.1))
  where
    each : (us : List Revision) → AllByRecursion (λ (u : Revision). HasBinding name 0 u.template t) us → AllByRecursion (λ (u : Revision). HasBinding name 0 u.template (with_bound name 0 r.template r.number t)) us
    each [] all = tt
    each (u ∷ us) all = (still_one name u.template r t all.0, each us all.1)

row_there : (name template : List ℕ) (t : Tables) (o : Option Revision) → filter (is_binding name 0 template) t.bindings ≡ row_if (binding_row name 0) o → is_some o ≡ true → HasBinding name 0 template t
row_there name template t None are e = absurd (cc)
row_there name template t (Some r) are e = (binding_row name 0 r, are)

each_there : (name : List ℕ) (old new : List Revision) (t : Tables) → ((template : List ℕ) → filter (is_binding name 0 template) t.bindings ≡ row_if (binding_row name 0) (find (is_of_template template) old))
    → ((template : List ℕ) → is_some (find (is_of_template template) old) ≡ is_some (find (is_of_template template) new)) → AllRebind name 0 (distinct new) t
each_there name old new t are same = all_rebind name (distinct new) t (all_distinct (λ (r : Revision). HasBinding name 0 r.template t) new (each new (each_found new new (λ n e. e))))
  where
    each : (us : List Revision) → AllByRecursion (λ (u : Revision). list_any (is_of_template u.template) new ≡ true) us → AllByRecursion (λ (u : Revision). HasBinding name 0 u.template t) us
    each [] all = tt
    each (u ∷ us) all =
        (row_there name u.template t (find (is_of_template u.template) old) (are u.template) (same u.template ∙ sym (any_found (is_of_template u.template) new) ∙ all.0), each us all.1)

-- What a command binds.

begin_binds : (known : Templates) (asked : Command) (found : Option ModelService) (s : CheckedStrategy) → begins asked ≡ true → bound_after known asked found s ≡ bound_of known s
begin_binds known (command.Start name version) found s e = refl
begin_binds known (command.Retry name) found s e = refl
begin_binds known asked found s e = absurd (cc)

else_keeps : (known : Templates) (asked : Command) (found : Option ModelService) (s : CheckedStrategy) → begins asked ≡ false → bound_after known asked found s ≡ bound_before found s
else_keeps known (command.Start name version) found s e = absurd (cc)
else_keeps known (command.Retry name) found s e = absurd (cc)
else_keeps known asked found s e = refl

bound_as_before : (found : Option ModelService) (s : CheckedStrategy) (bound : BoundParts) → bound ≡ bound_before found s → revisions_bound found 0 ≡ all_revisions bound
bound_as_before None s bound is = sym (ap all_revisions is ∙ unbound_none s)
bound_as_before (Some m) s bound is = ap all_revisions (sym is)

-- an attempt that has rows has one for each template that is bound now
same_templates : (templates : RevisionMap) (name : List ℕ) (found : Option ModelService) (asked : Command) (s : ServiceParts) (effects : List Effect) (t : Tables) → IsUpdate templates found asked s effects → ((m : ModelService) → found ≡ Some m → IsInOrder templates name m)
    → begins asked ≡ true → has_bindings name t ≡ true → ((template : List ℕ) → filter (is_binding name 0 template) t.bindings ≡ row_if (binding_row name 0) (find (is_of_template template) (revisions_bound found 0)))
    → (template : List ℕ) → is_some (find (is_of_template template) (revisions_bound found 0)) ≡ is_some (find (is_of_template template) (all_revisions s.service.bound))
same_templates templates name found asked s effects t is order begin have are = by found refl
  where
    none : revisions_bound found 0 ≡ [] → ⊥
    none e = true≢false (sym have ∙ no_bindings name t.bindings (λ template. are template ∙ ap (λ rs. row_if (binding_row name 0) (find (is_of_template template) rs)) e))

    by : (o : Option ModelService) → found ≡ o → (template : List ℕ) → is_some (find (is_of_template template) (revisions_bound found 0)) ≡ is_some (find (is_of_template template) (all_revisions s.service.bound))
    by None e template = absurd (none (ap (λ o. revisions_bound o 0) e))
    by (Some m) e template =
        let known : Templates = newest templates in
        let in_order : IsInOrder templates name m = order m e in
        let strategy : s.service.strategy ≡ strategy_of m.made = is.changes.strategy ∙ ap (λ (o : Option ModelService). (before o s.service).service.strategy) e ∙ in_order.strategy in
        let bound : s.service.bound ≡ bound_of known (strategy_of m.made) = is.changes.bound ∙ begin_binds known asked found s.service.strategy begin ∙ ap (bound_of known) strategy in
        let now : templates_in (all_revisions s.service.bound) ≡ all_names (analyses m.made) =
        ap (λ (b : BoundParts). templates_in (all_revisions b)) bound ∙ newly known m.made in_order.accepted (ap (bound_refusal known) (sym strategy) ∙ is.begun begin) in
        let old : revisions_bound found 0 ≡ all_revisions m.service.bound = ap (λ o. revisions_bound o 0) e in
        elim (wholly templates name m in_order) [
          | inl whole ↦ same_found template (revisions_bound found 0) (all_revisions s.service.bound) (ap templates_in old ∙ whole ∙ sym now)
          | inr nothing ↦ absurd (none (old ∙ nothing))
        ]

-- the rows of the attempt after a command, and what its statements ask
pub attempt_puts : (templates : RevisionMap) (found : Option ModelService) (asked : Command) (s : ServiceParts) (effects : List Effect) (t : Tables) → IsUpdate templates found asked s effects → ((m : ModelService) → found ≡ Some m → IsInOrder templates s.service.name m)
    → ((template : List ℕ) → filter (is_binding s.service.name 0 template) t.bindings ≡ binding_rows s.service.name 0 template found)
    → AttemptBound s.service.name (all_revisions s.service.bound) t (bindings_put asked s t) × BindingsAsk asked s t
attempt_puts templates found asked s effects t is order are = (by (begins asked) refl, λ begin have. each_there name old new t are (same_templates templates name found asked s effects t is order begin have are))
  where
    name : List ℕ
    name = s.service.name

    old : List Revision
    old = revisions_bound found 0

    new : List Revision
    new = all_revisions s.service.bound

    put : (b : Bool) → begins asked ≡ true → has_bindings name t ≡ b → AttemptBound name new t (if b then all_rebound name 0 (distinct new) t else all_bound name 0 (distinct new) t)
    put true begin have = bound_again name old new t are (same_templates templates name found asked s effects t is order begin have are)
    put false begin have = bound_first name new t have

    by : (b : Bool) → begins asked ≡ b → AttemptBound name new t (if b then attempt_bound name (distinct new) t else t)
    by true begin = put (has_bindings name t) begin refl
    by false begin =
        with_rows name new t t.bindings
        (λ template. are template ∙ ap (λ rs. row_if (binding_row name 0) (find (is_of_template template) rs)) (bound_as_before found s.service.strategy s.service.bound (is.changes.bound ∙ else_keeps (newest templates) asked found s.service.strategy begin)))
        (λ q number template apart. refl)
