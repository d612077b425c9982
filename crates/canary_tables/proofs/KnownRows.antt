-- What is known of a service says what its rows are.
use Rattle.std.proofs.Common.{◌≡◌, ◌≤◌, ℕ, ◌==◌, List, [], ◌∷◌, length, Bool, true, false, ◌&&◌, ◌||◌, Some, refl, sym, ap, ◌∙◌, subst, arith, eqb-true}
use Rattle.std.specs.Prelude.{Option, cond, not, filter}
use Rattle.std.specs.List.{list_any, find}
use Rattle.std.specs.Str.{bytes_eq}
use Rattle.std.specs.FinMap.{get}
use Rattle.std.proofs.lemmas.Slice.Eq.{bytes_eq-Decides}
use Rattle.canary_plan.specs.declared.analysis_parts.Revision.{Revision}
use Rattle.canary_plan.specs.Plans.{all_revisions}
use Rattle.canary_release.specs.declared.service.ServiceParts.{ServiceParts}
use Rattle.canary_release.specs.Stored.{stored_service}
use Rattle.canary_tables_rows.specs.declared.rows.BindingRow.{BindingRow}
use Rattle.canary_tables_rows.specs.Tables.{Tables, is_binding, is_binding_of}
use Rattle.canary_tables_contents.specs.Values.{binding_row}
use Rattle.canary_tables_contents.specs.Tables.{row_if, binding_rows, is_of_template}
use Rattle.canary_tables_contents.specs.Reading.{contents_of, HoldsContents}
use Rattle.canary_tables_contents.specs.Settling.{has_bindings}
use Rattle.sqlite.specs.State.{State}
use Rattle.canary_tables_schema.specs.Cells.{tables_in}
use Rattle.canary_tables_schema.specs.Stores.{IsUsable, Stores}
use Rattle.canary_tables_schema.specs.Laws.{OneReading}
use Rattle.canary_tables.specs.Desk.{IsDesk, contents_in}
use Rattle.canary_tables.specs.Caches.{IsKnownAs}
use Rattle.canary_tables.proofs.HistoryLemmas.{there_is}

any_of_filter : {A : Type 0} (test : A → Bool) (xs : List A) (y : A) (ys : List A) → filter test xs ≡ y ∷ ys → list_any test xs ≡ true
any_of_filter test [] y ys e = cc
any_of_filter {A} test (x ∷ xs) y ys e = elim (test x) as (λ (b : Bool). cond b (x ∷ filter test xs) (filter test xs) ≡ y ∷ ys → (b || list_any test xs) ≡ true) [ true ↦ λ e. refl | false ↦ λ e. any_of_filter test xs y ys e ] e

either : (a b x : Bool) → (b ≡ true → x ≡ true) → (a || b) ≡ true → (a || x) ≡ true
either true b x h e = refl
either false b x h e = h e

first_two : (a b c : Bool) → (a && (b && c)) ≡ true → (a && b) ≡ true
first_two true true c e = refl
first_two true false c e = e
first_two false b c e = e

-- a binding of a template is one
binding_is : (name template : List ℕ) (bs : List BindingRow) → list_any (is_binding name 0 template) bs ≡ true → list_any (is_binding_of name 0) bs ≡ true
binding_is name template [] e = e
binding_is name template (b ∷ bs) e =
    elim (is_binding name 0 template b) as (λ (x : Bool). is_binding name 0 template b ≡ x → (x || list_any (is_binding name 0 template) bs) ≡ true → (is_binding_of name 0 b || list_any (is_binding_of name 0) bs) ≡ true) [
      | true ↦ λ is _. ap (λ (x : Bool). x || list_any (is_binding_of name 0) bs) (first_two (bytes_eq name b.service) (0 == b.run) (bytes_eq template b.template) is)
      | false ↦ λ _ rest. rest_too (is_binding_of name 0 b) (binding_is name template bs rest)
    ] refl e where
      rest_too : (x : Bool) {y : Bool} → y ≡ true → (x || y) ≡ true
      rest_too true e = refl
      rest_too false e = e

no_binding : (b : BindingRow) (bs : List BindingRow) (name : List ℕ) (s r any : Bool) (left : List ℕ → List BindingRow) → (((template : List ℕ) → left template ≡ []) → any ≡ false)
    → ((template : List ℕ) → cond (s && (r && bytes_eq template b.template)) (b ∷ left template) (left template) ≡ []) → ((s && r) || any) ≡ false
no_binding b bs name true true any left rest h =
    let itself : b ∷ left b.template ≡ [] = ap (λ (x : Bool). cond x (b ∷ left b.template) (left b.template)) (sym ((bytes_eq-Decides b.template b.template).1 refl)) ∙ h b.template in cc
no_binding b bs name true false any left rest h = rest h
no_binding b bs name false r any left rest h = rest h

-- if no template has a binding, there is none
no_bindings : (name : List ℕ) (bs : List BindingRow) → ((template : List ℕ) → filter (is_binding name 0 template) bs ≡ []) → list_any (is_binding_of name 0) bs ≡ false
no_bindings name [] h = refl
no_bindings name (b ∷ bs) h = no_binding b bs name (bytes_eq name b.service) (0 == b.run) (list_any (is_binding_of name 0) bs) (λ (template : List ℕ). filter (is_binding name 0 template) bs) (no_bindings name bs) h

not_nothing : (n : ℕ) → 1 ≤ n → true ≡ not (n == 0)
not_nothing n some =
    elim (n == 0) as (λ (b : Bool). (n == 0) ≡ b → true ≡ not b) [
      | true ↦ λ e. let none : n ≡ 0 = eqb-true n 0 e in let never : ⊥ = omega arith in absurd never
      | false ↦ λ e. refl
    ] refl

bound_rows : (name : List ℕ) (bs : List BindingRow) (rs : List Revision) → ((template : List ℕ) → filter (is_binding name 0 template) bs ≡ row_if (binding_row name 0) (find (is_of_template template) rs)) → list_any (is_binding_of name 0) bs ≡ not (length rs == 0)
bound_rows name bs [] h = no_bindings name bs h
bound_rows name bs (r ∷ rs) h =
    binding_is name r.template bs (any_of_filter (is_binding name 0 r.template) bs (binding_row name 0 r) []
    (h r.template ∙ ap (λ (b : Bool). row_if (binding_row name 0) (cond b (Some r) (find (is_of_template r.template) rs))) ((bytes_eq-Decides r.template r.template).1 refl)))
    ∙ not_nothing (length (r ∷ rs)) (omega arith)

pub known_has_bindings : (t : Tables) (name : List ℕ) (k : ServiceParts) → HoldsContents t → stored_service (contents_of t).desk name ≡ Some k → has_bindings name t ≡ not (length (all_revisions k.service.bound) == 0)
known_has_bindings t name k holds e =
    let m = there_is (get (contents_of t).desk.services name) k e in
    bound_rows name t.bindings (all_revisions k.service.bound) (λ template.
    holds.rows.bindings name 0 template ∙ ap (binding_rows name 0 template) m.1.0
    ∙ ap (λ (s : ServiceParts). row_if (binding_row name 0) (find (is_of_template template) (all_revisions s.service.bound))) m.1.1)

-- What is known of a service, before a database that stores these rows.

known_there : OneReading → (old : State) (t : Tables) (name : List ℕ) (cached : Option ServiceParts) (k : ServiceParts) → (IsUsable old → IsDesk old) → (IsUsable old → IsKnownAs cached name (contents_in old)) → cached ≡ Some k → IsUsable old → Stores old t
    → HoldsContents t × (stored_service (contents_of t).desk name ≡ Some k)
known_there reading old t name cached k desk is there usable stored =
    let same : tables_in old.now ≡ t = reading old.now t stored in
    (subst HoldsContents same (desk usable).holds, subst (λ (r : Tables). stored_service (contents_of r).desk name ≡ Some k) same (is usable k there))

pub bindings_there : OneReading → (old : State) (t : Tables) (name : List ℕ) (cached : Option ServiceParts) (k : ServiceParts) → (IsUsable old → IsDesk old) → (IsUsable old → IsKnownAs cached name (contents_in old)) → cached ≡ Some k → IsUsable old → Stores old t → has_bindings name t ≡ not (length (all_revisions k.service.bound) == 0)
bindings_there reading old t name cached k desk is there usable stored = let both = known_there reading old t name cached k desk is there usable stored in known_has_bindings t name k both.0 both.1
