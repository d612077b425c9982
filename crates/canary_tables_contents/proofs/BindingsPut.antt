-- Rows of bindings, as a run or a present attempt is bound: each template by one row.
use Rattle.std.proofs.Common.{◌≡◌, ℕ, List, [], ◌∷◌, ◌++◌, map, Bool, true, false, Some, None, refl, sym, ap, ◌∙◌, append-nil, append_assoc}
use Rattle.std.specs.Prelude.{Option, cond, ◌&&◌, ◌==◌, not, filter, find}
use Rattle.std.specs.Str.{bytes_eq}
use Rattle.std.proofs.lemmas.List.Elements.{filter_agree}
use Rattle.canary_plan.specs.declared.analysis_parts.Revision.{Revision}
use Rattle.canary_plan.specs.Plans.{is_of_other, distinct}
use Rattle.canary_tables_rows.specs.declared.rows.BindingRow.{BindingRow}
use Rattle.canary_tables_rows.specs.Tables.{Tables, is_binding}
use Rattle.canary_tables_rows.specs.Changes.{with_binding}
use Rattle.canary_tables_contents.specs.Values.{binding_row}
use Rattle.canary_tables_contents.specs.Tables.{row_if, is_of_template}
use Rattle.canary_tables_contents.specs.Settling.{all_bound}
use Rattle.canary_tables_contents.proofs.Keys.{optional, equal_keys}
use Rattle.canary_tables_contents.proofs.InOrder.{filter_twice, filter_map_of}
use Rattle.canary_tables_contents.proofs.Filters.{other_name}

-- Of each template one revision is among those that are bound.

and_false : (b : Bool) → (b && false) ≡ false
and_false true = refl
and_false false = refl

none_pass : {X : Type 0} (xs : List X) → filter (λ x. false) xs ≡ []
none_pass [] = refl
none_pass (x ∷ xs) = none_pass xs

-- a revision of this name is of no other template
none_more : (name : List ℕ) (r x : Revision) → is_of_template name r ≡ true → (is_of_other r x && is_of_template name x) ≡ false
none_more name r x e =
    elim (is_of_template name x)
    as (λ b. is_of_template name x ≡ b → (is_of_other r x && b) ≡ false) [
      | true ↦ λ t.
          ap (λ (n : List ℕ). not (bytes_eq n x.template) && true) (sym (equal_keys name r.template e))
          ∙ ap (λ b. not b && true) t
      | false ↦ λ t. and_false (is_of_other r x)
    ] refl

same_more : (name : List ℕ) (r x : Revision) → is_of_template name r ≡ false → (is_of_other r x && is_of_template name x) ≡ is_of_template name x
same_more name r x e =
    elim (is_of_template name x)
    as (λ b. is_of_template name x ≡ b → (is_of_other r x && b) ≡ b) [
      | true ↦ λ t.
          ap (λ (n : List ℕ). not (bytes_eq r.template n) && true) (sym (equal_keys name x.template t))
          ∙ ap (λ b. not b && true) (other_name name r.template e)
      | false ↦ λ t. and_false (is_of_other r x)
    ] refl

pub filter_distinct : (name : List ℕ) (rs : List Revision) → filter (is_of_template name) (distinct rs) ≡ optional (find (is_of_template name) rs)
filter_distinct name [] = refl
filter_distinct name (r ∷ rs) =
    let others : List Revision = filter (is_of_other r) (distinct rs) in
    let twice = filter_twice (is_of_template name) (is_of_other r) (distinct rs) in
    elim (is_of_template name r)
    as (λ b. is_of_template name r ≡ b → cond b (r ∷ filter (is_of_template name) others) (filter (is_of_template name) others) ≡ optional (cond b (Some r) (find (is_of_template name) rs))) [
      | true ↦ λ t.
          ap (λ (xs : List Revision). r ∷ xs)
          (twice ∙ filter_agree (λ x. is_of_other r x && is_of_template name x) (λ x. false) (λ x. none_more name r x t) (distinct rs) ∙ none_pass (distinct rs))
      | false ↦ λ t.
          twice ∙ filter_agree (λ x. is_of_other r x && is_of_template name x) (is_of_template name) (λ x. same_more name r x t) (distinct rs) ∙ filter_distinct name rs
    ] refl

-- The tables with a row for each.

abbrev pub with_bindings : List BindingRow → Tables → Tables
with_bindings rows t = record t { bindings = t.bindings ++ rows }

abbrev pub new_bindings : List ℕ → ℕ → List Revision → List BindingRow
new_bindings name number rs = map (binding_row name number) rs

pub bound_one_by_one : (name : List ℕ) (number : ℕ) (rs : List Revision) (t : Tables) → all_bound name number rs t ≡ with_bindings (new_bindings name number rs) t
bound_one_by_one name number [] t = λ i. record t { bindings = sym (append-nil t.bindings) i }
bound_one_by_one name number (r ∷ rs) t =
    let first : BindingRow = binding_row name number r in
    bound_one_by_one name number rs (with_binding first t)
    ∙ (λ i. record t { bindings = append_assoc t.bindings (first ∷ []) (new_bindings name number rs) i })

optional_rows : {A R : Type 0} (row : A → R) (o : Option A) → map row (optional o) ≡ row_if row o
optional_rows row None = refl
optional_rows row (Some x) = refl

-- under a key stands one of them, or none
pub new_under : (q name : List ℕ) (number run : ℕ) (template : List ℕ) (rs : List Revision) (b c : Bool) → bytes_eq q name ≡ b → (number == run) ≡ c
    → filter (is_binding q number template) (new_bindings name run (distinct rs)) ≡ cond (b && c) (row_if (binding_row name run) (find (is_of_template template) rs)) []
new_under q name number run template rs b c e f =
    filter_map_of (binding_row name run) (is_binding q number template) (distinct rs)
    ∙ ap (map (binding_row name run)) (filter_agree (λ r. bytes_eq q name && ((number == run) && is_of_template template r)) (λ r. b && (c && is_of_template template r)) (λ r. λ i. e i && (f i && is_of_template template r)) (distinct rs))
    ∙ by b c
  where
    by : (b c : Bool) → map (binding_row name run) (filter (λ r. b && (c && is_of_template template r)) (distinct rs)) ≡ cond (b && c) (row_if (binding_row name run) (find (is_of_template template) rs)) []
    by true true = ap (map (binding_row name run)) (filter_distinct template rs) ∙ optional_rows (binding_row name run) (find (is_of_template template) rs)
    by true false = ap (map (binding_row name run)) (none_pass (distinct rs))
    by false c = ap (map (binding_row name run)) (none_pass (distinct rs))
