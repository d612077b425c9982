-- The rows of binding of a run are those of its revisions exactly if they are as many as its templates.
use Rattle.std.proofs.Common.{◌≡◌, ◌⊎◌, inl, inr, true≢false, ℕ, ◌+◌, ◌≤◌, ◌==◌, List, [], ◌∷◌, length, Bool, true, false, not, Some, None, refl, sym, ap, ◌∙◌, subst, arith}
use Rattle.std.specs.Prelude.{Option, ◌&&◌, cond, filter, find, slice_get, option_and_then}
use Rattle.std.specs.Str.{bytes_eq}
use Rattle.std.specs.List.{AllByRecursion, sum_by}
use Rattle.std.proofs.lemmas.Bool.Decides.{Decides-eqb}
use Rattle.std.proofs.lemmas.List.Elements.{filter_agree}
use Rattle.std.proofs.lemmas.List.Sums.{sum_by-cons}
use Rattle.canary_plan.specs.declared.template.Template.{Template}
use Rattle.canary_plan.specs.declared.analysis_parts.Revision.{Revision}
use Rattle.canary_plan.specs.Plans.{is_of_other, distinct}
use Rattle.canary_plan.proofs.Distinct.{find_distinct, all_distinct}
use Rattle.canary_tables_rows.specs.declared.rows.BindingRow.{BindingRow}
use Rattle.canary_tables_rows.specs.declared.rows.RevisionRow.{RevisionRow}
use Rattle.canary_tables_rows.specs.Tables.{Tables, is_revision, is_binding, is_binding_of}
use Rattle.canary_tables_contents.specs.Values.{binding_row, revision_of_row}
use Rattle.canary_tables_contents.specs.Tables.{row_if, is_of_template}
use Rattle.canary_tables_contents.specs.Reading.{first_row, revision_bound, known_in}
use Rattle.canary_tables_contents.proofs.Strays.{Apart, AreApart, HasKey, HaveAtLeast, HaveAtMost, together, no_strays, just_so_many, at_most}
use Rattle.canary_tables_contents.proofs.Named.{own_key, equal_keys, names_apart, first_kept, filter_twice, passing, weaker, both, IsIn, each_in, in_filter}
use Rattle.canary_tables_contents.proofs.Templates.{its_revision}
use Rattle.canary_tables_contents.proofs.KnownRevisions.{IsKnown, IsFirst, found_has, none_found}

-- a run has just the rows of these revisions, of each template the first
abbrev pub AreBindings : Tables → List ℕ → ℕ → List Revision → Type 0
AreBindings t name number rs = (template : List ℕ) → filter (is_binding name number template) t.bindings ≡ row_if (binding_row name number) (find (is_of_template template) rs)

-- Its templates are apart.

abbrev names_template : Revision → BindingRow → Bool
names_template r row = bytes_eq r.template row.template

kept_apart : {R K : Type 0} (is : K → R → Bool) (p : K → Bool) (ks : List K) → AreApart is ks → AreApart is (filter p ks)
kept_apart is p [] apart = tt
kept_apart {R} {K} is p (k ∷ ks) apart =
    elim (p k) as (λ b. AreApart is (cond b (k ∷ filter p ks) (filter p ks))) [
      | true ↦ (weaker (λ j. (p j ≡ true) × Apart (is k) (is j)) (λ j. Apart (is k) (is j)) (λ j h. h.1) (filter p ks) (passing p (λ j. Apart (is k) (is j)) ks apart.0), kept_apart is p ks apart.1)
      | false ↦ kept_apart is p ks apart.1
    ]

turned : (b : Bool) → not b ≡ true → b ≡ false
turned true e = absurd (cc)
turned false e = refl

others_apart : (r j : Revision) → is_of_other r j ≡ true → Apart (names_template r) (names_template j)
others_apart r j other row is =
    names_apart r.template j.template row.template (λ same. true≢false (sym (ap (λ n. bytes_eq r.template n) (sym same) ∙ own_key r.template) ∙ turned (bytes_eq r.template j.template) other)) is

templates_apart : (rs : List Revision) → AreApart names_template (distinct rs)
templates_apart [] = tt
templates_apart (r ∷ rs) = (
  weaker (λ j. (is_of_other r j ≡ true) × (j ≡ j)) (λ j. Apart (names_template r) (names_template j)) (λ j h. others_apart r j h.0) (filter (is_of_other r) (distinct rs)) (passing (is_of_other r) (λ j. j ≡ j) (distinct rs) (each_in (λ j. j ≡ j) (distinct rs) (λ j at. refl))),
  kept_apart names_template (is_of_other r) (distinct rs) (templates_apart rs),
)

-- Rows of a run, by their templates.

abbrev pub rows_of : Tables → List ℕ → ℕ → List BindingRow
rows_of t name number = filter (is_binding_of name number) t.bindings

in_turn : (a b c : Bool) → (a && b) && c ≡ a && (b && c)
in_turn true b c = refl
in_turn false b c = refl

pub by_template : (t : Tables) (name : List ℕ) (number : ℕ) (template : List ℕ) → filter (λ (row : BindingRow). bytes_eq template row.template) (rows_of t name number) ≡ filter (is_binding name number template) t.bindings
by_template t name number template =
    filter_twice (λ (row : BindingRow). bytes_eq template row.template) (is_binding_of name number) t.bindings
    ∙ filter_agree (λ (row : BindingRow). is_binding_of name number row && bytes_eq template row.template) (is_binding name number template) (λ row. in_turn (bytes_eq name row.service) (number == row.run) (bytes_eq template row.template)) t.bindings

ones : {K : Type 0} (ks : List K) → sum_by (λ (k : K). 1) ks ≡ length ks
ones [] = refl
ones {K} (k ∷ ks) =
    let rest : sum_by (λ (j : K). 1) ks ≡ length ks = ones ks in
    let sum : sum_by (λ (j : K). 1) (k ∷ ks) ≡ 1 + sum_by (λ (j : K). 1) ks = sum_by-cons (λ (j : K). 1) k ks in
    omega arith

-- The row of a revision that is known.

both_hold : (a b : Bool) → a && b ≡ true → (a ≡ true) × (b ≡ true)
both_hold true b e = (refl, e)
both_hold false b e = absurd (cc)

record IsRowRead (t : Tables) (x : Template) (o : Option BindingRow) : Type 0 where
  row : BindingRow
  there : o ≡ Some row
  read : revision_bound t.revisions row ≡ Some x

row_read : (t : Tables) (x : Template) (o : Option BindingRow) → option_and_then (revision_bound t.revisions) o ≡ Some x → IsRowRead t x o
row_read t x None e = absurd (cc)
row_read t x (Some row) e = record { row = row; there = refl; read = e }

-- what is first among those that pass passes
pub first_of : {X : Type 0} (p : X → Bool) (xs : List X) (x : X) → first_row (filter p xs) ≡ Some x → p x ≡ true
first_of p [] x e = absurd (cc)
first_of {X} p (y ∷ xs) x e =
    elim (p y)
    as (λ b. p y ≡ b → first_row (cond b (y ∷ filter p xs) (filter p xs)) ≡ Some x → p x ≡ true) [
      | true ↦ λ is e. let same : y ≡ x = cc e in subst (λ z. p z ≡ true) same is
      | false ↦ λ is e. first_of p xs x e
    ] refl e

read_number : (t : Tables) (row : BindingRow) (x : Template) (o : Option RevisionRow) → first_row (filter (is_revision row.template row.revision) t.revisions) ≡ o → option_and_then revision_of_row o ≡ Some x → x.revision ≡ row.revision
read_number t row x None at e = absurd (cc)
read_number t row x (Some r) at e =
    let passes : is_revision row.template row.revision r ≡ true = first_of (is_revision row.template row.revision) t.revisions r at in
    its_revision r x e ∙ sym ((Decides-eqb row.revision r.revision).0 (both_hold (bytes_eq row.template r.name) (row.revision == r.revision) passes).1)

-- it is the row of the revision
record HasRow (t : Tables) (name : List ℕ) (number : ℕ) (r : Revision) : Type 0 where
  there : first_row (filter (is_binding name number r.template) t.bindings) ≡ Some (binding_row name number r)

has_row : (t : Tables) (name : List ℕ) (number : ℕ) (r : Revision) → IsKnown (known_in t name number) r → HasRow t name number r
has_row t name number r is =
    let o : Option BindingRow = first_row (filter (is_binding name number r.template) t.bindings) in
    let h : IsRowRead t is.value o = row_read t is.value o is.there in
    let passes : is_binding name number r.template h.row ≡ true = first_of (is_binding name number r.template) t.bindings h.row h.there in
    let parts : (bytes_eq name h.row.service ≡ true) × ((number == h.row.run) && bytes_eq r.template h.row.template ≡ true) = both_hold (bytes_eq name h.row.service) ((number == h.row.run) && bytes_eq r.template h.row.template) passes in
    let later : ((number == h.row.run) ≡ true) × (bytes_eq r.template h.row.template ≡ true) = both_hold (number == h.row.run) (bytes_eq r.template h.row.template) parts.1 in
    let service : name ≡ h.row.service = equal_keys name h.row.service parts.0 in
    let run : number ≡ h.row.run = (Decides-eqb number h.row.run).0 later.0 in
    let template : r.template ≡ h.row.template = equal_keys r.template h.row.template later.1 in
    let revision : r.number ≡ h.row.revision = is.numbered ∙ read_number t h.row is.value (first_row (filter (is_revision h.row.template h.row.revision) t.revisions)) refl h.read in
    let same : h.row ≡ binding_row name number r = (λ i. record { service = sym service i; run = sym run i; template = sym template i; revision = sym revision i }) in
    record { there = h.there ∙ ap Some same }

some_rows : {X : Type 0} (xs : List X) (x : X) → first_row xs ≡ Some x → 1 ≤ length xs
some_rows [] x e = absurd (cc)
some_rows (y ∷ xs) x e = omega arith

just_it : {X : Type 0} (xs : List X) (x : X) → length xs ≡ 1 → first_row xs ≡ Some x → xs ≡ x ∷ []
just_it [] x one e = absurd (cc)
just_it (y ∷ []) x one e = let same : y ≡ x = cc e in ap (λ z. z ∷ []) same
just_it (y ∷ z ∷ xs) x one e = absurd (omega arith)

-- From their number.

abbrev IsKnownIn : Tables → List ℕ → ℕ → Revision → Type 0
IsKnownIn t name number = IsKnown (known_in t name number)

have_rows : (t : Tables) (name : List ℕ) (number : ℕ) (rs : List Revision) → AllByRecursion (IsKnownIn t name number) rs → HaveAtLeast names_template (λ (r : Revision). 1) (rows_of t name number) rs
have_rows t name number rs known =
    weaker (IsKnownIn t name number) (λ r. 1 ≤ length (filter (names_template r) (rows_of t name number)))
    (λ r is. subst (λ (rows : List BindingRow). 1 ≤ length rows) (sym (by_template t name number r.template)) (some_rows (filter (is_binding name number r.template) t.bindings) (binding_row name number r) (has_row t name number r is).there)) rs known

no_more : (t : Tables) (name : List ℕ) (number : ℕ) (rs : List Revision) → length (rows_of t name number) ≡ length (distinct rs) → length (rows_of t name number) ≤ sum_by (λ (r : Revision). 1) (distinct rs)
no_more t name number rs many = let sum : sum_by (λ (r : Revision). 1) (distinct rs) ≡ length (distinct rs) = ones (distinct rs) in omega arith

-- what holds of some of them by their templates
abbrev HasOne : Tables → List ℕ → ℕ → List ℕ → Type 0
HasOne t name number template = length (filter (is_binding name number template) t.bindings) ≡ 1

found_row : (t : Tables) (name : List ℕ) (number : ℕ) (rs : List Revision) → AllByRecursion (IsKnownIn t name number) rs → length (rows_of t name number) ≡ length (distinct rs) → (template : List ℕ) (o : Option Revision) → find (is_of_template template) rs ≡ o
    → filter (is_binding name number template) t.bindings ≡ row_if (binding_row name number) o
found_row t name number rs known many template (Some r) e =
    let keys : List Revision = distinct rs in
    let known_keys : AllByRecursion (IsKnownIn t name number) keys = all_distinct (IsKnownIn t name number) rs known in
    let just : AllByRecursion (λ (k : Revision). length (filter (names_template k) (rows_of t name number)) ≡ 1) keys =
    just_so_many names_template (λ (k : Revision). 1) keys (rows_of t name number) (templates_apart rs) (have_rows t name number keys known_keys) (no_more t name number rs many) in
    let ones : AllByRecursion (λ (k : Revision). IsKnownIn t name number k × HasOne t name number k.template) keys =
    both (IsKnownIn t name number) (λ k. HasOne t name number k.template) keys known_keys
    (weaker (λ (k : Revision). length (filter (names_template k) (rows_of t name number)) ≡ 1) (λ k. HasOne t name number k.template) (λ k one. ap length (sym (by_template t name number k.template)) ∙ one) keys just) in
    let first : IsFirst (λ (k : Revision). IsKnownIn t name number k × HasOne t name number k.template) template r =
    found_has (λ k. IsKnownIn t name number k × HasOne t name number k.template) template keys r ones (find_distinct template rs ∙ e) in
    subst (λ n. filter (is_binding name number n) t.bindings ≡ binding_row name number r ∷ []) first.named
    (just_it (filter (is_binding name number r.template) t.bindings) (binding_row name number r) first.has.1 (has_row t name number r first.has.0).there)
found_row t name number rs known many template None e =
    let keys : List Revision = distinct rs in
    let none : AllByRecursion (λ (r : Revision). bytes_eq template r.template ≡ false) keys = none_found template keys (find_distinct template rs ∙ e) in
    sym (by_template t name number template)
    ∙ no_strays names_template (λ (k : Revision). 1) keys (rows_of t name number) (templates_apart rs) (have_rows t name number keys (all_distinct (IsKnownIn t name number) rs known)) (no_more t name number rs many)
    (λ (row : BindingRow). bytes_eq template row.template)
    (weaker (λ (r : Revision). bytes_eq template r.template ≡ false) (λ k. Apart (names_template k) (λ (row : BindingRow). bytes_eq template row.template))
    (λ k other row is. names_apart k.template template row.template (λ same. true≢false (sym (ap (bytes_eq template) same ∙ own_key template) ∙ other)) is) keys none)

pub bindings_of_number : (t : Tables) (name : List ℕ) (number : ℕ) (rs : List Revision) → AllByRecursion (IsKnown (known_in t name number)) rs → length (filter (is_binding_of name number) t.bindings) ≡ length (distinct rs) → AreBindings t name number rs
bindings_of_number t name number rs known many template = found_row t name number rs known many template (find (is_of_template template) rs) refl

-- Their number.

found_key : (row : BindingRow) (rs : List Revision) → (find (is_of_template row.template) rs ≡ None → ⊥) → HasKey names_template rs row
found_key row [] some = some refl
found_key row (r ∷ rs) some =
    elim (bytes_eq row.template r.template)
    as (λ b. bytes_eq row.template r.template ≡ b → (cond b (Some r) (find (is_of_template row.template) rs) ≡ None → ⊥) → (names_template r row ≡ true) ⊎ HasKey names_template rs row) [
      | true ↦ λ e some. inl (ap (bytes_eq r.template) (equal_keys row.template r.template e) ∙ own_key r.template)
      | false ↦ λ e some. inr (found_key row rs some)
    ] refl some

pub has_binding_key : (t : Tables) (name : List ℕ) (number : ℕ) (row : BindingRow) → IsIn row (filter (is_binding_of name number) t.bindings) → IsIn row (filter (is_binding name number row.template) t.bindings)
has_binding_key t name number row at = subst (IsIn row) (by_template t name number row.template) (in_filter (λ (r : BindingRow). bytes_eq row.template r.template) row (rows_of t name number) at (own_key row.template))

at_most_one : {A R : Type 0} (row : A → R) (o : Option A) → length (row_if row o) ≤ 1
at_most_one row None = omega arith
at_most_one row (Some x) = omega arith

own_found : (rs : List Revision) → AllByRecursion (λ (r : Revision). find (is_of_template r.template) rs ≡ None → ⊥) rs
own_found rs = each_in (λ (r : Revision). find (is_of_template r.template) rs ≡ None → ⊥) rs (λ r at none. not_passed r rs at (none_found r.template rs none))
  where
    not_passed : (r : Revision) (xs : List Revision) → IsIn r xs → AllByRecursion (λ (x : Revision). bytes_eq r.template x.template ≡ false) xs → ⊥
    not_passed r [] at all = at
    not_passed r (x ∷ xs) (inl same) all = true≢false (sym (ap (λ (y : Revision). bytes_eq r.template y.template) same ∙ own_key r.template) ∙ all.0)
    not_passed r (x ∷ xs) (inr at) all = not_passed r xs at all.1

pub number_of_bindings : (t : Tables) (name : List ℕ) (number : ℕ) (rs : List Revision) → AreBindings t name number rs → length (filter (is_binding_of name number) t.bindings) ≡ length (distinct rs)
number_of_bindings t name number rs are =
    let keys : List Revision = distinct rs in
    let rows : List BindingRow = rows_of t name number in
    let sum : sum_by (λ (r : Revision). 1) keys ≡ length keys = ones keys in
    let least : sum_by (λ (r : Revision). 1) keys ≤ length rows =
    together names_template (λ (r : Revision). 1) keys rows (templates_apart rs)
    (weaker (λ (r : Revision). find (is_of_template r.template) keys ≡ None → ⊥) (λ r. 1 ≤ length (filter (names_template r) rows))
    (λ r has. subst (λ (l : List BindingRow). 1 ≤ length l) (sym (by_template t name number r.template ∙ are r.template)) (some_found name number (find (is_of_template r.template) rs) (λ none. has (find_distinct r.template rs ∙ none)))) keys (own_found keys)) in
    let most : length rows ≤ sum_by (λ (r : Revision). 1) keys =
    at_most names_template (λ (r : Revision). 1) keys rows
    (each_in (HasKey names_template keys) rows (λ row at. found_key row keys (λ none.
    subst (IsIn row) (are row.template ∙ ap (row_if (binding_row name number)) (sym (find_distinct row.template rs) ∙ none)) (has_binding_key t name number row at))))
    (each_in (λ (r : Revision). length (filter (names_template r) rows) ≤ 1) keys (λ r at. subst (λ (l : List BindingRow). length l ≤ 1) (sym (by_template t name number r.template ∙ are r.template)) (at_most_one (binding_row name number) (find (is_of_template r.template) rs)))) in
    omega arith
  where
    some_found : (name : List ℕ) (number : ℕ) (o : Option Revision) → (o ≡ None → ⊥) → 1 ≤ length (row_if (binding_row name number) o)
    some_found name number None has = absurd (has refl)
    some_found name number (Some r) has = omega arith
