-- Rows under a key, after a statement: one row more, or some rows changed.
use Rattle.std.proofs.Common.{◌≡◌, ℕ, List, [], ◌∷◌, ◌++◌, Bool, true, false, refl, ap, sym, ◌∙◌, true≢false, eqb-true, eq-eqb, append-nil}
use Rattle.std.specs.Prelude.{◌==◌, ◌&&◌, if◌then◌else◌, cond, filter}
use Rattle.std.specs.Str.{bytes_eq}
use Rattle.std.proofs.lemmas.List.Elements.{filter-append}
use Rattle.std.proofs.lemmas.Slice.Eq.{bytes_eq-Decides}
use Rattle.canary_tables_rows.specs.Changes.{change_where}

-- Tests.

pub own_name : (name : List ℕ) → bytes_eq name name ≡ true
own_name name = (bytes_eq-Decides name name).1 refl

pub other_name : (q name : List ℕ) → bytes_eq q name ≡ false → bytes_eq name q ≡ false
other_name q name e =
    elim (bytes_eq name q)
    as (λ b. bytes_eq name q ≡ b → bytes_eq name q ≡ false) [
      | true ↦ λ same. absurd (true≢false (sym ((bytes_eq-Decides q name).1 (sym ((bytes_eq-Decides name q).0 same))) ∙ e))
      | false ↦ λ differ. differ
    ] refl

pub not_both : (a b : ℕ) → (a ≡ b → ⊥) → (a == b) ≡ false
not_both a b differ =
    elim (a == b)
    as (λ t. (a == b) ≡ t → (a == b) ≡ false) [
      | true ↦ λ e. absurd (differ (eqb-true a b e))
      | false ↦ λ e. e
    ] refl

pub turned : (a b : ℕ) (t : Bool) → (a == b) ≡ t → (b == a) ≡ t
turned a b true e = eq-eqb b a (sym (eqb-true a b e))
turned a b false e = not_both b a (λ same. true≢false (sym (eq-eqb a b (sym same)) ∙ e))

-- One row more.

one_more : {R : Type 0} (test : R → Bool) (rows : List R) (row : R) → filter test (rows ++ row ∷ []) ≡ filter test rows ++ cond (test row) (row ∷ []) []
one_more test rows row = filter-append test rows (row ∷ [])

pub passes_more : {R : Type 0} (test : R → Bool) (rows : List R) (row : R) → test row ≡ true → filter test (rows ++ row ∷ []) ≡ filter test rows ++ row ∷ []
passes_more test rows row e = one_more test rows row ∙ ap (λ b. filter test rows ++ cond b (row ∷ []) []) e

pub fails_more : {R : Type 0} (test : R → Bool) (rows : List R) (row : R) → test row ≡ false → filter test (rows ++ row ∷ []) ≡ filter test rows
fails_more test rows row e = one_more test rows row ∙ ap (λ b. filter test rows ++ cond b (row ∷ []) []) e ∙ append-nil (filter test rows)

-- Rows that are changed, but not in what the test looks at.

same_test : {R : Type 0} (test : R → Bool) (change : R → R) (row : R) (b : Bool) → test (change row) ≡ test row → test (if b then change row else row) ≡ test row
same_test test change row true keeps = keeps
same_test test change row false keeps = refl

pub changed_under : {R : Type 0} (test changes : R → Bool) (change : R → R) → ((row : R) → test (change row) ≡ test row) → (rows : List R)
    → filter test (change_where changes change rows) ≡ change_where changes change (filter test rows)
changed_under test changes change keeps [] = refl
changed_under {R} test changes change keeps (row ∷ rows) =
    let new : R = if changes row then change row else row in
    let rest : List R = filter test (change_where changes change rows) in
    let behind = changed_under test changes change keeps rows in
    ap (λ b. cond b (new ∷ rest) rest) (same_test test change row (changes row) (keeps row))
    ∙ elim (test row)
    as (λ b. cond b (new ∷ rest) rest ≡ change_where changes change (cond b (row ∷ filter test rows) (filter test rows))) [
      | true ↦ ap (λ (rs : List R). new ∷ rs) behind
      | false ↦ behind
    ]

-- none that passes the test is changed
unchanged : {R : Type 0} (test changes : R → Bool) (change : R → R) → ((row : R) → test row ≡ true → changes row ≡ false) → (rows : List R)
    → change_where changes change (filter test rows) ≡ filter test rows
unchanged test changes change apart [] = refl
unchanged {R} test changes change apart (row ∷ rows) =
    let behind = unchanged test changes change apart rows in
    elim (test row)
    as (λ b. test row ≡ b → change_where changes change (cond b (row ∷ filter test rows) (filter test rows)) ≡ cond b (row ∷ filter test rows) (filter test rows)) [
      | true ↦ λ e. λ i. (if apart row e i then change row else row) ∷ behind i
      | false ↦ λ e. behind
    ] refl

pub left_alone : {R : Type 0} (test changes : R → Bool) (change : R → R) → ((row : R) → test (change row) ≡ test row) → ((row : R) → test row ≡ true → changes row ≡ false) → (rows : List R)
    → filter test (change_where changes change rows) ≡ filter test rows
left_alone test changes change keeps apart rows = changed_under test changes change keeps rows ∙ unchanged test changes change apart rows

-- a test that begins with a name
pub first_holds : (a b : Bool) → (a && b) ≡ true → a ≡ true
first_holds true b e = refl
first_holds false b e = e

-- rows of one name are not those of another
pub apart_by_name : (q name own : List ℕ) → bytes_eq q name ≡ false → bytes_eq q own ≡ true → bytes_eq name own ≡ false
apart_by_name q name own differ same = ap (bytes_eq name) (sym ((bytes_eq-Decides q own).0 same)) ∙ other_name q name differ
