-- The revisions of a template are read back from their rows: as many as there are rows of its name.
use Rattle.std.proofs.Common.{◌≡◌, ℕ, zero, suc, ◌+◌, ◌≤◌, ◌<◌, ◌==◌, List, [], ◌∷◌, ◌++◌, length, take, Bool, true, false, Some, None, refl, sym, ap, ◌∙◌, subst, arith}
use Rattle.std.specs.Prelude.{Option, cond, ◌&&◌, not, filter, slice_get, unwrap_or, option_map}
use Rattle.std.specs.Ordering.{nat_cmp}
use Rattle.std.specs.Cmp.Lexicographic.{slice_cmp}
use Rattle.std.specs.Str.{bytes_eq}
use Rattle.std.specs.List.{filter_map, cons_option, last_or, AllByRecursion}
use Rattle.std.specs.FinMap.{get, get-empty}
use Rattle.std.proofs.Math.Seq.{take-length}
use Rattle.std.proofs.lemmas.Bool.Decides.{Decides-eqb}
use Rattle.std.proofs.lemmas.List.Elements.{filter_agree}
use Rattle.std.proofs.lemmas.List.Filters.{length-filter_both}
use Rattle.canary_plan.specs.declared.template.Template.{Template}
use Rattle.canary_plan.specs.declared.command.Command.TheVariants as command
use Rattle.canary_release.specs.Desks.{revisions_of, newest}
use Rattle.canary_release.specs.Order.{at_revision, IsTemplate, IsInRevisions, AreRevisions}
use Rattle.canary_once.specs.Contents.{Contents}
use Rattle.canary_once.specs.Sound.{AreContents}
use Rattle.canary_tables_rows.specs.declared.rows.RevisionRow.{RevisionRow}
use Rattle.canary_tables_rows.specs.Newest.{IsGreatest, IsNewest}
use Rattle.canary_tables_rows.specs.Tables.{Tables, is_revision, is_revision_of}
use Rattle.canary_tables_contents.specs.Values.{revision_row, revision_of_row}
use Rattle.canary_tables_contents.specs.Tables.{row_if, revision_rows, AreRows, IsReadable, IsReadableCommand}
use Rattle.canary_tables_contents.specs.Reading.{first_row, revisions_to, revisions_in, templates_of}
use Rattle.canary_tables_contents.specs.Finding.{IsFound}
use Rattle.canary_tables_contents.proofs.Keys.{at_key, same_texts, equal_keys, optional, take-more}
use Rattle.canary_tables_contents.proofs.InOrder.{from_filter, to_filter, filter_twice, equal, apart}
use Rattle.canary_tables_contents.proofs.Numbered.{weaker}
use Rattle.canary_tables_contents.proofs.RowsBack.{revision_back, all_at, found_under}

-- A list of revisions.

abbrev pub IsReadableTemplate : Template → Type 0
IsReadableTemplate t = IsReadableCommand (command.Template t.spec)

-- a revision has the number of its place
pub template_at : (name : List ℕ) (n : ℕ) (ts : List Template) (i : ℕ) (t : Template) → AreRevisions name n ts → slice_get ts i ≡ Some t → IsTemplate name (i + n) t
template_at name n [] i t are e = absurd (cc)
template_at name n (x ∷ ts) zero t are e =
    let same : x ≡ t = cc in
    let is : IsTemplate name n x = are.0 in
    let number : n ≡ zero + n = omega arith in
    subst (λ k. IsTemplate name k t) number (subst (λ (y : Template). IsTemplate name n y) same is)
template_at name n (x ∷ ts) (suc i) t are e =
    let number : i + suc n ≡ suc i + n = omega arith in
    subst (λ k. IsTemplate name k t) number (template_at name (suc n) ts i t are.1 e)

pub revision_number : (name : List ℕ) (ts : List Template) (i : ℕ) (t : Template) → AreRevisions name 1 ts → slice_get ts i ≡ Some t → t.revision ≡ suc i
revision_number name ts i t are e =
    let is : IsTemplate name (i + 1) t = template_at name 1 ts i t are e in
    let number : i + 1 ≡ suc i = omega arith in
    ap (λ (x : Template). x.revision) is.bound ∙ number

pub in_revisions : (name : List ℕ) (o : Option (List Template)) → ((ts : List Template) → o ≡ Some ts → IsInRevisions name ts) → AreRevisions name 1 (unwrap_or o [])
in_revisions name None is = tt
in_revisions name (Some ts) is = (is ts refl).each

place_within : {A : Type 0} (xs : List A) (i : ℕ) (x : A) → slice_get xs i ≡ Some x → i < length xs
place_within [] i x e = absurd (cc)
place_within (y ∷ xs) zero x e = omega arith
place_within (y ∷ xs) (suc i) x e = let later : i < length xs = place_within xs i x e in omega arith

-- The rows of a name.

-- under each number stands the row of the revision at its place
pub record AreRevisionRows (rows : List RevisionRow) (name : List ℕ) (ts : List Template) : Type 0 where
  pub under : (number : ℕ) → filter (λ (row : RevisionRow). number == row.revision) rows ≡ revision_rows name number ts
  pub are : AreRevisions name 1 ts

-- a row is that of a revision
pub record IsRevisionRow (name : List ℕ) (ts : List Template) (row : RevisionRow) : Type 0 where
  pub place : ℕ
  pub template : Template
  pub there : slice_get ts place ≡ Some template
  pub is : row ≡ revision_row name template
  pub numbered : row.revision ≡ suc place

-- what holds under each key holds of all
by_keys : {X : Type 0} (key : X → ℕ) (P : X → Type 0) (xs : List X) → ((m : ℕ) → AllByRecursion (λ x. (m == key x) ≡ true → P x) xs) → AllByRecursion P xs
by_keys key P [] all = tt
by_keys key P (x ∷ xs) all = ((all (key x)).0 (equal (key x) (key x) refl), by_keys key P xs (λ m. (all m).1))

rows_under : (name : List ℕ) (ts : List Template) → AreRevisions name 1 ts → (place : ℕ) (o : Option Template) → slice_get ts place ≡ o → AllByRecursion (IsRevisionRow name ts) (row_if (revision_row name) o)
rows_under name ts are place None e = tt
rows_under name ts are place (Some t) e = (record { place = place; template = t; there = e; is = refl; numbered = revision_number name ts place t are e }, tt)

rows_numbered : (name : List ℕ) (ts : List Template) → AreRevisions name 1 ts → (number : ℕ) → AllByRecursion (IsRevisionRow name ts) (revision_rows name number ts)
rows_numbered name ts are zero = tt
rows_numbered name ts are (suc place) = rows_under name ts are place (slice_get ts place) refl

pub each_is_row : (rows : List RevisionRow) (name : List ℕ) (ts : List Template) → AreRevisionRows rows name ts → AllByRecursion (IsRevisionRow name ts) rows
each_is_row rows name ts are =
    by_keys (λ (row : RevisionRow). row.revision) (IsRevisionRow name ts) rows (λ m.
    from_filter (λ (row : RevisionRow). m == row.revision) (IsRevisionRow name ts) rows (subst (AllByRecursion (IsRevisionRow name ts)) (sym (are.under m)) (rows_numbered name ts are.are m)))

-- How many there are.

-- the keys are 1 to n, each once
record AreOnce {X : Type 0} (key : X → ℕ) (n : ℕ) (xs : List X) : Type 0 where
  within : AllByRecursion (λ x. (1 ≤ key x) × (key x ≤ n)) xs
  once : (m : ℕ) → 1 ≤ m → m ≤ n → length (filter (λ x. m == key x) xs) ≡ 1

-- no key that is another is this one
not_last : (m n k : ℕ) → m < n → (not (n == k) && (m == k)) ≡ (m == k)
not_last m n k below = by (n == k) refl
  where
    by : (b : Bool) → (n == k) ≡ b → (not b && (m == k)) ≡ (m == k)
    by false e = refl
    by true e = let same : n ≡ k = (Decides-eqb n k).0 e in sym (apart m k (omega (arith, below, same)))

below_last : (n k : ℕ) → k ≤ suc n → not (suc n == k) ≡ true → k ≤ n
below_last n k most other = by (suc n == k) refl other
  where
    by : (b : Bool) → (suc n == k) ≡ b → not b ≡ true → k ≤ n
    by true e o = absurd (cc)
    by false e o = let differ : suc n ≡ k → ⊥ = λ same. (let no : true ≡ false = sym (equal (suc n) k same) ∙ e in absurd (cc)) in smaller differ
      where
        smaller : (suc n ≡ k → ⊥) → k ≤ n
        smaller differ = omega (arith, most, differ)

rest_once : {X : Type 0} (key : X → ℕ) (n : ℕ) (xs : List X) → AreOnce key (suc n) xs → AreOnce key n (filter (λ x. not (suc n == key x)) xs)
rest_once {X} key n xs are = record {
  within =
      to_filter (λ x. not (suc n == key x)) (λ x. (1 ≤ key x) × (key x ≤ n)) xs
      (weaker (λ x. (1 ≤ key x) × (key x ≤ suc n)) (λ x. not (suc n == key x) ≡ true → (1 ≤ key x) × (key x ≤ n)) (λ x h e. (h.0, below_last n (key x) h.1 e)) xs are.within);
  once = λ m low high.
      ap length
      (filter_twice (λ x. m == key x) (λ x. not (suc n == key x)) xs
      ∙ filter_agree (λ x. not (suc n == key x) && (m == key x)) (λ x. m == key x) (λ x. not_last m (suc n) (key x) (omega (arith, high))) xs)
      ∙ are.once m low (omega (arith, high));
}

count_once : {X : Type 0} (key : X → ℕ) (n : ℕ) (xs : List X) → AreOnce key n xs → length xs ≡ n
count_once key zero [] are = refl
count_once key zero (x ∷ xs) are = let low : 1 ≤ key x = are.within.0.0 in let high : key x ≤ zero = are.within.0.1 in absurd (omega (arith, low, high))
count_once {X} key (suc n) xs are =
    let one : length (filter (λ x. suc n == key x) xs) ≡ 1 = are.once (suc n) (omega arith) (omega arith) in
    let others : length (filter (λ x. not (suc n == key x)) xs) ≡ n = count_once key n (filter (λ x. not (suc n == key x)) xs) (rest_once key n xs are) in
    let both : length (filter (λ x. suc n == key x) xs) + length (filter (λ x. not (suc n == key x)) xs) ≡ length xs = length-filter_both (λ x. suc n == key x) (λ x. not (suc n == key x)) (λ x. refl) xs in
    omega (arith, one, others, both)

there_within : {A R : Type 0} (row : A → R) (xs : List A) (i : ℕ) → i < length xs → length (row_if row (slice_get xs i)) ≡ 1
there_within row [] i below = absurd (omega (arith, below))
there_within row (x ∷ xs) zero below = refl
there_within row (x ∷ xs) (suc i) below = there_within row xs i (omega (arith, below))

one_numbered : (name : List ℕ) (ts : List Template) (m : ℕ) → 1 ≤ m → m ≤ length ts → length (revision_rows name m ts) ≡ 1
one_numbered name ts zero low high = absurd (omega (arith, low))
one_numbered name ts (suc place) low high = there_within (revision_row name) ts place (omega (arith, high))

pub as_many : (rows : List RevisionRow) (name : List ℕ) (ts : List Template) → AreRevisionRows rows name ts → length rows ≡ length ts
as_many rows name ts are = count_once (λ (row : RevisionRow). row.revision) (length ts) rows (record {
  within =
      weaker (IsRevisionRow name ts) (λ (row : RevisionRow). (1 ≤ row.revision) × (row.revision ≤ length ts))
      (λ row is.
      let below : is.place < length ts = place_within ts is.place is.template is.there in
      let number : row.revision ≡ suc is.place = is.numbered in
      (omega (arith, number), omega (arith, number, below)))
      rows (each_is_row rows name ts are);
  once = λ m low high. ap length (are.under m) ∙ one_numbered name ts m low high;
})

-- They are read back.

if_read : (name : List ℕ) (ts : List Template) (place : ℕ) (o : Option Template) → AreRevisions name 1 ts → AllByRecursion IsReadableTemplate ts → slice_get ts place ≡ o → filter_map revision_of_row (row_if (revision_row name) o) ≡ optional o
if_read name ts place None are readable e = refl
if_read name ts place (Some t) are readable e = λ i. cons_option (revision_back name (place + 1) t (all_at IsReadableTemplate ts readable place t e) (template_at name 1 ts place t are e) i) []

to_number : (all : List RevisionRow) (name : List ℕ) (ts : List Template) → ((number : ℕ) → filter (is_revision name number) all ≡ revision_rows name number ts) → AreRevisions name 1 ts → AllByRecursion IsReadableTemplate ts
    → (n : ℕ) → revisions_to all name n ≡ take n ts
to_number all name ts rows are readable zero = refl
to_number all name ts rows are readable (suc n) =
    let one : filter_map revision_of_row (filter (is_revision name (suc n)) all) ≡ optional (slice_get ts n) = ap (filter_map revision_of_row) (rows (suc n)) ∙ if_read name ts n (slice_get ts n) are readable refl in
    (λ i. to_number all name ts rows are readable n i ++ one i) ∙ take-more n ts

rows_of_name : (all : List RevisionRow) (name : List ℕ) (ts : List Template) → ((number : ℕ) → filter (is_revision name number) all ≡ revision_rows name number ts) → AreRevisions name 1 ts → AreRevisionRows (filter (is_revision_of name) all) name ts
rows_of_name all name ts rows are = record {
  under = λ number. filter_twice (λ (row : RevisionRow). number == row.revision) (is_revision_of name) all ∙ rows number;
  are = are;
}

revisions_back : (all : List RevisionRow) (name : List ℕ) (ts : List Template) → ((number : ℕ) → filter (is_revision name number) all ≡ revision_rows name number ts) → AreRevisions name 1 ts → AllByRecursion IsReadableTemplate ts → revisions_in all name ≡ ts
revisions_back all name ts rows are readable =
    ap (revisions_to all name) (as_many (filter (is_revision_of name) all) name ts (rows_of_name all name ts rows are))
    ∙ to_number all name ts rows are readable (length ts) ∙ take-length ts

-- The map of all.

-- this, if there are rows
abbrev if_any : List RevisionRow → List Template → Option (List Template)
if_any [] v = None
if_any (row ∷ rows) v = Some v

pulled : (all : List RevisionRow) (q : List ℕ) (row : RevisionRow) (rows : List RevisionRow) (b : Bool) → bytes_eq q row.name ≡ b
    → cond b (Some (revisions_in all row.name)) (if_any rows (revisions_in all q)) ≡ if_any (cond b (row ∷ rows) rows) (revisions_in all q)
pulled all q row rows true e = ap (λ (name : List ℕ). Some (revisions_in all name)) (sym (equal_keys q row.name e))
pulled all q row rows false e = refl

get-templates : (all rows : List RevisionRow) (q : List ℕ) → get (templates_of all rows) q ≡ if_any (filter (is_revision_of q) rows) (revisions_in all q)
get-templates all [] q = get-empty (slice_cmp nat_cmp) q
get-templates all (row ∷ rows) q =
    at_key (templates_of all rows) row.name (revisions_in all row.name) q
    ∙ ap (cond (bytes_eq q row.name) (Some (revisions_in all row.name))) (get-templates all rows q)
    ∙ pulled all q row (filter (is_revision_of q) rows) (bytes_eq q row.name) refl

any_there : (v : List Template) (rows : List RevisionRow) (o : Option (List Template)) → length rows ≡ length (unwrap_or o []) → v ≡ unwrap_or o [] → ((ts : List Template) → o ≡ Some ts → 1 ≤ length ts) → if_any rows v ≡ o
any_there v [] None many is some = refl
any_there v (row ∷ rows) None many is some = absurd (omega (arith, many))
any_there v [] (Some ts) many is some = let low : 1 ≤ length ts = some ts refl in absurd (omega (arith, many, low))
any_there v (row ∷ rows) (Some ts) many is some = ap Some is

are_of : (c : Contents) → AreContents c → (name : List ℕ) → AreRevisions name 1 (revisions_of c.desk.templates name)
are_of c lawful name = in_revisions name (get c.desk.templates name) (lawful.desk.templates name)

pub templates_back : (t : Tables) (c : Contents) → AreRows t c → IsReadable c → AreContents c → templates_of t.revisions t.revisions ≡ c.desk.templates
templates_back t c are readable lawful =
    same_texts _ _ (λ q.
    let ts : List Template = revisions_of c.desk.templates q in
    get-templates t.revisions t.revisions q
    ∙ any_there (revisions_in t.revisions q) (filter (is_revision_of q) t.revisions) (get c.desk.templates q)
    (as_many (filter (is_revision_of q) t.revisions) q ts (rows_of_name t.revisions q ts (are.revisions q) (are_of c lawful q)))
    (revisions_back t.revisions q ts (are.revisions q) (are_of c lawful q) (readable.templates q))
    (λ xs e. (lawful.desk.templates q xs e).some))

-- What is found.

at_place : (name : List ℕ) (ts : List Template) (rows : List RevisionRow) (place : ℕ) → AreRevisions name 1 ts → AllByRecursion IsReadableTemplate ts → rows ≡ row_if (revision_row name) (slice_get ts place) → IsFound revision_of_row (first_row rows) (slice_get ts place)
at_place name ts rows place are readable is =
    found_under (revision_row name) revision_of_row rows (slice_get ts place) is (λ t e. revision_back name (place + 1) t (all_at IsReadableTemplate ts readable place t e) (template_at name 1 ts place t are e))

at_number : (name : List ℕ) (ts : List Template) (rows : List RevisionRow) (number : ℕ) → AreRevisions name 1 ts → AllByRecursion IsReadableTemplate ts → rows ≡ revision_rows name number ts → IsFound revision_of_row (first_row rows) (at_revision ts (Some number))
at_number name ts rows zero are readable is = subst (λ (rs : List RevisionRow). IsFound revision_of_row (first_row rs) None) (sym is) (record { value = refl; read = refl })
at_number name ts rows (suc place) are readable is = at_place name ts rows place are readable is

pub revision_found : (t : Tables) (c : Contents) → AreRows t c → IsReadable c → AreContents c → (name : List ℕ) (number : ℕ)
    → IsFound revision_of_row (first_row (filter (is_revision name number) t.revisions)) (at_revision (revisions_of c.desk.templates name) (Some number))
revision_found t c are readable lawful name number = at_number name (revisions_of c.desk.templates name) _ number (are_of c lawful name) (readable.templates name) (are.revisions name number)

-- the last of a list
last_at : {A : Type 0} (o : Option A) (x : A) (xs : List A) → last_or o (x ∷ xs) ≡ slice_get (x ∷ xs) (length xs)
last_at o x [] = refl
last_at o x (y ∷ xs) = last_at (Some x) y xs

-- the row with the greatest number stands at the last place
greatest_last : (name : List ℕ) (x : Template) (xs : List Template) (rows : List RevisionRow) (row : RevisionRow) → AreRevisionRows rows name (x ∷ xs) → IsGreatest rows row → IsRevisionRow name (x ∷ xs) row → row.revision ≡ suc (length xs)
greatest_last name x xs rows row are greatest is =
    let below : is.place < length (x ∷ xs) = place_within (x ∷ xs) is.place is.template is.there in
    let number : row.revision ≡ suc is.place = is.numbered in
    let last : suc (length xs) ≤ row.revision = passed (slice_get (x ∷ xs) (length xs)) refl in
    omega (arith, below, number, last)
  where
    all_under : AllByRecursion (λ (y : RevisionRow). y.revision ≤ row.revision) (revision_rows name (suc (length xs)) (x ∷ xs))
    all_under =
        subst (AllByRecursion (λ (y : RevisionRow). y.revision ≤ row.revision)) (are.under (suc (length xs)))
        (to_filter (λ (y : RevisionRow). suc (length xs) == y.revision) (λ (y : RevisionRow). y.revision ≤ row.revision) rows
        (weaker (λ (y : RevisionRow). y.revision ≤ row.revision) (λ (y : RevisionRow). (suc (length xs) == y.revision) ≡ true → y.revision ≤ row.revision) (λ y h e. h) rows greatest.greatest))

    there : {A : Type 0} (y : A) (ys : List A) → slice_get (y ∷ ys) (length ys) ≡ None → ⊥
    there y [] e = cc e
    there y (z ∷ ys) e = there z ys e

    passed : (o : Option Template) → slice_get (x ∷ xs) (length xs) ≡ o → suc (length xs) ≤ row.revision
    passed None e = absurd (there x xs e)
    passed (Some t) e =
        let number : t.revision ≡ suc (length xs) = revision_number name (x ∷ xs) (length xs) t are.are e in
        let under : AllByRecursion (λ (y : RevisionRow). y.revision ≤ row.revision) (row_if (revision_row name) (Some t)) = subst (λ (o : Option Template). AllByRecursion (λ (y : RevisionRow). y.revision ≤ row.revision) (row_if (revision_row name) o)) e all_under in
        let most : t.revision ≤ row.revision = under.0 in
        omega (arith, number, most)

newest_row : (name : List ℕ) (ts : List Template) (rows : List RevisionRow) (row : RevisionRow) → AreRevisionRows rows name ts → AllByRecursion IsReadableTemplate ts → IsGreatest rows row → IsRevisionRow name ts row → IsFound revision_of_row (Some row) (last_or None ts)
newest_row name [] rows row are readable greatest is = let there : slice_get [] is.place ≡ Some is.template = is.there in absurd (cc)
newest_row name (x ∷ xs) rows row are readable greatest is =
    let number : row.revision ≡ suc (length xs) = greatest_last name x xs rows row are greatest is in
    let place : is.place ≡ length xs = (let n : row.revision ≡ suc is.place = is.numbered in omega (arith, n, number)) in
    let there : slice_get (x ∷ xs) (length xs) ≡ Some is.template = ap (slice_get (x ∷ xs)) (sym place) ∙ is.there in
    let read : revision_of_row row ≡ Some is.template =
    ap revision_of_row is.is ∙ revision_back name (is.place + 1) is.template (all_at IsReadableTemplate (x ∷ xs) readable is.place is.template is.there) (template_at name 1 (x ∷ xs) is.place is.template are.are is.there) in
    let newest_is : Some is.template ≡ last_or None (x ∷ xs) = sym there ∙ sym (last_at None x xs) in
    record { value = read ∙ newest_is; read = ap Some (read ∙ newest_is) ∙ some_of (last_or None (x ∷ xs)) is.template newest_is }
  where
    some_of : (o : Option Template) (y : Template) → Some y ≡ o → Some o ≡ option_map Some o
    some_of None y e = absurd (cc)
    some_of (Some z) y e = refl

pub newest_found : (t : Tables) (c : Contents) → AreRows t c → IsReadable c → AreContents c → (name : List ℕ) (row : Option RevisionRow) → IsNewest (filter (is_revision_of name) t.revisions) row → IsFound revision_of_row row (newest c.desk.templates name)
newest_found t c are readable lawful name None none =
    let ts : List Template = revisions_of c.desk.templates name in
    let many : length ts ≡ 0 = sym (as_many (filter (is_revision_of name) t.revisions) name ts (rows_of_name t.revisions name ts (are.revisions name) (are_of c lawful name))) ∙ ap length none in
    no_last ts many
  where
    no_last : (ts : List Template) → length ts ≡ 0 → IsFound revision_of_row None (last_or None ts)
    no_last [] e = record { value = refl; read = refl }
    no_last (x ∷ xs) e = absurd (omega (arith, e))
newest_found t c are readable lawful name (Some row) greatest =
    let ts : List Template = revisions_of c.desk.templates name in
    let rows : List RevisionRow = filter (is_revision_of name) t.revisions in
    let of_name : AreRevisionRows rows name ts = rows_of_name t.revisions name ts (are.revisions name) (are_of c lawful name) in
    newest_row name ts rows row of_name (readable.templates name) greatest (all_at (IsRevisionRow name ts) rows (each_is_row rows name ts of_name) greatest.place row greatest.stands)
