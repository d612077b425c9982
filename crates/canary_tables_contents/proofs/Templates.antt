-- Templates are judged revision by revision.
use Rattle.std.proofs.Common.{◌≡◌, ◌⊎◌, inl, inr, true≢false, ℕ, zero, suc, ◌+◌, ◌-◌, ◌≤◌, ◌<◌, ◌==◌, List, [], ◌∷◌, ◌++◌, length, Bool, true, false, Some, None, refl, sym, ap, ◌∙◌, subst, arith}
use Rattle.std.specs.Prelude.{Option, ◌&&◌, cond, filter, slice_get, unwrap_or, is_some}
use Rattle.std.specs.Str.{bytes_eq}
use Rattle.std.specs.List.{AllByRecursion, filter_map, cons_option}
use Rattle.std.specs.FinMap.{get, insert, get-empty}
use Rattle.std.specs.Ordering.{nat_cmp}
use Rattle.std.specs.Cmp.Lexicographic.{slice_cmp}
use Rattle.std.proofs.lemmas.Bool.Decides.{Decides-eqb}
use Rattle.std.proofs.lemmas.List.{length-append}
use Rattle.canary_plan.specs.declared.template.Template.{Template}
use Rattle.canary_plan.specs.declared.command.Command.{Command}
use Rattle.canary_plan.specs.declared.command.Command.TheVariants as command
use Rattle.canary_plan.specs.Plans.{template_of}
use Rattle.canary_canonical.specs.Readings.{canonical_in}
use Rattle.canary_release.specs.Desks.{revisions_of}
use Rattle.canary_release.specs.Order.{IsTemplate, AreRevisions, IsInRevisions}
use Rattle.canary_tables_rows.specs.declared.rows.RevisionRow.{RevisionRow}
use Rattle.canary_tables_rows.specs.Tables.{Tables, is_revision, is_revision_of}
use Rattle.canary_tables_contents.specs.Values.{revision_row, revision_from, revision_of_row}
use Rattle.canary_tables_contents.specs.Tables.{row_if, revision_rows, IsReadableCommand}
use Rattle.canary_tables_contents.specs.Reading.{first_row, revisions_to, revisions_in, templates_of, contents_of}
use Rattle.canary_tables_contents.specs.Judged.{has_revision, IsRevisionJudged, AreTemplatesJudged, HoldTemplates, TemplatesAreJudged}
use Rattle.canary_tables_contents.proofs.Numbers.{is_numbered, no_other_number, numbers_at_most}
use Rattle.canary_tables_contents.proofs.Named.{at_key, equal_keys, own_key, filter_twice, passing, weaker, IsIn, each_in, in_filter, OwnRow, own_row, own_alone}
use Rattle.canary_tables_contents.proofs.CommandTexts.{canonical_text, still_canonical}
use Rattle.canary_tables_contents.proofs.JudgedCallers.{at_front, none_behind}
use Rattle.canary_tables_contents.proofs.CallersHold.{below_or}
use Rattle.canary_tables_contents.proofs.CallersJudged.{HasPlace, has_place, below_length}
use Rattle.canary_tables_contents.proofs.ServicesJudgedLists.{all_at}

-- A revision's row.

pub record IsOfRevision (revision : ℕ) (o : Option Command) (t : Template) : Type 0 where
  pub command : o ≡ Some (command.Template t.spec)
  pub bound : t ≡ template_of t.spec revision

pub of_revision : (revision : ℕ) (o : Option Command) (t : Template) → revision_from revision o ≡ Some t → IsOfRevision revision o t
of_revision revision (Some (command.Template spec)) t e =
    let same : template_of spec revision ≡ t = cc e in
    subst (IsOfRevision revision (Some (command.Template spec))) same (record { command = refl; bound = refl })
of_revision revision other t e = absurd (cc)

-- what is read of a row has its number
pub its_revision : (row : RevisionRow) (t : Template) → revision_of_row row ≡ Some t → t.revision ≡ row.revision
its_revision row t e = ap (λ (x : Template). x.revision) (of_revision row.revision (canonical_in row.spec) t e).bound

revision_again : (row : RevisionRow) (t : Template) (q : List ℕ) → row.name ≡ q → revision_of_row row ≡ Some t → revision_row q t ≡ row
revision_again row t q named is =
    let of : IsOfRevision row.revision (canonical_in row.spec) t = of_revision row.revision (canonical_in row.spec) t is in
    λ i. record { name = sym named i; revision = its_revision row t is i; spec = canonical_text row.spec (command.Template t.spec) of.command i }

-- Under a name and a number.

abbrev pub revision_number : RevisionRow → ℕ
revision_number row = row.revision

abbrev pub rows_of : Tables → List ℕ → List RevisionRow
rows_of t q = filter (is_revision_of q) t.revisions

pub numbered_of : (t : Tables) (q : List ℕ) (k : ℕ) → filter (is_numbered revision_number k) (rows_of t q) ≡ filter (is_revision q k) t.revisions
numbered_of t q k = filter_twice (is_numbered revision_number k) (is_revision_of q) t.revisions

record IsOneAt (t : Tables) (q : List ℕ) (k : ℕ) : Type 0 where
  row : RevisionRow
  one : filter (is_revision q k) t.revisions ≡ row ∷ []
  named : row.name ≡ q
  numbered : row.revision ≡ k
  has : IsRevisionJudged t row

both_hold : (a b : Bool) → a && b ≡ true → (a ≡ true) × (b ≡ true)
both_hold true b e = (refl, e)
both_hold false b e = absurd (cc)

one_at : (t : Tables) (q : List ℕ) (k : ℕ) (row : RevisionRow) → row.name ≡ q → row.revision ≡ k → IsRevisionJudged t row → IsOneAt t q k
one_at t q k row named numbered has = record {
  row = row;
  one = (λ i. filter (is_revision (sym named i) (sym numbered i)) t.revisions) ∙ has.one;
  named = named;
  numbered = numbered;
  has = has;
}

at_found : (t : Tables) (q : List ℕ) (k : ℕ) (found : List RevisionRow) → filter (is_revision q k) t.revisions ≡ found → AllByRecursion (λ r. (is_revision q k r ≡ true) × IsRevisionJudged t r) found
    → (filter (is_revision q k) t.revisions ≡ []) ⊎ IsOneAt t q k
at_found t q k [] is all = inl is
at_found t q k (row ∷ found) is all =
    let keys : (bytes_eq q row.name ≡ true) × ((k == row.revision) ≡ true) = both_hold (bytes_eq q row.name) (k == row.revision) all.0.0 in
    inr (one_at t q k row (sym (equal_keys q row.name keys.0)) (sym ((Decides-eqb k row.revision).0 keys.1)) all.0.1)

none_or_one : (t : Tables) → AreTemplatesJudged t → (q : List ℕ) (k : ℕ) → (filter (is_revision q k) t.revisions ≡ []) ⊎ IsOneAt t q k
none_or_one t judged q k = at_found t q k (filter (is_revision q k) t.revisions) refl (passing (is_revision q k) (IsRevisionJudged t) t.revisions judged)

once : (t : Tables) → AreTemplatesJudged t → (q : List ℕ) (k : ℕ) → length (filter (is_numbered revision_number k) (rows_of t q)) ≤ 1
once t judged q k =
    let same : length (filter (is_numbered revision_number k) (rows_of t q)) ≡ length (filter (is_revision q k) t.revisions) = ap length (numbered_of t q k) in
    elim (none_or_one t judged q k) as (λ x. length (filter (is_numbered revision_number k) (rows_of t q)) ≤ 1) [
      | inl none ↦ let no : length (filter (is_revision q k) t.revisions) ≡ 0 = ap length none in omega arith
      | inr one ↦ let is : length (filter (is_revision q k) t.revisions) ≡ 1 = ap length one.one in omega arith
    ]

-- below a revision are all before it
one_before : (t : Tables) → AreTemplatesJudged t → (q : List ℕ) (n : ℕ) → 1 ≤ n → IsOneAt t q (suc n) → IsOneAt t q n
one_before t judged q n some o =
    let number : o.row.revision ≡ suc n = o.numbered in
    let at : o.row.revision - 1 ≡ n = omega arith in
    let there : has_revision t o.row.name (o.row.revision - 1) ≡ true = o.has.before (omega arith) in
    let is : has_revision t q n ≡ true = (λ i. has_revision t (sym o.named i) (sym at i)) ∙ there in
    elim (none_or_one t judged q n) as (λ x. IsOneAt t q n) [
      | inl none ↦ absurd (true≢false (sym is ∙ ap (λ (rows : List RevisionRow). is_some (first_row rows)) none))
      | inr one ↦ one
    ]

below : (t : Tables) → AreTemplatesJudged t → (q : List ℕ) (d k : ℕ) → 1 ≤ k → IsOneAt t q (d + k) → IsOneAt t q k
below t judged q zero k some o = subst (IsOneAt t q) (let e : 0 + k ≡ k = omega arith in e) o
below t judged q (suc d) k some o =
    below t judged q d k some (one_before t judged q (d + k) (omega arith) (subst (IsOneAt t q) (let e : suc d + k ≡ suc (d + k) = omega arith in e) o))

-- the revisions of a name are 1 to as many as there are rows of it
within : (t : Tables) → AreTemplatesJudged t → (q : List ℕ) (k : ℕ) → filter (is_revision q (suc k)) t.revisions ≡ [] → (row : RevisionRow) → (is_revision_of q row ≡ true) × IsRevisionJudged t row → (1 ≤ row.revision) × (row.revision < 1 + k)
within t judged q k none row h =
    elim (below_or row.revision (1 + k)) as (λ x. (1 ≤ row.revision) × (row.revision < 1 + k)) [
      | inl low ↦ (h.1.some, low)
      | inr high ↦
          let d : ℕ = row.revision - suc k in
          let own : IsOneAt t q (d + suc k) = one_at t q (d + suc k) row (sym (equal_keys q row.name h.0)) (omega arith) h.1 in
          let o : IsOneAt t q (suc k) = below t judged q d (suc k) (omega arith) own in
          let no : o.row ∷ [] ≡ [] = sym o.one ∙ none in
          absurd (cc)
    ]

pub record HasOneAt (t : Tables) (q : List ℕ) (k : ℕ) : Type 0 where
  pub row : RevisionRow
  pub one : filter (is_revision q k) t.revisions ≡ row ∷ []
  pub named : row.name ≡ q
  pub numbered : row.revision ≡ k
  pub has : IsRevisionJudged t row

pub each_at : (t : Tables) → AreTemplatesJudged t → (q : List ℕ) (k : ℕ) → 1 ≤ k → k ≤ length (rows_of t q) → HasOneAt t q k
each_at t judged q zero some most = absurd (omega arith)
each_at t judged q (suc k) some most =
    elim (none_or_one t judged q (suc k)) as (λ x. HasOneAt t q (suc k)) [
      | inl none ↦
          let few : length (rows_of t q) ≤ k = numbers_at_most revision_number (rows_of t q) 1 k
          (weaker (λ r. (is_revision_of q r ≡ true) × IsRevisionJudged t r) (λ r. (1 ≤ r.revision) × (r.revision < 1 + k)) (within t judged q k none) (rows_of t q) (passing (is_revision_of q) (IsRevisionJudged t) t.revisions judged))
          (once t judged q) in
          absurd (omega arith)
      | inr one ↦ record { row = one.row; one = one.one; named = one.named; numbered = one.numbered; has = one.has }
    ]

pub none_other : (t : Tables) → AreTemplatesJudged t → (q : List ℕ) (k : ℕ) → (k < 1) ⊎ (1 + length (rows_of t q) ≤ k) → filter (is_revision q k) t.revisions ≡ []
none_other t judged q k out =
    sym (numbered_of t q k)
    ∙ no_other_number revision_number (rows_of t q) 1 (length (rows_of t q)) (λ j a b. (let one : length (filter (is_numbered revision_number j) (rows_of t q)) ≡ 1 = ap length (numbered_of t q j ∙ (each_at t judged q j a (omega arith)).one) in omega arith)) (omega arith) k out

-- What is read of them.

all_with : {X : Type 0} (P : X → Type 0) (xs : List X) (x : X) → AllByRecursion P xs → P x → AllByRecursion P (xs ++ x ∷ [])
all_with P [] x all one = (one, tt)
all_with P (y ∷ xs) x all one = (all.0, all_with P xs x all.1 one)

revisions_with : (q : List ℕ) (first : ℕ) (ts : List Template) (x : Template) → AreRevisions q first ts → IsTemplate q (first + length ts) x → AreRevisions q first (ts ++ x ∷ [])
revisions_with q first [] x are one = (subst (λ n. IsTemplate q n x) (let e : first + 0 ≡ first = omega arith in e) one, tt)
revisions_with q first (y ∷ ts) x are one = (are.0, revisions_with q (suc first) ts x are.1 (subst (λ n. IsTemplate q n x) (let e : first + suc (length ts) ≡ suc first + length ts = omega arith in e) one))

at_last : {A : Type 0} (xs : List A) (x : A) → slice_get (xs ++ x ∷ []) (length xs) ≡ Some x
at_last [] x = refl
at_last (y ∷ xs) x = at_last xs x

abbrev pub IsReadableTemplate : Template → Type 0
IsReadableTemplate x = IsReadableCommand (command.Template x.spec)

-- the revisions 1 to n of a name, as they are read
record AreRead (t : Tables) (q : List ℕ) (n : ℕ) (ts : List Template) : Type 0 where
  many : length ts ≡ n
  are : AreRevisions q 1 ts
  readable : AllByRecursion IsReadableTemplate ts
  rows : (place : ℕ) (x : Template) → slice_get ts place ≡ Some x → filter (is_revision q (suc place)) t.revisions ≡ revision_row q x ∷ []

rows_with : (t : Tables) (q : List ℕ) (ts : List Template) (x : Template) → ((place : ℕ) (y : Template) → slice_get ts place ≡ Some y → filter (is_revision q (suc place)) t.revisions ≡ revision_row q y ∷ [])
    → filter (is_revision q (suc (length ts))) t.revisions ≡ revision_row q x ∷ [] → (place : ℕ) (y : Template) → slice_get (ts ++ x ∷ []) place ≡ Some y → filter (is_revision q (suc place)) t.revisions ≡ revision_row q y ∷ []
rows_with t q ts x front last place y e =
    elim (below_or place (length ts)) as (λ z. filter (is_revision q (suc place)) t.revisions ≡ revision_row q y ∷ []) [
      | inl low ↦ front place y (sym (at_front ts x place low) ∙ e)
      | inr high ↦
          let grown : length (ts ++ x ∷ []) ≡ length ts + 1 = length-append ts (x ∷ []) in
          let within : place < length (ts ++ x ∷ []) = below_length (ts ++ x ∷ []) place y e in
          let at : length ts ≡ place = omega arith in
          let same : x ≡ y = (let both : Some x ≡ Some y = sym (at_last ts x) ∙ ap (slice_get (ts ++ x ∷ [])) at ∙ e in cc) in
          ap (λ n. filter (is_revision q (suc n)) t.revisions) (sym at) ∙ last ∙ ap (λ (z : Template). revision_row q z ∷ []) same
    ]

read_up_to : (t : Tables) → AreTemplatesJudged t → (q : List ℕ) (n : ℕ) → n ≤ length (rows_of t q) → AreRead t q n (revisions_to t.revisions q n)
read_up_to t judged q zero few = record { many = refl; are = tt; readable = tt; rows = λ place x e. absurd (cc) }
read_up_to t judged q (suc n) few =
    let front : AreRead t q n (revisions_to t.revisions q n) = read_up_to t judged q n (omega arith) in
    let o : HasOneAt t q (suc n) = each_at t judged q (suc n) (omega arith) few in
    let x : Template = o.has.read in
    let ts : List Template = revisions_to t.revisions q n in
    let of : IsOfRevision o.row.revision (canonical_in o.row.spec) x = of_revision o.row.revision (canonical_in o.row.spec) x o.has.is in
    let one : filter_map revision_of_row (filter (is_revision q (suc n)) t.revisions) ≡ x ∷ [] = ap (filter_map revision_of_row) o.one ∙ ap (λ (v : Option Template). cons_option v []) o.has.is in
    let many : length ts ≡ n = front.many in
    let is : IsTemplate q (1 + length ts) x = record {
      named = o.has.named ∙ o.named;
      accepted = o.has.accepted;
      bound = of.bound ∙ ap (template_of x.spec) (o.numbered ∙ (let e : suc n ≡ 1 + length ts = omega arith in e));
    } in
    let row : filter (is_revision q (suc n)) t.revisions ≡ revision_row q x ∷ [] = o.one ∙ ap (λ r. r ∷ []) (sym (revision_again o.row x q o.named o.has.is)) in
    let grown : length (ts ++ x ∷ []) ≡ length ts + 1 = length-append ts (x ∷ []) in
    subst (λ (more : List Template). AreRead t q (suc n) (ts ++ more)) (sym one) (record {
      many = omega arith;
      are = revisions_with q 1 ts x front.are is;
      readable = all_with IsReadableTemplate ts x front.readable (still_canonical o.row.spec (command.Template x.spec) of.command);
      rows = rows_with t q ts x front.rows (subst (λ m. filter (is_revision q (suc m)) t.revisions ≡ revision_row q x ∷ []) (sym many) row);
    })

-- What stands under a name.

there_among : (all rows : List RevisionRow) (q : List ℕ) → 1 ≤ length (filter (is_revision_of q) rows) → get (templates_of all rows) q ≡ Some (revisions_in all q)
there_among all [] q some = absurd (omega arith)
there_among all (row ∷ rows) q some =
    let at : get (insert (templates_of all rows) row.name (revisions_in all row.name)) q ≡ cond (bytes_eq q row.name) (Some (revisions_in all row.name)) (get (templates_of all rows) q) = at_key (templates_of all rows) row.name (revisions_in all row.name) q in
    elim (bytes_eq q row.name)
    as (λ b. bytes_eq q row.name ≡ b → 1 ≤ length (cond b (row ∷ filter (is_revision_of q) rows) (filter (is_revision_of q) rows)) → get (insert (templates_of all rows) row.name (revisions_in all row.name)) q ≡ Some (revisions_in all q)) [
      | true ↦ λ e s. at ∙ ap (λ b. cond b (Some (revisions_in all row.name)) (get (templates_of all rows) q)) e ∙ ap (λ n. Some (revisions_in all n)) (sym (equal_keys q row.name e))
      | false ↦ λ e s. at ∙ ap (λ b. cond b (Some (revisions_in all row.name)) (get (templates_of all rows) q)) e ∙ there_among all rows q s
    ] refl some

none_among : (all rows : List RevisionRow) (q : List ℕ) → filter (is_revision_of q) rows ≡ [] → get (templates_of all rows) q ≡ None
none_among all [] q none = get-empty (slice_cmp nat_cmp) q
none_among all (row ∷ rows) q none =
    let at : get (insert (templates_of all rows) row.name (revisions_in all row.name)) q ≡ cond (bytes_eq q row.name) (Some (revisions_in all row.name)) (get (templates_of all rows) q) = at_key (templates_of all rows) row.name (revisions_in all row.name) q in
    elim (bytes_eq q row.name)
    as (λ b. bytes_eq q row.name ≡ b → cond b (row ∷ filter (is_revision_of q) rows) (filter (is_revision_of q) rows) ≡ [] → get (insert (templates_of all rows) row.name (revisions_in all row.name)) q ≡ None) [
      | true ↦ λ e s. absurd (cc)
      | false ↦ λ e s. at ∙ ap (λ b. cond b (Some (revisions_in all row.name)) (get (templates_of all rows) q)) e ∙ none_among all rows q s
    ] refl none

-- under a name stand its revisions, or there is no such template
record AtName (t : Tables) (q : List ℕ) : Type 0 where
  read : AreRead t q (length (rows_of t q)) (revisions_of (contents_of t).desk.templates q)
  are : (found : List Template) → get (contents_of t).desk.templates q ≡ Some found → IsInRevisions q found

no_rows : {X : Type 0} (xs : List X) → length xs ≤ 0 → xs ≡ []
no_rows [] few = refl
no_rows (x ∷ xs) few = absurd (omega arith)

-- the number of its revisions
so_many : (t : Tables) → AreTemplatesJudged t → (q : List ℕ) → 1 ≤ length (rows_of t q) → length (rows_of t q) ≤ 1000000
so_many t judged q some =
    let o : HasOneAt t q (length (rows_of t q)) = each_at t judged q (length (rows_of t q)) some (omega arith) in
    let is : o.row.revision ≡ length (rows_of t q) = o.numbered in
    let most : o.row.revision ≤ 1000000 = o.has.most in
    omega arith

at_name : (t : Tables) → AreTemplatesJudged t → (q : List ℕ) → AtName t q
at_name t judged q =
    let n : ℕ = length (rows_of t q) in
    let ts : List Template = revisions_to t.revisions q n in
    let read : AreRead t q n ts = read_up_to t judged q n (omega arith) in
    elim (below_or 0 n) as (λ x. AtName t q) [
      | inl some ↦
          let there : get (contents_of t).desk.templates q ≡ Some ts = there_among t.revisions t.revisions q (omega arith) in
          let many : length ts ≡ n = read.many in
          let most : n ≤ 1000000 = so_many t judged q (omega arith) in
          record {
            read = subst (λ (o : Option (List Template)). AreRead t q n (unwrap_or o [])) (sym there) read;
            are = λ found e. (let same : ts ≡ found = (let both : Some ts ≡ Some found = sym there ∙ e in cc) in
                subst (IsInRevisions q) same (record { some = omega arith; most = omega arith; each = read.are }));
          }
      | inr few ↦
          let none : rows_of t q ≡ [] = no_rows (rows_of t q) few in
          let gone : get (contents_of t).desk.templates q ≡ None = none_among t.revisions t.revisions q none in
          let empty : ts ≡ [] = ap (revisions_to t.revisions q) (ap length none) in
          record {
            read = subst (λ (o : Option (List Template)). AreRead t q n (unwrap_or o [])) (sym gone) (subst (AreRead t q n) empty read);
            are = λ found e. (let no : None ≡ Some found = sym gone ∙ e in absurd (cc));
          }
    ]

rows_at : (t : Tables) → AreTemplatesJudged t → (q : List ℕ) (number : ℕ) → filter (is_revision q number) t.revisions ≡ revision_rows q number (revisions_of (contents_of t).desk.templates q)
rows_at t judged q zero = none_other t judged q zero (inl (omega arith))
rows_at t judged q (suc place) =
    let ts : List Template = revisions_of (contents_of t).desk.templates q in
    let read : AreRead t q (length (rows_of t q)) ts = (at_name t judged q).read in
    let many : length ts ≡ length (rows_of t q) = read.many in
    elim (below_or place (length ts)) as (λ x. filter (is_revision q (suc place)) t.revisions ≡ row_if (revision_row q) (slice_get ts place)) [
      | inl low ↦
          let h : HasPlace ts place = has_place ts place low in
          read.rows place h.value h.there ∙ ap (row_if (revision_row q)) (sym h.there)
      | inr high ↦ none_other t judged q (suc place) (inr (omega arith)) ∙ ap (row_if (revision_row q)) (sym (none_behind ts place high))
    ]

hold_templates : (t : Tables) → AreTemplatesJudged t → HoldTemplates t
hold_templates t judged = record { revisions = rows_at t judged; readable = λ q. (at_name t judged q).read.readable; are = λ q. (at_name t judged q).are }

-- The other way.

pub record HasList (o : Option (List Template)) (place : ℕ) (x : Template) : Type 0 where
  pub list : List Template
  pub there : o ≡ Some list
  pub stands : slice_get list place ≡ Some x

pub has_list : (o : Option (List Template)) (place : ℕ) (x : Template) → slice_get (unwrap_or o []) place ≡ Some x → HasList o place x
has_list None place x e = absurd (cc)
has_list (Some list) place x e = record { list = list; there = refl; stands = e }

pub revision_at : (q : List ℕ) (first : ℕ) (ts : List Template) (place : ℕ) (x : Template) → AreRevisions q first ts → slice_get ts place ≡ Some x → IsTemplate q (place + first) x
revision_at q first [] place x are e = absurd (cc)
revision_at q first (y ∷ ts) zero x are e =
    let same : y ≡ x = cc e in
    subst (IsTemplate q (zero + first)) same (subst (λ n. IsTemplate q n y) (let e : first ≡ zero + first = omega arith in e) are.0)
revision_at q first (y ∷ ts) (suc place) x are e = subst (λ n. IsTemplate q n x) (let e : place + suc first ≡ suc place + first = omega arith in e) (revision_at q (suc first) ts place x are.1 e)

-- a revision of contents
pub record IsRevision (t : Tables) (q : List ℕ) (place : ℕ) (x : Template) : Type 0 where
  pub is : IsTemplate q (suc place) x
  pub readable : IsReadableTemplate x
  pub most : suc place ≤ 1000000
  pub back : revision_of_row (revision_row q x) ≡ Some x
  pub numbered : x.revision ≡ suc place

pub is_revision_at : (t : Tables) → HoldTemplates t → (q : List ℕ) (place : ℕ) (x : Template) → slice_get (revisions_of (contents_of t).desk.templates q) place ≡ Some x → IsRevision t q place x
is_revision_at t hold q place x e =
    let o : Option (List Template) = get (contents_of t).desk.templates q in
    let h : HasList o place x = has_list o place x e in
    let in_revisions : IsInRevisions q h.list = hold.are q h.list h.there in
    let below : place < length h.list = below_length h.list place x h.stands in
    let most : length h.list ≤ 1000000 = in_revisions.most in
    let is : IsTemplate q (suc place) x = subst (λ n. IsTemplate q n x) (let e : place + 1 ≡ suc place = omega arith in e) (revision_at q 1 h.list place x in_revisions.each h.stands) in
    let readable : IsReadableTemplate x = all_at IsReadableTemplate (revisions_of (contents_of t).desk.templates q) (hold.readable q) place x e in
    let numbered : x.revision ≡ suc place = ap (λ (y : Template). y.revision) is.bound in
    record {
      is = is;
      readable = readable;
      most = omega arith;
      back = ap (revision_from x.revision) readable ∙ ap (λ n. Some (template_of x.spec n)) numbered ∙ ap Some (sym is.bound);
      numbered = numbered;
    }

there_before : (t : Tables) → HoldTemplates t → (q : List ℕ) (place : ℕ) (x : Template) → slice_get (revisions_of (contents_of t).desk.templates q) place ≡ Some x → (n : ℕ) → n ≡ suc place → 2 ≤ n → has_revision t q (n - 1) ≡ true
there_before t hold q zero x e n is two = absurd (omega arith)
there_before t hold q (suc place) x e n is two =
    let ts : List Template = revisions_of (contents_of t).desk.templates q in
    let below : suc place < length ts = below_length ts (suc place) x e in
    let h : HasPlace ts place = has_place ts place (omega arith) in
    ap (has_revision t q) (let e : n - 1 ≡ suc place = omega arith in e) ∙ ap (λ (rows : List RevisionRow). is_some (first_row rows)) (hold.revisions q (suc place) ∙ ap (row_if (revision_row q)) h.there)

judge_at : (t : Tables) → HoldTemplates t → (row : RevisionRow) → IsIn row t.revisions → (number : ℕ) → row.revision ≡ number → IsRevisionJudged t row
judge_at t hold row at zero numbered =
    let own : is_revision row.name 0 row ≡ true = (λ i. own_key row.name i && (Decides-eqb 0 row.revision).1 (sym numbered) i) in
    absurd (subst (IsIn row) (hold.revisions row.name 0) (in_filter (is_revision row.name 0) row t.revisions at own))
judge_at t hold row at (suc place) numbered =
    let ts : List Template = revisions_of (contents_of t).desk.templates row.name in
    let o : Option Template = slice_get ts place in
    let passes : is_revision row.name (suc place) row ≡ true = (λ i. own_key row.name i && (Decides-eqb (suc place) row.revision).1 (sym numbered) i) in
    let own : OwnRow (revision_row row.name) o row = own_row (is_revision row.name (suc place)) (revision_row row.name) o row t.revisions at passes (hold.revisions row.name (suc place)) in
    let is : IsRevision t row.name place own.value = is_revision_at t hold row.name place own.value own.there in
    let most : suc place ≤ 1000000 = is.most in
    record {
      one = subst (λ n. filter (is_revision row.name n) t.revisions ≡ row ∷ []) (sym numbered) (own_alone (is_revision row.name (suc place)) (revision_row row.name) o row t.revisions (hold.revisions row.name (suc place)) own);
      some = omega arith;
      most = omega arith;
      before = λ two. there_before t hold row.name place own.value own.there row.revision numbered two;
      read = own.value;
      is = ap revision_of_row (sym own.is) ∙ is.back;
      named = is.is.named;
      accepted = is.is.accepted;
    }

pub templates_are_judged : TemplatesAreJudged
templates_are_judged t = (hold_templates t, λ hold. each_in (IsRevisionJudged t) t.revisions (λ row at. judge_at t hold row at row.revision refl))
