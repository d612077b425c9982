-- The revisions of templates that are judged count up, and the last is the newest.
use Rattle.std.proofs.Common.{◌≡◌, ◌⊎◌, inl, inr, ℕ, zero, suc, ◌+◌, ◌≤◌, ◌<◌, ◌==◌, List, [], ◌∷◌, length, Bool, true, false, Some, None, refl, sym, ap, ◌∙◌, subst, arith}
use Rattle.std.specs.Prelude.{Option, ◌&&◌, option_and_then, option_map, filter, slice_get}
use Rattle.std.specs.List.{AllByRecursion, last_or}
use Rattle.std.proofs.lemmas.Bool.Decides.{Decides-eqb}
use Rattle.canary_plan.specs.declared.template.Template.{Template}
use Rattle.canary_release.specs.Desks.{revisions_of, newest}
use Rattle.canary_tables_rows.specs.declared.rows.RevisionRow.{RevisionRow}
use Rattle.canary_tables_rows.specs.Tables.{Tables, is_revision, is_revision_of}
use Rattle.canary_tables_rows.specs.Newest.{IsGreatest, IsNewest}
use Rattle.canary_tables_contents.specs.Values.{revision_row, revision_of_row}
use Rattle.canary_tables_contents.specs.Tables.{row_if}
use Rattle.canary_tables_contents.specs.Reading.{contents_of}
use Rattle.canary_tables_contents.specs.Finding.{IsFound}
use Rattle.canary_tables_contents.specs.Judged.{AreTemplatesJudged, HoldTemplates, TemplatesAreJudged}
use Rattle.canary_tables_contents.specs.JudgedLaws.{CountUp, JudgedRevisionsCountUp, JudgedNewestAreFound}
use Rattle.canary_tables_contents.proofs.Numbers.{is_numbered}
use Rattle.canary_tables_contents.proofs.Named.{passing, weaker, IsIn, in_filter}
use Rattle.canary_tables_contents.proofs.JudgedCallers.{none_behind}
use Rattle.canary_tables_contents.proofs.CallersHold.{below_or}
use Rattle.canary_tables_contents.proofs.CallersJudged.{HasPlace, has_place}
use Rattle.canary_tables_contents.proofs.Templates.{revision_number, numbered_of, HasOneAt, each_at, none_other, IsRevision, is_revision_at}

pub revisions_count_up : JudgedRevisionsCountUp
revisions_count_up t judged q = record {
  each = λ k a b. ap length (each_at t judged q k a b).one;
  others = λ k out. none_other t judged q k (elim out as (λ x. (k < 1) ⊎ (1 + length (filter (is_revision_of q) t.revisions) ≤ k)) [ inl low ↦ inl low | inr high ↦ inr (omega arith) ]);
}

-- The newest.

last_at : {A : Type 0} (o : Option A) (x : A) (xs : List A) → last_or o (x ∷ xs) ≡ slice_get (x ∷ xs) (length xs)
last_at o x [] = refl
last_at o x (y ∷ xs) = last_at (Some x) y xs

if_there : (o : Option Template) (row : RevisionRow) → revision_of_row row ≡ o → (x : Template) → o ≡ Some x → IsFound revision_of_row (Some row) o
if_there o row e x there = record { value = e; read = ap Some (e ∙ there) ∙ ap (λ (v : Option Template). option_map Some v) (sym there) }

record IsLast (t : Tables) (q : List ℕ) (n : ℕ) : Type 0 where
  value : Template
  newest : newest (contents_of t).desk.templates q ≡ Some value
  row : filter (is_revision q n) t.revisions ≡ revision_row q value ∷ []
  back : revision_of_row (revision_row q value) ≡ Some value

last_of : (t : Tables) → HoldTemplates t → (q : List ℕ) (ts : List Template) → revisions_of (contents_of t).desk.templates q ≡ ts → 1 ≤ length ts → IsLast t q (length ts)
last_of t hold q [] are some = absurd (omega arith)
last_of t hold q (y ∷ ys) are some =
    let ts : List Template = y ∷ ys in
    let h : HasPlace ts (length ys) = has_place ts (length ys) (omega arith) in
    let there : slice_get (revisions_of (contents_of t).desk.templates q) (length ys) ≡ Some h.value = ap (λ (l : List Template). slice_get l (length ys)) are ∙ h.there in
    let is : IsRevision t q (length ys) h.value = is_revision_at t hold q (length ys) h.value there in
    record {
      value = h.value;
      newest = ap (last_or None) are ∙ last_at None y ys ∙ h.there;
      row = hold.revisions q (suc (length ys)) ∙ ap (row_if (revision_row q)) there;
      back = is.back;
    }

-- as many rows as revisions
so_many_rows : (t : Tables) → AreTemplatesJudged t → HoldTemplates t → (q : List ℕ) → length (revisions_of (contents_of t).desk.templates q) ≡ length (filter (is_revision_of q) t.revisions)
so_many_rows t judged hold q =
    let ts : List Template = revisions_of (contents_of t).desk.templates q in
    let rows : List RevisionRow = filter (is_revision_of q) t.revisions in
    elim (below_or (length ts) (length rows)) as (λ x. length ts ≡ length rows) [
      | inl few ↦
          let o : HasOneAt t q (suc (length ts)) = each_at t judged q (suc (length ts)) (omega arith) few in
          let none : filter (is_revision q (suc (length ts))) t.revisions ≡ [] = hold.revisions q (suc (length ts)) ∙ ap (row_if (revision_row q)) (none_behind ts (length ts) (omega arith)) in
          let no : o.row ∷ [] ≡ [] = sym o.one ∙ none in
          absurd (cc)
      | inr most ↦
          elim (below_or (length rows) (length ts)) as (λ x. length ts ≡ length rows) [
            | inl more ↦
                let h : HasPlace ts (length rows) = has_place ts (length rows) more in
                let none : filter (is_revision q (suc (length rows))) t.revisions ≡ [] = none_other t judged q (suc (length rows)) (inr (omega arith)) in
                let no : revision_row q h.value ∷ [] ≡ [] = sym (hold.revisions q (suc (length rows)) ∙ ap (row_if (revision_row q)) h.there) ∙ none in
                absurd (cc)
            | inr few ↦ omega arith
          ]
    ]

pub newest_are_found : TemplatesAreJudged → JudgedNewestAreFound
newest_are_found law t judged q None none =
    let hold : HoldTemplates t = (law t).0 judged in
    let many : length (revisions_of (contents_of t).desk.templates q) ≡ length (filter (is_revision_of q) t.revisions) = so_many_rows t judged hold q in
    let no : length (filter (is_revision_of q) t.revisions) ≡ 0 = ap length none in
    let empty : revisions_of (contents_of t).desk.templates q ≡ [] = gone (revisions_of (contents_of t).desk.templates q) (omega arith) in
    let is : newest (contents_of t).desk.templates q ≡ None = ap (last_or None) empty in
    record { value = sym is; read = ap (λ (v : Option Template). option_map Some v) (sym is) }
  where
    gone : (ts : List Template) → length ts ≤ 0 → ts ≡ []
    gone [] few = refl
    gone (x ∷ ts) few = absurd (omega arith)
newest_are_found law t judged q (Some row) greatest =
    let hold : HoldTemplates t = (law t).0 judged in
    let rows : List RevisionRow = filter (is_revision_of q) t.revisions in
    let ts : List Template = revisions_of (contents_of t).desk.templates q in
    let many : length ts ≡ length rows = so_many_rows t judged hold q in
    let n : ℕ = length rows in
    let some : 1 ≤ n = at_least rows greatest.place row greatest.stands in
    let last : IsLast t q n = subst (IsLast t q) many (last_of t hold q ts refl (omega arith)) in
    let same : revision_row q last.value ≡ row = its_row t judged q n (revision_row q last.value) row refl last.row some greatest in
    if_there (newest (contents_of t).desk.templates q) row (ap revision_of_row (sym same) ∙ last.back ∙ sym last.newest) last.value last.newest
  where
    at_least : {X : Type 0} (xs : List X) (place : ℕ) (x : X) → slice_get xs place ≡ Some x → 1 ≤ length xs
    at_least [] place x e = absurd (cc)
    at_least (y ∷ xs) place x e = omega arith

    is_in : {X : Type 0} (xs : List X) (place : ℕ) (x : X) → slice_get xs place ≡ Some x → IsIn x xs
    is_in [] place x e = absurd (cc)
    is_in (z ∷ xs) zero x e = let same : z ≡ x = cc e in inl same
    is_in (z ∷ xs) (suc place) x e = inr (is_in xs place x e)

    alone_in : {X : Type 0} (y x : X) → IsIn x (y ∷ []) → y ≡ x
    alone_in y x (inl same) = same
    alone_in y x (inr other) = absurd other

    its_row : (t : Tables) → AreTemplatesJudged t → (q : List ℕ) (n : ℕ) (x : RevisionRow) (row : RevisionRow) → n ≡ length (filter (is_revision_of q) t.revisions) → filter (is_revision q n) t.revisions ≡ x ∷ [] → 1 ≤ n
        → IsGreatest (filter (is_revision_of q) t.revisions) row → x ≡ row
    its_row t judged q n x row many is some greatest =
        let rows : List RevisionRow = filter (is_revision_of q) t.revisions in
        let at : IsIn row rows = is_in rows greatest.place row greatest.stands in
        let own : IsIn row (filter (is_numbered revision_number row.revision) rows) = in_filter (is_numbered revision_number row.revision) row rows at ((Decides-eqb row.revision row.revision).1 refl) in
        let o : HasOneAt t q n = each_at t judged q n some (omega arith) in
        let over : AllByRecursion (λ (y : RevisionRow). y.revision ≤ row.revision) (filter (is_numbered revision_number n) rows) =
        weaker (λ (y : RevisionRow). (is_numbered revision_number n y ≡ true) × (y.revision ≤ row.revision)) (λ (y : RevisionRow). y.revision ≤ row.revision) (λ y h. h.1) (filter (is_numbered revision_number n) rows)
        (passing (is_numbered revision_number n) (λ (y : RevisionRow). y.revision ≤ row.revision) rows greatest.greatest) in
        let last : o.row.revision ≤ row.revision = (subst (AllByRecursion (λ (y : RevisionRow). y.revision ≤ row.revision)) (numbered_of t q n ∙ o.one) over).0 in
        let number : o.row.revision ≡ n = o.numbered in
        elim (below_or row.revision (1 + n)) as (λ z. x ≡ row) [
          | inl low ↦
              let same : row.revision ≡ n = omega arith in
              alone_in x row (subst (IsIn row) (ap (λ k. filter (is_numbered revision_number k) rows) same ∙ numbered_of t q n ∙ is) own)
          | inr high ↦ absurd (subst (IsIn row) (numbered_of t q row.revision ∙ none_other t judged q row.revision (inr (omega arith))) own)
        ]
