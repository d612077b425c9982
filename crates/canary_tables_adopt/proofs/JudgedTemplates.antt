-- What is judged of revisions of templates, from what is read of them.
use Rattle.std.proofs.Common.{◌≡◌, inl, inr, ◌-◌, ◌≤◌, ◌==◌, ℕ, List, [], ◌∷◌, map, Bool, true, false, Some, None, refl, sym, ap, ◌∙◌, subst, arith}
use Rattle.std.specs.Prelude.{Option, ◌&&◌, filter, is_some, slice_get}
use Rattle.std.specs.Str.{bytes_eq}
use Rattle.std.specs.List.{AllByRecursion}
use Rattle.std.proofs.lemmas.Bool.Decides.{Decides-eqb}
use Rattle.canary_tables_rows.specs.declared.rows.RevisionRow.{RevisionRow}
use Rattle.canary_tables_rows.specs.Tables.{Tables, is_revision}
use Rattle.canary_tables_read.specs.declared.lists.RevisionKey.{RevisionKey}
use Rattle.canary_tables_read.specs.Keys.{key_of}
use Rattle.canary_tables_contents.specs.Judged.{has_revision, AreTemplatesJudged, IsRevisionJudged}
use Rattle.canary_tables_adopt.specs.Alone.{IsAlone}
use Rattle.canary_tables_adopt.specs.Templates.{IsAccepted, IsNumbered, IsJudgedUnder}
use Rattle.canary_tables_adopt.proofs.Names.{IsIn, in_filter, in_one, equal_names, same_name, first_passes}
use Rattle.canary_tables_adopt.proofs.PlacedLemmas.{both}

-- the rows of a key
abbrev pub rows_under : Tables → RevisionKey → List RevisionRow
rows_under t key = filter (is_revision key.name key.revision) t.revisions

keyed_row : (t : Tables) (key : RevisionKey) (row : RevisionRow) → rows_under t key ≡ row ∷ [] → key_of row ≡ key
keyed_row t key row one =
    let passes : (bytes_eq key.name row.name ≡ true) × ((key.revision == row.revision) ≡ true) = both (bytes_eq key.name row.name) (key.revision == row.revision) (first_passes (is_revision key.name key.revision) t.revisions [] row one) in
    let named : key.name ≡ row.name = equal_names key.name row.name passes.0 in
    let numbered : key.revision ≡ row.revision = (Decides-eqb key.revision row.revision).0 passes.1 in
    λ i. record { name = sym named i; revision = sym numbered i }

pub revision_found : (t : Tables) (key : RevisionKey) (rows : List RevisionRow) → rows ≡ rows_under t key → IsAlone IsAccepted rows → IsNumbered t key → IsJudgedUnder t key
revision_found t key rows is alone numbered =
    let one : rows_under t key ≡ alone.row ∷ [] = sym is ∙ alone.one in
    let keyed : key_of alone.row ≡ key = keyed_row t key alone.row one in
    let own : IsNumbered t (key_of alone.row) = subst (IsNumbered t) (sym keyed) numbered in
    record {
      row = alone.row;
      keyed = keyed;
      has = record {
        one = subst (λ (k : RevisionKey). rows_under t k ≡ alone.row ∷ []) (sym keyed) one;
        some = own.some;
        most = own.most;
        before = own.before;
        read = alone.has.read;
        is = alone.has.is.is;
        named = alone.has.named;
        accepted = alone.has.is.accepted;
      };
    }

under_key : (t : Tables) (key : RevisionKey) → (under : IsJudgedUnder t key) → rows_under t key ≡ under.row ∷ []
under_key t key under = subst (λ (k : RevisionKey). rows_under t k ≡ under.row ∷ []) under.keyed under.has.one

pub revision_alone : (t : Tables) (key : RevisionKey) (rows : List RevisionRow) → rows ≡ rows_under t key → IsJudgedUnder t key → IsAlone IsAccepted rows
revision_alone t key rows is under =
    record {
      row = under.row;
      one = is ∙ under_key t key under;
      has = record { read = under.has.read; is = record { is = under.has.is; accepted = under.has.accepted }; named = under.has.named };
    }

pub numbered_there : (t : Tables) (key : RevisionKey) → IsJudgedUnder t key → IsNumbered t key
numbered_there t key under = subst (IsNumbered t) under.keyed (record { some = under.has.some; most = under.has.most; before = under.has.before })

-- The number.

pub first_numbered : (t : Tables) (key : RevisionKey) → key.revision ≡ 1 → IsNumbered t key
first_numbered t key is = record { some = omega arith; most = omega arith; before = λ two. absurd (omega arith) }

pub later_numbered : (t : Tables) (key : RevisionKey) (row : RevisionRow) → 1 ≤ key.revision → key.revision ≤ 1000000 → Some row ≡ slice_get (filter (is_revision key.name (key.revision - 1)) t.revisions) 0 → IsNumbered t key
later_numbered t key row some most there = record { some = some; most = most; before = λ two. ap (λ (o : Option RevisionRow). is_some o) (sym there) }

pub not_numbered : (t : Tables) (key : RevisionKey) → 2 ≤ key.revision → None ≡ slice_get (filter (is_revision key.name (key.revision - 1)) t.revisions) 0 → ¬ IsNumbered t key
not_numbered t key two none numbered = let no_one : false ≡ true = ap (λ (o : Option RevisionRow). is_some o) none ∙ numbered.before two in cc

-- All revisions.

each_row : (t : Tables) (rows : List RevisionRow) → ((row : RevisionRow) → IsIn row rows → IsIn row t.revisions) → AllByRecursion (IsJudgedUnder t) (map key_of rows) → AllByRecursion (IsRevisionJudged t) rows
each_row t [] within each = tt
each_row t (row ∷ rows) within each =
    let under : IsJudgedUnder t (key_of row) = each.0 in
    let passes : is_revision row.name row.revision row ≡ true = λ i. same_name row.name row.name refl i && (Decides-eqb row.revision row.revision).1 refl i in
    let there : IsIn row (filter (is_revision row.name row.revision) t.revisions) = in_filter (is_revision row.name row.revision) row t.revisions (within row (inl refl)) passes in
    let is : row ≡ under.row = in_one row under.row (subst (IsIn row) (under_key t (key_of row) under) there) in
    (subst (IsRevisionJudged t) (sym is) under.has, each_row t rows (λ r at. within r (inr at)) each.1)

pub all_templates : (t : Tables) (keys : List RevisionKey) → keys ≡ map key_of t.revisions → AllByRecursion (IsJudgedUnder t) keys → AreTemplatesJudged t
all_templates t keys are each = each_row t t.revisions (λ row at. at) (subst (AllByRecursion (IsJudgedUnder t)) are each)

each_key : (t : Tables) (rows : List RevisionRow) → AllByRecursion (IsRevisionJudged t) rows → AllByRecursion (IsJudgedUnder t) (map key_of rows)
each_key t [] each = tt
each_key t (row ∷ rows) each = (record { row = row; keyed = refl; has = each.0 }, each_key t rows each.1)

pub each_template : (t : Tables) (keys : List RevisionKey) → keys ≡ map key_of t.revisions → AreTemplatesJudged t → AllByRecursion (IsJudgedUnder t) keys
each_template t keys are judged = subst (AllByRecursion (IsJudgedUnder t)) (sym are) (each_key t t.revisions judged)
