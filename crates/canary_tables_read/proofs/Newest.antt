-- The greatest of rows in falling order comes first.
use Rattle.std.proofs.Common.{◌≡◌, ◌≤◌, List, [], ◌∷◌, length, take, slice_get, Some, refl, sym, ap, subst, ◌∙◌, arith, IsPermutation}
use Rattle.std.specs.List.{AllByRecursion}
use Rattle.std.proofs.lemmas.List.Sorted.{length_permutation, IsPermutation-sym, Contains-permutation}
use Rattle.std.proofs.lemmas.Option.{slice_get-get_or}
use Rattle.sqlite.specs.Tree.{IsAscending}
use Rattle.canary_tables_rows.specs.declared.rows.RevisionRow.{RevisionRow}
use Rattle.canary_tables_rows.specs.Newest.{IsNewest}
use Rattle.canary_tables_read.proofs.Breaking.{all_taken, all_moved}

-- the first of the rows, in an order in which no number rises
pub record IsFirst (rows first_row : List RevisionRow) : Type 0 where
  pub ordered : List RevisionRow
  pub same : IsPermutation rows ordered
  pub falling : IsAscending (λ (x y : RevisionRow). y.revision ≤ x.revision) ordered
  pub are : first_row ≡ take 1 ordered

none_left : (rows : List RevisionRow) → length {A = RevisionRow} [] ≡ length rows → rows ≡ []
none_left [] e = refl
none_left (x ∷ rows) e = absurd (omega (arith, e))

greatest_first : (rows ordered : List RevisionRow) → IsPermutation rows ordered → IsAscending (λ (x y : RevisionRow). y.revision ≤ x.revision) ordered → IsNewest rows (slice_get (take 1 ordered) 0)
greatest_first rows [] same falling = none_left rows (length_permutation rows [] same)
greatest_first rows (x ∷ xs) same falling =
    let back = IsPermutation-sym rows (x ∷ xs) same in
    let there = Contains-permutation (x ∷ xs) rows x back (0, omega arith, refl) in
    record {
      place = there.0;
      stands = slice_get-get_or rows there.0 x there.1 ∙ ap Some there.2;
      greatest = all_moved (λ (y : RevisionRow). y.revision ≤ x.revision) (x ∷ xs) rows back (omega arith, falling.0);
    }

pub newest_first : (rows found : List RevisionRow) → IsFirst rows found → IsNewest rows (slice_get found 0)
newest_first rows found f = subst (λ (xs : List RevisionRow). IsNewest rows (slice_get xs 0)) (sym f.are) (greatest_first rows f.ordered f.same f.falling)

pub first_within : (Within : RevisionRow → Type 0) (rows found : List RevisionRow) → IsFirst rows found → AllByRecursion Within rows → AllByRecursion Within found
first_within Within rows found f h = subst (AllByRecursion Within) (sym f.are) (all_taken Within 1 f.ordered (all_moved Within rows f.ordered f.same h))
