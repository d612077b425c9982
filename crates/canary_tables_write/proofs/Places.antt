-- Under the order of rowids a new row comes last, and the rows stay numbered.
use Rattle.std.proofs.Common.{◌≡◌, ℤ, pos, ◌+ℤ◌, ◌<ℤ◌, List, [], ◌∷◌, ◌++◌, fold, IsTrue, refl, sym, ap, subst, ◌∙◌, arith}
use Rattle.std.proofs.lemmas.Int.{ints}
use Rattle.std.proofs.lemmas.Bool.Decides.{nat_tests}
use Rattle.std.specs.List.{AllByRecursion}
use Rattle.std.specs.declared.cmp.Ordering.TheVariants.{Less}
use Rattle.sqlite.specs.declared.types.Value.{Value}
use Rattle.sqlite.specs.declared.types.Value.TheVariants.{Null, Int, Real, Text, Blob}
use Rattle.sqlite.specs.Order.{Row, value_cmp}
use Rattle.sqlite.specs.Tree.{rowid, put_row, IsTable}
use Rattle.sqlite.specs.Rowids.{Rowids}
use Rattle.sqlite.specs.Rowids.TheVariants.{Chosen, Above, Given}
use Rattle.sqlite.specs.Edit.{next_rowid, id_in, at_least}
use Rattle.sqlite_trees.specs.View.{is_int}
use Rattle.sqlite_trees.proofs.TreeLemmas.{IsShaped-put_row}
use Rattle.sqlite_value.proofs.OrderLemmas.{value_cmp-Int}
use Rattle.sqlite_keyed.proofs.KeyedLemmas.{Less-from_lt, lt_from_Less}
use Rattle.canary_tables_schema.specs.Stores.{IsNumbered}

pub int_is : (v : Value) → IsTrue (is_int v) → v ≡ Int (id_in v)
int_is Null h = absurd cc
int_is (Int n) h = refl
int_is (Real x) h = absurd cc
int_is (Text t) h = absurd cc
int_is (Blob b) h = absurd cc

step : ℤ → Row → ℤ
step a r = id_in (rowid r) +ℤ pos 1

lower_than : (a b c : ℤ) → a <ℤ b → b <ℤ c → a <ℤ c
lower_than a b c h k = omega (arith, ints, h, k)

below_next : (x : Row) (rows : List Row) → IsTable (x ∷ rows) → AllByRecursion (λ r. IsTrue (is_int (rowid r))) (x ∷ rows)
    → AllByRecursion (λ r. id_in (rowid r) <ℤ fold step (step (pos 1) x) rows) (x ∷ rows)
unfolding step
below_next x [] up keyed = (omega (arith, ints), tt)
below_next x (y ∷ rows) up keyed =
    let later = below_next y rows up.1 keyed.1 in
    let lower = lt_from_Less _ _ (rw (int_is (rowid x) keyed.0, int_is (rowid y) keyed.1.0, value_cmp-Int (id_in (rowid x)) (id_in (rowid y))) at up.0.0) in
    (lower_than (id_in (rowid x)) (id_in (rowid y)) _ lower later.0, later)

still_below : (rowids : Rowids) (a b : ℤ) → a <ℤ b → a <ℤ at_least rowids b
still_below Chosen a b h = h
still_below (Above last) a b h = grind (arith, ints, nat_tests)
still_below Given a b h = h

put_last : (new : Row) (rows : List Row) → AllByRecursion (λ r. value_cmp (rowid r) (rowid new) ≡ Less) rows → put_row new rows ≡ rows ++ new ∷ []
put_last new [] h = refl
put_last new (r ∷ rows) h = rw h.0 (ap (λ xs. r ∷ xs) (put_last new rows h.1))

all_below : (rowids : Rowids) (rows : List Row) → IsNumbered rows → AllByRecursion (λ r. value_cmp (rowid r) (Int (at_least rowids (next_rowid rows))) ≡ Less) rows
unfolding step
all_below rowids [] h = tt
all_below rowids (x ∷ rows) h = both (x ∷ rows) h.1 (below_next x rows h.0 h.1)
  where
    next : ℤ
    next = at_least rowids (next_rowid (x ∷ rows))

    both : (all : List Row) → AllByRecursion (λ r. IsTrue (is_int (rowid r))) all → AllByRecursion (λ r. id_in (rowid r) <ℤ next_rowid (x ∷ rows)) all
        → AllByRecursion (λ r. value_cmp (rowid r) (Int next) ≡ Less) all
    both [] k l = tt
    both (r ∷ all) k l =
        (subst (λ v. value_cmp v (Int next) ≡ Less) (sym (int_is (rowid r) k.0)) (value_cmp-Int (id_in (rowid r)) next ∙ Less-from_lt (id_in (rowid r)) next (still_below rowids (id_in (rowid r)) _ l.0)), both all k.1 l.1)

-- whether the table counts or not, the next row comes last
pub comes_last : (rowids : Rowids) (row : Row) (rows : List Row) → IsNumbered rows → put_row (Int (at_least rowids (next_rowid rows)) ∷ row) rows ≡ rows ++ (Int (at_least rowids (next_rowid rows)) ∷ row) ∷ []
comes_last rowids row rows h = put_last _ rows (all_below rowids rows h)

pub stays_numbered : (new : Row) (rows : List Row) → IsTrue (is_int (rowid new)) → IsNumbered rows → IsNumbered (put_row new rows)
stays_numbered = IsShaped-put_row
