-- What a comparison in SQL says of a cell, as the tests of rows say it.
use Rattle.std.proofs.Common.{◌≡◌, ◌&&◌, ◌==◌, ℕ, pos, List, Bool, true, false, Option, None, Some, is_none, refl, sym, ap, ap₂, ◌∙◌}
use Rattle.std.specs.Ordering.{is_eq, is_gt, int_eq}
use Rattle.std.specs.Str.{bytes_eq}
use Rattle.std.proofs.lemmas.Bool.Decides.{same_from_decides, Decides-like, Decides-eqb, Decides-int_eq}
use Rattle.std.proofs.lemmas.Slice.Eq.{bytes_eq-Decides}
use Rattle.std.proofs.lemmas.Map.Text.{is_eq-slice_cmp}
use Rattle.sqlite.specs.declared.types.Value.TheVariants.{Null, Int, Text as Words}
use Rattle.sqlite.specs.Order.{value_cmp}
use Rattle.sqlite.specs.Ops.{binary, is_true, from_truth}
use Rattle.sqlite_sql.specs.declared.ops.BinaryOp.TheVariants.{Compare, Is}
use Rattle.sqlite_sql.specs.declared.ops.CompareOp.TheVariants.{Eq}
use Rattle.sqlite_value.specs.declared.keys.Collation.TheVariants.{Binary}
use Rattle.sqlite_value.proofs.OrderLemmas.{value_cmp-Text, value_cmp-Int, value_cmp-Null, value_cmp-apart}
use Rattle.canary_tables_schema.specs.Cells.{whole_or_null}

pub as_truth : (b : Bool) → is_true (from_truth (Some b)) ≡ b
as_truth true = refl
as_truth false = refl

pub and_true : (b : Bool) → (b && true) ≡ b
and_true true = refl
and_true false = refl

bytes_either : (a b : List ℕ) → bytes_eq a b ≡ bytes_eq b a
bytes_either a b = same_from_decides (bytes_eq a b) (bytes_eq b a) (bytes_eq-Decides a b) (Decides-like (bytes_eq b a) (λ e. sym e) (λ e. sym e) (bytes_eq-Decides b a))

numbers_either : (m n : ℕ) → int_eq (pos m) (pos n) ≡ (n == m)
numbers_either m n = same_from_decides (int_eq (pos m) (pos n)) (n == m) (Decides-int_eq (pos m) (pos n)) (Decides-like (n == m) (λ e. ap pos (sym e)) (λ e. cc) (Decides-eqb n m))

-- a text of a row and one that is asked for
pub words_same : (a b : List ℕ) → is_true (binary (Compare Eq Binary) (Words a) (Words b)) ≡ bytes_eq b a
unfolding binary
words_same a b = as_truth (is_eq (value_cmp (Words a) (Words b))) ∙ ap is_eq (value_cmp-Text a b) ∙ is_eq-slice_cmp a b ∙ bytes_either a b

-- a number of a row and one that is asked for
pub numbers_same : (m n : ℕ) → is_true (binary (Compare Eq Binary) (Int (pos m)) (Int (pos n))) ≡ (n == m)
unfolding binary
numbers_same m n = as_truth (is_eq (value_cmp (Int (pos m)) (Int (pos n)))) ∙ ap is_eq (value_cmp-Int (pos m) (pos n)) ∙ numbers_either m n

-- bytes that pass the test are those that are asked for
pub same_words : (a b : List ℕ) → bytes_eq a b ≡ true → a ≡ b
same_words a b = (bytes_eq-Decides a b).0

pub and_first : (a b : Bool) → (a && b) ≡ true → a ≡ true
and_first true b h = refl
and_first false b h = absurd (cc)

-- a name and a number
pub both_same : (a b : List ℕ) (m n : ℕ) → (is_true (binary (Compare Eq Binary) (Words a) (Words b)) && (is_true (binary (Compare Eq Binary) (Int (pos m)) (Int (pos n))) && true)) ≡ (bytes_eq b a && n == m)
both_same a b m n = ap₂ (λ x y. x && y) (words_same a b) (and_true _ ∙ numbers_same m n)

-- the name of one that passes both tests
pub first_same : (a b : List ℕ) (rest : Bool) → (bytes_eq a b && rest) ≡ true → a ≡ b
first_same a b rest h = same_words a b (and_first (bytes_eq a b) rest h)

-- NULL, or not
pub null_same : (n : Option ℕ) → is_true (binary (Is Binary) (whole_or_null n) Null) ≡ is_none n
unfolding binary
null_same None = as_truth _ ∙ ap is_eq (value_cmp-Null Null)
null_same (Some n) = as_truth _ ∙ ap is_eq (value_cmp-apart (Int (pos n)) Null (λ e. absurd (cc)))

-- what is not above NULL is NULL
pub null_first : (m n : Option ℕ) → is_gt (value_cmp (whole_or_null m) (whole_or_null n)) ≡ false → is_none n ≡ true → is_none m ≡ true
null_first None n h e = refl
null_first (Some m) None h e = absurd (above h)
  where
    above : is_gt (value_cmp (Int (pos m)) Null) ≡ false → ⊥
    above k = absurd (let it : is_gt (value_cmp (Int (pos m)) Null) ≡ true = ap is_gt (value_cmp-apart (Int (pos m)) Null (λ e. absurd (cc))) in cc)
null_first (Some m) (Some n) h e = absurd (cc)
