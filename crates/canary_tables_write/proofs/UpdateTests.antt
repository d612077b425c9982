-- When a row passes a WHERE over its key.
use Rattle.std.proofs.Common.{◌≡◌, ◌&&◌, ◌==◌, ℕ, pos, List, [], ◌∷◌, Bool, true, false, Some, refl, ap, ap₂, ◌∙◌, arith}
use Rattle.std.specs.Ordering.{is_eq}
use Rattle.std.specs.Str.{bytes_eq}
use Rattle.std.proofs.lemmas.Map.Text.{is_eq-slice_cmp}
use Rattle.std.proofs.lemmas.Bool.Decides.{nat_tests}
use Rattle.sqlite.specs.declared.types.Value.TheVariants.{Int, Text as Words}
use Rattle.sqlite.specs.Order.{value_cmp}
use Rattle.sqlite.specs.Ops.{binary, is_true, from_truth}
use Rattle.sqlite_sql.specs.declared.ops.BinaryOp.TheVariants.{Compare}
use Rattle.sqlite_sql.specs.declared.ops.CompareOp.TheVariants.{Eq}
use Rattle.sqlite_value.specs.declared.keys.Collation.TheVariants.{Binary}
use Rattle.sqlite_value.proofs.OrderLemmas.{value_cmp-Text, value_cmp-Int}

as_truth : (b : Bool) → is_true (from_truth (Some b)) ≡ b
as_truth true = refl
as_truth false = refl

pub and_true : (b : Bool) → (b && true) ≡ b
and_true true = refl
and_true false = refl

same_either_way : (m n : ℕ) → (m == n) ≡ (n == m)
same_either_way m n = grind (arith, nat_tests)

bytes_same : (a b : List ℕ) → bytes_eq a b ≡ bytes_eq b a
bytes_same [] [] = refl
bytes_same [] (y ∷ b) = refl
bytes_same (x ∷ a) [] = refl
bytes_same (x ∷ a) (y ∷ b) = ap₂ (λ p q. p && q) (same_either_way x y) (bytes_same a b)

-- a text is the one that is asked for
pub equal_words : (s t : List ℕ) → is_true (binary (Compare Eq Binary) (Words s) (Words t)) ≡ bytes_eq t s
unfolding binary
equal_words s t = as_truth _ ∙ ap is_eq (value_cmp-Text s t) ∙ is_eq-slice_cmp s t ∙ bytes_same s t

same_number : (m n : ℕ) → is_eq (value_cmp (Int (pos m)) (Int (pos n))) ≡ (n == m)
same_number m n = rw (value_cmp-Int (pos m) (pos n)) (grind (arith, nat_tests))

-- a whole number is the one that is asked for
pub equal_number : (m n : ℕ) → is_true (binary (Compare Eq Binary) (Int (pos m)) (Int (pos n))) ≡ (n == m)
unfolding binary
equal_number m n = as_truth _ ∙ same_number m n
