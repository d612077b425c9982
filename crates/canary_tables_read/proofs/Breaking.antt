-- Rows that a program cannot hold, if one of them is shown.
use Rattle.std.proofs.Common.{◌≡◌, ◌<◌, ℕ, zero, suc, List, [], ◌∷◌, length, map, take, drop, get_or, slice_get, Some, sym, arith, IsPermutation}
use Rattle.std.specs.List.{AllByRecursion}
use Rattle.std.proofs.lemmas.List.Elements.{recursion_from_All, All-from_recursion}
use Rattle.std.proofs.lemmas.List.Sorted.{All-permutation}
use Rattle.sqlite.specs.Order.{Row}
use Rattle.canary_tables_read.specs.Finds.{TellsCells}

-- what gives rows within limits, if each row that is shown gives one
module _ {X : Type 0} (cells : X → Row) (whole : Row → Row) (Within : X → Type 0) where
  pub one_broken : (rows : List Row) (i : ℕ) (d : Row) → i < length rows → ((x : X) → cells x ≡ whole (get_or rows i d) → Within x → ⊥) → (all : List X) → map cells all ≡ map whole rows → AllByRecursion Within all → ⊥
  one_broken [] i d lt none all same within = absurd (omega arith)
  one_broken (row ∷ rows) i d lt none [] same within = absurd (cc)
  one_broken (row ∷ rows) zero d lt none (x ∷ all) same within = none x (cc) within.0
  one_broken (row ∷ rows) (suc i) d lt none (x ∷ all) same within = let later : map cells all ≡ map whole rows = cc in one_broken rows i d (omega arith) none all later within.1

  pub first_broken : (rows : List Row) (row : Row) → slice_get rows 0 ≡ Some row → ((x : X) → cells x ≡ whole row → Within x → ⊥) → (all : List X) → map cells all ≡ map whole rows → AllByRecursion Within all → ⊥
  first_broken [] row first none all same within = absurd (cc)
  first_broken (r ∷ rows) row first none [] same within = absurd (cc)
  first_broken (r ∷ rows) row first none (x ∷ all) same within =
      let is : r ≡ row = cc in
      let here : cells x ≡ whole r = cc in
      none x (rw is at here) within.0

-- the rows that are given are not all within limits
pub unless_broken : {X : Type 0} (cells : X → Row) (whole : Row → Row) (Within : X → Type 0) (told : List X) (rows : List Row) → TellsCells cells whole told rows → ((all : List X) → map cells all ≡ map whole rows → AllByRecursion Within all → ⊥) → AllByRecursion Within told → ⊥
unless_broken cells whole Within told rows tells broken within = broken told (sym tells) within

-- Parts of rows that are all within limits are.
module _ {X : Type 0} (Within : X → Type 0) where
  pub all_taken : (n : ℕ) (xs : List X) → AllByRecursion Within xs → AllByRecursion Within (take n xs)
  all_taken zero xs h = tt
  all_taken (suc n) [] h = tt
  all_taken (suc n) (x ∷ xs) h = (h.0, all_taken n xs h.1)

  pub all_dropped : (n : ℕ) (xs : List X) → AllByRecursion Within xs → AllByRecursion Within (drop n xs)
  all_dropped zero xs h = h
  all_dropped (suc n) [] h = tt
  all_dropped (suc n) (x ∷ xs) h = all_dropped n xs h.1

  pub all_moved : (xs ys : List X) → IsPermutation xs ys → AllByRecursion Within xs → AllByRecursion Within ys
  all_moved xs ys moved h = recursion_from_All Within ys (All-permutation Within xs ys moved (All-from_recursion Within xs h))
