-- Lists of measurements whose places rise.
use Rattle.std.proofs.Common.{◌≡◌, ◌+◌, ℕ, zero, suc, ℤ, int_lt, int_le, List, [], ◌∷◌, map, filter, take, drop, length, slice_get, Some, Bool, true, false, cond, refl, ap, subst, arith}
use Rattle.std.specs.List.{AllByRecursion}
use Rattle.std.proofs.lemmas.Int.{ints}
use Rattle.sqlite.specs.Tree.{IsAscending}
use Rattle.sqlite_keyed.proofs.ListLemmas.{filter_none, all_weaker}

module _ {X : Type 0} (place : X → ℤ) where
  -- each place is below those after it
  abbrev pub Rise : List X → Type 0
  Rise = IsAscending (λ x y. int_lt (place x) (place y) ≡ true)

  -- those with a place up to this one, and those above it
  abbrev pub up_to : ℤ → List X → List X
  up_to at = filter (λ x. int_le (place x) at)

  abbrev pub above : ℤ → List X → List X
  above at = filter (λ x. int_lt at (place x))

  beyond : (a b c : ℤ) → int_le b a ≡ false → int_lt b c ≡ true → int_le c a ≡ false
  beyond a b c h k = grind (arith, ints)

  apart : (a b : ℤ) → int_lt a b ≡ true → int_le b a ≡ false
  apart a b h = grind (arith, ints)

  lower : (a b : ℤ) → int_lt a b ≡ true → int_le a b ≡ true
  lower a b h = grind (arith, ints)

  itself : (a : ℤ) → int_le a a ≡ true
  itself a = grind (arith, ints)

  either : (a b : ℤ) (up : Bool) → int_le b a ≡ up → int_lt a b ≡ cond up false true
  either a b true h = grind (arith, ints)
  either a b false h = grind (arith, ints)

  none_up_to : (at : ℤ) (xs : List X) → AllByRecursion (λ y. int_le (place y) at ≡ false) xs → up_to at xs ≡ []
  none_up_to at xs h = filter_none (λ x. int_le (place x) at) xs h

  all_above : (at : ℤ) (xs : List X) → AllByRecursion (λ y. int_le (place y) at ≡ false) xs → above at xs ≡ xs
  all_above at [] h = refl
  all_above at (x ∷ xs) h = rw (either at (place x) false h.0) (ap (λ (ys : List X). x ∷ ys) (all_above at xs h.1))

  cut_step : (at : ℤ) (up : Bool) (x : X) (xs : List X) → int_le (place x) at ≡ up → AllByRecursion (λ y. int_lt (place x) (place y) ≡ true) xs → above at xs ≡ drop (length (up_to at xs)) xs → above at (x ∷ xs) ≡ drop (length (up_to at (x ∷ xs))) (x ∷ xs)
  cut_step at true x xs h rest later = rw (h, either at (place x) true h) later
  cut_step at false x xs h rest later =
      let none = all_weaker _ (λ y. int_le (place y) at ≡ false) (λ y k. beyond at (place x) (place y) h k) xs rest in
      rw (h, either at (place x) false h, none_up_to at xs none) (ap (λ (ys : List X). x ∷ ys) (all_above at xs none))

  -- those above a place come after those up to it
  pub above_are : (at : ℤ) (xs : List X) → Rise xs → above at xs ≡ drop (length (up_to at xs)) xs
  above_are at [] up = refl
  above_are at (x ∷ xs) up = cut_step at (int_le (place x) at) x xs refl up.0 (above_are at xs up.1)

  below_each : (x y : X) (i : ℕ) (xs : List X) → AllByRecursion (λ z. int_lt (place x) (place z) ≡ true) xs → slice_get xs i ≡ Some y → int_lt (place x) (place y) ≡ true
  below_each x y i [] h is = absurd (cc)
  below_each x y zero (z ∷ xs) h is = let same : z ≡ y = cc in subst (λ w. int_lt (place x) (place w) ≡ true) same h.0
  below_each x y (suc i) (z ∷ xs) h is = below_each x y i xs h.1 is

  -- up to the place of each stand those before it, and itself
  pub counted_at : (i : ℕ) (y : X) (xs : List X) → Rise xs → slice_get xs i ≡ Some y → length (up_to (place y) xs) ≡ suc i
  counted_at i y [] up is = absurd (cc)
  counted_at zero y (x ∷ xs) up is =
      let same : x ≡ y = cc in
      let none = all_weaker _ (λ z. int_le (place z) (place x) ≡ false) (λ z k. apart (place x) (place z) k) xs up.0 in
      subst (λ w. length (up_to (place w) (x ∷ xs)) ≡ 1) same (rw (itself (place x), none_up_to (place x) xs none) refl)
  counted_at (suc i) y (x ∷ xs) up is =
      rw (lower (place x) (place y) (below_each x y i xs up.0 is)) (ap suc (counted_at i y xs up.1 is))

-- an item of a page stands in the list so much further on
taken_at : {X : Type 0} (most i : ℕ) (y : X) (xs : List X) → slice_get (take most xs) i ≡ Some y → slice_get xs i ≡ Some y
taken_at zero i y xs is = absurd (cc)
taken_at (suc most) i y [] is = absurd (cc)
taken_at (suc most) zero y (x ∷ xs) is = is
taken_at (suc most) (suc i) y (x ∷ xs) is = taken_at most i y xs is

pub paged_at : {X : Type 0} (most from i n : ℕ) (y : X) (xs : List X) → n ≡ from + i → slice_get (take most (drop from xs)) i ≡ Some y → slice_get xs n ≡ Some y
paged_at most zero i n y xs sum is = let same : n ≡ i = omega (arith, sum) in rw same (taken_at most i y xs is)
paged_at zero (suc from) i n y [] sum is = absurd (cc)
paged_at (suc most) (suc from) i n y [] sum is = absurd (cc)
paged_at most (suc from) i zero y (x ∷ xs) sum is = absurd (omega (arith, sum))
paged_at most (suc from) i (suc n) y (x ∷ xs) sum is = paged_at most from i n y xs (omega (arith, sum)) is
