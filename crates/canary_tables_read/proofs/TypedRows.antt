-- From the cells of a tree's rows to the rows of a table.
use Rattle.std.proofs.Common.{◌≡◌, ℕ, zero, suc, List, [], ◌∷◌, map, filter, take, drop, if◌then◌else◌, Bool, true, false, Option, Some, None, slice_get, option_map, refl, sym, ap, ap₂, ◌∙◌}
use Rattle.sqlite.specs.declared.types.Value.{Value}
use Rattle.sqlite.specs.Order.{Row}

-- The tests of a query are those of the typed rows, and what it shows of a row that passes them gives its cells.
pub record Tells {X Y : Type 0} (cells : X → Row) (test : X → Bool) (told : X → Y) (whole : Row → Y) (passes : Row → Bool) (shows : Row → Row) : Type 0 where
  pub filled : (x : X) → (v : Value) × (vs : Row) × (cells x ≡ v ∷ vs)
  pub tests : (id : Value) (x : X) → passes (id ∷ cells x) ≡ test x
  pub shown : (id : Value) (x : X) → test x ≡ true → whole (shows (id ∷ cells x)) ≡ told x

module _ {X Y : Type 0} (cells : X → Row) (test : X → Bool) (told : X → Y) (whole : Row → Y) (passes : Row → Bool) (shows : Row → Row) (tells : Tells cells test told whole passes shows) where
  step : (row : Row) (x : X) (p b : Bool) → p ≡ b → (b ≡ true → whole (shows row) ≡ told x) → (rest : List Row) (all : List X) → map whole (map shows rest) ≡ map told all
      → map whole (map shows (if p then row ∷ rest else rest)) ≡ map told (if b then x ∷ all else all)
  step row x p true e h rest all later = rw e (ap₂ (λ first others. first ∷ others) (h refl) later)
  step row x p false e h rest all later = rw e later

  -- a row of the tree has the cells of this row
  one : (row : Row) (x : X) → drop 1 row ≡ cells x → (passes row ≡ test x) × (test x ≡ true → whole (shows row) ≡ told x)
  one [] x is = let f = tells.filled x in absurd (let e : [] ≡ f.0 ∷ f.1 = is ∙ f.2 in cc)
  one (id ∷ row) x is = rw is (tells.tests id x, tells.shown id x)

  pub typed : (rows : List Row) (all : List X) → map (drop 1) rows ≡ map cells all → map whole (map shows (filter passes rows)) ≡ map told (filter test all)
  typed [] [] is = refl
  typed [] (x ∷ all) is = absurd (cc)
  typed (row ∷ rows) [] is = absurd (cc)
  typed (row ∷ rows) (x ∷ all) is =
      let here : drop 1 row ≡ cells x = cc in
      let later : map (drop 1) rows ≡ map cells all = cc in
      let it = one row x here in
      step row x (passes row) (test x) it.0 it.1 (filter passes rows) (filter test all) (typed rows all later)

-- The cells of a row determine it.
module _ {X : Type 0} (cells : X → Row) (known : Row → Option X) (back : (x : X) → known (cells x) ≡ Some x) where
  pub same_row : (x y : X) → cells x ≡ cells y → x ≡ y
  same_row x y e = let s : Some x ≡ Some y = sym (back x) ∙ ap known e ∙ back y in cc

  pub same_rows : (xs ys : List X) → map cells xs ≡ map cells ys → xs ≡ ys
  same_rows [] [] e = refl
  same_rows [] (y ∷ ys) e = absurd (cc)
  same_rows (x ∷ xs) [] e = absurd (cc)
  same_rows (x ∷ xs) (y ∷ ys) e =
      let here : cells x ≡ cells y = cc in
      let later : map cells xs ≡ map cells ys = cc in
      ap₂ (λ first others. first ∷ others) (same_row x y here) (same_rows xs ys later)

  -- what is read of the rows that are shown is what they give
  pub told_all : (whole : Row → Row) (rows : List Row) (xs found : List X) → map whole rows ≡ map cells xs → map cells found ≡ map whole rows → found ≡ xs
  told_all whole rows xs found told read = same_rows found xs (read ∙ told)

  -- the first of the rows that are shown is the first row
  pub same_first : (whole : Row → Row) (rows : List Row) (xs : List X) (found : Option X) → map whole rows ≡ map cells xs → option_map cells found ≡ option_map whole (slice_get rows 0) → found ≡ slice_get xs 0
  same_first whole [] [] None e h = refl
  same_first whole [] [] (Some x) e h = absurd (cc)
  same_first whole [] (x ∷ xs) found e h = absurd (cc)
  same_first whole (row ∷ rows) [] found e h = absurd (cc)
  same_first whole (row ∷ rows) (x ∷ xs) None e h = absurd (cc)
  same_first whole (row ∷ rows) (x ∷ xs) (Some y) e h =
      let one : cells y ≡ whole row = cc in
      let other : whole row ≡ cells x = cc in
      ap Some (same_row y x (one ∙ other))

-- the first of them
pub taken : {A B : Type 0} (f : A → B) (most : ℕ) (xs : List A) → map f (take most xs) ≡ take most (map f xs)
taken f zero xs = refl
taken f (suc most) [] = refl
taken f (suc most) (x ∷ xs) = ap (λ others. f x ∷ others) (taken f most xs)
