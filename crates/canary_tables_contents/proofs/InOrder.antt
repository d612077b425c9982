-- A list in order of its keys is known by what it has under each key.
use Rattle.std.proofs.Common.{◌≡◌, ℕ, suc, ◌≤◌, ◌<◌, ◌==◌, List, [], ◌∷◌, length, Bool, true, false, Some, None, refl, sym, ap, ◌∙◌, subst, arith}
use Rattle.std.specs.Prelude.{Option, cond, ◌&&◌, filter, map, IsPermutation}
use Rattle.std.specs.List.{AllByRecursion}
use Rattle.std.specs.List.Sorted.{IsNonDecreasingBy}
use Rattle.std.proofs.lemmas.Bool.Decides.{Decides-eqb}
use Rattle.std.proofs.lemmas.List.Elements.{All-from_recursion, recursion_from_All}
use Rattle.std.proofs.lemmas.List.Sums.{length-filter}
use Rattle.std.proofs.lemmas.List.Sorted.{All-permutation, sum_by-IsPermutation}
use Rattle.canary_tables_contents.proofs.Keys.{optional}

-- Filters.

from_kept : {X : Type 0} (p : X → Bool) (P : X → Type 0) (x : X) (xs : List X) (b : Bool) → p x ≡ b → AllByRecursion P (cond b (x ∷ filter p xs) (filter p xs)) → (AllByRecursion P (filter p xs) → AllByRecursion (λ y. p y ≡ true → P y) xs) → AllByRecursion (λ y. p y ≡ true → P y) (x ∷ xs)
from_kept p P x xs true is all rest = (λ _. all.0, rest all.1)
from_kept p P x xs false is all rest = (λ e. let no : true ≡ false = sym e ∙ is in absurd (cc), rest all)

-- what holds of all that pass holds of each, if it passes
pub from_filter : {X : Type 0} (p : X → Bool) (P : X → Type 0) (xs : List X) → AllByRecursion P (filter p xs) → AllByRecursion (λ x. p x ≡ true → P x) xs
from_filter p P [] all = tt
from_filter p P (x ∷ xs) all = from_kept p P x xs (p x) refl all (from_filter p P xs)

to_kept : {X : Type 0} (p : X → Bool) (P : X → Type 0) (x : X) (xs : List X) (b : Bool) → p x ≡ b → (p x ≡ true → P x) → AllByRecursion P (filter p xs) → AllByRecursion P (cond b (x ∷ filter p xs) (filter p xs))
to_kept p P x xs true is one rest = (one is, rest)
to_kept p P x xs false is one rest = rest

pub to_filter : {X : Type 0} (p : X → Bool) (P : X → Type 0) (xs : List X) → AllByRecursion (λ x. p x ≡ true → P x) xs → AllByRecursion P (filter p xs)
to_filter p P [] all = tt
to_filter p P (x ∷ xs) all = to_kept p P x xs (p x) refl all.0 (to_filter p P xs all.1)

cut_twice : {X : Type 0} (p q : X → Bool) (x : X) (xs : List X) (b : Bool) → filter p (cond b (x ∷ filter q xs) (filter q xs)) ≡ cond (b && p x) (x ∷ filter p (filter q xs)) (filter p (filter q xs))
cut_twice p q x xs true = refl
cut_twice p q x xs false = refl

-- two filters are one
pub filter_twice : {X : Type 0} (p q : X → Bool) (xs : List X) → filter p (filter q xs) ≡ filter (λ x. q x && p x) xs
filter_twice p q [] = refl
filter_twice p q (x ∷ xs) = cut_twice p q x xs (q x) ∙ ap (λ (ys : List _). cond (q x && p x) (x ∷ ys) ys) (filter_twice p q xs)

map_kept : {X Y : Type 0} (f : X → Y) (p : Y → Bool) (x : X) (xs : List X) (b : Bool) → cond b (f x ∷ map f xs) (map f xs) ≡ map f (cond b (x ∷ xs) xs)
map_kept f p x xs true = refl
map_kept f p x xs false = refl

pub filter_map_of : {X Y : Type 0} (f : X → Y) (p : Y → Bool) (xs : List X) → filter p (map f xs) ≡ map f (filter (λ x. p (f x)) xs)
filter_map_of f p [] = refl
filter_map_of f p (x ∷ xs) = ap (λ (ys : List _). cond (p (f x)) (f x ∷ ys) ys) (filter_map_of f p xs) ∙ map_kept f p x (filter (λ y. p (f y)) xs) (p (f x))

-- One or none that pass.

is_one : {X : Type 0} (o : Option X) → AllByRecursion (λ x. Some x ≡ o) (optional o)
is_one None = tt
is_one (Some x) = (refl, tt)

only_one : {X : Type 0} (o : Option X) (zs : List X) → AllByRecursion (λ x. Some x ≡ o) zs → length zs ≡ length (optional o) → zs ≡ optional o
only_one None [] all e = refl
only_one None (z ∷ zs) all e = absurd (omega arith)
only_one (Some x) [] all e = absurd (omega arith)
only_one (Some x) (z ∷ []) all e = let e : Some z ≡ Some x = all.0 in let same : z ≡ x = cc in ap (λ y. y ∷ []) same
only_one (Some x) (z ∷ y ∷ zs) all e = absurd (omega arith)

-- in another order, the same one passes
pub same_one : {X : Type 0} (p : X → Bool) (xs ys : List X) (o : Option X) → IsPermutation xs ys → filter p xs ≡ optional o → filter p ys ≡ optional o
same_one {X} p xs ys o moved is =
    let P : X → Type 0 = λ x. Some x ≡ o in
    let Q : X → Type 0 = λ x. p x ≡ true → P x in
    let before : AllByRecursion Q xs = from_filter p P xs (subst (AllByRecursion P) (sym is) (is_one o)) in
    let after : AllByRecursion Q ys = recursion_from_All Q ys (All-permutation Q xs ys moved (All-from_recursion Q xs before)) in
    let many : length (filter p ys) ≡ length (optional o) = length-filter p ys ∙ sum_by-IsPermutation (λ x. cond (p x) 1 0) xs ys moved ∙ sym (length-filter p xs) ∙ ap length is in
    only_one o (filter p ys) (to_filter p P ys after) many

-- Lists that rise by a key.

abbrev pub Rise : {X : Type 0} → (X → ℕ) → List X → Type 0
Rise key [] = Unit {0}
Rise key (x ∷ xs) = AllByRecursion (λ y. key x ≤ key y) xs × Rise key xs

pub rises : {X : Type 0} (key : X → ℕ) (xs : List X) → IsNonDecreasingBy key xs → Rise key xs
rises key [] h = tt
rises key (x ∷ xs) h = (recursion_from_All (λ y. key x ≤ key y) xs (λ k d l. h 0 (suc k) d (omega arith) (omega arith)), rises key xs (λ i j d a b. h (suc i) (suc j) d (omega arith) (omega arith)))

pub first_kept : {X : Type 0} (p : X → Bool) (x : X) (xs : List X) → p x ≡ true → filter p (x ∷ xs) ≡ x ∷ filter p xs
first_kept p x xs e = ap (λ b. cond b (x ∷ filter p xs) (filter p xs)) e

pub first_left : {X : Type 0} (p : X → Bool) (x : X) (xs : List X) → p x ≡ false → filter p (x ∷ xs) ≡ filter p xs
first_left p x xs e = ap (λ b. cond b (x ∷ filter p xs) (filter p xs)) e

pub equal : (m n : ℕ) → m ≡ n → (m == n) ≡ true
equal m n e = (Decides-eqb m n).1 e

apart_by : (m n : ℕ) (b : Bool) → (m == n) ≡ b → m < n → b ≡ false
apart_by m n true e below = let same : m ≡ n = (Decides-eqb m n).0 e in absurd (omega arith)
apart_by m n false e below = refl

pub apart : (m n : ℕ) → m < n → (m == n) ≡ false
apart m n below = apart_by m n (m == n) refl below

-- nothing stands under a key below all
pub none_below : {X : Type 0} (key : X → ℕ) (m : ℕ) (xs : List X) → AllByRecursion (λ x. m < key x) xs → filter (λ x. m == key x) xs ≡ []
none_below key m [] all = refl
none_below key m (x ∷ xs) all = first_left (λ y. m == key y) x xs (apart m (key x) all.0) ∙ none_below key m xs all.1

above : {X : Type 0} (key : X → ℕ) (m n : ℕ) (xs : List X) → m < n → AllByRecursion (λ x. n ≤ key x) xs → AllByRecursion (λ x. m < key x) xs
above key m n [] below all = tt
above key m n (x ∷ xs) below all = (let l : n ≤ key x = all.0 in omega arith, above key m n xs below all.1)

-- the first keys of lists with the same under each key
no_lower : {X : Type 0} (key : X → ℕ) (x y : X) (xs ys : List X) → Rise key (y ∷ ys) → filter (λ z. key x == key z) (x ∷ xs) ≡ filter (λ z. key x == key z) (y ∷ ys) → key x < key y → ⊥
no_lower key x y xs ys rise same below =
    let none : filter (λ z. key x == key z) (y ∷ ys) ≡ [] = none_below key (key x) (y ∷ ys) (below, above key (key x) (key y) ys below rise.0) in
    let one : x ∷ filter (λ z. key x == key z) xs ≡ [] = sym (first_kept (λ z. key x == key z) x xs (equal (key x) (key x) refl)) ∙ same ∙ none in
    absurd (cc)

rest_alike : {X : Type 0} (p : X → Bool) (x y : X) (xs ys : List X) (b : Bool) → p x ≡ b → x ≡ y → filter p (x ∷ xs) ≡ filter p (y ∷ ys) → filter p xs ≡ filter p ys
rest_alike p x y xs ys true is same e =
    let front : x ∷ filter p xs ≡ y ∷ filter p ys = sym (first_kept p x xs is) ∙ e ∙ first_kept p y ys (ap p (sym same) ∙ is) in
    cc
rest_alike p x y xs ys false is same e = sym (first_left p x xs is) ∙ e ∙ first_left p y ys (ap p (sym same) ∙ is)

-- two lists in order with the same under each key
pub same_order : {X : Type 0} (key : X → ℕ) (xs ys : List X) → Rise key xs → Rise key ys → ((m : ℕ) → filter (λ x. m == key x) xs ≡ filter (λ x. m == key x) ys) → xs ≡ ys
same_order key [] [] rx ry same = refl
same_order key [] (y ∷ ys) rx ry same =
    let no : [] ≡ y ∷ filter (λ z. key y == key z) ys = same (key y) ∙ first_kept (λ z. key y == key z) y ys (equal (key y) (key y) refl) in absurd (cc)
same_order key (x ∷ xs) [] rx ry same =
    let no : x ∷ filter (λ z. key x == key z) xs ≡ [] = sym (first_kept (λ z. key x == key z) x xs (equal (key x) (key x) refl)) ∙ same (key x) in absurd (cc)
same_order key (x ∷ xs) (y ∷ ys) rx ry same =
    let not_lower : key x < key y → ⊥ = no_lower key x y xs ys ry (same (key x)) in
    let not_higher : key y < key x → ⊥ = no_lower key y x ys xs rx (sym (same (key y))) in
    let keys : key x ≡ key y = omega arith in
    let front : x ∷ filter (λ z. key x == key z) xs ≡ y ∷ filter (λ z. key x == key z) ys =
    sym (first_kept (λ z. key x == key z) x xs (equal (key x) (key x) refl)) ∙ same (key x) ∙ first_kept (λ z. key x == key z) y ys (equal (key x) (key y) keys) in
    let first : x ≡ y = cc in
    λ i. first i ∷ same_order key xs ys rx.1 ry.1 (λ m. rest_alike (λ z. m == key z) x y xs ys (m == key x) refl first (same m)) i
