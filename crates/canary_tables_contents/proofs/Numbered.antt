-- Lists whose keys go up by one, and what stands in them under a key.
use Rattle.std.proofs.Common.{◌≡◌, ℕ, zero, suc, ◌+◌, ◌≤◌, ◌<◌, ◌==◌, List, [], ◌∷◌, Bool, true, false, Some, refl, sym, ap, ◌∙◌, arith}
use Rattle.std.specs.Prelude.{cond, ◌&&◌, filter, map, find, slice_get}
use Rattle.std.specs.List.{AllByRecursion}
use Rattle.std.proofs.lemmas.Bool.Decides.{Decides-eqb}
use Rattle.std.proofs.lemmas.List.Elements.{filter_agree}
use Rattle.canary_tables_contents.proofs.Keys.{optional}
use Rattle.canary_tables_contents.proofs.InOrder.{filter_twice, Rise, first_kept, first_left, equal, apart, none_below, to_filter}

-- Tests.

pub both_in_turn : (a b c : Bool) → (a && b) && c ≡ a && (b && c)
both_in_turn true b c = refl
both_in_turn false b c = refl

pub other_first : (a b c : Bool) → (a && b) && c ≡ (a && c) && b
other_first false b c = refl
other_first true true true = refl
other_first true true false = refl
other_first true false true = refl
other_first true false false = refl

equal_back : (m n : ℕ) (a b : Bool) → (m == n) ≡ a → (n == m) ≡ b → a ≡ b
equal_back m n true true e f = refl
equal_back m n true false e f = let same : (n == m) ≡ true = equal n m (sym ((Decides-eqb m n).0 e)) in sym same ∙ f
equal_back m n false true e f = let same : (m == n) ≡ true = equal m n (sym ((Decides-eqb n m).0 f)) in sym e ∙ same
equal_back m n false false e f = refl

pub either_order : (m n : ℕ) → (m == n) ≡ (n == m)
either_order m n = equal_back m n (m == n) (n == m) refl refl

-- two filters, in either order
pub filters_swap : {X : Type 0} (p q : X → Bool) (xs : List X) → filter p (filter q xs) ≡ filter q (filter p xs)
filters_swap p q xs = filter_twice p q xs ∙ filter_agree (λ x. q x && p x) (λ x. p x && q x) (λ x. other_first true (q x) (p x)) xs ∙ sym (filter_twice q p xs)

found_first : {X : Type 0} (p : X → Bool) (x : X) (xs : List X) (b : Bool) → cond b (Some x) (slice_get (filter p xs) 0) ≡ slice_get (cond b (x ∷ filter p xs) (filter p xs)) 0
found_first p x xs true = refl
found_first p x xs false = refl

pub find_first : {X : Type 0} (p : X → Bool) (xs : List X) → find p xs ≡ slice_get (filter p xs) 0
find_first p [] = refl
find_first p (x ∷ xs) = ap (cond (p x) (Some x)) (find_first p xs) ∙ found_first p x xs (p x)

-- Keys that go up by one.

abbrev pub Follow : {X : Type 0} → (X → ℕ) → ℕ → List X → Type 0
Follow key k [] = Unit {0}
Follow key k (x ∷ xs) = (key x ≡ k) × Follow key (suc k) xs

pub follow_above : {X : Type 0} (key : X → ℕ) (m k : ℕ) (xs : List X) → m < k → Follow key k xs → AllByRecursion (λ x. m < key x) xs
follow_above key m k [] below f = tt
follow_above key m k (x ∷ xs) below f = (let e : key x ≡ k = f.0 in omega arith, follow_above key m (suc k) xs (omega arith) f.1)

at_least : {X : Type 0} (key : X → ℕ) (m k : ℕ) (xs : List X) → m ≤ k → Follow key k xs → AllByRecursion (λ x. m ≤ key x) xs
at_least key m k [] below f = tt
at_least key m k (x ∷ xs) below f = (let e : key x ≡ k = f.0 in omega arith, at_least key m (suc k) xs (omega arith) f.1)

pub follow_rises : {X : Type 0} (key : X → ℕ) (k : ℕ) (xs : List X) → Follow key k xs → Rise key xs
follow_rises key k [] f = tt
follow_rises key k (x ∷ xs) f = (let e : key x ≡ k = f.0 in at_least key (key x) (suc k) xs (omega arith) f.1, follow_rises key (suc k) xs f.1)

pub key_at : {X : Type 0} (key : X → ℕ) (k : ℕ) (xs : List X) → Follow key k xs → (i : ℕ) (x : X) → slice_get xs i ≡ Some x → key x ≡ i + k
key_at key k [] f i x e = absurd (cc)
key_at key k (y ∷ ys) f zero x e = let same : y ≡ x = cc in let first : key y ≡ k = f.0 in ap key (sym same) ∙ first ∙ (let z : k ≡ zero + k = omega arith in z)
key_at key k (y ∷ ys) f (suc i) x e = let later : key x ≡ i + suc k = key_at key (suc k) ys f.1 i x e in omega arith

-- what stands under the key of a place
pub at_place : {X : Type 0} (key : X → ℕ) (k j : ℕ) (xs : List X) → Follow key k xs → filter (λ x. (j + k) == key x) xs ≡ optional (slice_get xs j)
at_place key k j [] f = refl
at_place key k zero (x ∷ xs) f =
    let e : key x ≡ k = f.0 in
    first_kept (λ y. (zero + k) == key y) x xs (equal (zero + k) (key x) (omega arith))
    ∙ ap (λ (ys : List _). x ∷ ys) (none_below key (zero + k) xs (follow_above key (zero + k) (suc k) xs (omega arith) f.1))
at_place key k (suc j) (x ∷ xs) f =
    let e : key x ≡ k = f.0 in
    first_left (λ y. (suc j + k) == key y) x xs (either_order (suc j + k) (key x) ∙ apart (key x) (suc j + k) (omega arith))
    ∙ ap (λ m. filter (λ y. m == key y) xs) (let s : suc j + k ≡ j + suc k = omega arith in s)
    ∙ at_place key (suc k) j xs f.1

-- Parts of lists that rise.

pub weaker : {X : Type 0} (P Q : X → Type 0) → ((x : X) → P x → Q x) → (xs : List X) → AllByRecursion P xs → AllByRecursion Q xs
weaker P Q so [] all = tt
weaker P Q so (x ∷ xs) all = (so x all.0, weaker P Q so xs all.1)

pub all_filter : {X : Type 0} (p : X → Bool) (P : X → Type 0) (xs : List X) → AllByRecursion P xs → AllByRecursion P (filter p xs)
all_filter p P xs all = to_filter p P xs (weaker P (λ x. p x ≡ true → P x) (λ x h _. h) xs all)

rise_kept : {X : Type 0} (key : X → ℕ) (p : X → Bool) (x : X) (xs : List X) (b : Bool) → AllByRecursion (λ y. key x ≤ key y) xs → Rise key (filter p xs) → Rise key (cond b (x ∷ filter p xs) (filter p xs))
rise_kept key p x xs true first rest = (all_filter p (λ y. key x ≤ key y) xs first, rest)
rise_kept key p x xs false first rest = rest

pub rise_filter : {X : Type 0} (key : X → ℕ) (p : X → Bool) (xs : List X) → Rise key xs → Rise key (filter p xs)
rise_filter key p [] r = tt
rise_filter key p (x ∷ xs) r = rise_kept key p x xs (p x) r.0 (rise_filter key p xs r.1)

all_map : {X Y : Type 0} (f : X → Y) (P : Y → Type 0) (xs : List X) → AllByRecursion (λ x. P (f x)) xs → AllByRecursion P (map f xs)
all_map f P [] all = tt
all_map f P (x ∷ xs) all = (all.0, all_map f P xs all.1)

pub rise_map : {X Y : Type 0} (key : Y → ℕ) (f : X → Y) (xs : List X) → Rise (λ x. key (f x)) xs → Rise key (map f xs)
rise_map key f [] r = tt
rise_map key f (x ∷ xs) r = (all_map f (λ y. key (f x) ≤ key y) xs r.0, rise_map key f xs r.1)

-- what holds at each place holds of all
pub by_place : {X : Type 0} (P : X → Type 0) (xs : List X) → ((i : ℕ) (x : X) → slice_get xs i ≡ Some x → P x) → AllByRecursion P xs
by_place P [] at = tt
by_place P (x ∷ xs) at = (at 0 x refl, by_place P xs (λ i y e. at (suc i) y e))

pub map_both : {X Y Z : Type 0} (f : Y → Z) (g : X → Y) (h : X → Z) (xs : List X) → AllByRecursion (λ x. f (g x) ≡ h x) xs → map f (map g xs) ≡ map h xs
map_both f g h [] all = refl
map_both f g h (x ∷ xs) all = λ i. all.0 i ∷ map_both f g h xs all.1 i

pub map_then : {X Y Z : Type 0} (f : Y → Z) (g : X → Y) (xs : List X) → map f (map g xs) ≡ map (λ x. f (g x)) xs
map_then f g [] = refl
map_then f g (x ∷ xs) = λ i. f (g x) ∷ map_then f g xs i
