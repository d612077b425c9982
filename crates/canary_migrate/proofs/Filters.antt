-- Which items of a list pass a test.
use Rattle.std.proofs.Common.{◌≡◌, ℕ, zero, suc, List, [], ◌∷◌, ◌++◌, ◌+◌, Bool, true, false, Some, None, refl, sym, ap, ◌∙◌, subst, eqb-true, eq-eqb}
use Rattle.std.specs.Prelude.{Option, cond, ◌&&◌, ◌==◌, map, filter, slice_get}
use Rattle.std.specs.List.{AllByRecursion, prefix_len, suffix_len}
use Rattle.std.specs.Str.{bytes_eq}
use Rattle.std.proofs.lemmas.List.{map-append, reverse-append}
use mathlib.Core.List.{reverse}
use Rattle.std.proofs.lemmas.Slice.Eq.{bytes_eq-Decides}
use Rattle.canary_tables_contents.specs.Tables.{row_if}

-- Names and numbers.

pub own_name : (name : List ℕ) → bytes_eq name name ≡ true
own_name name = (bytes_eq-Decides name name).1 refl

pub same_name : (a b : List ℕ) → bytes_eq a b ≡ true → a ≡ b
same_name a b e = (bytes_eq-Decides a b).0 e

pub own_number : (n : ℕ) → (n == n) ≡ true
own_number n = eq-eqb n n refl

pub differ : (a b : ℕ) → (a ≡ b → ⊥) → (a == b) ≡ false
differ a b apart =
    elim (a == b)
    as (λ t. (a == b) ≡ t → (a == b) ≡ false) [
      | true ↦ λ e. absurd (apart (eqb-true a b e))
      | false ↦ λ e. e
    ] refl

pub turned : (a b : ℕ) → (a == b) ≡ (b == a)
turned a b =
    elim (b == a)
    as (λ t. (b == a) ≡ t → (a == b) ≡ t) [
      | true ↦ λ e. eq-eqb a b (sym (eqb-true b a e))
      | false ↦ λ e. differ a b (λ same. (let no : true ≡ false = sym (eq-eqb b a (sym same)) ∙ e in absurd (cc)))
    ] refl

pub first_holds : (a b : Bool) → (a && b) ≡ true → a ≡ true
first_holds true b e = refl
first_holds false b e = e

pub second_holds : (a b : Bool) → (a && b) ≡ true → b ≡ true
second_holds true b e = e
second_holds false b e = absurd (cc)

-- What holds of all.

pub all_join : {X : Type 0} (P : X → Type 0) (xs ys : List X) → AllByRecursion P xs → AllByRecursion P ys → AllByRecursion P (xs ++ ys)
all_join P [] ys first later = later
all_join P (x ∷ xs) ys first later = (first.0, all_join P xs ys first.1 later)

pub all_mapped : {X Y : Type 0} (P : Y → Type 0) (f : X → Y) → ((x : X) → P (f x)) → (xs : List X) → AllByRecursion P (map f xs)
all_mapped P f each [] = tt
all_mapped P f each (x ∷ xs) = (each x, all_mapped P f each xs)

pub all_weaker : {X : Type 0} (P Q : X → Type 0) → ((x : X) → P x → Q x) → (xs : List X) → AllByRecursion P xs → AllByRecursion Q xs
all_weaker P Q so [] all = tt
all_weaker P Q so (x ∷ xs) all = (so x all.0, all_weaker P Q so xs all.1)

pub all_passing : {X : Type 0} (P : X → Type 0) (p : X → Bool) (xs : List X) → AllByRecursion P xs → AllByRecursion P (filter p xs)
all_passing P p [] all = tt
all_passing {X} P p (x ∷ xs) all =
    elim (p x)
    as (λ b. AllByRecursion P (cond b (x ∷ filter p xs) (filter p xs))) [
      | true ↦ (all.0, all_passing P p xs all.1)
      | false ↦ all_passing P p xs all.1
    ]

from_kept : {X : Type 0} (p : X → Bool) (P : X → Type 0) (x : X) (xs : List X) (b : Bool) → p x ≡ b → AllByRecursion P (cond b (x ∷ filter p xs) (filter p xs)) → (AllByRecursion P (filter p xs) → AllByRecursion (λ y. p y ≡ true → P y) xs) → AllByRecursion (λ y. p y ≡ true → P y) (x ∷ xs)
from_kept p P x xs true is all rest = (λ _. all.0, rest all.1)
from_kept p P x xs false is all rest = (λ e. let no : true ≡ false = sym e ∙ is in absurd (cc), rest all)

from_passing : {X : Type 0} (p : X → Bool) (P : X → Type 0) (xs : List X) → AllByRecursion P (filter p xs) → AllByRecursion (λ x. p x ≡ true → P x) xs
from_passing p P [] all = tt
from_passing p P (x ∷ xs) all = from_kept p P x xs (p x) refl all (from_passing p P xs)

-- what holds of all that pass the test of each holds of all, if each passes its own
pub by_tests : {X : Type 0} (test : X → X → Bool) (P : X → Type 0) → ((x : X) → test x x ≡ true) → (xs : List X) → ((y : X) → AllByRecursion P (filter (test y) xs)) → AllByRecursion P xs
by_tests {X} test P own xs passing = by_each xs (λ y. from_passing (test y) P xs (passing y))
  where
    by_each : (ys : List X) → ((y : X) → AllByRecursion (λ x. test y x ≡ true → P x) ys) → AllByRecursion P ys
    by_each [] all = tt
    by_each (y ∷ ys) all = ((all y).0 (own y), by_each ys (λ z. (all z).1))

-- Filters of filters, and of what is mapped.

pub none_pass : {X : Type 0} (p : X → Bool) (xs : List X) → AllByRecursion (λ x. p x ≡ false) xs → filter p xs ≡ []
none_pass p [] all = refl
none_pass p (x ∷ xs) all = ap (λ b. cond b (x ∷ filter p xs) (filter p xs)) all.0 ∙ none_pass p xs all.1

pub none_of_both : {X : Type 0} (p q : X → Bool) → ((x : X) → q x ≡ true → p x ≡ false) → (xs : List X) → filter p (filter q xs) ≡ []
none_of_both p q apart [] = refl
none_of_both {X} p q apart (x ∷ xs) =
    elim (q x)
    as (λ b. q x ≡ b → filter p (cond b (x ∷ filter q xs) (filter q xs)) ≡ []) [
      | true ↦ λ e. ap (λ b. cond b (x ∷ filter p (filter q xs)) (filter p (filter q xs))) (apart x e) ∙ none_of_both p q apart xs
      | false ↦ λ e. none_of_both p q apart xs
    ] refl

pub same_of_both : {X : Type 0} (p q : X → Bool) → ((x : X) → q x ≡ false → p x ≡ false) → (xs : List X) → filter p (filter q xs) ≡ filter p xs
same_of_both p q apart [] = refl
same_of_both {X} p q apart (x ∷ xs) =
    let later = same_of_both p q apart xs in
    elim (q x)
    as (λ b. q x ≡ b → filter p (cond b (x ∷ filter q xs) (filter q xs)) ≡ cond (p x) (x ∷ filter p xs) (filter p xs)) [
      | true ↦ λ e. ap (λ (rs : List X). cond (p x) (x ∷ rs) rs) later
      | false ↦ λ e. later ∙ ap (λ b. cond b (x ∷ filter p xs) (filter p xs)) (sym (apart x e))
    ] refl

cut_twice : {X : Type 0} (p q : X → Bool) (x : X) (xs : List X) (b : Bool) → filter p (cond b (x ∷ filter q xs) (filter q xs)) ≡ cond (b && p x) (x ∷ filter p (filter q xs)) (filter p (filter q xs))
cut_twice p q x xs true = refl
cut_twice p q x xs false = refl

pub filter_twice : {X : Type 0} (p q : X → Bool) (xs : List X) → filter p (filter q xs) ≡ filter (λ x. q x && p x) xs
filter_twice p q [] = refl
filter_twice p q (x ∷ xs) = cut_twice p q x xs (q x) ∙ ap (λ (ys : List _). cond (q x && p x) (x ∷ ys) ys) (filter_twice p q xs)

map_kept : {X Y : Type 0} (f : X → Y) (x : X) (xs : List X) (b : Bool) → cond b (f x ∷ map f xs) (map f xs) ≡ map f (cond b (x ∷ xs) xs)
map_kept f x xs true = refl
map_kept f x xs false = refl

pub filter_mapped : {X Y : Type 0} (p : Y → Bool) (f : X → Y) (xs : List X) → filter p (map f xs) ≡ map f (filter (λ x. p (f x)) xs)
filter_mapped p f [] = refl
filter_mapped p f (x ∷ xs) = ap (λ (ys : List _). cond (p (f x)) (f x ∷ ys) ys) (filter_mapped p f xs) ∙ map_kept f x (filter (λ y. p (f y)) xs) (p (f x))

pub map_back : {X Y : Type 0} (f : X → Y) (g : Y → X) (xs : List X) → AllByRecursion (λ x. g (f x) ≡ x) xs → map g (map f xs) ≡ xs
map_back f g [] all = refl
map_back f g (x ∷ xs) all = λ i. all.0 i ∷ map_back f g xs all.1 i

pub mapped_if : {A B C : Type 0} (f : B → C) (g : A → B) (o : Option A) → map f (row_if g o) ≡ row_if (λ x. f (g x)) o
mapped_if f g None = refl
mapped_if f g (Some x) = refl

-- The first that passes.

pub first_passes : {X : Type 0} (p : X → Bool) (xs : List X) (x : X) → slice_get (filter p xs) 0 ≡ Some x → p x ≡ true
first_passes p [] x e = absurd (cc)
first_passes {X} p (y ∷ xs) x e =
    elim (p y)
    as (λ b. p y ≡ b → slice_get (cond b (y ∷ filter p xs) (filter p xs)) 0 ≡ Some x → p x ≡ true) [
      | true ↦ λ t e. (let same : y ≡ x = cc e in subst (λ z. p z ≡ true) same t)
      | false ↦ λ t e. first_passes p xs x e
    ] refl e

-- How many pass at the end.

prefix_mapped : {X Y : Type 0} (p : Y → Bool) (f : X → Y) (xs : List X) → prefix_len p (map f xs) ≡ prefix_len (λ x. p (f x)) xs
prefix_mapped p f [] = refl
prefix_mapped p f (x ∷ xs) = ap (λ n. cond (p (f x)) (1 + n) 0) (prefix_mapped p f xs)

reverse_mapped : {X Y : Type 0} (f : X → Y) (xs : List X) → reverse (map f xs) ≡ map f (reverse xs)
reverse_mapped f [] = refl
reverse_mapped f (x ∷ xs) =
    reverse-append (f x ∷ []) (map f xs) ∙ ap (λ (ys : List _). ys ++ f x ∷ []) (reverse_mapped f xs) ∙ sym (map-append f (reverse xs) (x ∷ [])) ∙ ap (map f) (sym (reverse-append (x ∷ []) xs))

pub suffix_mapped : {X Y : Type 0} (p : Y → Bool) (f : X → Y) (xs : List X) → suffix_len p (map f xs) ≡ suffix_len (λ x. p (f x)) xs
suffix_mapped p f xs = ap (prefix_len p) (reverse_mapped f xs) ∙ prefix_mapped p f (reverse xs)
