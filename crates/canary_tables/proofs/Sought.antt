-- What is read of rows is what is sought.
use Rattle.std.proofs.Common.{◌≡◌, ◌<◌, ℕ, zero, suc, List, [], ◌∷◌, length, map, get_or, Option, Some, None, option_map, refl, sym, ap, ◌∙◌, arith}
use Rattle.std.specs.Prelude.{option_and_then}
use Rattle.std.specs.List.{filter_map}
use Rattle.canary_tables_contents.specs.Finding.{IsFound, AreRead}

joined : {A : Type 0} (o : Option A) → option_and_then (λ (x : Option A). x) (option_map Some o) ≡ o
joined None = refl
joined (Some x) = refl

-- one row, or none
pub one_found : {A R : Type 0} (reads : R → Option A) (row there : Option R) (found sought : Option A) → option_map reads row ≡ option_map Some found → row ≡ there → IsFound reads there sought → found ≡ sought
one_found reads row there found sought told is read =
    sym (joined found) ∙ ap (option_and_then (λ x. x)) (sym told ∙ ap (option_map reads) is ∙ read.read) ∙ joined sought

all_there : {A : Type 0} (xs : List A) → filter_map (λ (x : Option A). x) (map Some xs) ≡ xs
all_there [] = refl
all_there (x ∷ xs) = ap (λ (ys : List _). x ∷ ys) (all_there xs)

pub mapped : {A B C : Type 0} (f : B → C) (g : A → B) (xs : List A) → map f (map g xs) ≡ map (λ x. f (g x)) xs
mapped f g [] = refl
mapped f g (x ∷ xs) = ap (λ (ys : List _). f (g x) ∷ ys) (mapped f g xs)

-- if one row stands for nothing, no values are those of all rows
pub one_missing : {A B : Type 0} (f : A → Option B) (rows : List A) (i : ℕ) (d : A) (all : List B) → i < length rows → f (get_or rows i d) ≡ None → map Some all ≡ map f rows → ⊥
one_missing f [] i d all lt none same = omega arith
one_missing f (row ∷ rows) i d [] lt none same = cc
one_missing f (row ∷ rows) zero d (x ∷ all) lt none same = let here : f row ≡ Some x = cc in cc
one_missing f (row ∷ rows) (suc i) d (x ∷ all) lt none same = let later : map Some all ≡ map f rows = cc in one_missing f rows i d all (omega arith) none later

-- a list of rows
pub all_found : {A R : Type 0} (reads : R → Option A) (rows there : List R) (found sought : List A) → map Some found ≡ map reads rows → rows ≡ there → AreRead reads there sought → found ≡ sought
all_found reads rows there found sought told is read =
    sym (all_there found) ∙ ap (filter_map (λ x. x)) (told ∙ ap (map reads) is ∙ read.each) ∙ all_there sought
