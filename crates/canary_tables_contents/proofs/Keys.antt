-- Maps by names, and lists by numbers from 1.
use Rattle.std.proofs.Common.{◌≡◌, ℕ, zero, suc, List, [], ◌∷◌, ◌++◌, take, true, Some, None, refl, ap, ◌∙◌}
use Rattle.std.specs.Prelude.{Option, cond, slice_get}
use Rattle.std.specs.Ordering.{nat_cmp}
use Rattle.std.specs.Cmp.Lexicographic.{slice_cmp, nat_list_cmp_total}
use Rattle.std.specs.Str.{bytes_eq}
use Rattle.std.specs.FinMap.{FinMap, get, insert, get-insert, same_map, nat_cmp-IsAntisymmetric, slice_cmp-IsAntisymmetric}
use Rattle.std.proofs.lemmas.Map.Text.{is_eq-slice_cmp}
use Rattle.std.proofs.lemmas.Slice.Eq.{bytes_eq-Decides}

pub at_key : {A : Type 0} (m : FinMap (slice_cmp nat_cmp) A) (k : List ℕ) (v : A) (q : List ℕ) → get (insert m k v) q ≡ cond (bytes_eq q k) (Some v) (get m q)
at_key m k v q = get-insert nat_list_cmp_total m k v q ∙ ap (λ b. cond b (Some v) (get m q)) (is_eq-slice_cmp q k)

pub same_texts : {A : Type 0} (m n : FinMap (slice_cmp nat_cmp) A) → ((q : List ℕ) → get m q ≡ get n q) → m ≡ n
same_texts m n is = same_map nat_list_cmp_total (slice_cmp-IsAntisymmetric nat_cmp-IsAntisymmetric) m n is

pub equal_keys : (q k : List ℕ) → bytes_eq q k ≡ true → q ≡ k
equal_keys q k e = (bytes_eq-Decides q k).0 e

pub own_key : (q : List ℕ) → bytes_eq q q ≡ true
own_key q = (bytes_eq-Decides q q).1 refl

-- what there is, as a list
abbrev pub optional : {A : Type 0} → Option A → List A
optional None = []
optional (Some x) = x ∷ []

pub take-more : {A : Type 0} (n : ℕ) (xs : List A) → take n xs ++ optional (slice_get xs n) ≡ take (suc n) xs
take-more zero [] = refl
take-more zero (x ∷ xs) = refl
take-more (suc n) [] = refl
take-more (suc n) (x ∷ xs) = ap (λ (ys : List _). x ∷ ys) (take-more n xs)
