-- Prefixes of lists, and elements by their places.
use Rattle.std.proofs.Common.{◌≡◌, ℕ, zero, suc, ◌+◌, ◌≤◌, ◌<◌, List, [], ◌∷◌, ◌++◌, length, Some, refl, sym, ap, ◌∙◌, arith}
use Rattle.std.specs.Prelude.{take, slice_get}

-- with the element after it, a prefix is one longer
pub take_next : {A : Type 0} (l : List A) (n : ℕ) (x : A) → slice_get l n ≡ Some x → take n l ++ x ∷ [] ≡ take (suc n) l
take_next [] n x e = let none : ⊥ = cc e in absurd none
take_next (y ∷ l) zero x e = let same : y ≡ x = cc e in ap (λ z. z ∷ []) (sym same)
take_next (y ∷ l) (suc n) x e = ap (λ zs. y ∷ zs) (take_next l n x e)

pub first_is_short : {A : Type 0} (n : ℕ) (l : List A) → length (take n l) ≤ length l
first_is_short zero l = omega arith
first_is_short (suc n) [] = omega arith
first_is_short (suc n) (x ∷ l) = let ih = first_is_short n l in omega (arith, ih)

pub there_in_first : {A : Type 0} (l : List A) (n i : ℕ) → i < n → slice_get (take n l) i ≡ slice_get l i
there_in_first l zero i h = absurd (omega (arith, h))
there_in_first [] (suc n) i h = refl
there_in_first (x ∷ l) (suc n) zero h = refl
there_in_first (x ∷ l) (suc n) (suc i) h = there_in_first l n i (omega (arith, h))

pub some_there : {A : Type 0} (l : List A) (i : ℕ) → i < length l → (x : A) × (slice_get l i ≡ Some x)
some_there [] i h = absurd (omega (arith, h))
some_there (x ∷ l) zero h = (x, refl)
some_there (x ∷ l) (suc i) h = some_there l i (omega (arith, h))

-- an element after other ones
pub behind : {A : Type 0} (l m : List A) (i : ℕ) → slice_get (l ++ m) (length l + i) ≡ slice_get m i
behind [] m i = let none : 0 + i ≡ i = omega arith in ap (slice_get m) none
behind (x ∷ l) m i =
    let one : length (x ∷ l) + i ≡ suc (length l + i) = omega arith in
    ap (slice_get (x ∷ (l ++ m))) one ∙ behind l m i
