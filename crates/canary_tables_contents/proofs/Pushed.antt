-- One value more in a list, whose rows are numbered from 1.
use Rattle.std.proofs.Common.{◌≡◌, ℕ, zero, suc, ◌+◌, List, [], ◌∷◌, ◌++◌, length, Bool, true, false, Some, None, refl, sym, ap, ◌∙◌, arith, append-nil, true≢false}
use Rattle.std.specs.Prelude.{cond, ◌==◌, slice_get}
use Rattle.std.proofs.lemmas.Bool.Decides.{Decides-eqb}
use Rattle.canary_tables_contents.specs.Tables.{row_if}

pub at_last : {A : Type 0} (xs : List A) (x : A) → slice_get (xs ++ x ∷ []) (length xs) ≡ Some x
at_last [] x = refl
at_last (y ∷ xs) x = at_last xs x

pub past_last : {A : Type 0} (xs : List A) → slice_get xs (length xs) ≡ None
past_last [] = refl
past_last (x ∷ xs) = past_last xs

pub at_other : {A : Type 0} (xs : List A) (x : A) (i : ℕ) → (i ≡ length xs → ⊥) → slice_get (xs ++ x ∷ []) i ≡ slice_get xs i
at_other [] x zero apart = absurd (apart refl)
at_other [] x (suc i) apart = refl
at_other (y ∷ xs) x zero apart = refl
at_other (y ∷ xs) x (suc i) apart = at_other xs x i (λ e. apart (ap suc e))

-- the row under a number, by the number and the value
abbrev pub rows_at : {A R : Type 0} → (ℕ → A → R) → ℕ → List A → List R
rows_at row zero xs = []
rows_at row (suc place) xs = row_if (row (suc place)) (slice_get xs place)

-- at the place of the new value stood nothing
pushed_here : {A R : Type 0} (row : ℕ → A → R) (xs : List A) (x : A) (place n : ℕ) (b : Bool) → (suc place == n) ≡ b → n ≡ length xs + 1
    → row_if (row (suc place)) (slice_get xs place) ++ cond b (row n x ∷ []) [] ≡ row_if (row (suc place)) (slice_get (xs ++ x ∷ []) place)
pushed_here row xs x place n true e last =
    let same : suc place ≡ n = (Decides-eqb (suc place) n).0 e in
    let here : place ≡ length xs = omega (arith, same, last) in
    ap (λ o. row_if (row (suc place)) o ++ row n x ∷ []) (ap (slice_get xs) here ∙ past_last xs)
    ∙ ap (λ m. row m x ∷ []) (sym same)
    ∙ sym (ap (row_if (row (suc place))) (ap (slice_get (xs ++ x ∷ [])) here ∙ at_last xs x))
pushed_here row xs x place n false e last =
    append-nil _ ∙ sym (ap (row_if (row (suc place))) (at_other xs x place (λ i. let same : suc place ≡ n = omega (arith, i, last) in true≢false (sym ((Decides-eqb (suc place) n).1 same) ∙ e))))

none_at_zero : {A R : Type 0} (row : ℕ → A → R) (xs : List A) (x : A) (n : ℕ) (b : Bool) → (zero == n) ≡ b → n ≡ length xs + 1 → cond b (row n x ∷ []) [] ≡ rows_at row zero (xs ++ x ∷ [])
none_at_zero row xs x n true e last = let same : zero ≡ n = (Decides-eqb zero n).0 e in absurd (omega (arith, same, last))
none_at_zero row xs x n false e last = refl

pub pushed : {A R : Type 0} (row : ℕ → A → R) (xs : List A) (x : A) (number n : ℕ) → n ≡ length xs + 1 → rows_at row number xs ++ cond (number == n) (row n x ∷ []) [] ≡ rows_at row number (xs ++ x ∷ [])
pushed row xs x zero n last = none_at_zero row xs x n (zero == n) refl last
pushed row xs x (suc place) n last = pushed_here row xs x place n (suc place == n) refl last
