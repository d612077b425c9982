-- A tally counted in place, and room for measurements in turn.
use Rattle.std.proofs.Common.{◌≡◌, ℕ, zero, suc, ◌<◌, ◌≤◌, List, [], ◌∷◌, length, refl, ap, arith}
use Rattle.std.specs.Prelude.{Bool, true, false, ◌&&◌, slice_set, slice_index_or}
use Rattle.canary_release.specs.Pasts.{change_at}

-- an element that is set is changed at its place
pub set_here : {A : Type 0} (k : ℕ) (f : A → A) (xs : List A) (d : A) → k < length xs → slice_set xs k (f (slice_index_or xs k d)) ≡ change_at k f xs
set_here k f [] d h = refl
set_here zero f (x ∷ xs) d h = refl
set_here (suc k) f (x ∷ xs) d h = ap (λ ys. x ∷ ys) (set_here k f xs d (omega arith))

-- nothing is changed past the end
pub change_past_end : {A : Type 0} (k : ℕ) (f : A → A) (xs : List A) → length xs ≤ k → change_at k f xs ≡ xs
change_past_end k f [] h = refl
change_past_end zero f (x ∷ xs) h = absurd (omega arith)
change_past_end (suc k) f (x ∷ xs) h = ap (λ ys. x ∷ ys) (change_past_end k f xs (omega arith))

-- both of two that hold together
pub both : (a b : Bool) → (a && b) ≡ true → (a ≡ true) × (b ≡ true)
both true true e = (refl, refl)
both true false e = cc
both false b e = cc
